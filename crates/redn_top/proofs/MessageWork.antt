-- The messages that words give, one word after the other.
use Rattle.std.proofs.Common.{◌≡◌, ◌≢◌, ℕ, zero, suc, ◌+◌, ◌<◌, ◌==◌, nat_lt, Bool, true, false, cond, ◌||◌, List, [], ◌∷◌, ◌++◌, map, length, get_or, take, drop, set, refl, sym, ap, ◌∙◌, inl, arith, append_assoc, append-nil, replicate}
use Rattle.std.specs.Prelude.{Option, Some, None, Ok, is_some, string_bytes}
use Rattle.std.specs.Option.{option_map}
use Rattle.std.specs.List.{find, list_any, range_with_len}
use Rattle.std.proofs.lemmas.Bool.Decides.{nat_tests}
use Rattle.std.proofs.lemmas.List.{ext_get_or, get_or-map, get_or-set_same, get_or-set_other, length-map, length-set, map-append, map-set}
use Rattle.std.proofs.lemmas.List.FromFn.{get_or-map-range_with_len, length-map-range_with_len}
use Rattle.hex.specs.Hex.{decode_of}
use Rattle.redn_top.specs.declared.status.MessageFault.{MessageFault}
use Rattle.redn_top.specs.declared.status.MessageFault.TheVariants.{NoChain, Twice}
use Rattle.redn_top.specs.declared.status.Status.TheVariants.{Done, Words, Schedule as BadSchedule, ReadFailed, Missing, WriteFailed, Long, Text, Program, Image, Memory, Step, Message}
use Rattle.redn_top.specs.declared.status.Status.{Status}
use Rattle.redn_command.specs.declared.command.MessageWord.{MessageWord as MessageView}
use Rattle.redn_command.specs.Words.{MessageWord, message_view}
use Rattle.redn_top.proofs.RunLemmas.{around, mapped_more}
use Rattle.redn_top.specs.MessageWords.{is_for, bytes_or, given_by, given, messages, bad_hex, word_fault, word_faults}
use Rattle.redn_top.specs.Reasons.{Or, Nil, First, first_fault}
use Rattle.redn_top.specs.Refusals.{DigitsRefused, WordsRefused}

-- ---- what is found

find_any : (p : MessageWord → Bool) (words : List MessageWord) → list_any p words ≡ is_some (find p words)
find_any p [] = refl
find_any p (w ∷ words) =
    elim (p w) as (λ v. v || list_any p words ≡ is_some (cond v (Some w) (find p words))) [
      | true ↦ refl
      | false ↦ find_any p words
    ]

find_other : (p : MessageWord → Bool) (words : List MessageWord) (w : MessageWord) → p w ≡ false → find p (words ++ w ∷ []) ≡ find p words
find_other p [] w e = ap (λ v. cond v (Some w) None) e
find_other p (x ∷ words) w e = ap (cond (p x) (Some x)) (find_other p words w e)

find_new : (p : MessageWord → Bool) (words : List MessageWord) (w : MessageWord) → list_any p words ≡ false → p w ≡ true → find p (words ++ w ∷ []) ≡ Some w
find_new p [] w none e = ap (λ v. cond v (Some w) None) e
find_new p (x ∷ words) w none e =
    elim (p x) as (λ v. v || list_any p words ≡ false → cond v (Some x) (find p (words ++ w ∷ [])) ≡ Some w) [
      | true ↦ λ n. absurd (cc)
      | false ↦ λ n. find_new p words w n e
    ] none

given_is_some : (o : Option MessageWord) → is_some (given_by o) ≡ is_some o
given_is_some None = refl
given_is_some (Some w) = refl

-- a chain has a message where a word names it
pub given_any : (words : List MessageWord) (c : ℕ) → is_some (given words c) ≡ list_any (is_for c) words
given_any words c = given_is_some (find (is_for c) words) ∙ sym (find_any (is_for c) words)

-- ---- messages

pub message_at : (chains : ℕ) (words : List MessageWord) (c : ℕ) → c < chains → get_or (messages chains words) c None ≡ given words c
message_at chains words c inside = get_or-map-range_with_len (given words) 0 chains c c None inside (omega arith)

pub no_words : (chains a : ℕ) → replicate chains None ≡ map (given []) (range_with_len a chains)
no_words zero a = refl
no_words (suc n) a = ap (λ l. None ∷ l) (no_words n _)

-- one word more
pub messages_more : (chains : ℕ) (words : List MessageWord) (w : MessageWord) (bytes : List ℕ) → w.chain < chains → list_any (is_for w.chain) words ≡ false → decode_of w.digits ≡ Ok bytes → set (messages chains words) w.chain (Some bytes) ≡ messages chains (words ++ w ∷ [])
messages_more chains words w bytes inside none decodes =
    let before = messages chains words in
    let long : length before ≡ chains = length-map-range_with_len (given words) 0 chains in
    let long_after : length (messages chains (words ++ w ∷ [])) ≡ chains = length-map-range_with_len (given (words ++ w ∷ [])) 0 chains in
    ext_get_or None (set before w.chain (Some bytes)) (messages chains (words ++ w ∷ [])) (length-set before w.chain (Some bytes) ∙ long ∙ sym long_after)
    (λ i l.
    let here : i < chains = omega (arith, l, length-set before w.chain (Some bytes), long) in
    let there = message_at chains (words ++ w ∷ []) i here in
    elim (w.chain == i) as (λ v. (w.chain == i) ≡ v → get_or (set before w.chain (Some bytes)) i None ≡ get_or (messages chains (words ++ w ∷ [])) i None) [
      | true ↦ λ e.
          let same : w.chain ≡ i = grind (arith, nat_tests) in
          let found : find (is_for i) (words ++ w ∷ []) ≡ Some w = find_new (is_for i) words w (ap (λ k. list_any (is_for k) words) (sym same) ∙ none) e in
          ap (λ k. get_or (set before w.chain (Some bytes)) k None) (sym same) ∙ get_or-set_same before w.chain (Some bytes) None (omega (arith, inside, long)) ∙ ap (λ r. Some (bytes_or r)) (sym decodes) ∙ ap given_by (sym found) ∙ sym there
      | false ↦ λ e.
          let other : i ≢ w.chain = λ same. absurd (let again : (w.chain == i) ≡ true = grind (arith, nat_tests) in cc) in
          get_or-set_other before w.chain i (Some bytes) None other ∙ message_at chains words i here ∙ ap given_by (sym (find_other (is_for i) words w e)) ∙ sym there
    ] refl)

-- ---- faults

faults_then : (chains : ℕ) (earlier before rest : List MessageWord) → word_faults chains earlier (before ++ rest) ≡ word_faults chains earlier before ++ word_faults chains (earlier ++ before) rest
faults_then chains earlier [] rest = ap (λ e. word_faults chains e rest) (sym (append-nil earlier))
faults_then chains earlier (w ∷ before) rest =
    ap (λ l. word_fault chains earlier w ++ l) (faults_then chains (earlier ++ w ∷ []) before rest ∙ ap (λ e. word_faults chains (earlier ++ w ∷ []) before ++ word_faults chains e rest) (append_assoc earlier (w ∷ []) before))
    ∙ sym (append_assoc (word_fault chains earlier w) (word_faults chains (earlier ++ w ∷ []) before) (word_faults chains (earlier ++ w ∷ before) rest))

pub faults_more : (chains : ℕ) (before : List MessageWord) (w : MessageWord) → word_faults chains [] before ≡ [] → word_fault chains before w ≡ [] → word_faults chains [] (before ++ w ∷ []) ≡ []
faults_more chains before w none good =
    faults_then chains [] before (w ∷ []) ∙ ap (λ l. l ++ (word_fault chains before w ++ [])) none ∙ ap (λ l. l ++ []) good

-- a word that is the first with a fault
pub first_word_fault : (chains : ℕ) (words before : List MessageWord) (w : MessageWord) (behind : List MessageWord) (f : MessageFault) → words ≡ before ++ w ∷ behind → word_faults chains [] before ≡ [] → word_fault chains before w ≡ f ∷ [] →
    First (Or (first_fault (word_faults chains [] words)) Nil) (Message f)
first_word_fault chains words before w behind f are none bad =
    inl (f, word_faults chains (before ++ w ∷ []) behind, ap (word_faults chains []) are ∙ faults_then chains [] before (w ∷ behind) ∙ ap (λ l. l ++ (word_fault chains before w ++ word_faults chains (before ++ w ∷ []) behind)) none ∙ ap (λ l. l ++ word_faults chains (before ++ w ∷ []) behind) bad, refl)

-- the faults of a word
module _ (chains : ℕ) (before : List MessageWord) (w : MessageWord) where
  pub no_chain : (w.chain < chains → ⊥) → word_fault chains before w ≡ NoChain w.chain ∷ []
  no_chain not =
      let e : nat_lt w.chain chains ≡ false = grind (arith, nat_tests) in
      ap (λ v. cond v (cond (list_any (is_for w.chain) before) (Twice w.chain ∷ []) (bad_hex w.chain (decode_of w.digits))) (NoChain w.chain ∷ [])) e

  pub twice : w.chain < chains → list_any (is_for w.chain) before ≡ true → word_fault chains before w ≡ Twice w.chain ∷ []
  twice inside any =
      let e : nat_lt w.chain chains ≡ true = grind (arith, nat_tests) in
      ap (λ v. cond v (cond (list_any (is_for w.chain) before) (Twice w.chain ∷ []) (bad_hex w.chain (decode_of w.digits))) (NoChain w.chain ∷ [])) e
      ∙ ap (λ v. cond v (Twice w.chain ∷ []) (bad_hex w.chain (decode_of w.digits))) any

  pub by_hex : w.chain < chains → list_any (is_for w.chain) before ≡ false → word_fault chains before w ≡ bad_hex w.chain (decode_of w.digits)
  by_hex inside none =
      let e : nat_lt w.chain chains ≡ true = grind (arith, nat_tests) in
      ap (λ v. cond v (cond (list_any (is_for w.chain) before) (Twice w.chain ∷ []) (bad_hex w.chain (decode_of w.digits))) (NoChain w.chain ∷ [])) e
      ∙ ap (λ v. cond v (Twice w.chain ∷ []) (bad_hex w.chain (decode_of w.digits))) none

-- ---- of the words as they are kept, and of the messages so far

module _ (chains : ℕ) (views : List MessageView) (k : ℕ) (v : MessageView) (is : v ≡ get_or views k v) (inside : k < length views) where
  pub refused_here : word_faults chains [] (map message_view (take k views)) ≡ [] → (f : MessageFault) → word_fault chains (map message_view (take k views)) (message_view v) ≡ f ∷ [] →
      First (Or (first_fault (word_faults chains [] (map message_view views))) Nil) (Message f)
  refused_here none f bad =
      first_word_fault chains (map message_view views) (map message_view (take k views)) (message_view v) (map message_view (drop (k + 1) views)) f
      (ap (map message_view) (around views k v inside ∙ ap (λ (x : MessageView). take k views ++ x ∷ drop (k + 1) views) (sym is)) ∙ map-append message_view (take k views) (v ∷ drop (k + 1) views)) none bad

module _ {V : Type 0} (h : V → List ℕ) (items : List (Option V)) (chains : ℕ) (words : List MessageWord) (seen : map (option_map h) items ≡ messages chains words) where
  pub as_many : length items ≡ chains
  as_many = sym (length-map items (option_map h)) ∙ ap length seen ∙ length-map-range_with_len (given words) 0 chains

  option_is_some : (o : Option V) → is_some (option_map h o) ≡ is_some o
  option_is_some None = refl
  option_is_some (Some v) = refl

  pub seen_at : (c : ℕ) (e : Option V) → c < length items → is_some (get_or items c e) ≡ list_any (is_for c) words
  seen_at c e inside =
      sym (option_is_some (get_or items c e)) ∙ ap is_some (sym (get_or-map (option_map h) items c e None inside) ∙ ap (λ l. get_or l c None) seen ∙ message_at chains words c (omega (arith, inside, as_many))) ∙ given_any words c

-- no message before the first word
none_mapped : {V : Type 0} (h : V → List ℕ) (chains : ℕ) → map (option_map h) (replicate chains None) ≡ replicate chains None
none_mapped h zero = refl
none_mapped h (suc n) = ap (λ l. None ∷ l) (none_mapped h n)

pub none_seen : {V : Type 0} (h : V → List ℕ) (chains : ℕ) → map (option_map h) (replicate chains None) ≡ messages chains []
none_seen h chains = none_mapped h chains ∙ no_words chains 0

-- digits that spell no bytes
module _ (chains : ℕ) (views : List MessageView) (k : ℕ) (v : MessageView) (is : v ≡ get_or views k v) (inside : k < length views) (none : word_faults chains [] (map message_view (take k views)) ≡ [])
    (hex : word_fault chains (map message_view (take k views)) (message_view v) ≡ bad_hex v.chain (decode_of (string_bytes v.hex))) where
  pub digits_refused : (s : Status) → DigitsRefused v.chain (string_bytes v.hex) s → WordsRefused (Or (first_fault (word_faults chains [] (map message_view views))) Nil) s
  digits_refused Memory h = tt
  digits_refused (Message f) h = refused_here chains views k v is inside none f (hex ∙ h)
  digits_refused Done h = absurd h
  digits_refused ReadFailed h = absurd h
  digits_refused Missing h = absurd h
  digits_refused WriteFailed h = absurd h
  digits_refused (Long seen limit) h = absurd h
  digits_refused (Text fault) h = absurd h
  digits_refused (Program rule at seen) h = absurd h
  digits_refused (Image fault) h = absurd h
  digits_refused (Step line) h = absurd h
  digits_refused Words h = absurd h
  digits_refused (BadSchedule number) h = absurd h

-- a word for no chain, and a second one for a chain
module _ (chains : ℕ) (views : List MessageView) (k : ℕ) (v : MessageView) (is : v ≡ get_or views k v) (inside : k < length views) (none : word_faults chains [] (map message_view (take k views)) ≡ []) where
  pub no_chain_here : (v.chain < chains → ⊥) → First (Or (first_fault (word_faults chains [] (map message_view views))) Nil) (Message (NoChain v.chain))
  no_chain_here not = refused_here chains views k v is inside none (NoChain v.chain) (no_chain chains (map message_view (take k views)) (message_view v) not)

  pub twice_here : v.chain < chains → list_any (is_for v.chain) (map message_view (take k views)) ≡ true → First (Or (first_fault (word_faults chains [] (map message_view views))) Nil) (Message (Twice v.chain))
  twice_here there any = refused_here chains views k v is inside none (Twice v.chain) (twice chains (map message_view (take k views)) (message_view v) there any)

  module _ (there : v.chain < chains) (first : list_any (is_for v.chain) (map message_view (take k views)) ≡ false) where
    pub digits_refused_here : (s : Status) → DigitsRefused v.chain (string_bytes v.hex) s → WordsRefused (Or (first_fault (word_faults chains [] (map message_view views))) Nil) s
    digits_refused_here = digits_refused chains views k v is inside none (by_hex chains (map message_view (take k views)) (message_view v) there first)

    module _ {V : Type 0} (h : V → List ℕ) (items : List (Option V)) (m : V) (seen : map (option_map h) items ≡ messages chains (map message_view (take k views))) (decodes : decode_of (string_bytes v.hex) ≡ Ok (h m)) where
      pub one_word_more : (map (option_map h) (set items v.chain (Some m)) ≡ messages chains (map message_view (take (k + 1) views))) × (word_faults chains [] (map message_view (take (k + 1) views)) ≡ [])
      one_word_more =
          let before = map message_view (take k views) in
          let w = message_view v in
          let more = mapped_more message_view views k v inside ∙ ap (λ (x : MessageView). map message_view (take k views) ++ message_view x ∷ []) (sym is) in (
            map-set (option_map h) items w.chain (Some m) ∙ ap (λ l. set l w.chain (Some (h m))) seen ∙ messages_more chains before w (h m) there first decodes ∙ ap (messages chains) (sym more),
            ap (word_faults chains []) more ∙ faults_more chains before w none (by_hex chains before w there first ∙ ap (bad_hex w.chain) decodes),
          )

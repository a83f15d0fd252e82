-- The program of an accepted file is sound.
use Rattle.std.proofs.Common.{◌≡◌, ℕ, zero, suc, ◌+◌, ◌%◌, ◌<◌, ◌≤◌, Bool, false, not, ◌||◌, ◌==◌, List, [], ◌∷◌, ◌++◌, length, map, take, replicate, fold, get_or, None, Result, Ok, Err, IfOk, refl, sym, ap, ◌∙◌, subst, arith}
use Rattle.std.specs.Prelude.{All}
use Rattle.std.specs.List.{flat_map, sum_by}
use Rattle.std.proofs.lemmas.Bool.{or_parts}
use Rattle.std.proofs.lemmas.Bool.Decides.{nat_tests}
use Rattle.std.proofs.lemmas.List.{length-map, length-append, length-replicate, take_at, take_all, get_or_default, take_more}
use Rattle.std.proofs.lemmas.List.Elements.{All-nil, All-cons, All-head, All-tail, All-take, All-drop, All-append}
use Rattle.std.proofs.lemmas.List.Sums.{sum_by-cons, sum_by-append, sum_by_more}
use Rattle.std.proofs.lemmas.Grind.{fold-append}
use Rattle.redn_words.specs.Words.{with_bytes_at, spelled}
use Rattle.redn_words.proofs.Places.{length-with_bytes_at}
use Rattle.redn_words.proofs.Numbers.{length-spelled}
use Rattle.redn_words.proofs.Digits.{bytes_of_number}
use Rattle.std.specs.Prelude.{slice_index}
use Rattle.redn_syntax.specs.declared.tree.Name.{Name}
use Rattle.redn_syntax.specs.declared.tree.Item.{Item}
use Rattle.redn_syntax.specs.declared.tree.Table.{Table}
use Rattle.redn_syntax.specs.declared.tree.Chain.{Chain}
use Rattle.redn_syntax.specs.declared.tree.File.{File}
use Rattle.redn_syntax.specs.Grammar.{IsWritable}
use Rattle.redn_kernel.specs.declared.types.Kernel.{every-Kernel}
use Rattle.redn_kernel.specs.declared.types.TableInit.{TableInit}
use Rattle.redn_kernel.specs.declared.types.Program.{Program}
use Rattle.redn_kernel.specs.declared.types.ChainInit.{ChainInit}
use Rattle.redn_kernel.specs.Program.{AreBytes, AreWords, IsSound, IsSoundChain, IsSoundTable, IsSoundStatement, ServesOne, all_fall, chain_weight}
use Rattle.redn_check.specs.Faults.{fault, when}
use Rattle.redn_check.specs.Names.{table_names, variables, variable_names}
use Rattle.redn_check.specs.Statements.{with_earlier, each_of}
use Rattle.redn_check.specs.Rules.{passes, lengths, bad_items, offset_behind, end_of, table_faults, chain_faults, loose_breaks, open_end, unreached, flow_faults, control_faults, Weight, weight_at, weights, weight_of_all, too_heavy, Accepts}
use Rattle.redn_check.specs.Numbering.{kernel_of, placed, written, table_bytes, table_init, first_value, first_values, served, chain_init, program_of}
use Rattle.redn_check.proofs.Nothing.{nil_left, nil_right, when_none}
use Rattle.redn_check.proofs.Inner.{Each}
use Rattle.redn_check.proofs.Behind.{fits_here}
use Rattle.redn_check.proofs.Written.{placed_push}
use Rattle.redn_check.proofs.Accepted.{blank, none_behind, placed_items, good_length, few_tables, good_tables, good_chains, few_chains, light, controlled, good_statements, few_variables, good_serve, few_arguments}
use Rattle.redn_check.proofs.Carried.{same_exits_all, same_weights}
use Rattle.redn_check.proofs.Numbered.{serves_one}
use Rattle.redn_check.proofs.Weighed.{in_body}
use Rattle.redn_check.proofs.SoundFlow.{is_reached, has_no_break}
use Rattle.redn_check.proofs.SoundStatements.{Fine, statements_sound}
use Rattle.redn_check.proofs.Worded.{Worded, writable_words}

-- ---- facts of each of a list

each_at : {X : Type 0} (P : X → Type 0) (xs : List X) (d : X) → ((i : ℕ) → i < length xs → P (get_or xs i d)) → Each P xs
each_at P [] d f = tt
each_at P (x ∷ xs) d f = (f 0 (omega arith), each_at P xs d (λ i h. f (suc i) (omega arith)))

all_mapped : {X Y : Type 0} (P : Y → Type 0) (f : X → Y) (xs : List X) → Each (λ x. P (f x)) xs → All P (map f xs)
all_mapped P f [] h = All-nil P
all_mapped P f (x ∷ xs) h = All-cons P (f x) (map f xs) h.0 (all_mapped P f xs h.1)

-- a sum that no element takes past a limit
module _ {X : Type 0} (f : X → ℕ) (most : ℕ) (xs : List X) (d : X) (never : (i : ℕ) → i < length xs → passes most (sum_by f (take i xs)) (f (get_or xs i d)) ≡ false) where
  up_to : (i : ℕ) → i ≤ length xs → sum_by f (take i xs) ≤ most
  up_to zero h = omega arith
  up_to (suc i) h =
      let before = up_to i (omega arith) in
      let test = never i (omega arith) in
      let more = sum_by_more f xs i d (omega arith) in
      let next : i + 1 ≡ suc i = omega arith in
      let whole : sum_by f (take (suc i) xs) ≡ sum_by f (take i xs) + f (get_or xs i d) = ap (λ n. sum_by f (take n xs)) (sym next) ∙ more in
      let small : sum_by f (take i xs) + f (get_or xs i d) ≤ most = grind (arith, nat_tests) in
      omega arith

  never_past : sum_by f xs ≤ most
  never_past = let P : List X → Type 0 = λ l. sum_by f l ≤ most in subst P (take_all (length xs) xs (omega arith)) (up_to (length xs) (omega arith))

-- ---- tables

no_item : Item
no_item = record { at = None; word = record { value = 0; at = 0 } }

module _ (t : Table) (good : bad_items t ≡ []) where
  bytes_up_to : (i : ℕ) → i ≤ length t.items → length (fold written (replicate t.length.value 0) (placed (take i t.items))) ≡ t.length.value
  bytes_up_to zero h = length-replicate t.length.value 0
  bytes_up_to (suc i) h =
      let x = get_or t.items i no_item in
      let within : i < length t.items = omega arith in
      let end = end_of (take i t.items) in
      let offset = offset_behind end x in
      let before = bytes_up_to i (omega arith) in
      let bytes = fold written (replicate t.length.value 0) (placed (take i t.items)) in
      let room = fits_here t.length.value i t.items t.items no_item refl within good end offset refl refl in
      let size = length-spelled 8 x.word.value in
      let next : i + 1 ≡ suc i = omega arith in
      let cut : take (suc i) t.items ≡ take i t.items ++ x ∷ [] = ap (λ n. take n t.items) (sym next) ∙ take_more t.items i no_item within in
      let whole : fold written (replicate t.length.value 0) (placed (take (suc i) t.items)) ≡ with_bytes_at bytes offset (spelled 8 x.word.value) =
      ap (λ l. fold written (replicate t.length.value 0) (placed l)) cut ∙ ap (fold written (replicate t.length.value 0)) (placed_push (take i t.items) x)
      ∙ fold-append written (replicate t.length.value 0) (placed (take i t.items)) ((offset, x.word.value) ∷ [])
      in
      ap length whole ∙ length-with_bytes_at bytes (spelled 8 x.word.value) offset (omega arith) ∙ before

  bytes_length : length (table_bytes t) ≡ t.length.value
  bytes_length = ap (λ l. length (fold written (replicate t.length.value 0) (placed l))) (sym (take_all (length t.items) t.items (omega arith))) ∙ bytes_up_to (length t.items) (omega arith)

each_below : (bytes : List ℕ) → ((k : ℕ) → slice_index bytes k < 256) → AreBytes bytes
each_below [] h = All-nil (λ (b : ℕ). b < 256)
each_below (b ∷ bytes) h = All-cons (λ (b : ℕ). b < 256) b bytes (h 0) (each_below bytes (λ k. h (suc k)))

spelled_bytes : (n x : ℕ) → AreBytes (spelled n x)
unfolding spelled
spelled_bytes n x = each_below (spelled n x) (bytes_of_number n x)

-- the bytes of words over bytes are bytes
bytes_written : (bytes : List ℕ) (es : List (ℕ × ℕ)) → AreBytes bytes → AreBytes (fold written bytes es)
bytes_written bytes [] are = are
bytes_written bytes (e ∷ es) are =
    bytes_written (written bytes e) es
    (All-append (λ (b : ℕ). b < 256) (take e.0 bytes) _ (All-take (λ (b : ℕ). b < 256) e.0 bytes are) (All-append (λ (b : ℕ). b < 256) (spelled 8 e.1) _ (spelled_bytes 8 e.1) (All-drop (λ (b : ℕ). b < 256) (e.0 + length (spelled 8 e.1)) bytes are)))

zeros_are_bytes : (n : ℕ) → AreBytes (replicate n 0)
zeros_are_bytes zero = All-nil (λ (b : ℕ). b < 256)
zeros_are_bytes (suc n) = All-cons (λ (b : ℕ). b < 256) 0 (replicate n 0) (omega arith) (zeros_are_bytes n)

whole_words : (n : ℕ) (past : Bool) (size : ℕ) → size ≡ n → (n == 0 || not (n % 8 == 0) || past) ≡ false → (1 ≤ size) × (size % 8 ≡ 0)
whole_words n past size e test =
    let parts = or_parts (n == 0) (not (n % 8 == 0)) (or_parts (n == 0 || not (n % 8 == 0)) past test).0 in
    let some = parts.0 in
    let whole = parts.1 in
    (grind (arith, nat_tests), ap (λ m. m % 8) e ∙ grind (arith, nat_tests))

module _ (tables : List Table) (none : flat_map (λ e. table_faults e.0 e.1) (with_earlier tables) ≡ []) where
  items_good : Each (λ t. bad_items t ≡ []) tables
  items_good = each_at (λ t. bad_items t ≡ []) tables blank (λ i h. placed_items tables none i (get_or tables i blank) h (get_or_default tables i blank (get_or tables i blank) h))

  length_test : (i : ℕ) → i < length tables → ((get_or tables i blank).length.value == 0 || not ((get_or tables i blank).length.value % 8 == 0) || passes 1048576 (lengths (take i tables)) (get_or tables i blank).length.value) ≡ false
  length_test i h =
      let t = get_or tables i blank in
      when_none _ (fault 12 t.length.at t.length.value) (good_length tables none i t h (get_or_default tables i blank t h))

  table_sound : Each (λ t. IsSoundTable (table_init t)) tables
  table_sound = each_at (λ t. IsSoundTable (table_init t)) tables blank (λ i h.
      let t = get_or tables i blank in
      let size = bytes_length t (placed_items tables none i t h (get_or_default tables i blank t h)) in
      let whole = whole_words t.length.value _ (length (table_bytes t)) size (length_test i h) in
      (whole.0, whole.1, bytes_written (replicate t.length.value 0) (placed t.items) (zeros_are_bytes t.length.value)))

  table_lengths : (ts : List Table) → Each (λ t. bad_items t ≡ []) ts → sum_by (λ (t : TableInit). length t.bytes) (map table_init ts) ≡ lengths ts
  table_lengths [] h = refl
  table_lengths (t ∷ ts) h =
      sum_by-cons (λ (t : TableInit). length t.bytes) (table_init t) (map table_init ts) ∙ (λ j. bytes_length t h.0 j + table_lengths ts h.1 j)
      ∙ sym (sum_by-cons (λ (t : Table). t.length.value) t ts)

  few_bytes : sum_by (λ (t : TableInit). length t.bytes) (map table_init tables) ≤ 1048576
  few_bytes =
      let most = never_past (λ (t : Table). t.length.value) 1048576 tables blank (λ i h.
      let t = get_or tables i blank in
      (or_parts (t.length.value == 0 || not (t.length.value % 8 == 0)) _ (length_test i h)).1) in
      let same = table_lengths tables items_good in
      omega arith

-- ---- a chain

module _ (tables : List Table) (c : Chain) (none : chain_faults tables c ≡ []) (worded : Worded c) (words : AreWords (first_values c)) where
  abbrev ts : List TableInit
  ts = map table_init tables

  abbrev T : List Name
  T = table_names tables

  count : length (first_values c) ≡ length (variables c)
  count =
      let values = length-append (replicate (length c.args) 0) (map first_value c.vars) in
      let zeros : length (replicate {A = ℕ} (length c.args) 0) ≡ length c.args = length-replicate (length c.args) 0 in
      let firsts = length-map c.vars first_value in
      let all = length-append c.args (variable_names c.vars) in
      let names = length-map c.vars (λ v. v.name) in
      omega arith

  control : control_faults c ≡ []
  control = controlled tables c none

  before_flow : loose_breaks c.body ++ open_end c ++ unreached c.body ≡ []
  before_flow = nil_left _ (flat_map flow_faults (each_of c.body)) control

  fine : Fine tables (variables c) c.body
  fine = record {
    own_none = good_statements tables c none;
    flow_none = nil_right _ (flat_map flow_faults (each_of c.body)) control;
    worded = worded;
  }

  chain_sound : IsSoundChain ts (chain_init tables c)
  chain_sound =
      let fit = few_variables tables c none in
      let values = length-append (replicate (length c.args) 0) (map first_value c.vars) in
      let zeros : length (replicate {A = ℕ} (length c.args) 0) ≡ length c.args = length-replicate (length c.args) 0 in
      let one = serves_one c (good_serve tables c none) in
      record {
        serves = omega (arith, one);
        serves_few = omega (arith, one);
        arguments = few_arguments tables c none;
        arguments_first = omega arith;
        arguments_fresh = take_at (replicate (length c.args) 0) (map first_value c.vars) (length c.args) zeros;
        variables = subst (λ n. n ≤ 256) (sym count) fit;
        words = words;
        statements = subst (λ n. All (every-Kernel (IsSoundStatement ts n)) (map (kernel_of T (variables c)) c.body)) (sym count) (statements_sound tables (variables c) c.body fine);
        reached = is_reached T (variables c) c.body (nil_right _ (unreached c.body) before_flow);
        no_break = has_no_break T (variables c) c.body (nil_left _ (open_end c) (nil_left _ (unreached c.body) before_flow));
        ends = ap all_fall (same_exits_all T (variables c) c.body) ∙ when_none _ (fault 5 c.close 0) (nil_right (loose_breaks c.body) _ (nil_left _ (unreached c.body) before_flow));
      }

-- ---- the weight

weightless : Weight
weightless = weight_at 0 0

abbrev own : Weight → ℕ
own w = w.weight

args_weigh : (args : List Name) → sum_by own (map (λ n. weight_at n.at 1) args) ≡ length args
args_weigh [] = refl
args_weigh (n ∷ args) = let more = args_weigh args in sum_by-cons own (weight_at n.at 1) (map (λ n. weight_at n.at 1) args) ∙ omega arith

chain_weighs : (tables : List Table) (c : Chain) → chain_weight (chain_init tables c) ≡ weight_of_all (weights c)
chain_weighs tables c =
    (λ j. sym (args_weigh c.args) j + same_weights (table_names tables) (variables c) c.body j)
    ∙ sym (sum_by-append own (map (λ n. weight_at n.at 1) c.args) (in_body c.body))

chains_weigh : (tables : List Table) (chains : List Chain) → sum_by chain_weight (map (chain_init tables) chains) ≡ weight_of_all (flat_map weights chains)
chains_weigh tables [] = refl
chains_weigh tables (c ∷ chains) =
    sum_by-cons chain_weight (chain_init tables c) (map (chain_init tables) chains) ∙ (λ j. chain_weighs tables c j + chains_weigh tables chains j)
    ∙ sym (sum_by-append own (weights c) (flat_map weights chains))

not_heavy : (ws : List Weight) → too_heavy ws ≡ [] → weight_of_all ws ≤ 4096
not_heavy ws none = never_past own 4096 ws weightless (λ i h.
    let w = get_or ws i weightless in
    when_none _ (fault 14 w.at (weight_of_all (take i ws) + w.weight))
    (none_behind (λ e. when (passes 4096 (weight_of_all e.0) e.1.weight) (fault 14 e.1.at (weight_of_all e.0 + e.1.weight))) ws i w h (get_or_default ws i weightless w h) none))

-- ---- the whole program

chains_sound : (tables : List Table) (chains : List Chain) → flat_map (chain_faults tables) chains ≡ [] → Each Worded chains → All (λ (c : ChainInit). AreWords c.vars) (map (chain_init tables) chains) →
    Each (λ c. IsSoundChain (map table_init tables) (chain_init tables c)) chains
chains_sound tables [] none worded words = tt
chains_sound tables (c ∷ chains) none worded words =
    let Words : ChainInit → Type 0 = λ c. AreWords c.vars in (
      chain_sound tables c (nil_left (chain_faults tables c) (flat_map (chain_faults tables) chains) none) worded.0 (All-head Words (chain_init tables c) (map (chain_init tables) chains) words),
      chains_sound tables chains (nil_right (chain_faults tables c) _ none) worded.1 (All-tail Words (chain_init tables c) (map (chain_init tables) chains) words),
    )

pub sound : (f : File) → IsWritable f → Accepts f → All (λ (c : ChainInit). AreWords c.vars) (program_of f).chains → IsSound (program_of f)
sound f w accepted words =
    let some = writable_words f w in
    let tables = good_tables f accepted in
    let chain_count = length-map f.chains (chain_init f.tables) in
    let table_count = length-map f.tables table_init in
    let most_chains = few_chains f accepted in
    let most_tables = few_tables f.tables tables in
    let heaviest = not_heavy (flat_map weights f.chains) (light f accepted) in
    let least = some.0 in
    record {
      some_chain = omega arith;
      few_chains = omega arith;
      few_tables = omega arith;
      whole_words = all_mapped IsSoundTable table_init f.tables (table_sound f.tables tables);
      few_bytes = few_bytes f.tables tables;
      sound_chains = all_mapped (IsSoundChain (map table_init f.tables)) (chain_init f.tables) f.chains (chains_sound f.tables f.chains (good_chains f accepted) some.1 words);
      light = subst (λ n. n ≤ 4096) (sym (chains_weigh f.tables f.chains)) heaviest;
    }

chains_serve_one : (tables : List Table) (chains : List Chain) → flat_map (chain_faults tables) chains ≡ [] → Each (λ c. served c ≡ 1) chains
chains_serve_one tables [] none = tt
chains_serve_one tables (c ∷ chains) none =
    (serves_one c (good_serve tables c (nil_left (chain_faults tables c) (flat_map (chain_faults tables) chains) none)), chains_serve_one tables chains (nil_right (chain_faults tables c) _ none))

-- the chains of an accepted file serve one message each
pub all_serve_one : (f : File) → Accepts f → ServesOne (program_of f)
all_serve_one f accepted = all_mapped (λ (c : ChainInit). c.serve ≡ 1) (chain_init f.tables) f.chains (chains_serve_one f.tables f.chains (good_chains f accepted))

-- an answer that is the program of an accepted file
pub sound_answer : (f : File) → IsWritable f → {E : Type 0} (r : Result Program E) → IfOk r (λ p. Accepts f) → IfOk r (λ p. p ≡ program_of f) → IfOk r (λ p. All (λ (c : ChainInit). AreWords c.vars) p.chains) → IfOk r (λ p. IsSound p)
sound_answer f w (Ok p) accepted same words = subst IsSound (sym same) (sound f w accepted (subst (λ (p : Program). All (λ (c : ChainInit). AreWords c.vars) p.chains) same words))
sound_answer f w (Err e) accepted same words = tt

pub one_answer : (f : File) → {E : Type 0} (r : Result Program E) → IfOk r (λ p. Accepts f) → IfOk r (λ p. p ≡ program_of f) → IfOk r ServesOne
one_answer f (Ok p) accepted same = subst ServesOne (sym same) (all_serve_one f accepted)
one_answer f (Err e) accepted same = tt

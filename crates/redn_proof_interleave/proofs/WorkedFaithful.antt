-- The image of the two chains does what their program says, under every order and with any messages.
use Rattle.std.proofs.Common.{◌≡◌, ℕ, zero, suc, ◌+◌, ◌*◌, ◌<◌, Bool, true, false, not, ◌&&◌, ◌==◌, List, [], ◌∷◌, ◌++◌, Option, Some, None, length, map, replicate, refl, sym, ap, subst, ◌∙◌, arith}
use Rattle.std.specs.Prelude.{slice_get, slice_index_or, is_some, nat_le}
use Rattle.std.specs.List.{All, list_any}
use Rattle.std.proofs.lemmas.Bool.{false≢true, true≢false}
use Rattle.std.proofs.lemmas.Bool.Decides.{nat_tests}
use Rattle.std.proofs.lemmas.List.Elements.{All-cons}
use Rattle.std.proofs.lemmas.Option.{same_Some, slice_get_past}
use Rattle.redn_words.specs.declared.types.Region.{Region}
use Rattle.redn_words.specs.declared.types.Kind.TheVariants.{Table}
use Rattle.redn_words.specs.declared.types.Obs.TheVariants as shows
use Rattle.redn_words.specs.Words.{bytes_at}
use Rattle.redn_words.specs.Runs.{shown_then}
use Rattle.redn_words.specs.States.{start}
use Rattle.redn_kernel.specs.declared.types.Kernel.{Kernel, fold-Kernel, fold_out-Kernel, map-Kernel}
use Rattle.redn_kernel.specs.declared.types.Kernel.TheVariants.{Store, Reply, outs-Store, outs-Reply}
use Rattle.redn_kernel.specs.declared.types.Kernel.TheOpen.{Kernel-F}
use Rattle.redn_kernel.specs.declared.types.Word.TheVariants.{Num}
use Rattle.redn_kernel.specs.declared.types.ChainInit.{ChainInit}
use Rattle.redn_kernel.specs.declared.types.Program.{Program}
use Rattle.redn_kernel.specs.Source.{with_word_in, ChainState, Turn as SourceTurn, Item, Do, source_start, bytes_of, has_word, first_does, item_does, statement_does, chain_runs, message_words}
use Rattle.redn_image.specs.Rules.{Image}
use Rattle.redn_image.specs.Agreement.{Fits, HasTableLength, variables_of, places_of, names_table, names_by}
use Rattle.redn_image.specs.Faithful.{IsMessageOf, AreMessages, Faithful, start_of}
use Rattle.redn_proof_window.proofs.Below.{below_two}
use Rattle.redn_proof_interleave.specs.Machines.{Contents, Goes}
use Rattle.redn_proof_interleave.specs.Forms.{awake, message}
use Rattle.redn_proof_interleave.specs.Sources.{source_machine, Sourced, Translates, Stand, Same}
use Rattle.redn_proof_interleave.specs.Compiled.{IsCompiled}
use Rattle.redn_proof_interleave.proofs.Headline.{compiled_is_faithful}
use Rattle.redn_proof_interleave.proofs.WorkedChains.{regions, ring_row}
use Rattle.redn_proof_interleave.proofs.WorkedWorld.{Messages, pick, world, first_state, entry_row, part, step, step_store, cost, has_table, machines, machines_begin, two_chains, message_is}

abbrev pub stores : ℕ → Kernel
stores c = Store 0 (Num 0) (Num (7 + c))

abbrev pub replies : ℕ → Kernel
replies c = Reply (Num (7 + c) ∷ [])

abbrev pub says : ℕ → ChainInit
says c = record { serve = 1; args = 0; vars = []; body = stores c ∷ replies c ∷ [] }

unfoldable pub two_program : Program
two_program = record { tables = record { bytes = replicate 8 0; writable = true } ∷ []; chains = says 0 ∷ says 1 ∷ [] }

unfoldable pub two_image : Image
two_image =
    record {
      regions = regions;
      queues = entry_row 0 ∷ ring_row 0 ∷ entry_row 1 ∷ ring_row 1 ∷ [];
      receives = record { base = 0; len = 0 } ∷ record { base = 0; len = 0 } ∷ [];
      memory = part 0 ++ (part 1 ++ replicate 8 0);
    }

-- what a machine's state stands for
abbrev chain_at : Option (List ℕ) → List Item → Bool → ChainState
chain_at message items ended = record { vars = []; message = message; items = items; ended = ended }

unfoldable pub here : Messages → ℕ → ℕ → ChainState
here messages c zero = chain_at (message_words 0 (pick messages c)) (Do (stores c) ∷ Do (replies c) ∷ []) false
here messages c (suc zero) = chain_at (message_words 0 (pick messages c)) (Do (replies c) ∷ []) false
here messages c (suc (suc zero)) = chain_at (message_words 0 (pick messages c)) (Do (replies c) ∷ []) true
here messages c (suc (suc (suc x))) = chain_at (message_words 0 (pick messages c)) (Do (stores c) ∷ Do (replies c) ∷ []) true

no_vars : (messages : Messages) (c x : ℕ) → (here messages c x).vars ≡ []
unfolding here
no_vars messages c zero = refl
no_vars messages c (suc zero) = refl
no_vars messages c (suc (suc zero)) = refl
no_vars messages c (suc (suc (suc x))) = refl

unfoldable pub kept : Messages → ℕ → ℕ → ℕ
kept messages c x = 0

unfoldable pub Fine : Messages → ℕ → ℕ → Type 0
Fine messages c x = Unit {0}

abbrev pub sourced : Messages → Sourced
sourced messages = record { world = world messages; here = here messages; kept = kept messages; Fine = Fine messages }

-- the source's steps
stores_does : (c : ℕ) (t : Contents) (w : ChainState) → first_does c t w (Do (stores c) ∷ Do (replies c) ∷ []) ≡ statement_does c t w (Kernel-F.Store 0 (Num 0) (Num (7 + c))) (Do (replies c) ∷ [])
unfolding item_does
stores_does c t w = ap (λ (k : Kernel-F Kernel). statement_does c t w k (Do (replies c) ∷ [])) (outs-Store 0 (Num 0) (Num (7 + c)))

replies_does : (c : ℕ) (t : Contents) (w : ChainState) → first_does c t w (Do (replies c) ∷ []) ≡ statement_does c t w (Kernel-F.Reply (Num (7 + c) ∷ [])) []
unfolding item_does
replies_does c t w = ap (λ (k : Kernel-F Kernel). statement_does c t w k []) (outs-Reply (Num (7 + c) ∷ []))

-- a store that has room, and one that has none
stores_turn : (c : ℕ) (t : Contents) (w : ChainState) → has_word t 0 0 ≡ true → first_does c t w (Do (stores c) ∷ Do (replies c) ∷ []) ≡ record { tables = with_word_in t 0 0 (7 + c); chain = record w { items = Do (replies c) ∷ [] }; event = shows.Store c 0 0 (7 + c) }
unfolding statement_does
stores_turn c t w e = stores_does c t w ∙ rw e refl

stores_fails : (c : ℕ) (t : Contents) (w : ChainState) → has_word t 0 0 ≡ false → first_does c t w (Do (stores c) ∷ Do (replies c) ∷ []) ≡ record { tables = t; chain = record w { ended = true }; event = shows.Fault c 0 0 }
unfolding statement_does
stores_fails c t w e = stores_does c t w ∙ rw e refl

module _ (messages : Messages) (short : (c : ℕ) (bytes : List ℕ) → c < 2 → pick messages c ≡ Some bytes → bytes ≡ []) (c : ℕ) (l : c < 2) where
  is_there : awake (world messages) c ≡ true → is_some (message_words 0 (pick messages c)) ≡ true
  is_there woken = by_message (pick messages c) (ap is_some (sym (message_is messages short c l)) ∙ woken)
    where
      by_message : (m : Option (List ℕ)) → is_some m ≡ true → is_some (message_words 0 m) ≡ true
      by_message None e = e
      by_message (Some bytes) e = refl

  steps_goes : (x : ℕ) (t : Contents) → awake (world messages) c ≡ true → nat_le 2 x ≡ false → Goes ChainState (source_machine c) t (here messages c x) (shown_then (step c t x).event []) (step c t x).tables (here messages c (step c t x).state) (cost (step c t x).state + kept messages c (step c t x).state) (kept messages c x)
  unfolding step here source_machine statement_does kept cost
  steps_goes zero t woken more =
      by_place (has_word t 0 0) refl
    where
      by_place : (b : Bool) → has_word t 0 0 ≡ b → Goes ChainState (source_machine c) t (here messages c 0) (shown_then (step_store c t b).event []) (step_store c t b).tables (here messages c (step_store c t b).state) (cost (step_store c t b).state + kept messages c (step_store c t b).state) (kept messages c 0)
      by_place true e =
          let there = is_there woken in
          let does = stores_turn c t (chain_at (message_words 0 (pick messages c)) (Do (stores c) ∷ Do (replies c) ∷ []) false) e in
          record { steps = 1; go = (rw there refl, tt); telling = ap (λ (r : SourceTurn). shown_then r.event []) does; tables = ap (λ (r : SourceTurn). r.tables) does; state = ap (λ (r : SourceTurn). r.chain) does; enough = omega arith }
      by_place false e =
          let there = is_there woken in
          let does = stores_fails c t (chain_at (message_words 0 (pick messages c)) (Do (stores c) ∷ Do (replies c) ∷ []) false) e in
          record { steps = 1; go = (rw there refl, tt); telling = ap (λ (r : SourceTurn). shown_then r.event []) does; tables = ap (λ (r : SourceTurn). r.tables) does; state = ap (λ (r : SourceTurn). r.chain) does; enough = omega arith }
  steps_goes (suc zero) t woken more =
      let there = is_there woken in
      let does = replies_does c t (chain_at (message_words 0 (pick messages c)) (Do (replies c) ∷ []) false) in
      record { steps = 1; go = (rw there refl, tt); telling = ap (λ (r : SourceTurn). shown_then r.event []) does; tables = ap (λ (r : SourceTurn). r.tables) does; state = ap (λ (r : SourceTurn). r.chain) does; enough = omega arith }
  steps_goes (suc (suc x)) t woken more = absurd (let over : nat_le 2 (suc (suc x)) ≡ true = grind (arith, nat_tests) in true≢false (sym over ∙ more))

  runs_here : (x : ℕ) → awake (world messages) c ≡ true → chain_runs (here messages c x) ≡ not (nat_le 2 x)
  unfolding here
  runs_here zero woken = let there = is_there woken in rw there refl
  runs_here (suc zero) woken = let there = is_there woken in rw there refl
  runs_here (suc (suc zero)) woken = let there = is_there woken in rw there refl
  runs_here (suc (suc (suc x))) woken = let there = is_there woken in let over : nat_le 2 (suc (suc (suc x))) ≡ true = grind (arith, nat_tests) in rw (there, over) refl

  translates : Translates (sourced messages) c
  unfolding Fine cost kept
  translates =
      record {
        step = λ x t fine woken more. steps_goes x t woken more;
        fine = λ x t fine more. tt;
        runs = λ x fine woken. runs_here x woken;
        pays = omega arith;
      }

  stands_first : (w : ChainState) → w ≡ here messages c 0 → chain_runs w ≡ awake (world messages) c && true → Stand (sourced messages) c w 0
  unfolding Fine
  stands_first w is runs =
      record {
        vars = ap (λ (v : ChainState). v.vars) is;
        runs = runs;
        leads = λ woken t. record { steps = 0; go = tt; telling = refl; tables = refl; state = is; enough = omega arith };
        fine = tt;
      }

some_words : (m : Option (List ℕ)) → is_some (message_words 0 m) ≡ is_some m
some_words None = refl
some_words (Some bytes) = refl

no_region : (P : Region → Type 0) → All P []
no_region P k d l = absurd (omega arith)

abbrev table_region : ℕ → ℕ → Region
table_region key domain = record { key = key; domain = domain; kind = Table 0; rights = 4; base = 784; len = 8 }

-- both regions of the table have its bytes
pub tables_agree : (t : Contents) (m : List ℕ) (n : ℕ) → has_table t m → All (λ (r : Region). bytes_at m r.base r.len ≡ bytes_of t n) (places_of n regions)
unfolding regions
tables_agree t m zero has =
    let its : bytes_at m 784 8 ≡ bytes_of t 0 = sym (ap (λ (u : Contents). bytes_of u 0) has) in
    All-cons (λ (r : Region). bytes_at m r.base r.len ≡ bytes_of t 0) (table_region 2 0) (table_region 4 1 ∷ []) its (All-cons (λ (r : Region). bytes_at m r.base r.len ≡ bytes_of t 0) (table_region 4 1) [] its (no_region (λ (r : Region). bytes_at m r.base r.len ≡ bytes_of t 0)))
tables_agree t m (suc n) has =
    let other : (0 == suc n) ≡ false = grind (arith, nat_tests) in
    let none : places_of (suc n) regions ≡ [] = rw other refl in
    subst (All (λ (r : Region). bytes_at m r.base r.len ≡ bytes_of t (suc n))) (sym none) (no_region (λ (r : Region). bytes_at m r.base r.len ≡ bytes_of t (suc n)))

-- messages of chains without arguments are empty
pub are_short : (a b : Option (List ℕ)) → AreMessages (says 0 ∷ says 1 ∷ []) (a ∷ b ∷ []) → (c : ℕ) (bytes : List ℕ) → c < 2 → pick (a ∷ b ∷ []) c ≡ Some bytes → bytes ≡ []
are_short a b are zero bytes l e = one a are.0 e
  where
    none : (xs : List ℕ) → length xs ≡ 0 → xs ≡ []
    none [] h = refl
    none (x ∷ xs) h = absurd (omega arith)

    one : (m : Option (List ℕ)) → IsMessageOf (says 0) m → m ≡ Some bytes → bytes ≡ []
    one None h f = absurd (cc)
    one (Some xs) h f = none bytes (ap length (sym (same_Some xs bytes f)) ∙ h.0)
are_short a b are (suc zero) bytes l e = one b are.1.0 e
  where
    none : (xs : List ℕ) → length xs ≡ 0 → xs ≡ []
    none [] h = refl
    none (x ∷ xs) h = absurd (omega arith)

    one : (m : Option (List ℕ)) → IsMessageOf (says 1) m → m ≡ Some bytes → bytes ≡ []
    one None h f = absurd (cc)
    one (Some xs) h f = none bytes (ap length (sym (same_Some xs bytes f)) ∙ h.0)
are_short a b are (suc (suc c)) bytes l e = absurd (omega arith)

module _ (a b : Option (List ℕ)) (short : (c : ℕ) (bytes : List ℕ) → c < 2 → pick (a ∷ b ∷ []) c ≡ Some bytes → bytes ≡ []) where
  abbrev two : Messages
  two = a ∷ b ∷ []

  pub first_is : first_state two ≡ start_of two_image two
  unfolding first_state two_image start
  first_is = refl

  first_runs : (c : ℕ) → c < 2 → chain_runs (here two c 0) ≡ awake (world two) c && true
  unfolding here
  first_runs c l = ap (λ (o : Bool). o && true) (some_words (pick two c) ∙ sym (ap is_some (message_is two short c l)))

  first_chains : (c : ℕ) → c < 2 → slice_get (source_start two_program two).chains c ≡ Some (here two c 0)
  unfolding source_start two_program here
  first_chains = below_two (λ c. slice_get (source_start two_program two).chains c ≡ Some (here two c 0)) refl refl

  begin_same : Same (sourced two) (machines two short) (source_start two_program two)
  unfolding source_start two_program machines first_state
  begin_same =
      record {
        tables = refl;
        each = λ c l. (here two c 0, first_chains c l, stands_first two short c l (here two c 0) refl (first_runs c l));
        past = λ c far. slice_get_past (source_start two_program two).chains c far;
      }

  compiled : IsCompiled two_program two_image two (sourced two)
  unfolding first_state
  compiled =
      record {
        begin = first_is;
        most = refl;
        promises = two_chains two short;
        machines = machines two short;
        begins = machines_begin two short;
        same = begin_same;
        translates = λ c l. translates two short c l;
        tables = λ t m n has. tables_agree t m n has;
        variables = λ c y m l h k d i. record { words = λ x less. let none = ap length (no_vars two c y) in absurd (omega (arith, none)) };
      }

-- the image has a place for all that the program names
stores_names : (c t : ℕ) → fold-Kernel Bool (names_by t) (stores c) ≡ (0 == t)
unfolding names_by
stores_names c t = fold_out-Kernel Bool (names_by t) (stores c) ∙ ap (λ (k : Kernel-F Kernel). names_by t (map-Kernel Kernel Bool (fold-Kernel Bool (names_by t)) k)) (outs-Store 0 (Num 0) (Num (7 + c)))

replies_names : (c t : ℕ) → fold-Kernel Bool (names_by t) (replies c) ≡ false
unfolding names_by
replies_names c t = fold_out-Kernel Bool (names_by t) (replies c) ∙ ap (λ (k : Kernel-F Kernel). names_by t (map-Kernel Kernel Bool (fold-Kernel Bool (names_by t)) k)) (outs-Reply (Num (7 + c) ∷ []))

says_names : (c t : ℕ) → names_table (suc t) (says c) ≡ false
says_names c t =
    let other : (0 == suc t) ≡ false = grind (arith, nat_tests) in
    let first = stores_names c (suc t) in
    let second = replies_names c (suc t) in
    rw (first, second, other) refl

vars_fit : (k : ℕ) (c : ChainInit) → slice_get two_program.chains k ≡ Some c → map (λ (r : Region). r.len) (variables_of k regions) ≡ 8 * length c.vars ∷ []
unfolding two_program regions
vars_fit zero c e = let none : length c.vars ≡ 0 = sym (ap (λ (d : ChainInit). length d.vars) (same_Some (says 0) c e)) in rw none refl
vars_fit (suc zero) c e = let none : length c.vars ≡ 0 = sym (ap (λ (d : ChainInit). length d.vars) (same_Some (says 1) c e)) in rw none refl
vars_fit (suc (suc k)) c e = absurd (cc)

lengths_fit : (k : ℕ) (d : Region) → k < 6 → HasTableLength two_program.tables (slice_index_or regions k d)
unfolding two_program regions
lengths_fit zero d l = tt
lengths_fit (suc zero) d l = refl
lengths_fit (suc (suc zero)) d l = tt
lengths_fit (suc (suc (suc zero))) d l = refl
lengths_fit (suc (suc (suc (suc zero)))) d l = tt
lengths_fit (suc (suc (suc (suc (suc zero))))) d l = tt
lengths_fit (suc (suc (suc (suc (suc (suc k)))))) d l = absurd (omega arith)

names_fit : (k t : ℕ) (c : ChainInit) → slice_get two_program.chains k ≡ Some c → names_table t c ≡ true → list_any (λ (r : Region). r.domain == k) (places_of t regions) ≡ true
unfolding two_program regions
names_fit zero zero c e names = refl
names_fit (suc zero) zero c e names = refl
names_fit zero (suc t) c e names = absurd (false≢true (sym (says_names 0 t) ∙ ap (names_table (suc t)) (same_Some (says 0) c e) ∙ names))
names_fit (suc zero) (suc t) c e names = absurd (false≢true (sym (says_names 1 t) ∙ ap (names_table (suc t)) (same_Some (says 1) c e) ∙ names))
names_fit (suc (suc k)) t c e names = absurd (cc)

pub two_fits : Fits two_program two_image
unfolding two_program two_image regions
two_fits = record { messages = refl; variables = vars_fit; lengths = lengths_fit; named = names_fit }

pub all_compiled : (messages : Messages) → AreMessages two_program.chains messages → IsCompiled two_program two_image messages (sourced messages)
unfolding two_program
all_compiled [] are = absurd are
all_compiled (a ∷ []) are = absurd are.1
all_compiled (a ∷ b ∷ []) are = compiled a b (are_short a b are)
all_compiled (a ∷ b ∷ d ∷ messages) are = absurd are.1.1

-- so whatever the messages and the order, the image does what the program says
pub two_chains_are_faithful : Faithful two_program two_image
two_chains_are_faithful = compiled_is_faithful two_program two_image sourced two_fits all_compiled

-- What holds where no rule fails.
use Rattle.std.proofs.Common.{◌≡◌, ℕ, ◌+◌, ◌<◌, ◌≤◌, false, ◌==◌, List, [], ◌∷◌, ◌++◌, length, map, take, drop, get_or, refl, sym, ap, ◌∙◌, arith, ◌⊎◌, inl, inr}
use Rattle.std.specs.List.{flat_map}
use Rattle.std.specs.Option.{option_map_or}
use Rattle.std.proofs.lemmas.Bool.{cases_lt}
use Rattle.std.proofs.lemmas.Bool.Decides.{nat_tests}
use Rattle.std.proofs.lemmas.List.{append-nil, length-map, length-take-le, get_or_default}
use Rattle.std.proofs.lemmas.List.Concat.{flat_map-append}
use Rattle.std.proofs.lemmas.Option.{slice_get-get_or}
use Rattle.redn_syntax.specs.declared.tree.Name.{Name}
use Rattle.redn_syntax.specs.declared.tree.Table.{Table}
use Rattle.redn_syntax.specs.declared.tree.Chain.{Chain}
use Rattle.redn_syntax.specs.declared.tree.File.{File}
use Rattle.redn_syntax.specs.declared.tree.Stmt.{Stmt}
use Rattle.redn_check.specs.declared.fault.Fault.{Fault}
use Rattle.redn_check.specs.Faults.{fault, when}
use Rattle.redn_check.specs.Statements.{with_earlier, each_of}
use Rattle.redn_check.specs.Names.{table_names, chain_names, variables}
use Rattle.redn_check.specs.Rules.{twice, one_too_many, number_faults, statement_faults, control_faults, chain_faults, bad_serve, bad_length, bad_items, table_faults, too_heavy, weights, Accepts}
use Rattle.redn_check.proofs.Nothing.{nil_left, nil_right, when_none}
use Rattle.redn_check.proofs.Behind.{with_earlier-append, behind_one, behind_all, split_at}

module _ {X Y : Type 0} where
  -- at each element
  pub none_there : (g : X → List Y) (xs : List X) (i : ℕ) (x : X) → i < length xs → x ≡ get_or xs i x → flat_map g xs ≡ [] → g x ≡ []
  none_there g xs i x h e none =
      let whole = sym (flat_map-append g (take i xs) (x ∷ drop (i + 1) xs)) ∙ ap (flat_map g) (sym (split_at xs i x h e)) ∙ none in
      nil_left (g x) (flat_map g (drop (i + 1) xs)) (nil_right (flat_map g (take i xs)) _ whole)

  pub none_behind : (g : List X × X → List Y) (xs : List X) (i : ℕ) (x : X) → i < length xs → x ≡ get_or xs i x → flat_map g (with_earlier xs) ≡ [] → g (take i xs, x) ≡ []
  none_behind g xs i x h e none =
      let rest = map (behind_all (take i xs)) (map (behind_one x) (with_earlier (drop (i + 1) xs))) in
      let whole : flat_map g (with_earlier (take i xs) ++ ((take i xs ++ [], x) ∷ rest)) ≡ [] =
      ap (flat_map g) (sym (with_earlier-append (take i xs) (x ∷ drop (i + 1) xs))) ∙ ap (λ l. flat_map g (with_earlier l)) (sym (split_at xs i x h e)) ∙ none
      in
      let later = nil_right (flat_map g (with_earlier (take i xs))) _ (sym (flat_map-append g (with_earlier (take i xs)) ((take i xs ++ [], x) ∷ rest)) ∙ whole) in
      ap (λ l. g (l, x)) (sym (append-nil (take i xs))) ∙ nil_left _ (flat_map g rest) later

  pub none_of_part : {Z : Type 0} (g : X → List Y) (h : X → List Z) → ((x : X) → g x ≡ [] → h x ≡ []) → (xs : List X) → flat_map g xs ≡ [] → flat_map h xs ≡ []
  none_of_part g h part [] none = refl
  none_of_part g h part (x ∷ xs) none =
      (λ j. part x (nil_left (g x) (flat_map g xs) none) j ++ none_of_part g h part xs (nil_right (g x) (flat_map g xs) none) j)

pub few : (rule most : ℕ) (places : List ℕ) → one_too_many rule most places ≡ [] → length places ≤ most
few rule most places none = by (cases_lt most (length places))
  where
    by : (most < length places) ⊎ (length places ≤ most) → length places ≤ most
    by (inl h) = let e = ap (λ o. option_map_or (λ at. fault rule at (most + 1) ∷ []) o []) (sym (slice_get-get_or places most 0 h)) ∙ none in cc
    by (inr h) = h

pub blank : Table
blank = record { name = record { text = []; at = 0 }; length = record { value = 0; at = 0 }; writable = false; items = [] }

module _ (tables : List Table) (none : flat_map (λ e. table_faults e.0 e.1) (with_earlier tables) ≡ []) where
  at_table : (i : ℕ) (t : Table) → i < length tables → t ≡ get_or tables i t → table_faults (take i tables) t ≡ []
  at_table i t h e = none_behind (λ x. table_faults x.0 x.1) tables i t h e none

  pub placed_items : (i : ℕ) (t : Table) → i < length tables → t ≡ get_or tables i t → bad_items t ≡ []
  placed_items i t h e = nil_right _ (bad_items t) (at_table i t h e)

  pub good_length : (i : ℕ) (t : Table) → i < length tables → t ≡ get_or tables i t → bad_length (take i tables) t ≡ []
  good_length i t h e = nil_right _ (bad_length (take i tables) t) (nil_left _ (bad_items t) (at_table i t h e))

  pub few_tables : length tables ≤ 64
  few_tables = by (cases_lt 64 (length tables))
    where
      by : (64 < length tables) ⊎ (length tables ≤ 64) → length tables ≤ 64
      by (inl h) =
          let t = get_or tables 64 blank in
          let many = nil_left (when (length (take 64 tables) == 64) (fault 12 t.name.at 65)) _ (nil_left _ (bad_items t) (at_table 64 t h (get_or_default tables 64 blank t h))) in
          let test = when_none (length (take 64 tables) == 64) (fault 12 t.name.at 65) many in
          let size = length-take-le 64 tables (omega arith) in
          absurd (grind (arith, nat_tests))
      by (inr h) = h

module _ (f : File) (accepted : Accepts f) where
  front : twice (table_names f.tables) ++ flat_map (λ e. table_faults e.0 e.1) (with_earlier f.tables) ++ twice (chain_names f.chains) ++ one_too_many 9 16 (map (λ (c : Chain). c.name.at) f.chains) ++ flat_map (chain_faults f.tables) f.chains ≡ []
  front = nil_left _ (too_heavy (flat_map weights f.chains)) accepted

  pub light : too_heavy (flat_map weights f.chains) ≡ []
  light = nil_right _ (too_heavy (flat_map weights f.chains)) accepted

  pub good_chains : flat_map (chain_faults f.tables) f.chains ≡ []
  good_chains = nil_right _ (flat_map (chain_faults f.tables) f.chains) front

  names : twice (table_names f.tables) ++ flat_map (λ e. table_faults e.0 e.1) (with_earlier f.tables) ++ twice (chain_names f.chains) ++ one_too_many 9 16 (map (λ (c : Chain). c.name.at) f.chains) ≡ []
  names = nil_left _ (flat_map (chain_faults f.tables) f.chains) front

  pub few_chains : length f.chains ≤ 16
  few_chains =
      let places = map (λ (c : Chain). c.name.at) f.chains in
      let most = few 9 16 places (nil_right _ (one_too_many 9 16 places) names) in
      let size = length-map f.chains (λ (c : Chain). c.name.at) in
      omega arith

  pub good_tables : flat_map (λ e. table_faults e.0 e.1) (with_earlier f.tables) ≡ []
  good_tables =
      nil_right (twice (table_names f.tables)) _ (nil_left _ (twice (chain_names f.chains)) (nil_left _ (one_too_many 9 16 (map (λ (c : Chain). c.name.at) f.chains)) names))

module _ (tables : List Table) (c : Chain) (none : chain_faults tables c ≡ []) where
  abbrev own : Stmt → List Fault
  own = statement_faults tables (variables c)

  pub controlled : control_faults c ≡ []
  controlled = nil_right _ (control_faults c) none

  rest : twice (variables c) ++ one_too_many 10 8 (map (λ (n : Name). n.at) c.args) ++ one_too_many 11 256 (map (λ (n : Name). n.at) (variables c)) ++ bad_serve c ++ flat_map own (each_of c.body) ≡ []
  rest = nil_left _ (control_faults c) none

  pub good_statements : flat_map own (each_of c.body) ≡ []
  good_statements = nil_right _ (flat_map own (each_of c.body)) rest

  front_of_rest : twice (variables c) ++ one_too_many 10 8 (map (λ (n : Name). n.at) c.args) ++ one_too_many 11 256 (map (λ (n : Name). n.at) (variables c)) ++ bad_serve c ≡ []
  front_of_rest = nil_left _ (flat_map own (each_of c.body)) rest

  pub good_serve : bad_serve c ≡ []
  good_serve = nil_right _ (bad_serve c) front_of_rest

  pub few_variables : length (variables c) ≤ 256
  few_variables =
      let places = map (λ (n : Name). n.at) (variables c) in
      let most = few 11 256 places (nil_right _ (one_too_many 11 256 places) (nil_left _ (bad_serve c) front_of_rest)) in
      let size = length-map (variables c) (λ (n : Name). n.at) in
      omega arith

  pub few_arguments : length c.args ≤ 8
  few_arguments =
      let places = map (λ (n : Name). n.at) c.args in
      let most = few 10 8 places (nil_right (twice (variables c)) _ (nil_left _ (one_too_many 11 256 (map (λ (n : Name). n.at) (variables c))) (nil_left _ (bad_serve c) front_of_rest))) in
      let size = length-map c.args (λ (n : Name). n.at) in
      omega arith

  pub good_numbers : flat_map number_faults (each_of c.body) ≡ []
  good_numbers = none_of_part own number_faults (λ s none_s. nil_right _ (number_faults s) none_s) (each_of c.body) good_statements

-- The numbers of names that are declared.
use Rattle.std.proofs.Common.{◌≡◌, ◌≢◌, ℕ, ◌<◌, Bool, true, false, not, ◌||◌, List, [], ◌∷◌, ◌++◌, length, map, get_or, Option, Some, None, is_some, slice_get, unwrap_or, refl, sym, ap, ◌∙◌, arith}
use Rattle.std.specs.Prelude.{All}
use Rattle.std.specs.List.{flat_map, list_any}
use Rattle.std.specs.Str.{bytes_eq}
use Rattle.std.specs.Option.{option_map}
use Rattle.std.proofs.lemmas.Bool.{false≢true}
use Rattle.std.proofs.lemmas.List.{length-map}
use Rattle.std.proofs.lemmas.List.Concat.{flat_map-append}
use Rattle.std.proofs.lemmas.List.Elements.{All-nil, All-cons}
use Rattle.std.proofs.lemmas.List.Folds.{list_any-append}
use Rattle.std.proofs.lemmas.List.Quantifiers.{position-Some}
use Rattle.std.proofs.lemmas.Option.{slice_get-map, slice_get-get_or}
use Rattle.std.proofs.lemmas.Slice.Eq.{bytes_eq-Decides}
use Rattle.redn_syntax.specs.declared.tree.Name.{Name}
use Rattle.redn_syntax.specs.declared.tree.Operand.{Operand}
use Rattle.redn_syntax.specs.declared.tree.Operand.TheVariants as operand
use Rattle.redn_syntax.specs.declared.tree.Table.{Table}
use Rattle.redn_kernel.specs.declared.types.Word.TheVariants.{Var}
use Rattle.redn_kernel.specs.Program.{IsNamed, is_writable}
use Rattle.redn_check.specs.Faults.{fault, when}
use Rattle.redn_check.specs.Names.{place_of, declares, table_names, table_of, named}
use Rattle.redn_check.specs.Rules.{undeclared, is_read_only, written_over}
use Rattle.redn_check.specs.Numbering.{number_of, word_of, table_init}
use Rattle.redn_check.proofs.Nothing.{nil_left, nil_right, when_none}
use Rattle.redn_check.proofs.Places.{found_table}
use Rattle.redn_check.proofs.Accepted.{blank}

some_of : (o : Option ℕ) → is_some o ≡ true → o ≡ Some (unwrap_or o 0)
some_of None e = cc
some_of (Some x) e = refl

not_false : (b : Bool) → not b ≡ false → b ≡ true
not_false true e = refl
not_false false e = cc

module _ (names : List Name) where
  module _ (n : Name) (here : declares names n ≡ true) where
    pub place_is : place_of names n.text ≡ Some (number_of names n)
    place_is = some_of (place_of names n.text) here

    pub number_below : number_of names n < length names
    number_below = (position-Some (λ m. bytes_eq n.text m.text) names (number_of names n) n place_is).0

    text_is : (d : Name) → n.text ≡ (get_or names (number_of names n) d).text
    text_is d = (bytes_eq-Decides n.text _).0 (position-Some (λ m. bytes_eq n.text m.text) names (number_of names n) d place_is).1

  pub same_number : (a b : Name) → declares names a ≡ true → declares names b ≡ true → number_of names b ≡ number_of names a → bytes_eq a.text b.text ≡ true
  same_number a b here there e = (bytes_eq-Decides a.text b.text).1 (text_is a here a ∙ ap (λ k. (get_or names k a).text) (sym e) ∙ sym (text_is b there a))

  pub declared_first : (n : Name) (ns : List Name) → undeclared names (n ∷ ns) ≡ [] → declares names n ≡ true
  declared_first n ns none = not_false _ (when_none _ (fault 1 n.at 0) (nil_left _ (undeclared names ns) none))

  pub declared_rest : (n : Name) (ns : List Name) → undeclared names (n ∷ ns) ≡ [] → undeclared names ns ≡ []
  declared_rest n ns none = nil_right (when (not (declares names n)) (fault 1 n.at 0)) _ none

  split : (ns ms : List Name) → undeclared names (ns ++ ms) ≡ [] → undeclared names ns ++ undeclared names ms ≡ []
  split ns ms none = sym (flat_map-append (λ n. when (not (declares names n)) (fault 1 n.at 0)) ns ms) ∙ none

  pub declared_left : (ns ms : List Name) → undeclared names (ns ++ ms) ≡ [] → undeclared names ns ≡ []
  declared_left ns ms none = nil_left _ (undeclared names ms) (split ns ms none)

  pub declared_right : (ns ms : List Name) → undeclared names (ns ++ ms) ≡ [] → undeclared names ms ≡ []
  declared_right ns ms none = nil_right (undeclared names ns) _ (split ns ms none)

  pub word_named : (o : Operand) → undeclared names (named o) ≡ [] → IsNamed (length names) (word_of names o)
  word_named (operand.Name n) none = number_below n (declared_first n [] none)
  word_named (operand.Num n) none = tt

  pub words_named : (words : List Operand) → undeclared names (flat_map named words) ≡ [] → All (IsNamed (length names)) (map (word_of names) words)
  words_named [] none = All-nil (IsNamed (length names))
  words_named (w ∷ words) none =
      All-cons (IsNamed (length names)) (word_of names w) (map (word_of names) words) (word_named w (declared_left (named w) (flat_map named words) none))
      (words_named words (declared_right (named w) (flat_map named words) none))

  -- what isn't written over is another variable
  module _ (to : Name) (here : declares names to ≡ true) where
    pub other_variable : (o : Operand) → undeclared names (named o) ≡ [] → list_any (λ n. bytes_eq to.text n.text) (named o) ≡ false → word_of names o ≢ Var (number_of names to)
    other_variable (operand.Name n) none apart e =
        let same : number_of names n ≡ number_of names to = cc in
        let equal = same_number to n here (declared_first n [] none) same in
        false≢true (sym apart ∙ ap (λ b. b || false) equal)
    other_variable (operand.Num n) none apart e = cc

or_left : (a b : Bool) → (a || b) ≡ false → a ≡ false
or_left true b e = e
or_left false b e = refl

or_right : (a b : Bool) → (a || b) ≡ false → b ≡ false
or_right true b e = cc
or_right false b e = e

-- the target of a search is neither its offset nor its key
module _ (to : Name) (offset key : Operand) (none : written_over to offset key ≡ []) where
  abbrev same_name : Name → Bool
  same_name n = bytes_eq to.text n.text

  neither : (list_any same_name (named offset) || list_any same_name (named key)) ≡ false
  neither = sym (list_any-append same_name (named offset) (named key)) ∙ when_none _ (fault 8 to.at 0) none

  pub apart_offset : list_any same_name (named offset) ≡ false
  apart_offset = or_left _ (list_any same_name (named key)) neither

  pub apart_key : list_any same_name (named key) ≡ false
  apart_key = or_right (list_any same_name (named offset)) _ neither

module _ (tables : List Table) (n : Name) (here : declares (table_names tables) n ≡ true) where
  pub table_below : number_of (table_names tables) n < length (map table_init tables)
  table_below =
      let below = number_below (table_names tables) n here in
      let a = length-map tables (λ t. t.name) in
      let b = length-map tables table_init in
      omega arith

  pub table_written : is_read_only (table_of tables n) ≡ false → is_writable (slice_get (map table_init tables) (number_of (table_names tables) n)) ≡ true
  table_written writable =
      let T = table_names tables in
      let k = number_of T n in
      let found = found_table tables n k (place_is T n here) in
      let below = number_below T n here in
      let size = length-map tables (λ t. t.name) in
      let there = slice_get-get_or tables k blank (omega arith) in
      let same = sym found ∙ there in
      let rw_test : not (get_or tables k blank).writable ≡ false = ap is_read_only (sym same) ∙ writable in
      ap is_writable (slice_get-map table_init tables k ∙ ap (option_map table_init) there) ∙ not_false _ rw_test

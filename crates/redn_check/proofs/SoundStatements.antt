-- Statements in which no rule fails are sound with numbers in place of names.
use Rattle.std.proofs.Common.{◌≡◌, ◌≤◌, List, [], ◌∷◌, ◌++◌, length, map, refl, sym, ap, ◌∙◌, subst, arith}
use Rattle.std.specs.Prelude.{All}
use Rattle.std.specs.List.{flat_map}
use Rattle.std.proofs.lemmas.List.{length-map}
use Rattle.std.proofs.lemmas.List.Concat.{flat_map-append}
use Rattle.std.proofs.lemmas.List.Elements.{All-nil, All-cons}
use Rattle.redn_syntax.specs.declared.tree.Name.{Name}
use Rattle.redn_syntax.specs.declared.tree.Operand.{Operand}
use Rattle.redn_syntax.specs.declared.tree.Table.{Table}
use Rattle.redn_syntax.specs.declared.tree.Stmt.{Stmt}
use Rattle.redn_syntax.specs.declared.tree.StmtKind.{StmtKind}
use Rattle.redn_syntax.specs.declared.tree.StmtKind.TheOpen.{StmtKind-F}
use Rattle.redn_kernel.specs.declared.types.Kernel.{Kernel, every-Kernel}
use Rattle.redn_kernel.specs.declared.types.Kernel.TheVariants as k
use Rattle.redn_kernel.specs.declared.types.Kernel.TheOpen.{Kernel-F}
use Rattle.redn_kernel.specs.Program.{IsSearch, IsSoundStatement}
use Rattle.redn_kernel.proofs.Cases.{every_of}
use Rattle.redn_check.specs.declared.fault.Fault.{Fault}
use Rattle.redn_check.specs.Faults.{fault, when}
use Rattle.redn_check.specs.Statements.{layer_of, blocks, inner, with_inner, each_of, is_idle_body}
use Rattle.redn_check.specs.Names.{table_names, named}
use Rattle.redn_check.specs.Rules.{undeclared, variables_in, tables_in, read_only, overwritten, written_over, out_of_range, number_faults, statement_faults, unreached, idle_loop, flow_faults, place_of_operand}
use Rattle.redn_check.specs.Numbering.{number_of, word_of, kernel_of, table_init}
use Rattle.redn_check.proofs.Nothing.{nil_left, nil_right, when_none}
use Rattle.redn_check.proofs.Inner.{Each, Each-left, Each-right, by_inner}
use Rattle.redn_check.proofs.Gathered.{in_body, in_body-append, in_statement}
use Rattle.redn_check.proofs.Numbered.{outside_most, outside_least, kernel_move, kernel_add, kernel_load, kernel_store, kernel_if, kernel_loop, kernel_repeat, kernel_break, kernel_lookup, kernel_walk, kernel_reply}
use Rattle.redn_check.proofs.Accepted.{few}
use Rattle.redn_check.proofs.Carried.{same_idle_body}
use Rattle.redn_check.proofs.SoundNames.{number_below, declared_first, declared_rest, declared_left, declared_right, word_named, words_named, other_variable, apart_offset, apart_key, table_below, table_written}
use Rattle.redn_check.proofs.SoundFlow.{is_reached}
use Rattle.redn_check.proofs.Worded.{wordless, no_word}

some_word : (words : List Operand) → no_word {A = StmtKind} {B = Stmt} (StmtKind-F.Reply words) ≡ [] → 1 ≤ length words
some_word [] e = cc
some_word (w ∷ words) e = omega arith

module _ (tables : List Table) (names : List Name) where
  abbrev T : List Name
  T = table_names tables

  abbrev K : Stmt → Kernel
  K = kernel_of T names

  abbrev Q : Kernel-F Kernel → Type 0
  Q = IsSoundStatement (map table_init tables) (length names)

  abbrev Sound : Kernel → Type 0
  Sound = every-Kernel Q

  abbrev own : Stmt → List Fault
  own = statement_faults tables names

  -- no rule fails in the statements of a list and of its blocks
  pub record Fine (body : List Stmt) : Type 0 where
    pub own_none : in_body own body ≡ []
    pub flow_none : in_body flow_faults body ≡ []
    pub worded : in_body wordless body ≡ []

  -- what holds of one statement
  record FineAt (s : Stmt) (layer : StmtKind-F StmtKind Stmt) : Type 0 where
    variables : undeclared names (variables_in layer) ≡ []
    used_tables : undeclared T (tables_in layer) ≡ []
    stores : read_only tables layer ≡ []
    targets : overwritten layer ≡ []
    numbers : out_of_range layer ≡ []
    flows : idle_loop s.at layer ++ flat_map unreached (blocks layer) ≡ []
    worded : no_word layer ≡ []
    rest : Fine (inner layer)

  fine_at : (s : Stmt) (layer : StmtKind-F StmtKind Stmt) → layer_of s ≡ layer → flat_map own (with_inner s) ≡ [] → flat_map flow_faults (with_inner s) ≡ [] → flat_map wordless (with_inner s) ≡ [] → FineAt s layer
  fine_at s layer e a b d =
      let a' = sym (in_statement own s layer e) ∙ a in
      let b' = sym (in_statement flow_faults s layer e) ∙ b in
      let d' = sym (in_statement wordless s layer e) ∙ d in
      let here = nil_left (own s) _ a' in
      let four = nil_left _ (number_faults s) here in
      let three = nil_left _ (overwritten (layer_of s)) four in
      let two = nil_left _ (read_only tables (layer_of s)) three in
      record {
        variables = ap (λ l. undeclared names (variables_in l)) (sym e) ∙ nil_left _ (undeclared T (tables_in (layer_of s))) two;
        used_tables = ap (λ l. undeclared T (tables_in l)) (sym e) ∙ nil_right (undeclared names (variables_in (layer_of s))) _ two;
        stores = ap (read_only tables) (sym e) ∙ nil_right _ (read_only tables (layer_of s)) three;
        targets = ap overwritten (sym e) ∙ nil_right _ (overwritten (layer_of s)) four;
        numbers = ap out_of_range (sym e) ∙ nil_right _ (number_faults s) here;
        flows = ap (λ l. idle_loop s.at l ++ flat_map unreached (blocks l)) (sym e) ∙ nil_left (flow_faults s) _ b';
        worded = ap no_word (sym e) ∙ nil_left (wordless s) _ d';
        rest = record { own_none = nil_right (own s) _ a'; flow_none = nil_right (flow_faults s) _ b'; worded = nil_right (wordless s) _ d' };
      }

  fine_left : (xs ys : List Stmt) → Fine (xs ++ ys) → Fine xs
  fine_left xs ys f = record {
    own_none = nil_left _ (in_body own ys) (sym (in_body-append own xs ys) ∙ f.own_none);
    flow_none = nil_left _ (in_body flow_faults ys) (sym (in_body-append flow_faults xs ys) ∙ f.flow_none);
    worded = nil_left _ (in_body wordless ys) (sym (in_body-append wordless xs ys) ∙ f.worded);
  }

  fine_right : (xs ys : List Stmt) → Fine (xs ++ ys) → Fine ys
  fine_right xs ys f = record {
    own_none = nil_right (in_body own xs) _ (sym (in_body-append own xs ys) ∙ f.own_none);
    flow_none = nil_right (in_body flow_faults xs) _ (sym (in_body-append flow_faults xs ys) ∙ f.flow_none);
    worded = nil_right (in_body wordless xs) _ (sym (in_body-append wordless xs ys) ∙ f.worded);
  }

  abbrev IsFineSound : Stmt → Type 0
  IsFineSound s = flat_map own (with_inner s) ≡ [] → flat_map flow_faults (with_inner s) ≡ [] → flat_map wordless (with_inner s) ≡ [] → Sound (K s)

  each_sound : (body : List Stmt) → Each IsFineSound body → Fine body → Each (λ s. Sound (K s)) body
  each_sound [] h f = tt
  each_sound (s ∷ body) h f =
      let a = sym (flat_map-append own (with_inner s) (each_of body)) ∙ f.own_none in
      let b = sym (flat_map-append flow_faults (with_inner s) (each_of body)) ∙ f.flow_none in
      let d = sym (flat_map-append wordless (with_inner s) (each_of body)) ∙ f.worded in
      let rest : Fine body = record { own_none = nil_right (flat_map own (with_inner s)) _ a; flow_none = nil_right (flat_map flow_faults (with_inner s)) _ b; worded = nil_right (flat_map wordless (with_inner s)) _ d } in
      (h.0 (nil_left _ (in_body own body) a) (nil_left _ (in_body flow_faults body) b) (nil_left _ (in_body wordless body) d), each_sound body h.1 rest)

  abbrev Held : Type 0
  Held = (x : Kernel) × Sound x

  pairs : (body : List Stmt) → Each (λ s. Sound (K s)) body → List Held
  pairs [] h = []
  pairs (s ∷ body) h = (K s, h.0) ∷ pairs body h.1

  pairs_are : (body : List Stmt) (h : Each (λ s. Sound (K s)) body) → map (λ (e : Held). e.0) (pairs body h) ≡ map K body
  unfolding pairs
  pairs_are [] h = refl
  pairs_are (s ∷ body) h = ap (λ l. K s ∷ l) (pairs_are body h.1)

  search_sound : (to table : Name) (offset key : Operand) → undeclared names (to ∷ (named offset ++ named key)) ≡ [] → undeclared T (table ∷ []) ≡ [] → written_over to offset key ≡ [] →
      IsSearch (map table_init tables) (length names) (number_of names to) (number_of T table) (word_of names offset) (word_of names key)
  search_sound to table offset key vars ts apart =
      let here = declared_first names to _ vars in
      let both = declared_rest names to _ vars in
      let o = declared_left names (named offset) (named key) both in
      let q = declared_right names (named offset) (named key) both in (
        number_below names to here,
        table_below tables table (declared_first T table [] ts),
        word_named names offset o,
        word_named names key q,
        other_variable names to here offset o (apart_offset to offset key apart),
        other_variable names to here key q (apart_key to offset key apart),
      )

  sound_at : (s : Stmt) (layer : StmtKind-F StmtKind Stmt) → layer_of s ≡ layer → Each IsFineSound (inner layer) → FineAt s layer → Sound (K s)
  unfolding IsSoundStatement
  sound_at s (StmtKind-F.Move to from) e h f =
      let layer : Kernel-F Kernel = Kernel-F.Move (number_of names to) (word_of names from) in
      let held : Kernel-F Held = Kernel-F.Move (number_of names to) (word_of names from) in
      let fact : Q layer = (number_below names to (declared_first names to _ f.variables), word_named names from (declared_rest names to _ f.variables)) in
      subst Sound (sym (kernel_move T names s to from e)) (every_of Q _ layer held (k.outs-Move _ _) refl fact)
  sound_at s (StmtKind-F.Add to by) e h f =
      let layer : Kernel-F Kernel = Kernel-F.Add (number_of names to) (word_of names by) in
      let held : Kernel-F Held = Kernel-F.Add (number_of names to) (word_of names by) in
      let fact : Q layer = (number_below names to (declared_first names to _ f.variables), word_named names by (declared_rest names to _ f.variables)) in
      subst Sound (sym (kernel_add T names s to by e)) (every_of Q _ layer held (k.outs-Add _ _) refl fact)
  sound_at s (StmtKind-F.Load to table offset) e h f =
      let layer : Kernel-F Kernel = Kernel-F.Load (number_of names to) (number_of T table) (word_of names offset) in
      let held : Kernel-F Held = Kernel-F.Load (number_of names to) (number_of T table) (word_of names offset) in
      let there = table_below tables table (declared_first T table [] f.used_tables) in
      let fact : Q layer = (number_below names to (declared_first names to _ f.variables), there, word_named names offset (declared_rest names to _ f.variables)) in
      subst Sound (sym (kernel_load T names s to table offset e)) (every_of Q _ layer held (k.outs-Load _ _ _) refl fact)
  sound_at s (StmtKind-F.Store table offset from) e h f =
      let layer : Kernel-F Kernel = Kernel-F.Store (number_of T table) (word_of names offset) (word_of names from) in
      let held : Kernel-F Held = Kernel-F.Store (number_of T table) (word_of names offset) (word_of names from) in
      let there = table_written tables table (declared_first T table [] f.used_tables) (when_none _ (fault 3 table.at 0) f.stores) in
      let fact : Q layer = (there, word_named names offset (declared_left names (named offset) (named from) f.variables), word_named names from (declared_right names (named offset) (named from) f.variables)) in
      subst Sound (sym (kernel_store T names s table offset from e)) (every_of Q _ layer held (k.outs-Store _ _ _) refl fact)
  sound_at s (StmtKind-F.If wide left right met unmet) e h f =
      let fine_met = fine_left met (unmet ++ []) f.rest in
      let fine_unmet = fine_left unmet [] (fine_right met (unmet ++ []) f.rest) in
      let m = each_sound met (Each-left IsFineSound met (unmet ++ []) h) fine_met in
      let u = each_sound unmet (Each-left IsFineSound unmet [] (Each-right IsFineSound met (unmet ++ []) h)) fine_unmet in
      let a = word_of names left in
      let b = word_of names right in
      let met_reached = is_reached T names met (nil_left (unreached met) _ f.flows) in
      let unmet_reached = is_reached T names unmet (nil_left (unreached unmet) [] (nil_right (unreached met) _ f.flows)) in
      let fact : Q (Kernel-F.If wide a b (map K met) (map K unmet)) = (word_named names left (declared_left names (named left) (named right) f.variables), word_named names right (declared_right names (named left) (named right) f.variables), met_reached, unmet_reached) in
      subst Sound (sym (kernel_if T names s wide left right met unmet e))
      (every_of Q _ (Kernel-F.If wide a b (map K met) (map K unmet)) (Kernel-F.If wide a b (pairs met m) (pairs unmet u)) (k.outs-If _ _ _ _ _) (λ j. Kernel-F.If wide a b (pairs_are met m j) (pairs_are unmet u j)) fact)
  sound_at s (StmtKind-F.Loop body) e h f =
      let held = each_sound body (Each-left IsFineSound body [] h) (fine_left body [] f.rest) in
      let idle = when_none (is_idle_body body) (fault 7 s.at 0) (nil_left _ (unreached body ++ []) f.flows) in
      let here = is_reached T names body (nil_left (unreached body) [] (nil_right (when (is_idle_body body) (fault 7 s.at 0)) _ f.flows)) in
      subst Sound (sym (kernel_loop T names s body e))
      (every_of Q _ (Kernel-F.Loop (map K body)) (Kernel-F.Loop (pairs body held)) (k.outs-Loop _) (ap Kernel-F.Loop (pairs_are body held)) (here, same_idle_body T names body ∙ idle))
  sound_at s (StmtKind-F.Repeat count body) e h f =
      let held = each_sound body (Each-left IsFineSound body [] h) (fine_left body [] f.rest) in
      let here = is_reached T names body (nil_left (unreached body) [] f.flows) in
      let n = count.value in
      subst Sound (sym (kernel_repeat T names s count body e))
      (every_of Q _ (Kernel-F.Repeat n (map K body)) (Kernel-F.Repeat n (pairs body held)) (k.outs-Repeat _ _) (ap (Kernel-F.Repeat n) (pairs_are body held))
      (outside_least 13 1 4294967295 count f.numbers, outside_most 13 1 4294967295 count f.numbers, here))
  sound_at s StmtKind-F.Break e h f = subst Sound (sym (kernel_break T names s e)) (every_of Q _ Kernel-F.Break Kernel-F.Break k.outs-Break refl tt)
  sound_at s (StmtKind-F.Lookup to table offset key probes) e h f =
      let layer : Kernel-F Kernel = Kernel-F.Lookup (number_of names to) (number_of T table) (word_of names offset) (word_of names key) probes.value in
      let held : Kernel-F Held = Kernel-F.Lookup (number_of names to) (number_of T table) (word_of names offset) (word_of names key) probes.value in
      let fact : Q layer = (search_sound to table offset key f.variables f.used_tables f.targets, outside_least 13 1 4 probes f.numbers, outside_most 13 1 4 probes f.numbers) in
      subst Sound (sym (kernel_lookup T names s to table offset key probes e)) (every_of Q _ layer held (k.outs-Lookup _ _ _ _ _) refl fact)
  sound_at s (StmtKind-F.Walk to table offset key nodes) e h f =
      let layer : Kernel-F Kernel = Kernel-F.Walk (number_of names to) (number_of T table) (word_of names offset) (word_of names key) nodes.value in
      let held : Kernel-F Held = Kernel-F.Walk (number_of names to) (number_of T table) (word_of names offset) (word_of names key) nodes.value in
      let fact : Q layer = (search_sound to table offset key f.variables f.used_tables f.targets, outside_least 13 1 65535 nodes f.numbers, outside_most 13 1 65535 nodes f.numbers) in
      subst Sound (sym (kernel_walk T names s to table offset key nodes e)) (every_of Q _ layer held (k.outs-Walk _ _ _ _ _) refl fact)
  sound_at s (StmtKind-F.Reply words) e h f =
      let layer : Kernel-F Kernel = Kernel-F.Reply (map (word_of names) words) in
      let held : Kernel-F Held = Kernel-F.Reply (map (word_of names) words) in
      let places = few 13 8 (map place_of_operand words) f.numbers in
      let size = length-map words place_of_operand in
      let numbers = length-map words (word_of names) in
      let least = some_word words f.worded in
      let fact : Q layer = (words_named names words f.variables, omega arith, omega arith) in
      subst Sound (sym (kernel_reply T names s words e)) (every_of Q _ layer held (k.outs-Reply _) refl fact)

  sound_statement : (s : Stmt) → IsFineSound s
  sound_statement = by_inner IsFineSound (λ s h a b d. sound_at s (layer_of s) refl h (fine_at s (layer_of s) refl a b d))

  each_fine_sound : (body : List Stmt) → Each IsFineSound body
  each_fine_sound [] = tt
  each_fine_sound (s ∷ body) = (sound_statement s, each_fine_sound body)

  all_sound : (body : List Stmt) → Each (λ s. Sound (K s)) body → All Sound (map K body)
  all_sound [] h = All-nil Sound
  all_sound (s ∷ body) h = All-cons Sound (K s) (map K body) h.0 (all_sound body h.1)

  pub statements_sound : (body : List Stmt) → Fine body → All Sound (map K body)
  statements_sound body f = all_sound body (each_sound body (each_fine_sound body) f)

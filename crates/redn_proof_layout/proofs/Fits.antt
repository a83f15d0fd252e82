-- A placed image has a place for all that its program names.
use Rattle.std.proofs.Common.{◌≡◌, ℕ, suc, ◌+◌, ◌*◌, ◌==◌, List, [], ◌∷◌, length, map, Some, refl, sym, ap, ◌∙◌, subst, arith}
use Rattle.std.specs.Prelude.{slice_get}
use Rattle.std.specs.Option.{option_map}
use Rattle.std.specs.List.{All, list_any}
use Rattle.std.proofs.lemmas.Option.{get_or_from_slice_get}
use Rattle.redn_words.specs.declared.types.Region.{Region}
use Rattle.redn_words.specs.declared.types.Receive.{Receive}
use Rattle.redn_kernel.specs.declared.types.TableInit.{TableInit}
use Rattle.redn_kernel.specs.declared.types.ChainInit.{ChainInit}
use Rattle.redn_kernel.specs.declared.types.Program.{Program}
use Rattle.redn_kernel.specs.Program.{IsSoundChain}
use Rattle.redn_graph.specs.declared.types.Graph.{Graph}
use Rattle.redn_image.specs.Rules.{Image}
use Rattle.redn_image.specs.Agreement.{Fits, HasTableLength, variables_of, places_of}
use Rattle.redn_emit.specs.Layout.{ChainPlan, TablePlan, receive, code_slots, data_len}
use Rattle.redn_emit.specs.Placed.{chain_rings, chains_from, plan_at as placed_at, plans_from, tables_base, tables, IsPlaced}
use Rattle.redn_proof_layout.specs.PlacedLaws.{AreSound}
use Rattle.redn_proof_layout.proofs.Tables.{table_is, place_inside}
use Rattle.redn_proof_layout.proofs.Whole.{all_at}
use Rattle.redn_proof_layout.specs.Chains.{no_chain, plan_at, graph_at, table_at}
use Rattle.redn_proof_layout.proofs.Its.{Its, its}
use Rattle.redn_proof_layout.proofs.Shelves.{table_there}
use Rattle.redn_proof_layout.proofs.ImageNames.{named_there}
use Rattle.redn_proof_layout.proofs.RegionRows.{variables_are, all_rows, some_place}

messages_fit : (tables number code control first : ℕ) (cs : List ChainInit) (gs : List Graph) → length gs ≡ length cs → map (λ (r : Receive). r.len) (map receive (plans_from tables number code control (chains_from first cs gs))) ≡ map (λ (c : ChainInit). 8 * c.args) cs
messages_fit tables number code control first [] gs same = refl
messages_fit tables number code control first (c ∷ cs) [] same = absurd (omega (arith, same))
messages_fit tables number code control first (c ∷ cs) (g ∷ gs) same =
    let plan : ChainPlan = placed_at tables number code control (chain_rings first c g) in
    ap (λ (l : List ℕ). 8 * c.args ∷ l) (messages_fit tables (suc number) (code + 64 * code_slots plan.rings) (control + data_len plan) (first + length g.blocks) cs gs (omega (arith, same)))

module _ (p : Program) (graphs : List Graph) (are : AreSound p graphs) (i : Image) (is : IsPlaced p graphs i) where
  -- the chain at a place is the one that was asked for
  at_place : (k : ℕ) (c : ChainInit) → slice_get p.chains k ≡ Some c → Its p graphs k (plan_at p graphs k) c (graph_at p graphs k)
  at_place k c e =
      subst (λ (x : ChainInit). Its p graphs k (plan_at p graphs k) x (graph_at p graphs k)) (get_or_from_slice_get p.chains k c no_chain e) (its p graphs are k (place_inside p.chains k c e))

  table_length : (k : ℕ) (t : TablePlan) → slice_get (tables p graphs) k ≡ Some t → option_map (λ (table : TableInit). length table.bytes) (slice_get p.tables t.number) ≡ Some (length t.bytes)
  table_length k t e =
      let at = table_is 0 (tables_base p graphs) p.tables k t e in
      let number = at.number_is in
      let here : t.number ≡ k = omega (arith, number) in
      ap (λ (n : ℕ). option_map (λ (table : TableInit). length table.bytes) (slice_get p.tables n)) here ∙ ap (option_map (λ (table : TableInit). length table.bytes)) at.init_at ∙ ap (λ (b : List ℕ). Some (length b)) (sym at.bytes_are)

  pub fits : Fits p i
  fits =
      record {
        messages = ap (map (λ (r : Receive). r.len)) is.receives_are ∙ messages_fit (length p.tables) 0 0 _ (length p.chains) p.chains graphs are.each.count;
        variables = λ k c e.
            let here = at_place k c e in
            ap (λ (rs : List Region). map (λ (r : Region). r.len) (variables_of k rs)) is.regions_are ∙ ap (map (λ (r : Region). r.len)) (variables_are p graphs are k (plan_at p graphs k) here.there) ∙ ap (λ (n : ℕ). 8 * n ∷ []) here.vars;
        lengths = subst (All (HasTableLength p.tables)) (sym is.regions_are) (all_rows p graphs are (HasTableLength p.tables) (λ n c e. (tt, tt, tt, tt)) (λ n k c t e f. table_length k t f));
        named = λ k t c e names.
            let here = at_place k c e in
            let sound = (all_at (IsSoundChain p.tables) p.chains are.sound.sound_chains k c e).statements in
            let inside = named_there p.tables c t sound names in
            let there = table_there p graphs t inside in
            let number = (table_is 0 (tables_base p graphs) p.tables t (table_at p graphs t) there).number_is in
            ap (λ (rs : List Region). list_any (λ (r : Region). r.domain == k) (places_of t rs)) is.regions_are ∙ some_place p graphs are k t (plan_at p graphs k) (table_at p graphs t) here.there there (omega (arith, number));
      }

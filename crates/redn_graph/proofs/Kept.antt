-- What is true of a chain's blocks is true of those that are kept.
use Rattle.std.proofs.Common.{◌≡◌, ℕ, ◌<◌, ◌≤◌, inl, inr, List, [], ◌∷◌, length, map, get_or, Option, Some, None, refl, sym, ap, ◌∙◌, subst, arith}
use Rattle.std.specs.Prelude.{option_map, slice_get, sum_by}
use Rattle.std.specs.List.{All}
use Rattle.std.proofs.lemmas.Option.{slice_get-map, slice_get-get_or, slice_get_within, get_or_from_slice_get}
use Rattle.std.proofs.lemmas.List.Sums.{sum_by-cons}
use Rattle.redn_kernel.specs.declared.types.ChainInit.{ChainInit}
use Rattle.redn_kernel.specs.declared.types.TableInit.{TableInit}
use Rattle.redn_graph.specs.declared.types.Instr.{Instr}
use Rattle.redn_graph.specs.declared.types.End.{End}
use Rattle.redn_graph.specs.declared.types.End.TheVariants.{Jump, Test48, Test64, Probe, Reply}
use Rattle.redn_graph.specs.declared.types.Block.{Block}
use Rattle.redn_graph.specs.declared.types.Graph.{Graph}
use Rattle.redn_graph.specs.Follows.{Follows}
use Rattle.redn_graph.specs.Fits.{Things, IsCell, IsTarget, FitsInstr, FitsEnd, IsFull, FitsBlock, FitsGraph, things_of}
use Rattle.redn_graph.specs.Slots.{instr_slots, end_slots, block_slots, all_slots, AreSmall}
use Rattle.redn_graph.specs.Reached.{renumbered, Was}
use Rattle.redn_graph.specs.Finding.{Kept, TargetsThere, EachThere, FollowsIdly}
use Rattle.redn_graph.specs.Idle.{past_idle, passed}
use Rattle.redn_graph.proofs.Renumbering.{follows_still}
use Rattle.redn_graph.proofs.Passing.{idly_past}

some_is : {a b : Block} → Some a ≡ Some b → a ≡ b
some_is e = cc

none_some : {b : Block} → None ≡ Some b → ⊥
none_some e = cc

-- the cells of an end fit
abbrev CellsFit : Things → End → Type 0
CellsFit n (Jump to) = Unit {0}
CellsFit n (Test48 left right met unmet) = IsCell n left × IsCell n right
CellsFit n (Test64 left right met unmet) = IsCell n left × IsCell n right
CellsFit n (Probe to table offset key hit miss) = IsTarget n to × (table < length n.tables) × IsCell n offset × IsCell n key
CellsFit n (Reply cells) = All (IsCell n) cells × (1 ≤ length cells) × (length cells ≤ 8)

cells_of : (n : Things) (e : End) → FitsEnd n e → CellsFit n e
cells_of n (Jump to) h = tt
cells_of n (Test48 left right met unmet) h = (h.0, h.1)
cells_of n (Test64 left right met unmet) h = (h.0, h.1)
cells_of n (Probe to table offset key hit miss) h = (h.0, h.1, h.2, h.3)
cells_of n (Reply cells) h = h

pub targets_of : (n : Things) (e : End) → FitsEnd n e → TargetsThere n.blocks e
targets_of n (Jump to) h l is = omega (arith, is, h)
targets_of n (Test48 left right met unmet) h l is = elim is [ inl e ↦ omega (arith, e, h.2) | inr e ↦ omega (arith, e, h.3) ]
targets_of n (Test64 left right met unmet) h l is = elim is [ inl e ↦ omega (arith, e, h.2) | inr e ↦ omega (arith, e, h.3) ]
targets_of n (Probe to table offset key hit miss) h l is = elim is [ inl e ↦ omega (arith, e, h.4) | inr e ↦ omega (arith, e, h.5) ]
targets_of n (Reply cells) h l is = absurd is

fits_end : (n : Things) (blocks : ℕ) (e : End) → CellsFit n e → TargetsThere blocks e → FitsEnd (record n { blocks = blocks }) e
fits_end n blocks (Jump to) h there = there to refl
fits_end n blocks (Test48 left right met unmet) h there = (h.0, h.1, there met (inl refl), there unmet (inr refl))
fits_end n blocks (Test64 left right met unmet) h there = (h.0, h.1, there met (inl refl), there unmet (inr refl))
fits_end n blocks (Probe to table offset key hit miss) h there = (h.0, h.1, h.2, h.3, there hit (inl refl), there miss (inr refl))
fits_end n blocks (Reply cells) h there = h

cells_moved : (n : Things) (f : ℕ → ℕ) (e : End) → CellsFit n e → CellsFit n (renumbered f e)
cells_moved n f (Jump to) h = h
cells_moved n f (Test48 left right met unmet) h = h
cells_moved n f (Test64 left right met unmet) h = h
cells_moved n f (Probe to table offset key hit miss) h = h
cells_moved n f (Reply cells) h = h

moved_cells : (n : Things) (f : ℕ → ℕ) (e : End) → CellsFit n (renumbered f e) → CellsFit n e
moved_cells n f (Jump to) h = h
moved_cells n f (Test48 left right met unmet) h = h
moved_cells n f (Test64 left right met unmet) h = h
moved_cells n f (Probe to table offset key hit miss) h = h
moved_cells n f (Reply cells) h = h

full_moved : (n : Things) (instrs : List Instr) (f : ℕ → ℕ) (e : End) → IsFull n instrs e → IsFull n instrs (renumbered f e)
full_moved n instrs f (Jump to) h = h
full_moved n instrs f (Test48 left right met unmet) h = h
full_moved n instrs f (Test64 left right met unmet) h = h
full_moved n instrs f (Probe to table offset key hit miss) h = h
full_moved n instrs f (Reply cells) h = h

moved_full : (n : Things) (blocks : ℕ) (instrs : List Instr) (f : ℕ → ℕ) (e : End) → IsFull n instrs (renumbered f e) → IsFull (record n { blocks = blocks }) instrs e
moved_full n blocks instrs f (Jump to) h = h
moved_full n blocks instrs f (Test48 left right met unmet) h = h
moved_full n blocks instrs f (Test64 left right met unmet) h = h
moved_full n blocks instrs f (Probe to table offset key hit miss) h = h
moved_full n blocks instrs f (Reply cells) h = h

end_moved : (f : ℕ → ℕ) (e : End) → end_slots (renumbered f e) ≡ end_slots e
end_moved f (Jump to) = refl
end_moved f (Test48 left right met unmet) = refl
end_moved f (Test64 left right met unmet) = refl
end_moved f (Probe to table offset key hit miss) = refl
end_moved f (Reply cells) = refl

module _ (g h : Graph) (kept : Kept (passed g) h) where
  abbrev r : ℕ → ℕ
  r = past_idle g.blocks

  abbrev past : Block → Block
  past b = record b { end = renumbered r b.end }

  -- a block was one before
  pub record Came (place : ℕ) (b : Block) : Type 0 where
    pub block : Block
    pub there : slice_get g.blocks place ≡ Some block
    pub instrs : block.instrs ≡ b.instrs
    pub end : renumbered r block.end ≡ renumbered kept.at b.end

  came_from : (k : ℕ) (b : Block) (w : Was (passed g).blocks kept.at k b) (o : Option Block) → slice_get g.blocks (kept.at k) ≡ o → option_map past o ≡ Some w.block → Came (kept.at k) b
  came_from k b w None at e = absurd (none_some e)
  came_from k b w (Some old) at e =
      let is : past old ≡ w.block = some_is e in
      record { block = old; there = at; instrs = ap (λ (x : Block). x.instrs) is ∙ w.instrs; end = ap (λ (x : Block). x.end) is ∙ w.end }

  pub came : (k : ℕ) (b : Block) → slice_get h.blocks k ≡ Some b → Came (kept.at k) b
  came k b there =
      let w = kept.was k b there in
      came_from k b w (slice_get g.blocks (kept.at k)) refl (sym (slice_get-map past g.blocks (kept.at k)) ∙ w.there)

  module _ (tables : List TableInit) (chain : ChainInit) (fits : FitsGraph tables chain g) where
    abbrev n : Things
    n = things_of tables chain g

    abbrev now : Things
    now = record n { blocks = length h.blocks }

    fits_block : (k : ℕ) (b : Block) → slice_get h.blocks k ≡ Some b → FitsBlock now b
    fits_block k b there =
        let x = came k b there in
        let old : FitsBlock n x.block = subst (FitsBlock n) (get_or_from_slice_get g.blocks (kept.at k) x.block b x.there) (fits.each (kept.at k) b (slice_get_within g.blocks (kept.at k) x.block x.there)) in
        let cells = moved_cells n kept.at b.end (subst (CellsFit n) x.end (cells_moved n r x.block.end (cells_of n x.block.end old.end_fits))) in
        let full = subst (λ (e : End). IsFull n x.block.instrs e) x.end (full_moved n x.block.instrs r x.block.end old.full) in
        record {
          instrs_fit = subst (λ (list : List Instr). All (FitsInstr n) list) x.instrs old.instrs_fit;
          end_fits = fits_end n (length h.blocks) b.end cells (kept.targets k b there);
          full = moved_full n (length h.blocks) b.instrs kept.at b.end (subst (λ (list : List Instr). IsFull n list (renumbered kept.at b.end)) x.instrs full);
        }

    same_things : now ≡ things_of tables chain h
    same_things = ap (λ (hidden : ℕ). let m : Things = record { blocks = length h.blocks; hidden = hidden; vars = length chain.vars; args = chain.args; tables = tables } in m) (sym kept.hidden)

    pub kept_fits : FitsGraph tables chain h
    kept_fits = record {
      entry = kept.there;
      each = λ k d lt. subst (λ (m : Things). FitsBlock m (get_or h.blocks k d)) same_things (fits_block k (get_or h.blocks k d) (slice_get-get_or h.blocks k d lt));
    }

  pub kept_small : (most : ℕ) → AreSmall most g.blocks → AreSmall most h.blocks
  unfolding block_slots
  kept_small most small k d lt =
      let b = get_or h.blocks k d in
      let x = came k b (slice_get-get_or h.blocks k d lt) in
      let old : block_slots x.block ≤ most = subst (λ (y : Block). block_slots y ≤ most) (get_or_from_slice_get g.blocks (kept.at k) x.block b x.there) (small (kept.at k) b (slice_get_within g.blocks (kept.at k) x.block x.there)) in
      omega (arith, old, ap (sum_by instr_slots) x.instrs, end_moved r x.block.end, end_moved kept.at b.end, ap end_slots x.end)

  passed_slots : (blocks : List Block) → all_slots (map past blocks) ≡ all_slots blocks
  unfolding all_slots block_slots
  passed_slots [] = refl
  passed_slots (b ∷ blocks) = omega (arith, sum_by-cons block_slots (past b) (map past blocks), sum_by-cons block_slots b blocks, end_moved r b.end, passed_slots blocks)

  pub kept_slots : all_slots h.blocks ≤ all_slots g.blocks
  kept_slots = omega (arith, kept.slots, passed_slots g.blocks)

  pub kept_follows : (chain : ChainInit) → FollowsIdly chain g → Follows chain h
  kept_follows chain f =
      follows_still chain (passed g) h kept.at kept.was kept.past kept.entry (idly_past chain g f)

-- what a graph that fits gives
pub each_there : (tables : List TableInit) (chain : ChainInit) (g : Graph) → FitsGraph tables chain g → EachThere g.blocks
each_there tables chain g fits k b there =
    let n = things_of tables chain g in
    let block : FitsBlock n b = subst (FitsBlock n) (get_or_from_slice_get g.blocks k b b there) (fits.each k b (slice_get_within g.blocks k b there)) in
    targets_of n b.end block.end_fits

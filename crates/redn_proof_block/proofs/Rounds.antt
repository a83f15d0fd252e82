-- Each ring's block is a round of the graph.
use Rattle.std.proofs.Common.{◌≡◌, ℕ, ◌+◌, ◌<◌, ◌≤◌, true, length, arith}
use Rattle.std.specs.Prelude.{nat_le, nat_lt}
use Rattle.std.proofs.lemmas.Bool.{and_parts, leb-true, ltb-true}
use Rattle.std.proofs.lemmas.Option.{slice_get-get_or}
use Rattle.redn_kernel.specs.declared.types.Cell.{Cell}
use Rattle.redn_kernel.specs.declared.types.Cell.TheVariants as cell
use Rattle.redn_graph.specs.declared.types.Instr.{Instr}
use Rattle.redn_graph.specs.declared.types.Instr.TheVariants.{Set, Move, Add, Load, Store}
use Rattle.redn_graph.specs.declared.types.End.{End}
use Rattle.redn_graph.specs.declared.types.End.TheVariants.{Jump, Probe, Reply}
use Rattle.redn_graph.specs.Fits as fits
use Rattle.redn_graph.specs.Fits.{Things, FitsInstr, FitsEnd}
use Rattle.redn_segment.specs.Effects.{IsTarget}
use Rattle.redn_block.specs.Blocks.{HasTarget, EndFits}
use Rattle.redn_proof_ring.specs.Plans.{is_ring}
use Rattle.redn_proof_block.specs.Parts.{IsRound}
use Rattle.redn_proof_block.specs.Laying.{Laying, plan, number_at, block_at, round_at, no_block, IsLaying}

module _ (n : Things) where
  target : (a : Cell) → fits.IsTarget n a → IsTarget a
  target (cell.Argument i) h = absurd h
  target (cell.Num v) h = absurd h
  target _ h = tt

  instr_target : (i : Instr) → FitsInstr n i → HasTarget i
  instr_target (Set to v) h = target to h
  instr_target (Move to from) h = target to h.0
  instr_target (Add to by) h = target to h.0
  instr_target (Load to t offset) h = target to h.0
  instr_target (Store t offset from) h = tt

  end_fits : (most first : ℕ) → first + n.blocks ≤ most → (e : End) → FitsEnd n e → EndFits most first e
  end_fits most first room (Jump to) h = omega (arith, h)
  end_fits most first room (Probe to t offset key hit miss) h = let a = h.4 in let b = h.5 in (target to h.0, omega (arith, a), omega (arith, b))
  end_fits most first room (Reply words) h = (h.1, h.2)
  end_fits most first room _ h = let a = h.2 in let b = h.3 in (omega (arith, a), omega (arith, b))

module _ (l : Laying) (is : IsLaying l) where
  -- no ring has a number from this one on
  abbrev pub most : ℕ
  most = l.layout.first_queue + l.layout.rings

  pub rounds : (r : ℕ) → is_ring (plan l) r ≡ true → IsRound most (round_at l r)
  rounds r its =
      let parts = and_parts (nat_le l.layout.first_queue r) (nat_lt r most) its in
      let low = leb-true l.layout.first_queue r parts.0 in
      let high = ltb-true r most parts.1 in
      let many = is.many in
      let blocks = is.blocks in
      let there : number_at l r < length l.course.graph.blocks = omega (arith, low, high, many) in
      let block_fits = is.fits (number_at l r) no_block there in
      record {
        there = slice_get-get_or l.course.graph.blocks (number_at l r) no_block there;
        fits = block_fits;
        small = is.small (number_at l r) no_block there;
        targets =
            record {
              instrs = λ k d small. instr_target l.things _ (block_fits.instrs_fit k d small);
              end = end_fits l.things most l.layout.first_queue (omega (arith, blocks)) (block_at l r).end block_fits.end_fits;
            };
      }

-- The chains of a sound program, with graphs as they are promised, can be placed.
use Rattle.std.proofs.Common.{◌≡◌, ℕ, suc, ◌+◌, ◌*◌, ◌^◌, ◌<◌, ◌≤◌, List, [], ◌∷◌, length, Some, refl, ap, arith}
use Rattle.std.specs.Prelude.{sum_by, slice_get}
use Rattle.std.specs.List.{All}
use Rattle.std.proofs.lemmas.List.Elements.{All-head, All-tail}
use Rattle.std.proofs.lemmas.List.Sums.{sum_by-cons}
use Rattle.redn_kernel.specs.declared.types.Cell.{Cell}
use Rattle.redn_kernel.specs.declared.types.Cell.TheVariants as cell
use Rattle.redn_kernel.specs.declared.types.TableInit.{TableInit}
use Rattle.redn_kernel.specs.declared.types.ChainInit.{ChainInit}
use Rattle.redn_kernel.specs.Program.{IsSoundChain, chain_weight}
use Rattle.redn_graph.specs.declared.types.Instr.{Instr}
use Rattle.redn_graph.specs.declared.types.Instr.TheVariants.{Set, Move, Add, Load, Store}
use Rattle.redn_graph.specs.declared.types.End.{End}
use Rattle.redn_graph.specs.declared.types.End.TheVariants.{Jump, Test48, Test64, Probe, Reply}
use Rattle.redn_graph.specs.declared.types.Block.{Block}
use Rattle.redn_graph.specs.declared.types.Graph.{Graph}
use Rattle.redn_graph.specs.Fits as fits
use Rattle.redn_graph.specs.Fits.{Things, FitsInstr, FitsEnd, FitsBlock, things_of}
use Rattle.redn_segment.specs.Effects.{IsTarget}
use Rattle.redn_block.specs.Blocks.{HasTarget, EndFits, BlockFits}
use Rattle.redn_emit.specs.Placed.{ChainRings, chains_from, plans_from}
use Rattle.redn_emit.specs.Graphs.{IsGraphOf}
use Rattle.redn_emit.specs.Kept.{CanBePlaced, CanAllBePlaced}
use Rattle.redn_emit.proofs.Counts.{nine_blocks}

is_target : (n : Things) (c : Cell) → fits.IsTarget n c → IsTarget c
is_target n (cell.Var x) h = tt
is_target n (cell.Hidden k) h = tt
is_target n (cell.Argument i) h = absurd h
is_target n (cell.Num v) h = absurd h

has_target : (n : Things) (i : Instr) → FitsInstr n i → HasTarget i
has_target n (Set to v) h = is_target n to h
has_target n (Move to from) h = is_target n to h.0
has_target n (Add to by) h = is_target n to h.0
has_target n (Load to t offset) h = is_target n to h.0
has_target n (Store t offset from) h = tt

end_fits : (n : Things) (first : ℕ) (e : End) → first + n.blocks < 2 ^ 32 → FitsEnd n e → EndFits (2 ^ 32) first e
end_fits n first (Jump to) l h = omega (arith, h)
end_fits n first (Test48 left right met unmet) l h = let a = h.2 in let b = h.3 in (omega (arith, a), omega (arith, b))
end_fits n first (Test64 left right met unmet) l h = let a = h.2 in let b = h.3 in (omega (arith, a), omega (arith, b))
end_fits n first (Probe to t offset key hit miss) l h = let a = h.4 in let b = h.5 in (is_target n to h.0, omega (arith, a), omega (arith, b))
end_fits n first (Reply words) l h = (h.1, h.2)

block_fits : (n : Things) (first : ℕ) (b : Block) → first + n.blocks < 2 ^ 32 → FitsBlock n b → BlockFits (2 ^ 32) first b
block_fits n first b l h =
    record { instrs = λ k d low. has_target n _ (h.instrs_fit k d low); end = end_fits n first b.end l h.end_fits }

pub can_be_placed : (tables : List TableInit) (first : ℕ) (c : ChainInit) (g : Graph) → first ≤ 2 ^ 23 → IsSoundChain tables c → chain_weight c ≤ 4096 → IsGraphOf tables c g → CanBePlaced first c g
can_be_placed tables first c g low sound light is =
    let slots = is.slots in
    let nine = nine_blocks g.blocks in
    let numbers : first + length g.blocks < 2 ^ 32 = omega arith in
    record {
      fits = λ k d below. block_fits (things_of tables c g) first _ numbers (is.fits.each k d below);
      small = is.small;
      slots = omega arith;
      numbers = numbers;
      entry = is.fits.entry;
      few_vars = sound.variables;
    }

pub all_can_be_placed : (tables : List TableInit) (first : ℕ) (cs : List ChainInit) (gs : List Graph) → first + 262144 * length cs ≤ 2 ^ 23 → All (IsSoundChain tables) cs → sum_by chain_weight cs ≤ 4096 → length gs ≡ length cs → ((i : ℕ) (c : ChainInit) (g : Graph) → slice_get cs i ≡ Some c → slice_get gs i ≡ Some g → IsGraphOf tables c g) → CanAllBePlaced first cs gs
all_can_be_placed tables first [] gs low sound light count each = tt
all_can_be_placed tables first (c ∷ cs) [] low sound light count each = absurd (omega arith)
all_can_be_placed tables first (c ∷ cs) (g ∷ gs) low sound light count each =
    let weights = sum_by-cons chain_weight c cs in
    let one : IsGraphOf tables c g = each 0 c g refl refl in
    let slots = one.slots in
    let nine = nine_blocks g.blocks in
    (can_be_placed tables first c g (omega (arith, low)) (All-head (IsSoundChain tables) c cs sound) (omega (arith, weights, light)) one, all_can_be_placed tables (first + length g.blocks) cs gs (omega (arith, low, slots, nine, weights, light)) (All-tail (IsSoundChain tables) c cs sound) (omega (arith, weights, light)) (omega (arith, count)) (λ i d h x y. each (suc i) d h x y))

pub length-chains : (first : ℕ) (cs : List ChainInit) (gs : List Graph) → length gs ≡ length cs → length (chains_from first cs gs) ≡ length cs
length-chains first [] gs count = refl
length-chains first (c ∷ cs) [] count = absurd (omega arith)
length-chains first (c ∷ cs) (g ∷ gs) count = ap suc (length-chains (first + length g.blocks) cs gs (omega (arith, count)))

pub length-plans : (tables number code control : ℕ) (cs : List ChainRings) → length (plans_from tables number code control cs) ≡ length cs
length-plans tables number code control [] = refl
length-plans tables number code control (c ∷ cs) = ap suc (length-plans tables (suc number) _ _ cs)

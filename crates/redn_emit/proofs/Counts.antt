-- The rings of a graph have no more slots than the graph counts; so have they no more drafts, and no more constants.
use Rattle.std.proofs.Common.{◌≡◌, ℕ, suc, ◌+◌, ◌*◌, ◌≤◌, Bool, true, false, cond, ◌==◌, List, [], ◌∷◌, ◌++◌, length, refl, ap, arith, length-append}
use Rattle.std.specs.List.{flat_map, list_any, All}
use Rattle.std.proofs.lemmas.List.Elements.{All-head, All-tail}
use Rattle.std.proofs.lemmas.List.Sums.{sum_by-cons}
use Rattle.redn_kernel.specs.declared.types.Cell.TheVariants as cell
use Rattle.redn_graph.specs.declared.types.Block.{Block}
use Rattle.redn_graph.specs.Slots.{block_slots, all_slots}
use Rattle.redn_segment.specs.declared.types.Site.{Site}
use Rattle.redn_segment.specs.declared.types.Site.TheVariants as site
use Rattle.redn_segment.specs.declared.types.Draft.{Draft}
use Rattle.redn_segment.specs.Building.{drafts_of}
use Rattle.redn_block.specs.Blocks.{BlockFits, block_segments}
use Rattle.redn_emit.specs.Layout.{rings_from, ring_slots, code_slots, number_read, numbers_read, with_new, each_once}
use Rattle.redn_emit.specs.Placed.{constants_of}
use Rattle.redn_emit.proofs.Laps.{nine_slots, drafts_few, slots_counted}

pub length-rings : (first n : ℕ) (blocks : List Block) → length (rings_from first n blocks) ≡ length blocks
length-rings first n [] = refl
length-rings first n (b ∷ bs) = ap suc (length-rings first (suc n) bs)

pub rings_slots : (most first n : ℕ) (blocks : List Block) → All (BlockFits most first) blocks → code_slots (rings_from first n blocks) ≤ all_slots blocks
unfolding all_slots
rings_slots most first n [] fits = omega arith
rings_slots most first n (b ∷ bs) fits =
    let one = slots_counted most first n b (All-head (BlockFits most first) b bs fits) in
    let rest = rings_slots most first (suc n) bs (All-tail (BlockFits most first) b bs fits) in
    omega (arith, one, rest, sum_by-cons ring_slots (record { number = n; segments = block_segments first n b }) (rings_from first (suc n) bs), sum_by-cons block_slots b bs)

pub nine_blocks : (blocks : List Block) → 9 * length blocks ≤ all_slots blocks
unfolding all_slots
nine_blocks [] = omega arith
nine_blocks (b ∷ bs) = let rest = nine_blocks bs in omega (arith, rest, nine_slots b, sum_by-cons block_slots b bs)

one_new : (seen : List ℕ) (n : ℕ) → length (with_new seen n) ≤ suc (length seen)
one_new seen n = by_test (list_any (λ (m : ℕ). n == m) seen)
  where
    by_test : (b : Bool) → length (cond b seen (seen ++ n ∷ [])) ≤ suc (length seen)
    by_test true = omega arith
    by_test false = omega (arith, length-append seen (n ∷ []))

once_few : (seen xs : List ℕ) → length (each_once seen xs) ≤ length seen + length xs
once_few seen [] = omega arith
once_few seen (x ∷ xs) = omega (arith, once_few (with_new seen x) xs, one_new seen x)

one_read : (s : Site) → length (number_read s) ≤ 1
one_read (site.Cell (cell.Num n)) = omega arith
one_read (site.Cell (cell.Var i)) = omega arith
one_read (site.Cell (cell.Hidden i)) = omega arith
one_read (site.Cell (cell.Argument i)) = omega arith
one_read (site.ReplyWord i) = omega arith
one_read site.Key = omega arith
one_read (site.Scratch i) = omega arith
one_read (site.Descriptor i) = omega arith
one_read (site.Field f) = omega arith
one_read (site.Table t o) = omega arith

reads_few : (ds : List Draft) → length (flat_map (λ (d : Draft). number_read d.local) ds) ≤ length ds
reads_few [] = omega arith
reads_few (d ∷ ds) =
    let all = length-append (number_read d.local) (flat_map (λ (e : Draft). number_read e.local) ds) in omega (arith, all, one_read d.local, reads_few ds)

all_reads : (most first n : ℕ) (blocks : List Block) → All (BlockFits most first) blocks → length (numbers_read (rings_from first n blocks)) ≤ all_slots blocks
unfolding all_slots
all_reads most first n [] fits = omega arith
all_reads most first n (b ∷ bs) fits =
    let ds : List Draft = drafts_of (block_segments first n b) in
    let all = length-append (flat_map (λ (d : Draft). number_read d.local) ds) (numbers_read (rings_from first (suc n) bs)) in
    let one = drafts_few most first n b (All-head (BlockFits most first) b bs fits) in
    let rest = all_reads most first (suc n) bs (All-tail (BlockFits most first) b bs fits) in
    omega (arith, all, one, rest, reads_few ds, sum_by-cons block_slots b bs)

pub constants_few : (most first n : ℕ) (blocks : List Block) → All (BlockFits most first) blocks → length (constants_of (rings_from first n blocks)) ≤ all_slots blocks
constants_few most first n blocks fits = omega (arith, once_few [] (numbers_read (rings_from first n blocks)), all_reads most first n blocks fits)

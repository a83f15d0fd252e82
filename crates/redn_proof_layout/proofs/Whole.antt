-- Each placed chain is laid out as rings with laps ask.
use Rattle.std.proofs.Common.{◌≡◌, ℕ, zero, suc, ◌+◌, ◌-◌, ◌*◌, ◌^◌, ◌<◌, ◌≤◌, Bool, true, false, cond, ◌==◌, List, [], ◌∷◌, ◌++◌, length, map, get_or, Some, refl, sym, ap, ◌∙◌, subst, arith, mul-le-mul}
use Rattle.std.specs.Prelude.{slice_get, nat_lt, nat_le}
use Rattle.std.specs.List.{list_all, All, AllByRecursion}
use Rattle.std.proofs.lemmas.Bool.{and_parts, and_from, lt-ltb, le-leb, leb-true}
use Rattle.std.proofs.lemmas.List.Elements.{All-head, All-tail}
use Rattle.redn_words.specs.declared.types.Region.{Region}
use Rattle.redn_words.specs.Slots.{IsNarrow}
use Rattle.redn_kernel.specs.declared.types.Cell.TheVariants.{Hidden}
use Rattle.redn_kernel.specs.declared.types.Program.{Program}
use Rattle.redn_graph.specs.declared.types.Block.{Block}
use Rattle.redn_graph.specs.declared.types.Graph.{Graph}
use Rattle.redn_graph.specs.Fits.{Things, FitsBlock, things_of}
use Rattle.redn_graph.specs.Slots.{block_slots}
use Rattle.redn_segment.specs.declared.types.Space.{Space}
use Rattle.redn_segment.specs.declared.types.Space.TheVariants as space
use Rattle.redn_segment.specs.declared.types.SlotRef.{SlotRef}
use Rattle.redn_segment.specs.declared.types.Draft.{Draft}
use Rattle.redn_segment.specs.Building.{drafts_of}
use Rattle.redn_segment.specs.Effects.{slot_behind}
use Rattle.redn_segment.specs.Homes.{IsHome}
use Rattle.redn_segment.specs.Primed.{writes_slot}
use Rattle.redn_segment.specs.Footprints.{both_sides}
use Rattle.redn_proof_landing.specs.Requested.{SparesFixed, requested}
use Rattle.redn_recycle.specs.Laps.{Ring, slot_of, bodies_of, flags_at}
use Rattle.redn_recycle.specs.Lapped.{MayGoRound, segment_at, start_of, ring_of}
use Rattle.redn_block.specs.Blocks.{BlockWords, BlockFits, block_segments, ring_start}
use Rattle.redn_proof_ring.specs.Apart.{LeavesLaps, fills_last}
use Rattle.redn_proof_ring.specs.Layouts.{Layout, plan_of, IsRingLayout, IsLayout, has_sites, leaves_descriptors}
use Rattle.redn_emit.specs.Layout.{Plain, ChainPlan, TablePlan, rings_from, ring_start as start_in_slots, first_key, table_row, home, has_space, has_ring, chain_rows}
use Rattle.redn_emit.specs.Placed.{entries_base, data_base, plans, tables_base, tables, regions, memory, constants_of}
use Rattle.redn_emit.specs.Graphs.{IsGraphOf, HasWords}
use Rattle.redn_emit.proofs.Counts.{length-rings}
use Rattle.redn_emit.proofs.Plans.{PlanFits}
use Rattle.redn_emit.proofs.PlanRows.{TableFits}
use Rattle.redn_proof_layout.specs.Layouts.{no_ring, ring_named, segments_named, layout_of}
use Rattle.redn_proof_ring.specs.LapLaws.{LayoutsAreLaid}
use Rattle.redn_proof_layout.specs.PlacedLaws.{AreSound, AllLaidOut, AllLaid}
use Rattle.redn_proof_layout.proofs.Keys.{Among, among_flat}
use Rattle.redn_proof_layout.proofs.Tables.{item_at}
use Rattle.redn_proof_layout.proofs.Chains.{IsChain, IsAbove, plan_is, plan_low, rings_below, ring_is, each_at}
use Rattle.redn_proof_layout.proofs.Spaces.{Stands, spaces_apart, ring_within}
use Rattle.redn_proof_layout.proofs.Homes.{is_home, own_byte, ring_lies}
use Rattle.redn_proof_layout.proofs.Fields.{KeepsFixed}
use Rattle.redn_proof_layout.proofs.BlockDrafts.{may, leaves, fills_operands, descriptors_left, fixed_kept}
use Rattle.redn_proof_layout.proofs.Numbers.{Reads, all_read}
use Rattle.redn_proof_layout.proofs.Named.{HasThings, block_named}
use Rattle.redn_proof_layout.proofs.Narrow.{is_small, all_narrow}
use Rattle.redn_proof_layout.proofs.Small.{block_small}
use Rattle.redn_proof_layout.proofs.Lengths.{fits, its, can, total, size_is, size_few, ends, keys}
use Rattle.redn_recycle.proofs.Starts.{start_behind}

pub all_at : {X : Type 0} (P : X → Type 0) (xs : List X) → All P xs → (k : ℕ) (x : X) → slice_get xs k ≡ Some x → P x
all_at P [] h k x e = absurd (cc)
all_at P (y ∷ xs) h zero x e = let is : y ≡ x = cc in subst P is (All-head P y xs h)
all_at P (y ∷ xs) h (suc k) x e = all_at P xs (All-tail P y xs h) k x e

get_front : (xs ys : List Draft) (k : ℕ) (d : Draft) → slice_get xs k ≡ Some d → slice_get (xs ++ ys) k ≡ Some d
get_front [] ys k d e = absurd (cc)
get_front (x ∷ xs) ys zero d e = e
get_front (x ∷ xs) ys (suc k) d e = get_front xs ys k d e

get_back : (xs ys : List Draft) (k : ℕ) (d : Draft) → slice_get ys k ≡ Some d → slice_get (xs ++ ys) (length xs + k) ≡ Some d
get_back [] ys k d e = let same : 0 + k ≡ k = omega arith in ap (slice_get ys) same ∙ e
get_back (x ∷ xs) ys k d e = let next : length (x ∷ xs) + k ≡ suc (length xs + k) = omega arith in ap (slice_get (x ∷ (xs ++ ys))) next ∙ get_back xs ys k d e

among_all : (segs : List (List Draft)) (j k : ℕ) (d : Draft) → slice_get (segment_at segs j) k ≡ Some d → slice_get (drafts_of segs) (start_of segs j + k) ≡ Some d
among_all [] j k d e = absurd (cc)
among_all (s ∷ rest) zero k d e = let same : 0 + k ≡ k = omega arith in ap (slice_get (s ++ drafts_of rest)) same ∙ get_front s (drafts_of rest) k d e
among_all (s ∷ rest) (suc j) k d e =
    let behind = start_behind s rest j in
    let place : start_of (s ∷ rest) (suc j) + k ≡ length s + (start_of rest j + k) = omega (arith, behind) in
    ap (slice_get (s ++ drafts_of rest)) place ∙ get_back s (drafts_of rest) (start_of rest j + k) d (among_all rest j k d e)

-- the keys of all homes are small
table_key : (c : ChainPlan) (us : List TablePlan) (size t : ℕ) (d : Region) → first_key c ≤ 2000 → d.key < 2 ^ 32 → AllByRecursion (TableFits size) us → (get_or (map (table_row c) us) t d).key < 2 ^ 32
table_key c [] size t d few low h = low
table_key c (u ∷ us) size zero d few low h = let n = h.0.number in omega (arith, n, few)
table_key c (u ∷ us) size (suc t) d few low h = table_key c us size t d few low h.1

home_key : (c : ChainPlan) (us : List TablePlan) (size : ℕ) → first_key c ≤ 2000 → AllByRecursion (TableFits size) us → (p : Space) → (home c us p).region.key < 2 ^ 32
home_key c us size few h (space.Table t) = table_key c us size t _ few (omega arith) h
home_key c us size few h (space.Cell (Hidden k)) = omega (arith, few)
home_key c us size few h (space.Cell _) = omega (arith, few)
home_key c us size few h _ = omega (arith, few)

keys_few : (c : ChainPlan) → c.number < 16 → c.tables ≤ 64 → first_key c ≤ 2000
keys_few c a b =
    let most : c.number * (4 + c.tables) ≤ 16 * 68 = (let one : c.number ≤ 16 = omega (arith, a) in let other : 4 + c.tables ≤ 68 = omega (arith, b) in mul-le-mul one other) in omega (arith, most)

flag_small : (number : ℕ) (x : Ring) (j k : ℕ) → flags_at number x j k < 2
flag_small number x j k = by_test (suc k == length (bodies_of number x j))
  where
    by_test : (t : Bool) → cond t 1 0 < 2
    by_test true = omega arith
    by_test false = omega arith

module _ (p : Program) (graphs : List Graph) (are : AreSound p graphs) (i : ℕ) (c : ChainPlan) (there : slice_get (plans p graphs) i ≡ Some c) where
  abbrev ts : List TablePlan
  ts = tables p graphs

  abbrev size : ℕ
  size = length (memory p graphs)

  pub chain : IsChain (length p.tables) (0 + i) (length p.chains) p.chains graphs i c
  chain = plan_is (length p.tables) 0 0 (data_base p graphs) (length p.chains) p.chains graphs (can p graphs are) i c there

  pub placed : PlanFits (length p.chains) (length p.tables) (entries_base p graphs) (tables_base p graphs) c
  placed = each_at (PlanFits (length p.chains) (length p.tables) (entries_base p graphs) (tables_base p graphs)) (plans p graphs) (fits p graphs are) i c there

  pub above : IsAbove 0 (data_base p graphs) (length p.chains) c
  above = plan_low (length p.tables) 0 0 (data_base p graphs) (length p.chains) p.chains graphs i c there

  pub stands : Stands c (tables_base p graphs) size p.tables
  stands =
      let code = placed.code_in in
      let control = above.control_base in
      record { code_end = omega (arith, code, control); words_end = placed.control_in; size_is = size_is p graphs are; tables_are = placed.tables_are }

  pub graph_of : IsGraphOf p.tables chain.init chain.graph
  graph_of = are.each.each i chain.init chain.graph chain.init_at chain.graph_at

  words_of : HasWords chain.graph
  words_of = all_at HasWords graphs are.words i chain.graph chain.graph_at

  pub rings_are : c.rings ≡ rings_from c.first c.first chain.graph.blocks
  rings_are = ap (λ (x : ChainPlan). x.rings) chain.is

  -- a ring and its block
  pub record IsRingOf (r : ℕ) : Type 0 where
    pub block : Block
    pub block_at : slice_get chain.graph.blocks (r - c.first) ≡ Some block
    pub named_is : ring_named c r ≡ record { number = r; segments = block_segments c.first r block }

  pub ring_of_block : (r : ℕ) → has_ring c r ≡ true → IsRingOf r
  ring_of_block r h =
      let inside = ring_within c (tables_base p graphs) size p.tables stands r h in
      let long : length c.rings ≡ length chain.graph.blocks = ap length rings_are ∙ length-rings c.first c.first chain.graph.blocks in
      let found = item_at chain.graph.blocks (r - c.first) (omega (arith, inside, long)) in
      let low = leb-true c.first r (and_parts (nat_le c.first r) (nat_lt r (c.first + length c.rings)) h).0 in
      let place : c.first + (r - c.first) ≡ r = omega (arith, low) in
      record {
        block = found.0;
        block_at = found.1;
        named_is = ap (λ (l : List Plain). get_or l (r - c.first) no_ring) rings_are ∙ ring_is c.first c.first chain.graph.blocks (r - c.first) found.0 found.1 ∙ ap (λ (n : ℕ). let x : Plain = record { number = n; segments = block_segments c.first n found.0 } in x) place;
      }

  abbrev things : Things
  things = things_of p.tables chain.init chain.graph

  pub has_things : HasThings (has_space c) c.constants things c.first
  has_things =
      let vars : c.vars ≡ length chain.init.vars = ap (λ (x : ChainPlan). x.vars) chain.is in
      let args : c.args ≡ chain.init.args = ap (λ (x : ChainPlan). x.args) chain.is in
      let hidden : c.hidden ≡ chain.graph.hidden = ap (λ (x : ChainPlan). x.hidden) chain.is in
      let long : length c.rings ≡ length chain.graph.blocks = ap length rings_are ∙ length-rings c.first c.first chain.graph.blocks in
      let tables_are = placed.tables_are in
      record {
        vars = λ x l. lt-ltb x c.vars (omega (arith, vars, l));
        hidden = λ k l. lt-ltb k c.hidden (omega (arith, hidden, l));
        args = λ k l. lt-ltb k c.args (omega (arith, args, l));
        numbers = λ v h. h;
        tables = λ t l. lt-ltb t c.tables (omega (arith, tables_are, l));
        rings = λ b l. and_from (nat_le c.first (c.first + b)) (nat_lt (c.first + b) (c.first + length c.rings)) (le-leb c.first (c.first + b) (omega arith)) (lt-ltb (c.first + b) (c.first + length c.rings) (omega (arith, long, l)));
        reply = refl;
        key = refl;
        scratch = (refl, refl);
      }

  abbrev layout : Layout
  layout = layout_of p graphs c

  its_home : (x : Space) → has_space c x ≡ true → IsHome (home c ts) (regions p graphs) c.number size x
  its_home x h = is_home c (tables_base p graphs) size p.tables stands (regions p graphs) (keys p graphs are) (λ (r : Region) (a : Among r (chain_rows c ts)). among_flat (λ (d : ChainPlan). chain_rows d ts) (plans p graphs) i c r there a) x h

  offsets_few : (x : Space) → has_space c x ≡ true → (home c ts x).offset ≤ 33554432
  offsets_few x h =
      let at = its_home x h in
      let a = at.inside in
      let b = at.ends in
      let d = size_few p graphs are in
      let e = size_is p graphs are in
      omega (arith, a, b, d, e)

  few_chains : c.number < 16
  few_chains = let a = placed.number in let b = are.sound.few_chains in omega (arith, a, b)

  few_tables : c.tables ≤ 64
  few_tables = let a = placed.tables_are in let b = are.sound.few_tables in omega (arith, a, b)

  home_keys : (x : Space) → (home c ts x).region.key < 2 ^ 32
  home_keys x = home_key c ts _ (keys_few c few_chains few_tables) (its p graphs are) x

  module _ (r : ℕ) (ring : has_ring c r ≡ true) where
    pub one : IsRingOf r
    one = ring_of_block r ring

    abbrev b : Block
    b = one.block

    abbrev segs : List (List Draft)
    segs = segments_named c r

    pub segs_are : segs ≡ block_segments c.first r b
    segs_are = ap (λ (x : Plain). x.segments) one.named_is

    pub block_fits : BlockFits (2 ^ 32) c.first b
    block_fits = all_at (BlockFits (2 ^ 32) c.first) chain.graph.blocks chain.can.fits (r - c.first) b one.block_at

    block_few : block_slots b ≤ 65536
    block_few = all_at (λ (x : Block). block_slots x ≤ 65536) chain.graph.blocks chain.can.small (r - c.first) b one.block_at

    pub block_named_well : FitsBlock things b
    block_named_well = all_at (FitsBlock things) chain.graph.blocks graph_of.fits.each (r - c.first) b one.block_at

    pub block_words : BlockWords b
    block_words = all_at BlockWords chain.graph.blocks words_of.blocks (r - c.first) b one.block_at

    pub may_round : MayGoRound segs r
    may_round = subst (λ (s : List (List Draft)). MayGoRound s r) (sym segs_are) (may things c.first r b block_fits block_named_well.full block_few)

    reads : AllByRecursion (Reads c.constants) (drafts_of segs)
    reads =
        let same : c.constants ≡ constants_of c.rings = ap (λ (x : ChainPlan). x.constants) chain.is ∙ ap constants_of (sym rings_are) in
        subst (λ (l : List ℕ). AllByRecursion (Reads l) (drafts_of segs)) (sym same) (all_read c.rings (r - c.first) (ring_within c (tables_base p graphs) size p.tables stands r ring))

    sites_named : list_all (has_sites (has_space c)) (drafts_of segs) ≡ true
    sites_named = ap (λ (s : List (List Draft)). list_all (has_sites (has_space c)) (drafts_of s)) segs_are ∙ block_named (has_space c) c.constants things c.first has_things r b block_named_well (subst (λ (s : List (List Draft)). AllByRecursion (Reads c.constants) (drafts_of s)) segs_are reads)

    fixed_at : (j k : ℕ) (d : Draft) → slice_get (segment_at segs j) k ≡ Some d → SparesFixed (writes_slot (drafts_of segs) (slot_of r (start_of segs j + k))) d
    fixed_at j k d e =
        let kept : KeepsFixed (ring_start r) (drafts_of segs) (drafts_of segs) = subst (λ (s : List (List Draft)). KeepsFixed (ring_start r) (drafts_of s) (drafts_of s)) (sym segs_are) (fixed_kept things c.first r b block_fits block_named_well.full block_few) in
        let place : slot_behind (ring_start r) (start_of segs j + k) ≡ slot_of r (start_of segs j + k) = ap (slot_of r) (omega arith) in
        subst (λ (q : SlotRef). SparesFixed (writes_slot (drafts_of segs) q) d) place (kept (start_of segs j + k) d (among_all segs j k d e))

    pub small_drafts : list_all is_small (drafts_of segs) ≡ true
    small_drafts = ap (λ (s : List (List Draft)). list_all is_small (drafts_of s)) segs_are ∙ block_small (2 ^ 32) c.first r b block_words block_fits

    narrow_at : (j k : ℕ) (d : Draft) (flags : ℕ) → j < length segs → slice_get (bodies_of r (ring_of segs r c.number (c.code_base + 64 * start_in_slots c r)) j) k ≡ Some d → flags < 2 → IsNarrow (requested (home c ts) d flags)
    narrow_at j k d flags l e m =
        all_narrow (home c ts) (has_space c) offsets_few home_keys segs r c.number (c.code_base + 64 * start_in_slots c r) may_round (λ n inside. (ring_lies c (tables_base p graphs) size p.tables stands r ring).its n inside) ring (refl, refl) sites_named small_drafts j k d flags l e m

    ring_layout : IsRingLayout layout r
    ring_layout =
        record {
          may = may_round;
          lie = ring_lies c (tables_base p graphs) size p.tables stands r ring;
          leaves = subst (λ (s : List (List Draft)). (j : ℕ) → j < length s → LeavesLaps s r j) (sym segs_are) (leaves things c.first r b block_fits block_named_well.full block_few);
          fills = ap (λ (s : List (List Draft)). list_all (both_sides (fills_last s r)) (drafts_of s)) segs_are ∙ fills_operands things c.first r b block_fits block_named_well.full block_few;
          sites = sites_named;
          descriptors = ap (λ (s : List (List Draft)). list_all leaves_descriptors (drafts_of s)) segs_are ∙ descriptors_left things c.first r b block_fits block_named_well.full block_few;
          fixed = λ j k d l e. fixed_at j k d e;
          narrow = λ j k d l e. narrow_at j k d (flags_at r ((plan_of layout).ring r) j k) l e (flag_small r ((plan_of layout).ring r) j k);
          own = ring;
          raised = refl;
          slots = λ n. refl;
        }

  few_rings : c.first + length c.rings ≤ 65536
  few_rings =
      let below = rings_below (length p.tables) 0 0 (data_base p graphs) (length p.chains) p.chains graphs i c there in
      let all = (total p graphs are).rings in
      let light = are.sound.light in
      let few = are.sound.few_chains in
      omega (arith, below, all, light, few)

  pub laid_out : IsLayout layout
  laid_out =
      record {
        rings_are = λ r ring. ring_layout r ring;
        numbered = few_rings;
        spaces = spaces_apart c (tables_base p graphs) size p.tables stands;
        homes = its_home;
        private = λ x n h l. own_byte c (tables_base p graphs) size p.tables stands (entries_base p graphs) x n h.its h.plain l;
        ends = ends p graphs are;
        scratch = (refl, refl);
        written = (refl, refl);
        few = omega arith;
      }

pub all_laid_out : AllLaidOut
all_laid_out p graphs are i c there = laid_out p graphs are i c there

pub all_laid : LayoutsAreLaid → AllLaid
all_laid law p graphs are i c there = law (layout_of p graphs c) (laid_out p graphs are i c there)

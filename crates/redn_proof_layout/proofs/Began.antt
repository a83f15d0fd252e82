-- Where the code, the entry and the words of each chain stand in the first memory, and the tables.
use Rattle.std.proofs.Common.{◌≡◌, ℕ, zero, suc, ◌+◌, ◌-◌, ◌*◌, ◌<◌, true, List, [], ◌∷◌, ◌++◌, length, take, get_or, Some, refl, ap, ◌∙◌, subst, arith, length-append}
use Rattle.std.specs.Prelude.{slice_get}
use Rattle.std.specs.List.{flat_map, AllByRecursion}
use Rattle.std.proofs.lemmas.List.{length-replicate}
use Rattle.std.proofs.lemmas.List.Sums.{sum_by-cons}
use Rattle.redn_words.specs.Words.{spelled}
use Rattle.redn_words.proofs.Numbers.{length-spelled}
use Rattle.redn_words.proofs.Slots.{length-ring}
use Rattle.redn_kernel.specs.declared.types.TableInit.{TableInit}
use Rattle.redn_kernel.specs.declared.types.ChainInit.{ChainInit}
use Rattle.redn_kernel.specs.declared.types.Program.{Program}
use Rattle.redn_graph.specs.declared.types.Graph.{Graph}
use Rattle.redn_segment.specs.declared.types.Space.{Space}
use Rattle.redn_segment.specs.declared.types.Draft.{Draft}
use Rattle.redn_segment.specs.Building.{drafts_of}
use Rattle.redn_segment.specs.Homes.{Home}
use Rattle.redn_recycle.specs.Lapped.{ring_of, lapped_segments}
use Rattle.redn_emit.specs.Layout.{Plain, ChainPlan, TablePlan, ring_slots, code_slots, ring_start, has_ring, home, hidden_at, constants_at, control_len, vars_base, message_base, data_len, segment_requests, segment_bytes, ring_bytes, with_its_laps, chain_code, descriptor, control_bytes, words_bytes, chain_words, entry_bytes, first_limit, DESCRIPTORS_AT}
use Rattle.redn_emit.specs.Placed.{chain_rings, chains_from, entries_base, data_base, plans, plan_at, plans_from, tables_base, tables, tables_from, memory}
use Rattle.redn_emit.proofs.Laps.{lapped_count}
use Rattle.redn_emit.proofs.Sizes.{RingFits, code_size, entry_size, words_size, length-words}
use Rattle.redn_emit.proofs.Plans.{PlanFits}
use Rattle.redn_proof_layout.specs.Layouts.{no_ring, ring_named, segments_named}
use Rattle.redn_proof_layout.specs.PlacedLaws.{AreSound}
use Rattle.redn_proof_layout.proofs.Chains.{each_at}
use Rattle.redn_proof_layout.proofs.Spaces.{ring_within}
use Rattle.redn_proof_layout.proofs.Lengths.{fits, codes_are, entries_are, words_are}
use Rattle.redn_proof_layout.proofs.Portions.{PartOf, whole, part_left, part_right, part_flat, zeros}
use Rattle.redn_proof_layout.proofs.Whole.{placed, chain, stands, ring_of_block}

length-requests : (at : Space → Home) (ds : List Draft) → length (segment_requests at ds) ≡ length ds
length-requests at [] = refl
length-requests at (d ∷ []) = refl
length-requests at (d ∷ e ∷ rest) = ap suc (length-requests at (e ∷ rest))

segments_size : (at : Space → Home) (segs : List (List Draft)) → length (ring_bytes at segs) ≡ 64 * length (drafts_of segs)
segments_size at [] = refl
segments_size at (s ∷ ss) =
    let one : length (segment_bytes at s) ≡ 64 * length s = length-ring (segment_requests at s) ∙ ap (λ (n : ℕ). 64 * n) (length-requests at s) in
    let others = segments_size at ss in
    let all = length-append (segment_bytes at s) (ring_bytes at ss) in
    let drafts = length-append s (drafts_of ss) in
    omega (arith, one, others, all, drafts)

descriptor_size : (r : Plain) → length (descriptor r) ≡ 16
descriptor_size r =
    let one = length-append (spelled 8 r.number) (spelled 8 (first_limit r)) in
    let a = length-spelled 8 r.number in
    let b = length-spelled 8 (first_limit r) in
    omega (arith, one, a, b)

descriptors_size : (rings : List Plain) → length (flat_map descriptor rings) ≡ 16 * length rings
descriptors_size [] = refl
descriptors_size (r ∷ rs) =
    let rest = descriptors_size rs in
    let all = length-append (descriptor r) (flat_map descriptor rs) in
    let one = descriptor_size r in
    omega (arith, rest, all, one)

take_slots : (rings : List Plain) (k : ℕ) (r : Plain) → slice_get rings k ≡ Some r → code_slots (take (suc k) rings) ≡ code_slots (take k rings) + ring_slots r
take_slots [] k r e = absurd (cc)
take_slots (x ∷ rs) zero r e =
    let same : x ≡ r = cc in
    let one = sum_by-cons ring_slots x (take 0 rs) in
    let its : ring_slots x ≡ ring_slots r = ap ring_slots same in
    omega (arith, one, its)
take_slots (x ∷ rs) (suc k) r e =
    let rest = take_slots rs k r e in
    let one = sum_by-cons ring_slots x (take (suc k) rs) in
    let other = sum_by-cons ring_slots x (take k rs) in
    omega (arith, rest, one, other)

pub got : {X : Type 0} (xs : List X) (k : ℕ) (d : X) → k < length xs → slice_get xs k ≡ Some (get_or xs k d)
got [] k d l = absurd (omega arith)
got (x ∷ xs) zero d l = refl
got (x ∷ xs) (suc k) d l = got xs k d (omega (arith, l))

-- chain after chain
module _ (m : List ℕ) (chains its code_end data_end : ℕ) (ts : List TablePlan) where
  code_parts : (tables number code control first : ℕ) (cs : List ChainInit) (gs : List Graph) → AllByRecursion (PlanFits chains its code_end data_end) (plans_from tables number code control (chains_from first cs gs)) → PartOf m code (flat_map (λ (c : ChainPlan). chain_code c ts) (plans_from tables number code control (chains_from first cs gs))) → (i : ℕ) (c : ChainPlan) → slice_get (plans_from tables number code control (chains_from first cs gs)) i ≡ Some c → PartOf m c.code_base (chain_code c ts)
  code_parts tables number code control first [] gs h part i c e = absurd (cc)
  code_parts tables number code control first (x ∷ cs) [] h part i c e = absurd (cc)
  code_parts tables number code control first (x ∷ cs) (g ∷ gs) h part zero c e =
      let plan : ChainPlan = plan_at tables number code control (chain_rings first x g) in
      let rest : List ChainPlan = plans_from tables (suc number) (code + 64 * code_slots plan.rings) (control + data_len plan) (chains_from (first + length g.blocks) cs gs) in
      let same : plan ≡ c = cc in
      subst (λ (y : ChainPlan). PartOf m y.code_base (chain_code y ts)) same (part_left m code (chain_code plan ts) (flat_map (λ (y : ChainPlan). chain_code y ts) rest) part)
  code_parts tables number code control first (x ∷ cs) (g ∷ gs) h part (suc i) c e =
      let plan : ChainPlan = plan_at tables number code control (chain_rings first x g) in
      let rest : List ChainPlan = plans_from tables (suc number) (code + 64 * code_slots plan.rings) (control + data_len plan) (chains_from (first + length g.blocks) cs gs) in
      let long = code_size plan ts h.0.rings in
      code_parts tables (suc number) (code + 64 * code_slots plan.rings) (control + data_len plan) (first + length g.blocks) cs gs h.1 (part_right m code (code + 64 * code_slots plan.rings) (chain_code plan ts) (flat_map (λ (y : ChainPlan). chain_code y ts) rest) (omega (arith, long)) part) i c e

  word_parts : (tables number code control first : ℕ) (cs : List ChainInit) (gs : List Graph) → AllByRecursion (PlanFits chains its code_end data_end) (plans_from tables number code control (chains_from first cs gs)) → PartOf m control (flat_map chain_words (plans_from tables number code control (chains_from first cs gs))) → (i : ℕ) (c : ChainPlan) → slice_get (plans_from tables number code control (chains_from first cs gs)) i ≡ Some c → PartOf m c.control_base (chain_words c)
  word_parts tables number code control first [] gs h part i c e = absurd (cc)
  word_parts tables number code control first (x ∷ cs) [] h part i c e = absurd (cc)
  word_parts tables number code control first (x ∷ cs) (g ∷ gs) h part zero c e =
      let plan : ChainPlan = plan_at tables number code control (chain_rings first x g) in
      let rest : List ChainPlan = plans_from tables (suc number) (code + 64 * code_slots plan.rings) (control + data_len plan) (chains_from (first + length g.blocks) cs gs) in
      let same : plan ≡ c = cc in
      subst (λ (y : ChainPlan). PartOf m y.control_base (chain_words y)) same (part_left m control (chain_words plan) (flat_map chain_words rest) part)
  word_parts tables number code control first (x ∷ cs) (g ∷ gs) h part (suc i) c e =
      let plan : ChainPlan = plan_at tables number code control (chain_rings first x g) in
      let rest : List ChainPlan = plans_from tables (suc number) (code + 64 * code_slots plan.rings) (control + data_len plan) (chains_from (first + length g.blocks) cs gs) in
      let long = words_size plan h.0.values in
      word_parts tables (suc number) (code + 64 * code_slots plan.rings) (control + data_len plan) (first + length g.blocks) cs gs h.1 (part_right m control (control + data_len plan) (chain_words plan) (flat_map chain_words rest) (omega (arith, long)) part) i c e

pub table_parts : (m : List ℕ) (number base : ℕ) (ts : List TableInit) → PartOf m base (flat_map (λ (t : TableInit). t.bytes) ts) → (k : ℕ) (t : TablePlan) → slice_get (tables_from number base ts) k ≡ Some t → PartOf m t.base t.bytes
table_parts m number base [] part k t e = absurd (cc)
table_parts m number base (x ∷ ts) part zero t e =
    let plan : TablePlan = record { number = number; bytes = x.bytes; writable = x.writable; base = base } in
    let same : plan ≡ t = cc in
    subst (λ (y : TablePlan). PartOf m y.base y.bytes) same (part_left m base x.bytes (flat_map (λ (y : TableInit). y.bytes) ts) part)
table_parts m number base (x ∷ ts) part (suc k) t e =
    table_parts m (suc number) (base + length x.bytes) ts (part_right m base (base + length x.bytes) x.bytes (flat_map (λ (y : TableInit). y.bytes) ts) refl part) k t e

module _ (p : Program) (graphs : List Graph) (are : AreSound p graphs) where
  abbrev pub m : List ℕ
  m = memory p graphs

  abbrev ts : List TablePlan
  ts = tables p graphs

  abbrev codes : List ℕ
  codes = flat_map (λ (c : ChainPlan). chain_code c ts) (plans p graphs)

  abbrev entries : List ℕ
  entries = flat_map entry_bytes (plans p graphs)

  abbrev words : List ℕ
  words = flat_map chain_words (plans p graphs)

  abbrev last : List ℕ
  last = flat_map (λ (t : TableInit). t.bytes) p.tables

  codes_part : PartOf m 0 codes
  codes_part = part_left m 0 codes (entries ++ (words ++ last)) (whole m)

  behind_codes : PartOf m (entries_base p graphs) (entries ++ (words ++ last))
  behind_codes = let long = codes_are p graphs are in part_right m 0 (entries_base p graphs) codes (entries ++ (words ++ last)) (omega (arith, long)) (whole m)

  entries_part : PartOf m (entries_base p graphs) entries
  entries_part = part_left m (entries_base p graphs) entries (words ++ last) behind_codes

  behind_entries : PartOf m (data_base p graphs) (words ++ last)
  behind_entries = let long = entries_are p graphs are in part_right m (entries_base p graphs) (data_base p graphs) entries (words ++ last) (omega (arith, long)) behind_codes

  words_part : PartOf m (data_base p graphs) words
  words_part = part_left m (data_base p graphs) words last behind_entries

  pub tables_part : PartOf m (tables_base p graphs) last
  tables_part = let long = words_are p graphs are in part_right m (data_base p graphs) (tables_base p graphs) words last (omega (arith, long)) behind_entries

  module _ (i : ℕ) (c : ChainPlan) (there : slice_get (plans p graphs) i ≡ Some c) where
    code_part : PartOf m c.code_base (chain_code c ts)
    code_part = code_parts m (length p.chains) (length p.tables) (entries_base p graphs) (tables_base p graphs) ts (length p.tables) 0 0 (data_base p graphs) (length p.chains) p.chains graphs (fits p graphs are) codes_part i c there

    chain_part : PartOf m c.control_base (chain_words c)
    chain_part = word_parts m (length p.chains) (length p.tables) (entries_base p graphs) (tables_base p graphs) ts (length p.tables) 0 0 (data_base p graphs) (length p.chains) p.chains graphs (fits p graphs are) words_part i c there

    pub entry_part : PartOf m (entries_base p graphs + 128 * c.number) (entry_bytes c)
    entry_part =
        let n : c.number ≡ 0 + i = ap (λ (z : ChainPlan). z.number) (chain p graphs are i c there).is in
        subst (λ (a : ℕ). PartOf m a (entry_bytes c)) (let z : entries_base p graphs + 128 * i ≡ entries_base p graphs + 128 * c.number = omega (arith, n) in z) (part_flat m entry_bytes (plans p graphs) (λ k. entries_base p graphs + 128 * k) (λ k x e. (let long = entry_size x in omega (arith, long))) (subst (λ (a : ℕ). PartOf m a entries) (let z : entries_base p graphs ≡ entries_base p graphs + 128 * 0 = omega arith in z) entries_part) i c there)

    -- a ring with its laps
    pub ring_part : (r : ℕ) → has_ring c r ≡ true → PartOf m (c.code_base + 64 * ring_start c r) (ring_bytes (home c ts) (lapped_segments r (ring_of (segments_named c r) r 0 0)))
    ring_part r h =
        let k : ℕ = r - c.first in
        let inside = ring_within c (tables_base p graphs) (length (memory p graphs)) p.tables (stands p graphs are i c there) r h in
        let part = part_flat m (λ (x : Plain). ring_bytes (home c ts) (with_its_laps x)) c.rings (λ n. c.code_base + 64 * code_slots (take n c.rings)) step (subst (λ (a : ℕ). PartOf m a (chain_code c ts)) (let z : c.code_base ≡ c.code_base + 64 * code_slots (take 0 c.rings) = omega arith in z) code_part) k (ring_named c r) (got c.rings k no_ring inside) in
        let number_is : (ring_named c r).number ≡ r = ap (λ (x : Plain). x.number) (ring_of_block p graphs are i c there r h).named_is in
        subst (λ (n : ℕ). PartOf m (c.code_base + 64 * ring_start c r) (ring_bytes (home c ts) (lapped_segments n (ring_of (segments_named c r) n 0 0)))) number_is part
      where
        step : (n : ℕ) (x : Plain) → slice_get c.rings n ≡ Some x → c.code_base + 64 * code_slots (take (suc n) c.rings) ≡ (c.code_base + 64 * code_slots (take n c.rings)) + length (ring_bytes (home c ts) (with_its_laps x))
        step n x e =
            let its = each_at RingFits c.rings (placed p graphs are i c there).rings n x e in
            let slots = take_slots c.rings n x e in
            let long = segments_size (home c ts) (with_its_laps x) in
            let laps = lapped_count x.segments x.number its.two in
            omega (arith, slots, long, laps)

    -- the words
    abbrev rest_of_control : List ℕ
    rest_of_control = zeros (8 * c.hidden) ++ flat_map (spelled 8) c.constants

    control_part : PartOf m c.control_base (control_bytes c)
    control_part = part_left m c.control_base (control_bytes c) (words_bytes c.values ++ zeros (8 * c.args)) chain_part

    behind_scratch : PartOf m (c.control_base + DESCRIPTORS_AT) (flat_map descriptor c.rings ++ rest_of_control)
    behind_scratch = let long = length-replicate {A = ℕ} DESCRIPTORS_AT 0 in part_right m c.control_base (c.control_base + DESCRIPTORS_AT) (zeros DESCRIPTORS_AT) (flat_map descriptor c.rings ++ rest_of_control) (omega (arith, long)) control_part

    pub descriptors_part : PartOf m (c.control_base + DESCRIPTORS_AT) (flat_map descriptor c.rings)
    descriptors_part = part_left m (c.control_base + DESCRIPTORS_AT) (flat_map descriptor c.rings) rest_of_control behind_scratch

    behind_descriptors : PartOf m (c.control_base + hidden_at c) rest_of_control
    behind_descriptors = let long = descriptors_size c.rings in part_right m (c.control_base + DESCRIPTORS_AT) (c.control_base + hidden_at c) (flat_map descriptor c.rings) rest_of_control (omega (arith, long)) behind_scratch

    pub hidden_part : PartOf m (c.control_base + hidden_at c) (zeros (8 * c.hidden))
    hidden_part = part_left m (c.control_base + hidden_at c) (zeros (8 * c.hidden)) (flat_map (spelled 8) c.constants) behind_descriptors

    pub constants_part : PartOf m (c.control_base + constants_at c) (flat_map (spelled 8) c.constants)
    constants_part = let long = length-replicate {A = ℕ} (8 * c.hidden) 0 in part_right m (c.control_base + hidden_at c) (c.control_base + constants_at c) (zeros (8 * c.hidden)) (flat_map (spelled 8) c.constants) (omega (arith, long)) behind_descriptors

    control_size : length (control_bytes c) ≡ control_len c
    control_size =
        let a = length-replicate {A = ℕ} DESCRIPTORS_AT 0 in
        let b = length-replicate {A = ℕ} (8 * c.hidden) 0 in
        let d = descriptors_size c.rings in
        let e = length-words c.constants in
        let f = length-append (zeros DESCRIPTORS_AT) (flat_map descriptor c.rings ++ rest_of_control) in
        let g = length-append (flat_map descriptor c.rings) rest_of_control in
        let h = length-append (zeros (8 * c.hidden)) (flat_map (spelled 8) c.constants) in
        omega (arith, a, b, d, e, f, g, h)

    behind_control : PartOf m (vars_base c) (words_bytes c.values ++ zeros (8 * c.args))
    behind_control = let long = control_size in part_right m c.control_base (vars_base c) (control_bytes c) (words_bytes c.values ++ zeros (8 * c.args)) (omega (arith, long)) chain_part

    pub vars_part : PartOf m (vars_base c) (words_bytes c.values)
    vars_part = part_left m (vars_base c) (words_bytes c.values) (zeros (8 * c.args)) behind_control

    pub message_part : PartOf m (message_base c) (zeros (8 * c.args))
    message_part =
        let long = length-words c.values in
        let many = (placed p graphs are i c there).values in
        part_right m (vars_base c) (message_base c) (words_bytes c.values) (zeros (8 * c.args)) (omega (arith, long, many)) behind_control

-- How many bytes the parts of a memory have.
use Rattle.std.proofs.Common.{◌≡◌, ℕ, suc, ◌+◌, ◌*◌, ◌≤◌, List, [], ◌∷◌, ◌++◌, length, refl, ap, ◌∙◌, arith, length-append}
use Rattle.std.specs.Prelude.{sum_by, replicate}
use Rattle.std.specs.List.{flat_map, AllByRecursion}
use Rattle.std.proofs.lemmas.List.{length-replicate}
use Rattle.std.proofs.lemmas.List.Sums.{sum_by-cons}
use Rattle.redn_words.specs.declared.limits.TheConstants.{RECEIVE_BASE}
use Rattle.redn_words.specs.Words.{spelled}
use Rattle.redn_words.specs.Requests.{encoded}
use Rattle.redn_words.proofs.Numbers.{length-spelled}
use Rattle.redn_words.proofs.Slots.{length-encoded, length-ring}
use Rattle.redn_words.specs.declared.types.Request.{Request}
use Rattle.redn_kernel.specs.declared.types.TableInit.{TableInit}
use Rattle.redn_segment.specs.declared.types.Space.{Space}
use Rattle.redn_segment.specs.declared.types.Draft.{Draft}
use Rattle.redn_segment.specs.Homes.{Home}
use Rattle.redn_segment.specs.Building.{drafts_of}
use Rattle.redn_emit.specs.Layout.{Plain, ChainPlan, TablePlan, segment_requests, segment_bytes, ring_bytes, with_its_laps, ring_slots, code_slots, home, chain_code, descriptor, first_limit, words_bytes, control_bytes, data_len, chain_words, entry_bytes, operands, limit_of_ring, DESCRIPTORS_AT}
use Rattle.redn_emit.proofs.Laps.{lapped_count}

pub length-words : (words : List ℕ) → length (words_bytes words) ≡ 8 * length words
length-words [] = refl
length-words (w ∷ ws) = let rest = length-words ws in let all = length-append (spelled 8 w) (words_bytes ws) in let one = length-spelled 8 w in omega (arith, rest, all, one)

length-requests : (at : Space → Home) (ds : List Draft) → length (segment_requests at ds) ≡ length ds
length-requests at [] = refl
length-requests at (d ∷ []) = refl
length-requests at (d ∷ e ∷ rest) = ap suc (length-requests at (e ∷ rest))

segment_size : (at : Space → Home) (ds : List Draft) → length (segment_bytes at ds) ≡ 64 * length ds
segment_size at ds = length-ring (segment_requests at ds) ∙ ap (λ (n : ℕ). 64 * n) (length-requests at ds)

segments_size : (at : Space → Home) (segs : List (List Draft)) → length (ring_bytes at segs) ≡ 64 * length (drafts_of segs)
segments_size at [] = refl
segments_size at (s ∷ ss) =
    let one = segment_size at s in
    let others = segments_size at ss in
    let all = length-append (segment_bytes at s) (ring_bytes at ss) in
    let drafts = length-append s (drafts_of ss) in
    omega (arith, one, others, all, drafts)

-- a ring with at least two segments, and so many slots
pub record RingFits (r : Plain) : Type 0 where
  pub two : 2 ≤ length r.segments
  pub some : 1 ≤ ring_slots r
  pub few : ring_slots r ≤ 65536

rings_size : (at : Space → Home) (rings : List Plain) → AllByRecursion RingFits rings → length (flat_map (λ (r : Plain). ring_bytes at (with_its_laps r)) rings) ≡ 64 * code_slots rings
rings_size at [] h = refl
rings_size at (r ∷ rs) h =
    let one = segments_size at (with_its_laps r) in
    let count = lapped_count r.segments r.number h.0.two in
    let others = rings_size at rs h.1 in
    let all = length-append (ring_bytes at (with_its_laps r)) (flat_map (λ (q : Plain). ring_bytes at (with_its_laps q)) rs) in
    omega (arith, one, count, others, all, sum_by-cons ring_slots r rs)

pub code_size : (c : ChainPlan) (tables : List TablePlan) → AllByRecursion RingFits c.rings → length (chain_code c tables) ≡ 64 * code_slots c.rings
code_size c tables h = rings_size (home c tables) c.rings h

descriptors_size : (rings : List Plain) → length (flat_map descriptor rings) ≡ 16 * length rings
descriptors_size [] = refl
descriptors_size (r ∷ rs) =
    let rest = descriptors_size rs in
    let all = length-append (descriptor r) (flat_map descriptor rs) in
    let one = length-append (spelled 8 r.number) (spelled 8 (first_limit r)) in
    let a = length-spelled 8 r.number in
    let b = length-spelled 8 (first_limit r) in
    omega (arith, rest, all, one, a, b)

two_gates : (q r : Request) → length (encoded q ++ encoded r) ≡ 128
two_gates q r = let all = length-append (encoded q) (encoded r) in let a = length-encoded q in let b = length-encoded r in omega (arith, all, a, b)

pub entry_size : (c : ChainPlan) → length (entry_bytes c) ≡ 128
entry_size c =
    two_gates (operands 6 (RECEIVE_BASE + c.number) 1) (operands 7 (c.first + c.entry) (limit_of_ring c (c.first + c.entry)))

pub words_size : (c : ChainPlan) → length c.values ≡ c.vars → length (chain_words c) ≡ data_len c
words_size c values =
    let zeros = length-replicate {A = ℕ} DESCRIPTORS_AT 0 in
    let hidden = length-replicate {A = ℕ} (8 * c.hidden) 0 in
    let message = length-replicate {A = ℕ} (8 * c.args) 0 in
    let descriptors = descriptors_size c.rings in
    let constants = length-words c.constants in
    let vars = length-words c.values in
    let a = length-append (control_bytes c) (words_bytes c.values ++ replicate (8 * c.args) 0) in
    let b = length-append (words_bytes c.values) (replicate (8 * c.args) 0) in
    let d = length-append (replicate DESCRIPTORS_AT 0) (flat_map descriptor c.rings ++ (replicate (8 * c.hidden) 0 ++ flat_map (spelled 8) c.constants)) in
    let e = length-append (flat_map descriptor c.rings) (replicate (8 * c.hidden) 0 ++ flat_map (spelled 8) c.constants) in
    let f = length-append (replicate (8 * c.hidden) 0) (flat_map (spelled 8) c.constants) in
    omega (arith, zeros, hidden, message, descriptors, constants, vars, values, a, b, d, e, f)

pub tables_size : (ts : List TableInit) → length (flat_map (λ (t : TableInit). t.bytes) ts) ≡ sum_by (λ (t : TableInit). length t.bytes) ts
tables_size [] = refl
tables_size (t ∷ ts) = let rest = tables_size ts in let all = length-append t.bytes (flat_map (λ (u : TableInit). u.bytes) ts) in omega (arith, rest, all, sum_by-cons (λ (u : TableInit). length u.bytes) t ts)

-- A block's segments may get laps. With them the ring has no more slots than the block counts, and each draft begins near the beginning of its spaces.
use Rattle.std.proofs.Common.{◌≡◌, ℕ, zero, suc, ◌+◌, ◌-◌, ◌*◌, ◌^◌, ◌<◌, ◌≤◌, inl, inr, Bool, true, false, cond, ◌&&◌, ◌||◌, ◌==◌, List, [], ◌∷◌, ◌++◌, length, map, get_or, refl, sym, ap, ◌∙◌, arith, length-append}
use Rattle.std.specs.Prelude.{nat_lt, nat_le, not, sum_by}
use Rattle.std.specs.List.{list_all, range_with_len}
use Rattle.std.proofs.lemmas.Bool.{eq-eqb, ne_eqb, lt-ltb, le-leb, cases_lt, true≢false}
use Rattle.std.proofs.lemmas.List.{length-map}
use Rattle.std.proofs.lemmas.List.FromFn.{length-map-range_with_len}
use Rattle.redn_words.specs.declared.types.Opcode.TheVariants.{Wait, Enable}
use Rattle.redn_graph.specs.declared.types.End.{End}
use Rattle.redn_graph.specs.declared.types.End.TheVariants.{Jump, Test48, Test64, Probe, Reply}
use Rattle.redn_graph.specs.declared.types.Block.{Block}
use Rattle.redn_graph.specs.Slots.{end_slots, instr_slots, block_slots}
use Rattle.redn_segment.specs.declared.types.SlotRef.{SlotRef}
use Rattle.redn_segment.specs.declared.types.Site.{Site}
use Rattle.redn_segment.specs.declared.types.Site.TheVariants as site
use Rattle.redn_segment.specs.declared.types.Draft.{Draft}
use Rattle.redn_segment.specs.Building.{drafts_of}
use Rattle.redn_segment.specs.Sites.{start_of as start_in}
use Rattle.redn_segment.specs.Renaming.{renamed, renamed_site}
use Rattle.redn_recycle.specs.Laps.{Ring, bodies_of, lap_requests, is_last, is_send_last, raise_wait, raise_enable, raise_descriptor}
use Rattle.redn_recycle.specs.Lapped.{MayGoRound, sends_last, names_well, draft_names_well, slots_in_laps, first_of, start_of, segment_at, slots_added, ring_of, ref_in_laps, gate_draft, gate_drafts, lapped_segment, lapped_segments}
use Rattle.redn_recycle.proofs.Starts.{first_few, start_all}
use Rattle.redn_block.specs.Blocks.{block_segments, ring_start, BlockFits}
use Rattle.redn_emit.specs.Kept.{is_near, are_near}
use Rattle.redn_emit.proofs.Blocks.{SiteFits, AllFit, is_reply, behind, spared, BlockIs, block_is}

fits_split : (ring n : ℕ) (ds es : List Draft) → AllFit ring n (ds ++ es) → AllFit ring n ds × AllFit ring n es
fits_split ring n [] es h = (tt, h)
fits_split ring n (d ∷ ds) es h = let rest = fits_split ring n ds es h.1 in ((h.0, rest.0), rest.1)

module _ (segs : List (List Draft)) (ring : ℕ) (sends : Bool) (is : sends_last segs ≡ sends) where
  abbrev below : ℕ
  below = 0 + (length (drafts_of segs) + behind sends)

  or_true : (b : Bool) → (b || true) ≡ true
  or_true true = refl
  or_true false = refl

  site_named : (s : Site) → SiteFits ring below s → names_well segs ring s ≡ true
  site_named (site.Field f) h =
      let same : (f.slot.ring == ring) ≡ true = eq-eqb f.slot.ring ring h.0 in
      let low = h.1 in
      elim (cases_lt f.slot.slot (length (drafts_of segs))) [
        | inl before ↦ rw (same, lt-ltb f.slot.slot (length (drafts_of segs)) before) refl
        | inr past ↦ by_sends sends is f.slot.slot same low past
      ]
    where
      by_sends : (b : Bool) → sends_last segs ≡ b → (slot : ℕ) → (f.slot.ring == ring) ≡ true → slot < 0 + (length (drafts_of segs) + behind b) → length (drafts_of segs) ≤ slot → (f.slot.ring == ring && (nat_lt slot (length (drafts_of segs)) || (not (sends_last segs) && (slot == length (drafts_of segs))))) ≡ true
      by_sends true e slot same low past = absurd (omega arith)
      by_sends false e slot same low past =
          let here : (slot == length (drafts_of segs)) ≡ true = eq-eqb slot (length (drafts_of segs)) (omega arith) in
          rw (same, e, here) (or_true (nat_lt slot (length (drafts_of segs))))
  site_named (site.ReplyWord i) h = refl
  site_named (site.Table t offset) h = refl
  site_named (site.Cell c) h = refl
  site_named site.Key h = refl
  site_named (site.Scratch i) h = refl
  site_named (site.Descriptor r) h = refl

  drafts_named : (ds : List Draft) → AllFit ring below ds → list_all (draft_names_well segs ring) ds ≡ true
  drafts_named [] h = refl
  drafts_named (d ∷ ds) h =
      let here = site_named d.local h.0.0 in
      let there = site_named d.remote h.0.1 in
      let rest = drafts_named ds h.1 in
      rw (here, there) rest

  all_named : (rest : List (List Draft)) → AllFit ring below (drafts_of rest) → list_all (list_all (draft_names_well segs ring)) rest ≡ true
  all_named [] h = refl
  all_named (ds ∷ rest) h =
      let parts = fits_split ring below ds (drafts_of rest) h in
      rw (drafts_named ds parts.0) (all_named rest parts.1)

end_some : (e : End) → 9 ≤ end_slots e
end_some (Jump to) = omega arith
end_some (Test48 left right met unmet) = omega arith
end_some (Test64 left right met unmet) = omega arith
end_some (Probe to t offset key hit miss) = omega arith
end_some (Reply words) = omega arith

pub nine_slots : (b : Block) → 9 ≤ block_slots b
unfolding block_slots
nine_slots b = let end = end_some b.end in omega arith

-- with laps, and without gates behind a last SEND
slots_few : (segs : List (List Draft)) (sends : Bool) → sends_last segs ≡ sends → 2 ≤ length segs → slots_in_laps segs + spared sends ≤ length (drafts_of segs) + 4 * length segs
slots_few segs false e some =
    let few = first_few segs (length segs) in let all = start_all segs in omega (arith, few, all)
slots_few segs true e some =
    let m : ℕ = length segs - 1 in
    let n : length segs ≡ suc m = omega (arith, some) in
    let few = first_few segs m in
    let all = start_all segs in
    let last : (suc m == length segs) ≡ true = eq-eqb (suc m) (length segs) (sym n) in
    let none : slots_added segs m ≡ 0 = rw (e, last) refl in
    let ends : slots_in_laps segs ≡ first_of segs m + (length (segment_at segs m) + slots_added segs m) = ap (first_of segs) n in
    let begins : start_of segs (length segs) ≡ start_of segs m + length (segment_at segs m) = ap (start_of segs) n in
    omega (arith, n, few, all, none, ends, begins)

module _ (most first ring : ℕ) (b : Block) (fits : BlockFits most first b) where
  abbrev segs : List (List Draft)
  segs = block_segments first ring b

  abbrev here : BlockIs (ring_start ring) first b.instrs b.end (is_reply b.end)
  here = block_is most first b.instrs b.end fits.end (ring_start ring)

  -- the drafts are fewer than the slots that the block counts
  pub drafts_few : length (drafts_of segs) + 4 ≤ block_slots b
  unfolding block_slots
  drafts_few = let few = here.few in let two = here.two in by_sends (is_reply b.end) few two
    where
      by_sends : (s : Bool) → length (drafts_of segs) + 4 * length segs ≤ sum_by instr_slots b.instrs + end_slots b.end + spared s → 2 ≤ length segs → length (drafts_of segs) + 4 ≤ sum_by instr_slots b.instrs + end_slots b.end
      by_sends true few two = omega (arith, few, two)
      by_sends false few two = omega (arith, few, two)

  pub slots_counted : slots_in_laps segs ≤ block_slots b
  unfolding block_slots
  slots_counted = let few = here.few in let slots = slots_few segs (is_reply b.end) here.sends_is here.two in omega (arith, few, slots)

  pub may_go : block_slots b ≤ 65536 → MayGoRound segs ring
  unfolding block_slots
  may_go small =
      let few = here.few in
      record {
        some = here.two;
        filled = here.filled;
        few = by_sends (is_reply b.end) few;
        names = all_named segs ring (is_reply b.end) here.sends_is segs here.fits;
      }
    where
      by_sends : (s : Bool) → length (drafts_of segs) + 4 * length segs ≤ sum_by instr_slots b.instrs + end_slots b.end + spared s → length (drafts_of segs) + 4 * length segs < 2 ^ 32
      by_sends true few = omega (arith, few, small)
      by_sends false few = omega (arith, few, small)

-- each draft begins near the beginning of its spaces
near_both : (a b : Bool) → a ≡ true → b ≡ true → (a && b) ≡ true
near_both a b h k = rw (h, k) refl

site_near : (ring n : ℕ) (s : Site) → SiteFits ring n s → nat_le (start_in s) 64 ≡ true
site_near ring n (site.Field f) h = le-leb f.byte 64 h.2
site_near ring n (site.ReplyWord i) h = le-leb (8 * i) 64 (omega (arith, h))
site_near ring n (site.Table t offset) h = le-leb offset 64 h
site_near ring n (site.Cell c) h = refl
site_near ring n site.Key h = refl
site_near ring n (site.Scratch i) h = refl
site_near ring n (site.Descriptor r) h = refl

drafts_near : (ring n : ℕ) (ds : List Draft) → AllFit ring n ds → list_all is_near ds ≡ true
drafts_near ring n [] h = refl
drafts_near ring n (d ∷ ds) h =
    near_both (is_near d) (list_all is_near ds) (near_both (nat_le (start_in d.local) 64) (nat_le (start_in d.remote) 64) (site_near ring n d.local h.0.0) (site_near ring n d.remote h.0.1)) (drafts_near ring n ds h.1)

segments_near : (ring n : ℕ) (rest : List (List Draft)) → AllFit ring n (drafts_of rest) → are_near rest ≡ true
segments_near ring n [] h = refl
segments_near ring n (ds ∷ rest) h =
    let parts = fits_split ring n ds (drafts_of rest) h in
    near_both (list_all is_near ds) (are_near rest) (drafts_near ring n ds parts.0) (segments_near ring n rest parts.1)

both_near : (a b : Bool) → (a && b) ≡ true → (a ≡ true) × (b ≡ true)
both_near true b h = (refl, h)
both_near false b h = absurd (true≢false (sym h))

near_at : (segs : List (List Draft)) → are_near segs ≡ true → (j : ℕ) → list_all is_near (segment_at segs j) ≡ true
near_at [] h j = refl
near_at (s ∷ ss) h zero = (both_near (list_all is_near s) (are_near ss) h).0
near_at (s ∷ ss) h (suc j) = near_at ss (both_near (list_all is_near s) (are_near ss) h).1 j

near_append : (ds es : List Draft) → list_all is_near ds ≡ true → list_all is_near es ≡ true → list_all is_near (ds ++ es) ≡ true
near_append [] es h k = k
near_append (d ∷ ds) es h k =
    let parts = both_near (is_near d) (list_all is_near ds) h in
    near_both (is_near d) (list_all is_near (ds ++ es)) parts.0 (near_append ds es parts.1 k)

renamed_start : (f : SlotRef → SlotRef) (s : Site) → start_in (renamed_site f s) ≡ start_in s
renamed_start f (site.Field x) = refl
renamed_start f (site.ReplyWord i) = refl
renamed_start f (site.Table t offset) = refl
renamed_start f (site.Cell c) = refl
renamed_start f site.Key = refl
renamed_start f (site.Scratch i) = refl
renamed_start f (site.Descriptor r) = refl

near_renamed : (f : SlotRef → SlotRef) (ds : List Draft) → list_all is_near ds ≡ true → list_all is_near (map (renamed f) ds) ≡ true
near_renamed f [] h = refl
near_renamed f (d ∷ ds) h =
    let parts = both_near (is_near d) (list_all is_near ds) h in
    near_both (is_near (renamed f d)) (list_all is_near (map (renamed f) ds)) ((λ i. nat_le (renamed_start f d.local i) 64 && nat_le (renamed_start f d.remote i) 64) ∙ parts.0) (near_renamed f ds parts.1)

module _ (segs : List (List Draft)) (number : ℕ) where
  abbrev r : Ring
  r = ring_of segs number 0 0

  near_either : (b : Bool) (ds es : List Draft) → list_all is_near ds ≡ true → list_all is_near es ≡ true → list_all is_near (cond b ds es) ≡ true
  near_either true ds es h k = h
  near_either false ds es h k = k

  requests_near : (j : ℕ) → list_all is_near (lap_requests number r j) ≡ true
  requests_near zero = near_either r.sends (raise_descriptor number r ∷ []) (raise_wait number r (r.segments - 1) ∷ raise_descriptor number r ∷ []) refl refl
  requests_near (suc j) = near_either (is_send_last number r (suc j)) [] (raise_wait number r j ∷ raise_enable number r j ∷ []) refl refl

  gates_near : (j : ℕ) → list_all is_near (gate_drafts number r j) ≡ true
  gates_near j = near_either (is_send_last number r j) [] _ refl (near_either (is_last number r j) _ _ refl refl)

  lapped_near : are_near segs ≡ true → (a n : ℕ) → are_near (map (lapped_segment number r) (range_with_len a n)) ≡ true
  lapped_near h a zero = refl
  lapped_near h a (suc n) =
      near_both (list_all is_near (lapped_segment number r a)) (are_near (map (lapped_segment number r) (range_with_len (a + 1) n))) (near_append (bodies_of number r a) (gate_drafts number r a) (near_append (r.drafts a) (lap_requests number r a) (near_renamed (ref_in_laps segs number) (segment_at segs a) (near_at segs h a)) (requests_near a)) (gates_near a)) (lapped_near h (a + 1) n)

pub block_near : (most first ring : ℕ) (b : Block) → BlockFits most first b → are_near (lapped_segments ring (ring_of (block_segments first ring b) ring 0 0)) ≡ true
block_near most first ring b fits =
    let here : BlockIs (ring_start ring) first b.instrs b.end (is_reply b.end) = block_is most first b.instrs b.end fits.end (ring_start ring) in
    lapped_near (block_segments first ring b) ring (segments_near ring (0 + (length (drafts_of (block_segments first ring b)) + behind (is_reply b.end))) (block_segments first ring b) here.fits) 0 (length (block_segments first ring b))

-- so many slots have the segments with laps
module _ (segs : List (List Draft)) (number : ℕ) (some : 2 ≤ length segs) where
  abbrev laps_of : Ring
  laps_of = ring_of segs number 0 0

  added_is : (j : ℕ) → length (lap_requests number laps_of j) + length (gate_drafts number laps_of j) ≡ slots_added segs j
  added_is zero =
      let more : (1 == length segs) ≡ false = ne_eqb 1 (length segs) (λ e. omega arith) in
      elim (sends_last segs) as (λ b. length (cond b (raise_descriptor number laps_of ∷ []) (raise_wait number laps_of (length segs - 1) ∷ raise_descriptor number laps_of ∷ [])) + length (cond (b && (1 == length segs)) [] (cond (1 == length segs) (gate_draft Wait number 0 ∷ gate_draft Enable 0 0 ∷ []) (gate_draft Wait number 1 ∷ gate_draft Enable number (first_of segs 2) ∷ []))) ≡ cond (b && (1 == length segs)) 0 (cond (b && true) 3 4)) [
        | true ↦ rw more refl
        | false ↦ rw more refl
      ]
  added_is (suc j) =
      by_tests (sends_last segs) (suc (suc j) == length segs) _ _ _ refl refl refl
    where
      later : (suc j == 0) ≡ false
      later = ne_eqb (suc j) 0 (λ e. omega arith)

      by_tests : (s l : Bool) (xs ys zs : List Draft) → length xs ≡ 2 → length ys ≡ 2 → length zs ≡ 2 → length (cond (s && l) [] xs) + length (cond (s && l) [] (cond l ys zs)) ≡ cond (s && l) 0 (cond (s && (suc j == 0)) 3 4)
      by_tests true true xs ys zs a b c = refl
      by_tests true false xs ys zs a b c = rw later (omega arith)
      by_tests false true xs ys zs a b c = omega arith
      by_tests false false xs ys zs a b c = omega arith

  segment_is : (j : ℕ) → length (lapped_segment number laps_of j) ≡ length (segment_at segs j) + slots_added segs j
  segment_is j =
      let both = length-append (bodies_of number laps_of j) (gate_drafts number laps_of j) in
      let bodies = length-append (laps_of.drafts j) (lap_requests number laps_of j) in
      let same : length (laps_of.drafts j) ≡ length (segment_at segs j) = length-map (segment_at segs j) (renamed (ref_in_laps segs number)) in
      let added = added_is j in
      omega (arith, both, bodies, same, added)

  slots_from : (a n : ℕ) → first_of segs a + length (drafts_of (map (lapped_segment number laps_of) (range_with_len a n))) ≡ first_of segs (a + n)
  slots_from a zero = let e : a ≡ a + 0 = omega arith in let same : first_of segs a ≡ first_of segs (a + 0) = ap (first_of segs) e in omega (arith, same)
  slots_from a (suc n) =
      let rest : first_of segs (a + 1) + length (drafts_of (map (lapped_segment number laps_of) (range_with_len (a + 1) n))) ≡ first_of segs ((a + 1) + n) = slots_from (a + 1) n in
      let one = segment_is a in
      let all = length-append (lapped_segment number laps_of a) (drafts_of (map (lapped_segment number laps_of) (range_with_len (a + 1) n))) in
      let next : a + 1 ≡ suc a = omega arith in
      let there : first_of segs (a + 1) ≡ first_of segs a + (length (segment_at segs a) + slots_added segs a) = ap (first_of segs) next in
      let same : (a + 1) + n ≡ a + suc n = omega arith in
      let end : first_of segs ((a + 1) + n) ≡ first_of segs (a + suc n) = ap (first_of segs) same in
      omega (arith, rest, one, all, there, end)

  -- all of them
  pub lapped_count : length (drafts_of (lapped_segments number laps_of)) ≡ slots_in_laps segs
  lapped_count = let all = slots_from 0 (length segs) in let same : 0 + length segs ≡ length segs = omega arith in let e : first_of segs (0 + length segs) ≡ slots_in_laps segs = ap (first_of segs) same in omega (arith, all, e)

  -- and the first segment
  pub lapped_first : (d : List Draft) → length (get_or (lapped_segments number laps_of) 0 d) ≡ first_of segs 1
  lapped_first d =
      let n : length segs ≡ suc (length segs - 1) = omega (arith, some) in
      let one = segment_is 0 in
      let there : length (get_or (map (lapped_segment number laps_of) (range_with_len 0 (length segs))) 0 d) ≡ length (lapped_segment number laps_of 0) = ap (λ (k : ℕ). length (get_or (map (lapped_segment number laps_of) (range_with_len 0 k)) 0 d)) n in
      omega (arith, one, there)

  pub lapped_some : 0 < length (lapped_segments number laps_of)
  lapped_some = let many = length-map-range_with_len (lapped_segment number laps_of) 0 (length segs) in omega (arith, many, some)

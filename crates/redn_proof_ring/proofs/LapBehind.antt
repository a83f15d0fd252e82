-- The window behind a window of a ring with laps: memory is ready for it.
use Rattle.std.proofs.Common.{◌≡◌, ◌≢◌, ℕ, suc, ◌*◌, ◌<◌, ◌≤◌, inl, inr, true, List, [], length, refl, sym, ap, ◌∙◌, subst, arith}
use Rattle.std.specs.Prelude.{Some}
use Rattle.std.proofs.lemmas.Bool.{cases_lt, cases_eq}
use Rattle.std.proofs.lemmas.Option.{slice_get_within}
use Rattle.redn_segment.proofs.SameSpace.{table_space}
use Rattle.redn_proof_landing.specs.Homes.{seen_in}
use Rattle.redn_proof_landing.specs.Requested.{IsReady}
use Rattle.redn_proof_landing.specs.Segments.{slot_space}
use Rattle.redn_proof_ring.proofs.LapAdvance.{Advance, gated_before}
use Rattle.redn_proof_ring.proofs.LapEvent.{EventIs, Left, event_puts, body_inside, length_there, left_by}
use Rattle.redn_proof_ring.proofs.LapKept.{body_at}
use Rattle.redn_proof_ring.proofs.LapNext.{seen_bytes, in_ring, drafts_next, wait_here, enable_here, last_here, descriptor_here, slot_elsewhere, descriptor_elsewhere}
use Rattle.redn_proof_ring.proofs.LapPlaces.{wait_in, enable_in}
use Rattle.redn_proof_ring.proofs.LapWindows.{bodies_count}
use Rattle.redn_proof_ring.specs.Plans.{Plan, IsLaid, slots_in}
use Rattle.redn_proof_ring.specs.Turns.{Meaning, Promises, Turn, Ready, Leaves, tabled, segment_of, window_at}
use Rattle.redn_recycle.specs.Laps.{Ring, IsRing, bodies_of as ring_bodies, gates_of, wait_of, enable_of, count_at, limit_at, opening_at, wait_request, enable_request, last_enable, descriptor_bytes}
use Rattle.redn_segment.specs.Plain.{remote_space}
use Rattle.redn_segment.specs.Primed.{covers}
use Rattle.redn_segment.specs.Sites.{is_table}
use Rattle.redn_proof_window.specs.Scripts.{Wrote}
use Rattle.redn_proof_window.specs.Stages.{Standing, all_written}
use Rattle.redn_proof_window.specs.Windows.{Opening, bodies_of}
use Rattle.redn_words.specs.Landings.{Change}
use Rattle.redn_words.specs.Requests.{encoded}
use Rattle.redn_segment.specs.declared.types.Space.TheVariants as space
use Rattle.redn_segment.specs.declared.types.Draft.{Draft}
use Rattle.redn_segment.specs.Primed.{IsBytes}

module _ (c : Plan) (laid : IsLaid c) (G : Meaning c) (promises : Promises c G) (x : Turn c G) (m : List ℕ) (ready : Ready c G x m) (n : List ℕ) (event : List Change) (last : Standing (window_at c G x m) n all_written event) where
  abbrev r : ℕ
  r = x.ring

  abbrev j : ℕ
  j = x.segment

  abbrev ring : Ring
  ring = c.ring r

  abbrev its_ring : IsRing r ring
  its_ring = laid.rings r x.ring_in

  abbrev w : Opening
  w = window_at c G x m

  some_is : (a b : Draft) → Some a ≡ Some b → a ≡ b
  some_is a b e = cc

  -- what the segment leaves
  pub left : IsBytes n → (w.event < bodies_of w → Wrote w event) → Left c laid G promises x m ready n event
  left bytes wrote =
      elim (cases_lt w.event (bodies_of w)) [
        | inl inside ↦
            let wr = wrote inside in
            let body = body_at c laid G promises x m ready (ring.event j) inside in
            let made = event_puts c laid G promises x m ready wr.memory wr.sound wr.agrees body.0 body.1 wr.allowed in
            left_by c laid G promises x m ready n event last made.puts (seen_in c.home wr.memory) made.events (λ k. seen_bytes c.home wr.memory (space.Table k) wr.sound) (λ past. absurd (let count = bodies_count c laid G promises x m ready in omega (arith, inside, past, count))) (λ d e.
            let same : body.0 ≡ d = some_is body.0 d (sym body.1 ∙ e) in
            subst (λ (f : Draft). EventIs c laid G promises x m ready made.puts event (seen_in c.home wr.memory) made.events f) same record {
              changes = wr.is ∙ made.lands.writes_are;
              goes = made.goes;
              fits = body_inside c laid G promises x m ready (ring.event j) body.0 (tabled (seen_in c.home m) (seen_in c.home wr.memory)) made.puts made.events body.1 (λ mine t. at_table body.0 wr.memory t ∙ length_there c laid G promises x m ready wr.memory body.0 wr.agrees.size mine) made.goes;
            })
        | inr past ↦ left_by c laid G promises x m ready n event last [] (seen_in c.home n) [] (λ k. seen_bytes c.home n (space.Table k) bytes) (λ past. refl) (λ d e. let count = bodies_count c laid G promises x m ready in let l = slice_get_within (ring_bodies r ring j) (ring.event j) d e in absurd (omega arith))
      ]
    where
      at_table : (d : Draft) (t : List ℕ) → is_table d.remote ≡ true → length (tabled (seen_in c.home m) (seen_in c.home t) (remote_space d)) ≡ length (seen_in c.home t (remote_space d))
      at_table d t e = let its = sym (table_space d.remote) ∙ e in rw its refl

  pub leaves : IsBytes n → (w.event < bodies_of w → Wrote w event) → Leaves c r j (seen_in c.home m) (seen_in c.home n)
  leaves bytes wrote = (left bytes wrote).leaves

  -- where the chain goes on
  pub record Onward (y : Turn c G) : Type 0 where
    pub own : Advance r ring its_ring (x.laps r) j (y.laps r) (segment_of c G y r)
    pub others : (v : ℕ) → v ≢ r → (y.laps v ≡ x.laps v) × (segment_of c G y v ≡ segment_of c G x v)
    pub few : slots_in c r * y.laps r ≤ c.most
    pub fine : G.Fine y.ring y.segment y.ghost (seen_in c.home n)

  module _ (gate : gates_of r ring j ≡ 2) (y : Turn c G) (on : Onward y) where
    pub ready_next : Ready c G y n
    ready_next =
        record {
          size = last.size ∙ ready.size;
          few = λ v l. elim (cases_eq v r) [
            | inl same ↦ subst (λ (z : ℕ). slots_in c z * y.laps z ≤ c.most) (sym same) on.few
            | inr ne ↦ subst (λ (k : ℕ). slots_in c v * k ≤ c.most) (sym (on.others v ne).0) (ready.few v l)
          ];
          drafts = λ v i k d l inside e. drafts_next c laid G promises x m ready n event last v i k d l inside e;
          waits = λ v g l inside two. elim (cases_eq v r) [
            | inl same ↦ subst (λ (z : ℕ). g < (c.ring z).segments → gates_of z (c.ring z) g ≡ 2 → seen_in c.home n (slot_space z (wait_of z (c.ring z) g)) ≡ encoded (wait_request z (c.ring z) (count_at z (c.ring z) (y.laps z) (segment_of c G y z) g))) (sym same) (λ g_in two_here. wait_here c laid G promises x m ready n event last gate (y.laps r) (segment_of c G y r) on.own g g_in two_here) inside two
            | inr ne ↦
                slot_elsewhere c laid G promises x m ready n event last gate (y.laps r) (segment_of c G y r) on.own v (wait_of v (c.ring v) g) l (in_ring c laid G promises x m ready n event last v g (wait_of v (c.ring v) g) l inside (wait_in v (c.ring v) (laid.rings v l) g inside two)) ne ∙ ready.waits v g l inside two ∙ ap (λ (k : ℕ). encoded (wait_request v (c.ring v) (count_at v (c.ring v) k (segment_of c G x v) g))) (sym (on.others v ne).0) ∙ ap (λ (k : ℕ). encoded (wait_request v (c.ring v) (count_at v (c.ring v) (y.laps v) k g))) (sym (on.others v ne).1)
          ];
          enables = λ v g l inside. elim (cases_eq v r) [
            | inl same ↦ subst (λ (z : ℕ). suc g < (c.ring z).segments → seen_in c.home n (slot_space z (enable_of z (c.ring z) g)) ≡ encoded (enable_request z (c.ring z) (limit_at z (c.ring z) (y.laps z) (segment_of c G y z) g))) (sym same) (λ g_in. enable_here c laid G promises x m ready n event last gate (y.laps r) (segment_of c G y r) on.own g g_in) inside
            | inr ne ↦
                let g_in : g < (c.ring v).segments = omega arith in
                let two = gated_before v (c.ring v) (laid.rings v l) g inside in
                slot_elsewhere c laid G promises x m ready n event last gate (y.laps r) (segment_of c G y r) on.own v (enable_of v (c.ring v) g) l (in_ring c laid G promises x m ready n event last v g (enable_of v (c.ring v) g) l g_in (enable_in v (c.ring v) (laid.rings v l) g g_in two)) ne ∙ ready.enables v g l inside ∙ ap (λ (k : ℕ). encoded (enable_request v (c.ring v) (limit_at v (c.ring v) k (segment_of c G x v) g))) (sym (on.others v ne).0) ∙ ap (λ (k : ℕ). encoded (enable_request v (c.ring v) (limit_at v (c.ring v) (y.laps v) k g))) (sym (on.others v ne).1)
          ];
          last = λ v g l end two. elim (cases_eq v r) [
            | inl same ↦ subst (λ (z : ℕ). suc g ≡ (c.ring z).segments → gates_of z (c.ring z) g ≡ 2 → IsReady (covers 40 16) (last_enable z (c.ring z)) (seen_in c.home n (slot_space z (enable_of z (c.ring z) g)))) (sym same) (λ end_here two_here. last_here c laid G promises x m ready n event last gate (y.laps r) (segment_of c G y r) on.own g end_here two_here) end two
            | inr ne ↦
                let g_in : g < (c.ring v).segments = omega arith in
                subst (IsReady (covers 40 16) (last_enable v (c.ring v))) (sym (slot_elsewhere c laid G promises x m ready n event last gate (y.laps r) (segment_of c G y r) on.own v (enable_of v (c.ring v) g) l (in_ring c laid G promises x m ready n event last v g (enable_of v (c.ring v) g) l g_in (enable_in v (c.ring v) (laid.rings v l) g g_in two)) ne)) (ready.last v g l end two)
          ];
          descriptors = λ v l. elim (cases_eq v r) [
            | inl same ↦ subst (λ (z : ℕ). seen_in c.home n (space.Descriptor z) ≡ descriptor_bytes z (c.ring z) (opening_at z (c.ring z) (y.laps z) (segment_of c G y z))) (sym same) (descriptor_here c laid G promises x m ready n event last gate (y.laps r) (segment_of c G y r) on.own)
            | inr ne ↦
                descriptor_elsewhere c laid G promises x m ready n event last gate (y.laps r) (segment_of c G y r) on.own v l ne ∙ ready.descriptors v l ∙ ap (λ (k : ℕ). descriptor_bytes v (c.ring v) (opening_at v (c.ring v) k (segment_of c G x v))) (sym (on.others v ne).0) ∙ ap (λ (k : ℕ). descriptor_bytes v (c.ring v) (opening_at v (c.ring v) (y.laps v) k)) (sym (on.others v ne).1)
          ];
          fine = on.fine;
        }

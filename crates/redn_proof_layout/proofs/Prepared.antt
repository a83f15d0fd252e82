-- With its message, each chain's memory is ready for its first window.
use Rattle.std.proofs.Common.{◌≡◌, ℕ, ◌+◌, ◌*◌, ◌^◌, ◌<◌, Bool, true, false, cond, ◌==◌, List, length, Option, Some, refl, sym, ap, ◌∙◌, subst, arith}
use Rattle.std.specs.Prelude.{slice_get, slice_index, replicate, All}
use Rattle.std.proofs.lemmas.Bool.{true≢false}
use Rattle.std.proofs.lemmas.Option.{slice_get-get_or, slice_get_within}
use Rattle.redn_words.specs.declared.types.Request.{Request}
use Rattle.redn_words.specs.Words.{bytes_at, with_bytes_at, word, number, spelled}
use Rattle.redn_words.specs.Arguments.{argument_words}
use Rattle.redn_words.specs.Requests.{encoded}
use Rattle.redn_words.specs.Bytes.{byte}
use Rattle.redn_words.proofs.Slots.{length-encoded}
use Rattle.redn_kernel.specs.declared.types.Cell.{Cell}
use Rattle.redn_kernel.specs.declared.types.Cell.TheVariants.{Var, Hidden, Argument, Num}
use Rattle.redn_kernel.specs.declared.types.ChainInit.{ChainInit}
use Rattle.redn_kernel.specs.declared.types.Program.{Program}
use Rattle.redn_kernel.specs.CoreRun.{held}
use Rattle.redn_graph.specs.declared.types.Graph.{Graph}
use Rattle.redn_graph.specs.Fits.{IsCell, things_of}
use Rattle.redn_graph.specs.Run.{Mail, in_hand, graph_start}
use Rattle.redn_segment.specs.declared.types.Space.{Space}
use Rattle.redn_segment.specs.declared.types.Space.TheVariants as space
use Rattle.redn_segment.specs.declared.types.Draft.{Draft}
use Rattle.redn_segment.specs.Primed.{covers}
use Rattle.redn_segment.specs.Effects.{word_of}
use Rattle.redn_segment.specs.Homes.{Home}
use Rattle.redn_proof_landing.specs.Homes.{seen_in}
use Rattle.redn_proof_landing.specs.Requested.{IsReady}
use Rattle.redn_proof_landing.specs.Segments.{slot_space}
use Rattle.redn_recycle.specs.Laps.{bodies_of, gates_of, wait_of, enable_of, count_at, limit_at, opening_at, wait_request, enable_request, last_enable, descriptor_bytes}
use Rattle.redn_proof_ring.specs.Plans.{Plan, IsLaid, IsBody, is_ring, slots_in, body_slot, body_request}
use Rattle.redn_proof_ring.specs.Turns.{Ready, segment_of}
use Rattle.redn_proof_ring.proofs.LapPlaces.{gates_at}
use Rattle.redn_proof_ring.proofs.LapWindows.{end_inside}
use Rattle.redn_proof_ring.proofs.LapAdvance.{gated_before}
use Rattle.redn_proof_window.specs.Scripts.{IsBytes}
use Rattle.redn_proof_block.specs.Laying.{Laying, plan}
use Rattle.redn_proof_block.specs.Beginnings.{Begins, is_number}
use Rattle.redn_proof_block.proofs.Beginning.{courses_begin}
use Rattle.redn_image.specs.Faithful.{IsMessageOf, AreMessages}
use Rattle.redn_emit.specs.Layout.{ChainPlan, has_space, home, message_base, receive}
use Rattle.redn_emit.specs.Placed.{entries_base, tables, memory}
use Rattle.redn_proof_layout.specs.Layouts.{is_own}
use Rattle.redn_proof_layout.specs.PlacedLaws.{AreSound}
use Rattle.redn_proof_layout.specs.Beginning.{at_first, Begins as BeginsSo}
use Rattle.redn_proof_layout.proofs.FirstSeen.{begins}
use Rattle.redn_proof_layout.proofs.Whole.{all_at}
use Rattle.redn_proof_interleave.specs.Forms.{with_message}
use Rattle.redn_proof_interleave.specs.Compiled.{Messages}
use Rattle.redn_proof_interleave.specs.GraphMachines.{mail_in}
use Rattle.redn_proof_interleave.specs.RingSides.{message_at}
use Rattle.redn_proof_chain.specs.Formed.{Formed, Point, its_meaning}
use Rattle.redn_proof_layout.specs.Chains.{laying, formed, HasEntry, begun}
use Rattle.redn_proof_layout.specs.ImageLaws.{HasNumbers}
use Rattle.redn_proof_layout.proofs.Its.{Its}
use Rattle.redn_proof_layout.proofs.Mail.{mail_word, argument_word}
use Rattle.redn_proof_layout.proofs.Start.{after, after_size, after_space, mail, mail_fits, seen_after, seen_first}
use Rattle.redn_proof_layout.proofs.Rings.{is_laying, is_formed}
use Rattle.redn_proof_chain.specs.Together.{first_point}
use Rattle.redn_block.proofs.Spelled.{word_spelled as word-spelled}

ready_as : (written : ℕ → Bool) (r : Request) (slot : List ℕ) → slot ≡ encoded r → IsReady written r slot
ready_as written r slot e =
    record { len = ap length e ∙ length-encoded r; bytes = λ i l none. ap (λ (x : List ℕ). slice_index x i) e }

word-zeros : word (replicate 8 0) 0 ≡ 0
unfolding number
word-zeros = refl

module _ (p : Program) (graphs : List Graph) (are : AreSound p graphs) (numbers : HasNumbers p) (messages : Messages) (sent : AreMessages p.chains messages) (i : ℕ) (c : ChainPlan) (init : ChainInit) (g : Graph) (its : Its p graphs i c init g) where
  abbrev its_mail : Mail
  its_mail = mail_in init (message_at messages i)

  abbrev w : List ℕ
  w = in_hand its_mail (graph_start g init.vars)

  abbrev l : Laying
  l = laying p graphs c init g its_mail

  abbrev f : Formed
  f = formed p graphs c init g its_mail

  abbrev P : Plan
  P = plan l

  abbrev at : Space → Home
  at = home c (tables p graphs)

  abbrev first : BeginsSo p graphs c
  first = begins p graphs are i c its.there

  laid : IsLaid P
  laid = (is_formed p graphs are i c init g its its_mail).laid

  abbrev m1 : List ℕ
  m1 = after p graphs are messages sent i c init g its

  value : (x : ℕ) → x < length init.vars → slice_get c.values x ≡ Some (slice_index init.vars x)
  value x small = ap (λ (vs : List ℕ). slice_get vs x) its.values ∙ slice_get-get_or init.vars x 0 small

  pub value_small : (x : ℕ) → x < length init.vars → slice_index init.vars x < 2 ^ 64
  value_small x small = all_at (λ (v : ℕ). v < 2 ^ 64) init.vars (all_at (λ (k : ChainInit). All (λ (v : ℕ). v < 2 ^ 64) k.vars) p.chains numbers.values i init its.init_there) x (slice_index init.vars x) (slice_get-get_or init.vars x 0 small)

  pub variable_after : (x : ℕ) → x < length init.vars → seen_in at m1 (space.Cell (Var x)) ≡ spelled 8 (slice_index init.vars x)
  variable_after x small = after_space p graphs are messages sent i c init g its (space.Cell (Var x)) (its.has_vars x small) (λ e. omega (arith, e)) ∙ first.variables x (slice_index init.vars x) (value x small)

  pub variable_first : (x : ℕ) → x < length init.vars → at_first p graphs c (space.Cell (Var x)) ≡ spelled 8 (slice_index init.vars x)
  variable_first x small = first.variables x (slice_index init.vars x) (value x small)

  module _ (m : List ℕ) (size : length m ≡ length m1) (same : (q : ℕ) → is_own (entries_base p graphs) c q ≡ true → byte m q ≡ byte m1 q) where
    -- the slots of rings are as they were
    slot_first : (r n : ℕ) → is_ring P r ≡ true → n < slots_in P r → seen_in at m (slot_space r n) ≡ at_first p graphs c (slot_space r n)
    slot_first r n ring inside = seen_first p graphs are messages sent i c init g its m size same (slot_space r n) ((laid.lie r ring).its n inside) refl (λ e. omega (arith, e))

    drafts : (r j k : ℕ) (d : Draft) → is_ring P r ≡ true → j < (P.ring r).segments → IsBody P r j k d → IsReady (P.written r (body_slot P r j k)) (body_request P r j k d) (seen_in at m (slot_space r (body_slot P r j k)))
    drafts r j k d ring inside e =
        let low = slice_get_within (bodies_of r (P.ring r) j) k d e in
        let end = end_inside r (P.ring r) (laid.rings r ring) j inside in
        ready_as (P.written r (body_slot P r j k)) (body_request P r j k d) (seen_in at m (slot_space r (body_slot P r j k))) (slot_first r (body_slot P r j k) ring (omega (arith, low, end)) ∙ first.drafts r j k d ring inside e)

    module _ (r j : ℕ) (ring : is_ring P r ≡ true) (inside : j < (P.ring r).segments) (two : gates_of r (P.ring r) j ≡ 2) where
      wait_first : seen_in at m (slot_space r (wait_of r (P.ring r) j)) ≡ at_first p graphs c (slot_space r (wait_of r (P.ring r) j))
      wait_first =
          let end = end_inside r (P.ring r) (laid.rings r ring) j inside in
          let g = (gates_at r (P.ring r) (laid.rings r ring) j inside two).wait in
          slot_first r (wait_of r (P.ring r) j) ring (omega (arith, end, g, two))

      enable_first : seen_in at m (slot_space r (enable_of r (P.ring r) j)) ≡ at_first p graphs c (slot_space r (enable_of r (P.ring r) j))
      enable_first =
          let end = end_inside r (P.ring r) (laid.rings r ring) j inside in
          let g = (gates_at r (P.ring r) (laid.rings r ring) j inside two).enable in
          slot_first r (enable_of r (P.ring r) j) ring (omega (arith, end, g, two))

    module _ (bytes : List ℕ) (there : message_at messages i ≡ Some bytes) (sound : IsBytes m) where
      came : IsMessageOf init (Some bytes)
      came = subst (IsMessageOf init) there (mail p graphs are messages sent i c init g its)

      argument : (k : ℕ) → k < init.args → word (seen_in at m (space.Cell (Argument k))) 0 ≡ slice_index w k
      argument k small =
          let in_after : seen_in at m (space.Cell (Argument k)) ≡ seen_in at m1 (space.Cell (Argument k)) = seen_after p graphs are messages sent i c init g its m size same (space.Cell (Argument k)) (its.has_args k small) refl in
          let sent_is : m1 ≡ with_bytes_at (memory p graphs) (message_base c) bytes = ap (λ (o : Option (List ℕ)). with_message (memory p graphs) (Some (receive c)) o) there in
          let words_are : argument_words bytes 0 init.args ≡ w = sym (ap (λ (o : Option (List ℕ)). in_hand (mail_in init o) (graph_start g init.vars)) there) in
          ap (λ (b : List ℕ). word b 0) (in_after ∙ ap (λ (b : List ℕ). bytes_at b (message_base c + 8 * k) 8) sent_is ∙ mail_word (memory p graphs) (receive c) init (mail_fits p graphs are messages sent i c init g its) bytes came k small) ∙ argument_word bytes init.args k small ∙ ap (λ (ws : List ℕ). slice_index ws k) words_are

      cells : (a : Cell) → IsCell (things_of p.tables init g) a → is_number a ≡ false → (has_space c (space.Cell a) ≡ true) × (word_of (seen_in at m) a ≡ held w (graph_start g init.vars).cells a)
      cells (Var x) small none =
          (its.has_vars x small, ap (λ (b : List ℕ). word b 0) (seen_first p graphs are messages sent i c init g its m size same (space.Cell (Var x)) (its.has_vars x small) refl (λ e. omega (arith, e)) ∙ variable_first x small) ∙ word-spelled (slice_index init.vars x) (value_small x small))
      cells (Hidden k) small none =
          (its.has_hidden k small, ap (λ (b : List ℕ). word b 0) (seen_first p graphs are messages sent i c init g its m size same (space.Cell (Hidden k)) (its.has_hidden k small) refl (λ e. omega (arith, e)) ∙ first.hidden k (its.has_hidden k small)) ∙ word-zeros)
      cells (Argument k) small none = (its.has_args k small, argument k small)
      cells (Num n) small none = absurd (true≢false none)

      -- the graph begins here
      begins_so : Begins l (c.first + g.entry) (graph_start g init.vars) m
      begins_so =
          record {
            size = size ∙ after_size p graphs are messages sent i c init g its;
            sound = sound;
            drafts = drafts;
            is_at = record { block_is = omega arith; place_is = refl; taking_not = refl; runs_on = refl };
            many = refl;
            cells = cells;
            numbers = λ n named. seen_first p graphs are messages sent i c init g its m size same (space.Cell (Num n)) named refl (λ e. omega (arith, e)) ∙ first.numbers n named;
          }

      module _ (has : HasEntry p graphs c init g) where
        abbrev x : Point f
        x = first_point (begun p graphs c init g its_mail has)

        first_segment : (r : ℕ) → segment_of P (its_meaning f) x r ≡ 0
        first_segment r = by_test (r == x.ring)
          where
            by_test : (b : Bool) → ◌≡◌ {A = ℕ} (cond b 0 0) 0
            by_test true = refl
            by_test false = refl

        pub ready : Ready P (its_meaning f) x m
        ready =
            record {
              size = size ∙ after_size p graphs are messages sent i c init g its;
              few = λ r ring. omega arith;
              drafts = drafts;
              waits = λ r j ring inside two. wait_first r j ring inside two ∙ first.waits r j ring inside two ∙ (λ t. encoded (wait_request r (P.ring r) (count_at r (P.ring r) 0 (sym (first_segment r) t) j)));
              enables = λ r j ring inside. enable_first r j ring (omega (arith, inside)) (gated_before r (P.ring r) (laid.rings r ring) j inside) ∙ first.enables r j ring inside ∙ (λ t. encoded (enable_request r (P.ring r) (limit_at r (P.ring r) 0 (sym (first_segment r) t) j)));
              last = λ r j ring end two. ready_as (covers 40 16) (last_enable r (P.ring r)) (seen_in at m (slot_space r (enable_of r (P.ring r) j))) (enable_first r j ring (omega (arith, end)) two ∙ first.last r j ring end two);
              descriptors = λ r ring. seen_first p graphs are messages sent i c init g its m size same (space.Descriptor r) (laid.descriptors r ring) refl (λ e. omega (arith, e)) ∙ first.descriptors r ring ∙ (λ t. descriptor_bytes r (P.ring r) (opening_at r (P.ring r) 0 (sym (first_segment r) t)));
              fine = courses_begin l (is_laying p graphs are i c init g its its_mail) (c.first + g.entry) (graph_start g init.vars) m has.ring_in begins_so;
            }

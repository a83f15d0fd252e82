-- What is asked of drafts by the opcodes that their slots may have.
use Rattle.std.proofs.Common.{◌≡◌, ◌≢◌, inl, inr, ℕ, ◌+◌, ◌<◌, ◌≤◌, true, false, ◌||◌, List, [], ◌∷◌, length, Some, refl, sym, ap, ◌∙◌, subst, arith}
use Rattle.std.specs.Prelude.{slice_get, ◌==◌}
use Rattle.std.specs.List.{All, list_all, list_any}
use Rattle.std.proofs.lemmas.Bool.{false≢true, or_cases, eqb-true, false_from_ne_true}
use Rattle.std.proofs.lemmas.List.Elements.{All-head, All-tail}
use Rattle.std.proofs.lemmas.List.{length-map}
use Rattle.redn_words.specs.declared.types.Kind.{Kind}
use Rattle.redn_words.specs.declared.types.Kind.TheVariants as kind
use Rattle.redn_words.specs.declared.types.Need.{Need}
use Rattle.redn_words.specs.declared.types.Need.TheVariants.{Any, LocalWrite, RemoteRead, RemoteWrite, Atomic}
use Rattle.redn_words.specs.declared.types.Opcode.{Opcode}
use Rattle.redn_words.specs.declared.types.Opcode.TheVariants.{Noop, Write, Read, Cas, Add, Send, Wait, Enable, Undefined}
use Rattle.redn_words.specs.Landings.{local_need, remote_need}
use Rattle.redn_graph.specs.declared.types.Instr.{Instr}
use Rattle.redn_graph.specs.declared.types.Instr.TheVariants as instr
use Rattle.redn_graph.specs.Fits.{FitsInstr}
use Rattle.redn_segment.specs.declared.types.SlotRef.{SlotRef}
use Rattle.redn_segment.specs.declared.types.Site.{Site}
use Rattle.redn_segment.specs.declared.types.Site.TheVariants as site
use Rattle.redn_segment.specs.declared.types.Space.{Space}
use Rattle.redn_segment.specs.declared.types.Space.TheVariants as space
use Rattle.redn_segment.specs.declared.types.Draft.{Draft}
use Rattle.redn_segment.specs.Sites.{kind_of, is_table}
use Rattle.redn_segment.specs.Building.{drafts_of}
use Rattle.redn_segment.specs.Plain.{local_space, remote_space}
use Rattle.redn_segment.specs.Opcodes.{MayHave}
use Rattle.redn_segment.specs.Orders.{Follows, is_send}
use Rattle.redn_segment.specs.Renaming.{renamed, renamed_site, renamed_space}
use Rattle.redn_segment.specs.Rights.{allows, has_remote, is_descriptor, Suits, AllSuit}
use Rattle.redn_segment.specs.Templates.{is_shown, is_variable, may_show, may_show_by}
use Rattle.redn_segment.proofs.Renamed.{space_renamed, table_renamed}
use Rattle.redn_proof_landing.specs.Homes.{Granted}
use Rattle.redn_proof_landing.specs.Segments.{acts_locally}
use Rattle.redn_recycle.specs.Laps.{slot_of, lap_requests}
use Rattle.redn_recycle.specs.Lapped.{segment_at, start_of, ref_in_laps}
use Rattle.redn_proof_ring.specs.Plans.{Plan, is_ring, IsOwn, IsBody, IsLaid}
use Rattle.redn_proof_ring.proofs.Laying as laying
use Rattle.redn_proof_ring.proofs.LapSteps.{slice_get_append, lap_of, lap_raises}
use Rattle.redn_proof_ring.proofs.RingEvents.{event_is}
use Rattle.redn_proof_block.specs.Laying.{Laying, plan, segments, block_at, IsLaying, Turned, Takes}
use Rattle.redn_proof_block.proofs.Rounds.{most, rounds}
use Rattle.redn_proof_block.proofs.Suits.{all_stored, block_suits, suit_at}
use Rattle.redn_proof_block.proofs.Turning.{makes_no_send, block_makes, sends_alike, table_read}
use Rattle.redn_proof_block.proofs.Drafts.{draft_at, mapped_at}
use Rattle.redn_proof_ring.proofs.Promised.{front as slice_get_front}

-- new names of slots change no kind, and nothing of what is shown
kind_renamed : (f : SlotRef → SlotRef) (p : Space) → kind_of (renamed_space f p) ≡ kind_of p
kind_renamed f (space.Slot q) = refl
kind_renamed f _ = refl

descriptor_renamed : (f : SlotRef → SlotRef) (p : Space) → is_descriptor (renamed_space f p) ≡ is_descriptor p
descriptor_renamed f (space.Slot q) = refl
descriptor_renamed f _ = refl

pub shown_renamed : (f : SlotRef → SlotRef) (x : Site) → is_shown (renamed_site f x) ≡ is_shown x
shown_renamed f (site.Field x) = refl
shown_renamed f _ = refl

pub variable_renamed : (f : SlotRef → SlotRef) (x : Site) → is_variable (renamed_site f x) ≡ is_variable x
variable_renamed f (site.Field x) = refl
variable_renamed f _ = refl

-- an opcode that writes locally needs a right for it
local_quiet : (op : Opcode) → local_need op ≡ Any → acts_locally op ≡ false
local_quiet Read e = absurd (cc)
local_quiet Cas e = absurd (cc)
local_quiet Add e = absurd (cc)
local_quiet _ e = refl

-- one that has a remote side isn't a SEND, nor is its draft
remote_no_send : (op : Opcode) → has_remote op ≡ true → is_send op ≡ false
remote_no_send Send e = absurd (false≢true e)
remote_no_send _ e = refl

module _ (l : Laying) (is : IsLaying l) where
  abbrev c : Plan
  c = plan l

  pub laid : IsLaid c
  laid = laying.laid l.layout is.laid

  -- what blocks store into may be written
  stored_written : (xs : List Instr) → All (FitsInstr l.things) xs → (t : ℕ) → list_any (λ (u : ℕ). u == t) (all_stored xs) ≡ true → list_any (λ (u : ℕ). u == t) l.written ≡ true
  stored_written [] fits t h = absurd (false≢true h)
  stored_written (instr.Store u offset from ∷ xs) fits t h =
      elim (or_cases (u == t) (list_any (λ (w : ℕ). w == t) (all_stored xs)) h) [
        | inl here ↦ subst (λ (n : ℕ). list_any (λ (w : ℕ). w == n) l.written ≡ true) (eqb-true u t here) (is.writes u (All-head (FitsInstr l.things) (instr.Store u offset from) xs fits).0)
        | inr there ↦ stored_written xs (All-tail (FitsInstr l.things) (instr.Store u offset from) xs fits) t there
      ]
  stored_written (instr.Set to v ∷ xs) fits t h = stored_written xs (All-tail (FitsInstr l.things) (instr.Set to v) xs fits) t h
  stored_written (instr.Move to from ∷ xs) fits t h = stored_written xs (All-tail (FitsInstr l.things) (instr.Move to from) xs fits) t h
  stored_written (instr.Add to by ∷ xs) fits t h = stored_written xs (All-tail (FitsInstr l.things) (instr.Add to by) xs fits) t h
  stored_written (instr.Load to u offset ∷ xs) fits t h = stored_written xs (All-tail (FitsInstr l.things) (instr.Load to u offset) xs fits) t h

  allows_written : (xs : List Instr) → All (FitsInstr l.things) xs → (k : Kind) (need : Need) → allows (all_stored xs) k need ≡ true → allows l.written k need ≡ true
  allows_written xs fits k Any h = refl
  allows_written xs fits k LocalWrite h = h
  allows_written xs fits k RemoteRead h = h
  allows_written xs fits k Atomic h = h
  allows_written xs fits (kind.Table t) RemoteWrite h = stored_written xs fits t h
  allows_written xs fits kind.Vars RemoteWrite h = h
  allows_written xs fits kind.Code RemoteWrite h = h
  allows_written xs fits kind.Control RemoteWrite h = h
  allows_written xs fits kind.Message RemoteWrite h = h

  module _ (r : ℕ) (its : is_ring c r ≡ true) where
    abbrev segs : List (List Draft)
    segs = segments l r

    abbrev stored : List ℕ
    stored = all_stored (block_at l r).instrs

    abbrev f : SlotRef → SlotRef
    f = ref_in_laps segs r

    pub ring_suits : AllSuit stored (drafts_of segs) (slot_of r 0) (drafts_of segs)
    ring_suits =
        let round = rounds l is r its in
        subst (λ (s : List (List Draft)). AllSuit stored (drafts_of s) (slot_of r 0) (drafts_of s)) (sym (is.segments_are r its)) (block_suits (most l is) l.layout.first_queue (block_at l r).end round.targets.end r (block_at l r).instrs round.targets.instrs)

    ring_makes : list_all makes_no_send (drafts_of segs) ≡ true
    ring_makes = ap (λ (x : List (List Draft)). list_all makes_no_send (drafts_of x)) (is.segments_are r its) ∙ block_makes l.layout.first_queue (block_at l r).instrs (block_at l r).end (slot_of r 0)

    pub draft_suits : (j k : ℕ) (d : Draft) (op : Opcode) → slice_get (segment_at segs j) k ≡ Some d → MayHave (drafts_of segs) (slot_of r (start_of segs j + k)) d op → Suits stored d op
    draft_suits j k d op e may =
        suit_at stored (drafts_of segs) (drafts_of segs) (slot_of r 0) ring_suits (start_of segs j + k) d (draft_at segs j k d e) op (subst (λ (n : ℕ). MayHave (drafts_of segs) (slot_of r n) d op) (let same : start_of segs j + k ≡ 0 + (start_of segs j + k) = omega arith in same) may)

    -- a draft of the ring as it lies there
    module _ (j k : ℕ) (d : Draft) (op : Opcode) (inside : j < length segs) (own : IsOwn c r j k d) (takes : Takes l r j k op) where
      old : (x : Draft) × (slice_get (segment_at segs j) k ≡ Some x) × (d ≡ renamed f x)
      old = mapped_at (renamed f) (segment_at segs j) k d own

      suits : Suits stored old.0 op
      suits = draft_suits j k old.0 op old.1 (takes.own old.0 old.1)

      follows_old : Follows old.0 op → Follows d op
      follows_old (inl same) = inl (same ∙ ap (λ (x : Draft). x.op) (sym old.2))
      follows_old (inr turned) = inr (ap (λ (x : Draft). x.op) old.2 ∙ turned.0, subst (λ (x : Draft). 8 ≤ x.length) (sym old.2) turned.1)

      local_is : local_space d ≡ renamed_space f (local_space old.0)
      local_is = ap local_space old.2 ∙ space_renamed f old.0.local

      remote_is : remote_space d ≡ renamed_space f (remote_space old.0)
      remote_is = ap remote_space old.2 ∙ space_renamed f old.0.remote

      no_send : Follows d op → has_remote op ≡ true → is_send d.op ≡ false
      no_send (inl same) far = ap is_send (sym same) ∙ remote_no_send op far
      no_send (inr turned) far = ap is_send turned.0

      pub follows_own : Follows d op
      follows_own = follows_old suits.follows

      pub granted_own : Granted c.home op d
      granted_own =
          let round = rounds l is r its in
          let sides = laid.sides r j k d its inside (slice_get_front ((c.ring r).drafts j) (lap_requests r (c.ring r) j) k d own) in
          record {
            local = is.rights (local_space d) (local_need op) sides.0 (ap (λ (x : Kind). allows l.written x (local_need op)) (ap kind_of local_is ∙ kind_renamed f (local_space old.0)) ∙ allows_written (block_at l r).instrs round.fits.instrs_fit (kind_of (local_space old.0)) (local_need op) suits.local);
            remote = λ far. is.rights (remote_space d) (remote_need op) (sides.1 (no_send follows_own far)) (ap (λ (x : Kind). allows l.written x (remote_need op)) (ap kind_of remote_is ∙ kind_renamed f (remote_space old.0)) ∙ allows_written (block_at l r).instrs round.fits.instrs_fit (kind_of (remote_space old.0)) (remote_need op) (suits.remote far));
          }

      pub keeps_own : (v : ℕ) → local_space d ≡ space.Descriptor v → acts_locally op ≡ false
      keeps_own v e = local_quiet op (suits.local_descriptor (sym (descriptor_renamed f (local_space old.0)) ∙ (ap is_descriptor (sym local_is) ∙ ap is_descriptor e)))

      shows_old : (o : Opcode) → may_show_by d o ≡ may_show_by old.0 o
      shows_old o = ap (λ (x : Draft). may_show_by x o) old.2 ∙ by_op o
        where
          by_op : (o : Opcode) → may_show_by (renamed f old.0) o ≡ may_show_by old.0 o
          by_op Send = refl
          by_op Read = λ i. shown_renamed f old.0.remote i || variable_renamed f old.0.local i
          by_op Noop = shown_renamed f old.0.remote
          by_op Write = shown_renamed f old.0.remote
          by_op Cas = shown_renamed f old.0.remote
          by_op Add = shown_renamed f old.0.remote
          by_op Wait = shown_renamed f old.0.remote
          by_op Enable = shown_renamed f old.0.remote
          by_op (Undefined n) = shown_renamed f old.0.remote

      pub unseen_own : k ≢ (c.ring r).event j → may_show_by d op ≡ false
      unseen_own other =
          let ring = is.laid.rings_are r its in
          let quiet : may_show old.0 ≡ false = false_from_ne_true (may_show old.0) (λ shows. other (sym (event_is (segment_at segs j) k old.0 (ring.leaves j inside).events old.1 shows))) in
          shows_old op ∙ suits.silent quiet

      pub turned_own : Turned d op
      turned_own =
          let may : MayHave (drafts_of segs) (slot_of r (start_of segs j + k)) old.0 op = takes.own old.0 old.1 in
          let same_op : is_send op ≡ is_send old.0.op = sends_alike (drafts_of segs) (slot_of r (start_of segs j + k)) old.0 op ring_makes may suits.follows in
          record {
            reads = λ read.
                let well : Suits stored old.0 Read = subst (Suits stored old.0) read suits in
                ap (λ (x : Draft). is_table x.remote) old.2 ∙ (table_renamed f old.0.remote ∙ table_read old.0.remote (well.remote refl));
            sends = same_op ∙ ap (λ (x : Draft). is_send x.op) (sym old.2);
          }

    pub follows_body : (j k : ℕ) (d : Draft) (op : Opcode) → j < length segs → IsBody c r j k d → Takes l r j k op → Follows d op
    follows_body j k d op inside body takes =
        elim (slice_get_append ((c.ring r).drafts j) (lap_requests r (c.ring r) j) k d body) [
          | inl own ↦ follows_own j k d op inside own takes
          | inr lap ↦
              let raises = lap_raises r (c.ring r) d (lap_of r (c.ring r) j lap.0 d lap.2) in
              let long = length-map (segment_at segs j) (renamed f) in
              let place = lap.1 in
              inl (takes.lap (omega (arith, long, place)) ∙ sym raises.op_is)
        ]

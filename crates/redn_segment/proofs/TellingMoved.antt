-- What is told of opcodes from slot 0 of ring 0 on is told from any slot on.
use Rattle.std.proofs.Common.{◌≡◌, inl, inr, ℕ, ◌+◌, ◌&&◌, ◌==◌, List, [], ◌∷◌, length, map, sym, ap, ◌∙◌, subst}
use Rattle.std.proofs.lemmas.List.{length-map}
use Rattle.redn_words.specs.declared.types.Obs.{Obs}
use Rattle.redn_words.specs.declared.types.Opcode.{Opcode}
use Rattle.redn_segment.specs.declared.types.SlotRef.{SlotRef}
use Rattle.redn_segment.specs.declared.types.Space.{Space}
use Rattle.redn_segment.specs.declared.types.Space.TheVariants as space
use Rattle.redn_segment.specs.declared.types.Draft.{Draft}
use Rattle.redn_segment.specs.Sites.{same_space, next_slot}
use Rattle.redn_segment.specs.Plain.{Bytes, View, Put, placed, Outcome, Went, opcode_in, remote_space, runs}
use Rattle.redn_segment.specs.Primed.{Primed, IsWhole, HasRoom}
use Rattle.redn_segment.specs.Building.{drafts_of}
use Rattle.redn_segment.specs.Drafts.{slot_from}
use Rattle.redn_segment.specs.Effects.{slot_behind}
use Rattle.redn_segment.specs.Renaming.{renamed, renamed_put, renamed_outcome, pulled, pulled_view, moved}
use Rattle.redn_segment.specs.Opcodes.{turns, is_swap, IsMade, MayHave, SegmentMayHave, HaveOpcodes, TellOpcodes}
use Rattle.redn_segment.proofs.Renamed.{space_renamed, start_renamed}
use Rattle.redn_segment.proofs.Moved.{same_renamed, pulled_placed, runs_renamed, primed_from}
use Rattle.redn_segment.proofs.Moving.{own, keeps, next, slot_ref, in_place}
use Rattle.redn_segment.proofs.ApartMoved.{behind_moved}

module _ (ring first : ℕ) where
  abbrev at : SlotRef → SlotRef
  at = moved ring first

  pub turns_moved : (q : SlotRef) (e : Draft) → turns (at q) (renamed at e) ≡ turns q e
  turns_moved q e =
      let same : same_space (remote_space (renamed at e)) (space.Slot (at q)) ≡ same_space (remote_space e) (space.Slot q) = ap (λ (p : Space). same_space p (space.Slot (at q))) (space_renamed at e.remote) ∙ same_renamed at (keeps ring first) (remote_space e) (space.Slot q) in
      let start = start_renamed at e.remote in
      λ i. is_swap e.op && (same i && (start i + e.remote_byte == 0))

  made_moved : (es : List Draft) (q : SlotRef) (op : Opcode) → IsMade es q op → IsMade (map (renamed at) es) (at q) op
  made_moved [] q op m = m
  made_moved (e ∷ es) q op (inl m) = inl (turns_moved q e ∙ m.0, m.1)
  made_moved (e ∷ es) q op (inr m) = inr (made_moved es q op m)

  may_moved : (all : List Draft) (q : SlotRef) (d : Draft) (op : Opcode) → MayHave all q d op → MayHave (map (renamed at) all) (at q) (renamed at d) op
  may_moved all q d op (inl m) = inl m
  may_moved all q d op (inr m) = inr (made_moved all q op m)

  segment_moved : (all ds : List Draft) (q : SlotRef) (s : Bytes) → SegmentMayHave all q ds (pulled at s) → SegmentMayHave (map (renamed at) all) (at q) (map (renamed at) ds) s
  segment_moved all [] q s h = tt
  segment_moved all (d ∷ ds) q s h =
      (may_moved all q d (opcode_in (s (space.Slot (at q)))) h.0, subst (λ (r : SlotRef). SegmentMayHave (map (renamed at) all) r (map (renamed at) ds) s) (next ring first q) (segment_moved all ds (next_slot q) s h.1))

  went_back : (o : Outcome) (us : List Put) (shown : List Obs) → renamed_outcome at o ≡ Went us shown → (vs : List Put) × (o ≡ Went vs shown) × (map (renamed_put at) vs ≡ us)
  went_back (Went vs events) us shown e = let a : map (renamed_put at) vs ≡ us = cc in let b : events ≡ shown = cc in (vs, ap (λ (l : List Obs). Went vs l) b, a)
  went_back _ us shown e = absurd (cc)

  have_moved : (all : List Draft) (segments : List (List Draft)) (q : SlotRef) (chain : View) (s : Bytes) → HaveOpcodes all (pulled_view at chain) q segments (pulled at s) → HaveOpcodes (map (renamed at) all) chain (at q) (map (map (renamed at)) segments) s
  have_moved all [] q chain s h = tt
  have_moved all (ds ∷ rest) q chain s h = (
    segment_moved all ds q s h.0,
    λ us shown goes.
        let back = went_back (runs (pulled_view at chain) q ds (pulled at s)) us shown (sym (runs_renamed at (keeps ring first) (next ring first) chain ds q s) ∙ goes) in
        let there : pulled at (placed s us) ≡ placed (pulled at s) back.0 = ap (λ (l : List Put). pulled at (placed s l)) (sym back.2) ∙ pulled_placed at (keeps ring first) back.0 s in
        let more : HaveOpcodes all (pulled_view at chain) (slot_behind q (length ds)) rest (pulled at (placed s us)) = subst (λ (t : Bytes). HaveOpcodes all (pulled_view at chain) (slot_behind q (length ds)) rest t) (sym there) (h.1 back.0 shown back.1) in
        let place : at (slot_behind q (length ds)) ≡ slot_behind (at q) (length (map (renamed at) ds)) = sym (behind_moved ring first q (length ds)) ∙ ap (slot_behind (at q)) (sym (length-map ds (renamed at))) in
        subst (λ (r : SlotRef). HaveOpcodes (map (renamed at) all) chain r (map (map (renamed at)) rest) (placed s us)) place (have_moved all rest (slot_behind q (length ds)) chain (placed s us) more),
  )

  pub told_moved : (template : (ℕ → SlotRef) → List (List Draft)) → map (renamed at) (drafts_of (template own)) ≡ drafts_of (template (λ (k : ℕ). at (own k))) → map (map (renamed at)) (template own) ≡ template (λ (k : ℕ). at (own k)) → TellOpcodes (own 0) (template own) → TellOpcodes (slot_ref ring first) (template (slot_from ring first))
  told_moved template same same_segments tell =
      in_place ring first (λ (q : SlotRef) (slot : ℕ → SlotRef). TellOpcodes q (template slot)) there
    where
      there : TellOpcodes (at (own 0)) (template (λ (k : ℕ). at (own k)))
      there chain bytes s whole room primed =
          let ds : List Draft = drafts_of (template own) in
          let old : View = pulled_view at chain in
          let primed_same : Primed (map (renamed at) ds) (at (own 0)) (map (renamed at) ds) s = subst (λ (l : List Draft). Primed l (at (own 0)) l s) (sym same) primed in
          let whole_pulled : IsWhole (pulled at s) = record { cells = whole.cells; numbers = whole.numbers; descriptors = whole.descriptors; tables = whole.tables } in
          let room_pulled : HasRoom (pulled at s) = record { reply = room.reply; key = room.key; scratch = room.scratch } in
          let told : HaveOpcodes ds old (own 0) (template own) (pulled at s) = tell old (λ q t. bytes (at q) t) (pulled at s) whole_pulled room_pulled (primed_from at (keeps ring first) (next ring first) ds s ds (own 0) primed_same) in
          let here : HaveOpcodes (map (renamed at) ds) chain (at (own 0)) (map (map (renamed at)) (template own)) s = have_moved ds (template own) (own 0) chain s told in
          subst (λ (l : List Draft). HaveOpcodes l chain (at (own 0)) (template (λ (k : ℕ). at (own k))) s) same (subst (λ (segments : List (List Draft)). HaveOpcodes (map (renamed at) ds) chain (at (own 0)) segments s) same_segments here)

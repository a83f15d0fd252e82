-- Which opcodes slots have, from tests of their drafts.
use Rattle.std.proofs.Common.{◌≡◌, ◌⊎◌, inl, inr, ℕ, zero, suc, ◌+◌, ◌<◌, ◌^◌, Bool, true, false, not, ◌&&◌, ◌||◌, ◌==◌, List, [], ◌∷◌, ◌++◌, length, refl, sym, ap, ◌∙◌, subst, arith, append_assoc, append-nil, length-append}
use Rattle.std.specs.Prelude.{nat_le, nat_lt, slice_index}
use Rattle.std.specs.List.{list_all, list_any}
use Rattle.std.proofs.lemmas.Bool.{false≢true, and_parts, and_from, or_left, or_right, or_cases, leb-true, ltb-true, eqb-true}
use Rattle.redn_words.specs.declared.types.Obs.{Obs}
use Rattle.redn_words.specs.declared.types.Opcode.{Opcode}
use Rattle.redn_words.specs.declared.types.Opcode.TheVariants.{Noop, Write, Cas, Undefined}
use Rattle.redn_words.specs.Words.{bytes_at, word, spelled}
use Rattle.redn_kernel.specs.declared.types.Cell.TheVariants.{Num}
use Rattle.redn_segment.specs.declared.types.SlotRef.{SlotRef}
use Rattle.redn_segment.specs.declared.types.Space.TheVariants as space
use Rattle.redn_segment.specs.declared.types.Draft.{Draft}
use Rattle.redn_segment.specs.Sites.{start_of, is_table, same_space, next_slot}
use Rattle.redn_segment.specs.Plain.{Bytes, View, seeing, Put, put, with_put, placed, Outcome, Went, Faults, Bad, after, follow, step, runs, opcode_in, second_in, local_space, remote_space, local_at, remote_at, local_bytes, remote_bytes, first_in, to_local, to_remote, swap, acts}
use Rattle.redn_segment.specs.Primed.{IsPrimed, IsKnown, Primed, writes_at, writes_slot, writes_local, writes_remote, covers}
use Rattle.redn_segment.specs.Building.{drafts_of}
use Rattle.redn_segment.specs.Effects.{slot_behind}
use Rattle.redn_segment.specs.Footprints.{both_sides, ends_inside}
use Rattle.redn_segment.specs.Orders.{Follows}
use Rattle.redn_segment.specs.Opcodes.{word_opcode, is_swap, turns, IsMade, MayHave, SegmentMayHave, HaveOpcodes, TellOpcodes}
use Rattle.redn_segment.proofs.Kept.{kept, same_bytes, second_kept, opcode_kept, not_true}
use Rattle.redn_segment.proofs.SameSpace.{same_space_is, is_table_space, table_space}
use Rattle.redn_segment.proofs.Pieces.{with_put_there}
use Rattle.redn_segment.proofs.Filled.{clear_bytes}
use Rattle.redn_segment.proofs.PutSides.{AllIn, puts_in}
use Rattle.redn_segment.proofs.SlotBytes.{opcode_by, Stays, all_stay, space_stays, spares_space, write_puts, cas_puts, noop_puts, cleared_opcode, swapped_opcode}
use Rattle.redn_segment.proofs.Composing.{behind_next, behind_none, placed_append}

abbrev pub is_noop : Opcode → Bool
is_noop Noop = true
is_noop _ = false

abbrev is_write : Opcode → Bool
is_write Write = true
is_write _ = false

abbrev is_cas : Opcode → Bool
is_cas Cas = true
is_cas _ = false

pub noop_is : (op : Opcode) → is_noop op ≡ true → op ≡ Noop
noop_is Noop h = refl
noop_is _ h = absurd (false≢true h)

write_is : (op : Opcode) → is_write op ≡ true → op ≡ Write
write_is Write h = refl
write_is _ h = absurd (false≢true h)

cas_is : (op : Opcode) → is_cas op ≡ true → op ≡ Cas
cas_is Cas h = refl
cas_is _ h = absurd (false≢true h)

swap_is : (op : Opcode) → is_swap op ≡ true → (op ≡ Noop) ⊎ (op ≡ Cas)
swap_is Noop h = inl refl
swap_is Cas h = inr refl
swap_is _ h = absurd (false≢true h)

-- what is tested of the drafts of a template. Slots whose opcodes are told have them untouched, or cleared by a draft before
module _ (all : List Draft) where
  abbrev pub unturned : SlotRef → Bool
  unturned p = not (list_any (turns p) all)

  abbrev pub only_cas : SlotRef → Bool
  only_cas p = list_all (λ (f : Draft). not (turns p f) || is_cas (word_opcode f.second)) all

  abbrev pub spared : SlotRef → Draft → Bool
  spared q e = not (writes_at (space.Slot q) 0 e) && not (writes_at (space.Slot q) 1 e)

  -- two bytes of the constant 0 go to the front of a slot
  abbrev pub clears : SlotRef → Draft → Bool
  clears q e =
      is_write e.op && (same_space (remote_space e) (space.Slot q) && ((start_of e.remote + e.remote_byte == 0) && ((e.length == 2) && (same_space (local_space e) (space.Cell (Num 0)) && (local_at e == 0)))))

  abbrev pub swaps : SlotRef → Draft → SlotRef → Bool
  swaps p e q =
      turns q e && (not (same_space (local_space e) (space.Slot q)) && (kept (writes_slot all p) e 48 8 && (nat_lt e.second (256 ^ 8) && only_cas p)))

  -- what a draft in one slot may do to another slot
  abbrev pub is_fine : SlotRef → Draft → SlotRef → Draft → Bool
  is_fine p e q d = spared q e || ((clears q e && (is_noop d.op && unturned p)) || swaps p e q)

  abbrev pub all_fine : SlotRef → Draft → SlotRef → List Draft → Bool
  all_fine p e at [] = true
  all_fine p e at (d ∷ ds) = is_fine p e at d && all_fine p e (next_slot at) ds

  abbrev pub zero_stays : Draft → Bool
  zero_stays e = both_sides (spares_space e (space.Cell (Num 0))) e

  abbrev pub is_sound : SlotRef → SlotRef → Draft → Bool
  is_sound first p e =
      (unturned p || (is_noop e.op && nat_le 8 e.length)) && (zero_stays e && (both_sides ends_inside e && all_fine p e first all))

  abbrev pub all_sound : SlotRef → SlotRef → List Draft → Bool
  all_sound first at [] = true
  all_sound first at (e ∷ es) = is_sound first at e && all_sound first (next_slot at) es

  -- a slot is told once these drafts have run
  abbrev pub told : List Draft → SlotRef → Bool
  told done q = list_all (spared q) all || list_any (clears q) done

  abbrev pub all_told : List Draft → SlotRef → List Draft → Bool
  all_told done at [] = true
  all_told done at (d ∷ ds) = told done at && all_told done (next_slot at) ds

  abbrev pub segments_told : List Draft → SlotRef → List (List Draft) → Bool
  segments_told done at [] = true
  segments_told done at (ds ∷ rest) = all_told done at ds && segments_told (done ++ ds) (slot_behind at (length ds)) rest

-- all that is tested of the segments of a template
abbrev pub is_known : Opcode → Bool
is_known (Undefined n) = false
is_known _ = true

abbrev pub tells : SlotRef → List (List Draft) → Bool
tells first segments =
    list_all (λ (d : Draft). is_known d.op) (drafts_of segments) && (all_sound (drafts_of segments) first first (drafts_of segments) && segments_told (drafts_of segments) [] first segments)

-- something of each slot from one on
abbrev Each : (SlotRef → Draft → Type 0) → SlotRef → List Draft → Type 0
Each P at [] = Unit {0}
Each P at (d ∷ ds) = P at d × Each P (next_slot at) ds

each_behind : (P : SlotRef → Draft → Type 0) (ds es : List Draft) (at : SlotRef) → Each P at (ds ++ es) → Each P (slot_behind at (length ds)) es
each_behind P [] es at h = subst (λ (q : SlotRef). Each P q es) (sym (behind_none at)) h
each_behind P (d ∷ ds) es at h = subst (λ (q : SlotRef). Each P q es) (behind_next at (length ds)) (each_behind P ds es (next_slot at) h.1)

any_at : {X : Type 0} (test : X → Bool) (done : List X) (e : X) (rest : List X) → test e ≡ true → list_any test (done ++ e ∷ rest) ≡ true
any_at test [] e rest h = or_left (test e) (list_any test rest) h
any_at test (d ∷ done) e rest h = or_right (test d) (list_any test (done ++ e ∷ rest)) (any_at test done e rest h)

made_at : (done : List Draft) (e : Draft) (rest : List Draft) (q : SlotRef) (op : Opcode) → turns q e ≡ true → op ≡ word_opcode e.second → IsMade (done ++ e ∷ rest) q op
made_at [] e rest q op h k = inl (h, k)
made_at (d ∷ done) e rest q op h k = inr (made_at done e rest q op h k)

-- where none turns a slot nothing is made of it, and else a CAS where only that word is put in
none_made : (es : List Draft) (p : SlotRef) (op : Opcode) → list_any (turns p) es ≡ false → IsMade es p op → ⊥
none_made [] p op h m = m
none_made (e ∷ es) p op h (inl m) = false≢true (sym h ∙ or_left (turns p e) (list_any (turns p) es) m.0)
none_made (e ∷ es) p op h (inr m) =
    elim (turns p e) as (λ b. b || list_any (turns p) es ≡ false → ⊥) [ true ↦ λ k. false≢true (sym k) | false ↦ λ k. none_made es p op k m ] h

cas_made : (es : List Draft) (p : SlotRef) (op : Opcode) → list_all (λ (f : Draft). not (turns p f) || is_cas (word_opcode f.second)) es ≡ true → IsMade es p op → op ≡ Cas
cas_made [] p op h m = absurd m
cas_made (e ∷ es) p op h (inl m) =
    let parts = and_parts (not (turns p e) || is_cas (word_opcode e.second)) (list_all (λ (f : Draft). not (turns p f) || is_cas (word_opcode f.second)) es) h in
    m.1 ∙ cas_is (word_opcode e.second) (subst (λ (b : Bool). not b || is_cas (word_opcode e.second) ≡ true) m.0 parts.0)
cas_made (e ∷ es) p op h (inr m) =
    cas_made es p op (and_parts (not (turns p e) || is_cas (word_opcode e.second)) (list_all (λ (f : Draft). not (turns p f) || is_cas (word_opcode f.second)) es) h).1 m

went_first : (o : Outcome) (go : List Put → Outcome) (us : List Put) (shown : List Obs) → follow o go ≡ Went us shown → (vs : List Put) × (ws : List Put) × (before : List Obs) × (more : List Obs) × (o ≡ Went vs before) × (go vs ≡ Went ws more) × (us ≡ vs ++ ws)
went_first (Went vs before) go us shown h = rest (go vs) refl h
  where
    rest : (p : Outcome) → go vs ≡ p → after vs before p ≡ Went us shown → (xs : List Put) × (ws : List Put) × (earlier : List Obs) × (more : List Obs) × (Went vs before ≡ Went xs earlier) × (go xs ≡ Went ws more) × (us ≡ xs ++ ws)
    rest (Went ws more) e k = let same : vs ++ ws ≡ us = cc in (vs, ws, before, more, refl, e, sym same)
    rest (Faults ws more) e k = absurd (cc)
    rest Bad e k = absurd (cc)
went_first _ go us shown h = absurd (cc)

module _ (all : List Draft) (first : SlotRef) (chain : View) where
  -- what is known of a slot when some drafts have run
  abbrev Knows : List Draft → Bytes → SlotRef → Draft → Type 0
  Knows done s q d = IsPrimed (writes_slot all q) d (s (space.Slot q)) × (told all done q ≡ true → MayHave all q d (opcode_in (s (space.Slot q))))

  abbrev Inv : List Draft → Bytes → Type 0
  Inv done s = Each (Knows done s) first all × (s (space.Cell (Num 0)) ≡ spelled 8 0)

  -- one draft acts
  module _ (done : List Draft) (e : Draft) (rest : List Draft) (whole : all ≡ done ++ e ∷ rest) (p : SlotRef) (s : Bytes) (sound : is_sound all first p e ≡ true) (its : Knows done s p e) (zero_is : s (space.Cell (Num 0)) ≡ spelled 8 0) (known : told all done p ≡ true) (us : List Put) (shown : List Obs) (goes : step chain p e s ≡ Went us shown) where
    abbrev slot : List ℕ
    slot = s (space.Slot p)

    abbrev op : Opcode
    op = opcode_in slot

    abbrev sees : Bytes
    sees = seeing (chain.tables p) s

    may : MayHave all p e op
    may = its.1 known

    first_test : unturned all p || (is_noop e.op && nat_le 8 e.length) ≡ true
    first_test = (and_parts (unturned all p || (is_noop e.op && nat_le 8 e.length)) (zero_stays all e && (both_sides ends_inside e && all_fine all p e first all)) sound).0

    second_test : zero_stays all e && (both_sides ends_inside e && all_fine all p e first all) ≡ true
    second_test = (and_parts (unturned all p || (is_noop e.op && nat_le 8 e.length)) (zero_stays all e && (both_sides ends_inside e && all_fine all p e first all)) sound).1

    third_test : both_sides ends_inside e && all_fine all p e first all ≡ true
    third_test = (and_parts (zero_stays all e) (both_sides ends_inside e && all_fine all p e first all) second_test).1

    ends : both_sides ends_inside e ≡ true
    ends = (and_parts (both_sides ends_inside e) (all_fine all p e first all) third_test).0

    fine : all_fine all p e first all ≡ true
    fine = (and_parts (both_sides ends_inside e) (all_fine all p e first all) third_test).1

    own_if_unturned : unturned all p ≡ true → op ≡ e.op
    own_if_unturned h = by_way may
      where
        by_way : MayHave all p e op → op ≡ e.op
        by_way (inl m) = m
        by_way (inr m) = absurd (none_made all p op (not_true (list_any (turns p) all) h) m)

    follows : Follows e op
    follows =
        elim (or_cases (unturned all p) (is_noop e.op && nat_le 8 e.length) first_test) [
          | inl h ↦ inl (own_if_unturned h)
          | inr h ↦ let parts = and_parts (is_noop e.op) (nat_le 8 e.length) h in inr (noop_is e.op parts.0, leb-true 8 e.length parts.1)
        ]

    made : AllIn e us
    made = puts_in e slot chain.number sees op us shown follows goes

    zero_still : placed s us (space.Cell (Num 0)) ≡ spelled 8 0
    zero_still = space_stays e (space.Cell (Num 0)) us s (and_parts (zero_stays all e) (both_sides ends_inside e && all_fine all p e first all) second_test).0 made ∙ zero_is

    among : (q : SlotRef) (i : ℕ) → writes_slot all q i ≡ false → writes_at (space.Slot q) i e ≡ false
    among q i h = by_test (writes_at (space.Slot q) i e) refl
      where
        by_test : (b : Bool) → writes_at (space.Slot q) i e ≡ b → b ≡ false
        by_test false k = refl
        by_test true k = sym (any_at (writes_at (space.Slot q) i) done e rest k) ∙ ap (λ (l : List Draft). writes_slot l q i) (sym whole) ∙ h

    next_told : (q : SlotRef) → told all (done ++ e ∷ []) q ≡ true → (told all done q ≡ true) ⊎ (clears all q e ≡ true)
    next_told q h =
        elim (or_cases (list_all (spared all q) all) (list_any (clears all q) (done ++ e ∷ [])) h) [
          | inl k ↦ inl (or_left (list_all (spared all q) all) (list_any (clears all q) done) k)
          | inr k ↦ elim (last_any (clears all q) done k) [ inl m ↦ inl (or_right (list_all (spared all q) all) (list_any (clears all q) done) m) | inr m ↦ inr m ]
        ]
      where
        last_any : (test : Draft → Bool) (ds : List Draft) → list_any test (ds ++ e ∷ []) ≡ true → (list_any test ds ≡ true) ⊎ (test e ≡ true)
        last_any test [] k = elim (or_cases (test e) false k) [ inl m ↦ inr m | inr m ↦ absurd (false≢true m) ]
        last_any test (d ∷ ds) k =
            elim (or_cases (test d) (list_any test (ds ++ e ∷ [])) k) [
              | inl m ↦ inl (or_left (test d) (list_any test ds) m)
              | inr m ↦ elim (last_any test ds m) [ inl n ↦ inl (or_right (test d) (list_any test ds) n) | inr n ↦ inr n ]
            ]

    module _ (q : SlotRef) (d : Draft) (old : Knows done s q d) (test : is_fine all p e q d ≡ true) where
      abbrev now : List ℕ
      now = placed s us (space.Slot q)

      stays : Stays e ends s (placed s us) q
      stays = all_stay e ends us s q old.0.len made

      still_primed : IsPrimed (writes_slot all q) d now
      still_primed = record { len = stays.0; bytes = λ i l says_it free. stays.1 i (among q i free) ∙ old.0.bytes i l says_it free }

      -- an opcode that isn't touched
      same_opcode : spared all q e ≡ true → opcode_in now ≡ opcode_in (s (space.Slot q))
      same_opcode h =
          let parts = and_parts (not (writes_at (space.Slot q) 0 e)) (not (writes_at (space.Slot q) 1 e)) h in
          let zeroth = stays.1 0 (not_true (writes_at (space.Slot q) 0 e) parts.0) in
          let oneth = stays.1 1 (not_true (writes_at (space.Slot q) 1 e) parts.1) in
          let long : length (s (space.Slot q)) ≡ 64 = old.0.len in
          let long_now : length now ≡ 64 = stays.0 in
          opcode_by now (s (space.Slot q)) (same_bytes 2 0 now (s (space.Slot q)) (omega (arith, long_now)) (omega (arith, long)) (λ i low high. two i high zeroth oneth))
        where
          two : (i : ℕ) → i < 0 + 2 → slice_index now 0 ≡ slice_index (s (space.Slot q)) 0 → slice_index now 1 ≡ slice_index (s (space.Slot q)) 1 → slice_index now i ≡ slice_index (s (space.Slot q)) i
          two zero l a b = a
          two (suc zero) l a b = b
          two (suc (suc n)) l a b = absurd (omega arith)

      -- one that is cleared
      cleared : clears all q e ≡ true → unturned all p ≡ true → opcode_in now ≡ Noop
      cleared h free =
          let a = and_parts (is_write e.op) _ h in
          let f = and_parts (same_space (remote_space e) (space.Slot q)) _ a.1 in
          let g = and_parts (start_of e.remote + e.remote_byte == 0) _ f.1 in
          let l = and_parts (e.length == 2) _ g.1 in
          let b = and_parts (same_space (local_space e) (space.Cell (Num 0))) (local_at e == 0) l.1 in
          let its_op : op ≡ Write = own_if_unturned free ∙ write_is e.op a.0 in
          let from : local_space e ≡ space.Cell (Num 0) = same_space_is (local_space e) (space.Cell (Num 0)) b.0 in
          let at : local_at e ≡ 0 = eqb-true (local_at e) 0 b.1 in
          let to : remote_space e ≡ space.Slot q = same_space_is (remote_space e) (space.Slot q) f.0 in
          let plain : is_table e.remote ≡ false = table_space e.remote ∙ ap is_table_space to in
          let place : remote_at slot e ≡ 0 = plain_place plain ∙ eqb-true (start_of e.remote + e.remote_byte) 0 g.0 in
          let long : e.length ≡ 2 = eqb-true e.length 2 l.0 in
          let zeros : local_bytes sees e e.length ≡ 0 ∷ 0 ∷ [] = (λ i. bytes_at (sees (from i)) (at i) (long i)) ∙ clear_bytes (s (space.Cell (Num 0))) zero_is in
          let puts : us ≡ put (space.Slot q) 0 (0 ∷ 0 ∷ []) ∷ [] = write_puts chain.number sees slot e us shown (ap (λ (o : Opcode). acts chain.number sees slot e o) (sym its_op) ∙ goes) ∙ (λ i. put (to i) (place i) (zeros i) ∷ []) in
          ap (λ (l : List Put). opcode_in (placed s l (space.Slot q))) puts ∙ cleared_opcode s q old.0.len
        where
          plain_place : is_table e.remote ≡ false → remote_at slot e ≡ start_of e.remote + e.remote_byte
          plain_place h = rw h refl

      -- one that is swapped
      swapped : swaps all p e q ≡ true → (opcode_in now ≡ opcode_in (s (space.Slot q))) ⊎ (opcode_in now ≡ word_opcode e.second)
      swapped h =
          let a = and_parts (turns q e) _ h in
          let b = and_parts (not (same_space (local_space e) (space.Slot q))) _ a.1 in
          let c = and_parts (kept (writes_slot all p) e 48 8) _ b.1 in
          let f = and_parts (nat_lt e.second (256 ^ 8)) (only_cas all p) c.1 in
          let g = and_parts (is_swap e.op) _ a.0 in
          let k = and_parts (same_space (remote_space e) (space.Slot q)) _ g.1 in
          let away : same_space (local_space e) (space.Slot q) ≡ false = not_true (same_space (local_space e) (space.Slot q)) b.0 in
          let second : second_in slot ≡ e.second = second_kept (writes_slot all p) e slot its.0 c.0 (ltb-true e.second (256 ^ 8) f.0) in
          elim (its_op g.0 f.1) [
            | inl none ↦ inl (ap (λ (l : List Put). opcode_in (placed s l (space.Slot q))) (noop_puts chain.number sees slot e us shown (ap (λ (o : Opcode). acts chain.number sees slot e o) (sym none) ∙ goes)))
            | inr cas ↦ by_match (word (remote_bytes sees slot e 8) 0 == first_in slot) away second k.0 k.1 (cas_puts chain.number sees slot e us shown (ap (λ (o : Opcode). acts chain.number sees slot e o) (sym cas) ∙ goes))
          ]
        where
          its_op : is_swap e.op ≡ true → only_cas all p ≡ true → (op ≡ Noop) ⊎ (op ≡ Cas)
          its_op h k = by_way may
            where
              by_way : MayHave all p e op → (op ≡ Noop) ⊎ (op ≡ Cas)
              by_way (inl m) = elim (swap_is e.op h) [ inl n ↦ inl (m ∙ n) | inr n ↦ inr (m ∙ n) ]
              by_way (inr m) = inr (cas_made all p op k m)

          plain_place : is_table e.remote ≡ false → remote_at slot e ≡ start_of e.remote + e.remote_byte
          plain_place h = rw h refl

          by_match : (b : Bool) → same_space (local_space e) (space.Slot q) ≡ false → second_in slot ≡ e.second → same_space (remote_space e) (space.Slot q) ≡ true → (start_of e.remote + e.remote_byte == 0) ≡ true → us ≡ swap slot e b ++ to_local e (spelled 8 (word (remote_bytes sees slot e 8) 0)) ∷ [] → (opcode_in now ≡ opcode_in (s (space.Slot q))) ⊎ (opcode_in now ≡ word_opcode e.second)
          by_match false away second there start puts =
              inl (ap (λ (l : List Put). opcode_in (placed s l (space.Slot q))) puts ∙ ap opcode_in (with_put_there s (to_local e (spelled 8 (word (remote_bytes sees slot e 8) 0))) (space.Slot q) away))
          by_match true away second there start puts =
              let to : remote_space e ≡ space.Slot q = same_space_is (remote_space e) (space.Slot q) there in
              let plain : is_table e.remote ≡ false = table_space e.remote ∙ ap is_table_space to in
              let place : remote_at slot e ≡ 0 = plain_place plain ∙ eqb-true (start_of e.remote + e.remote_byte) 0 start in
              let new : Bytes = with_put s (to_remote slot e (spelled 8 (second_in slot))) in
              inr (ap (λ (l : List Put). opcode_in (placed s l (space.Slot q))) puts ∙ (ap opcode_in (with_put_there new (to_local e (spelled 8 (word (remote_bytes sees slot e 8) 0))) (space.Slot q) away) ∙ ((λ i. opcode_in (with_put s (put (to i) (place i) (spelled 8 (second i))) (space.Slot q))) ∙ swapped_opcode s q old.0.len e.second)))

      knows_next : Knows (done ++ e ∷ []) (placed s us) q d
      knows_next = (still_primed, λ h. by_told (next_told q h))
        where
          keeps_may : opcode_in now ≡ opcode_in (s (space.Slot q)) → told all done q ≡ true → MayHave all q d (opcode_in now)
          keeps_may same k = subst (λ (o : Opcode). MayHave all q d o) (sym same) (old.1 k)

          by_fine : (told all done q ≡ true) ⊎ (clears all q e ≡ true) → (spared all q e ≡ true) ⊎ (((clears all q e && (is_noop d.op && unturned all p)) || swaps all p e q) ≡ true) → MayHave all q d (opcode_in now)
          by_fine (inl k) (inl h) = keeps_may (same_opcode h) k
          by_fine (inr k) (inl h) = absurd (clear_writes k h)
            where
              clear_writes : clears all q e ≡ true → spared all q e ≡ true → ⊥
              clear_writes k h =
                  let a = and_parts (is_write e.op) _ k in
                  let f = and_parts (same_space (remote_space e) (space.Slot q)) _ a.1 in
                  let g = and_parts (start_of e.remote + e.remote_byte == 0) _ f.1 in
                  let l = and_parts (e.length == 2) _ g.1 in
                  let parts = and_parts (not (writes_at (space.Slot q) 0 e)) (not (writes_at (space.Slot q) 1 e)) h in
                  let op_is : e.op ≡ Write = write_is e.op a.0 in
                  let start : start_of e.remote + e.remote_byte ≡ 0 = eqb-true (start_of e.remote + e.remote_byte) 0 g.0 in
                  let long : e.length ≡ 2 = eqb-true e.length 2 l.0 in
                  let length_is : writes_remote e e.op ≡ 2 = ap (writes_remote e) op_is ∙ long in
                  let hit : covers (start_of e.remote + e.remote_byte) (writes_remote e e.op) 0 ≡ true = λ i. covers (start i) (length_is i) 0 in
                  false≢true (sym (not_true (writes_at (space.Slot q) 0 e) parts.0) ∙ or_right (same_space (local_space e) (space.Slot q) && covers (start_of e.local + e.local_byte) (writes_local e e.op) 0) _ (and_from (same_space (remote_space e) (space.Slot q)) _ f.0 hit))
          by_fine way (inr h) =
              elim (or_cases (clears all q e && (is_noop d.op && unturned all p)) (swaps all p e q) h) [
                | inl m ↦
                    let parts = and_parts (clears all q e) (is_noop d.op && unturned all p) m in
                    let more = and_parts (is_noop d.op) (unturned all p) parts.1 in
                    inl (cleared parts.0 more.1 ∙ sym (noop_is d.op more.0))
                | inr m ↦ by_swap way (swapped m) (and_parts (turns q e) _ m).0
              ]
            where
              by_swap : (told all done q ≡ true) ⊎ (clears all q e ≡ true) → (opcode_in now ≡ opcode_in (s (space.Slot q))) ⊎ (opcode_in now ≡ word_opcode e.second) → turns q e ≡ true → MayHave all q d (opcode_in now)
              by_swap way (inr n) t = inr (subst (λ (l : List Draft). IsMade l q (opcode_in now)) (sym whole) (made_at done e rest q (opcode_in now) t n))
              by_swap (inl k) (inl n) t = keeps_may n k
              by_swap (inr k) (inl n) t = absurd (both_never k t)
                where
                  both_never : clears all q e ≡ true → turns q e ≡ true → ⊥
                  both_never k t =
                      let a = and_parts (is_write e.op) _ k in
                      let b = and_parts (is_swap e.op) _ t in
                      false≢true (sym (ap is_swap (write_is e.op a.0)) ∙ b.0)

          by_told : (told all done q ≡ true) ⊎ (clears all q e ≡ true) → MayHave all q d (opcode_in now)
          by_told way = by_fine way (or_cases (spared all q e) ((clears all q e && (is_noop d.op && unturned all p)) || swaps all p e q) test)

    each_next : (ds : List Draft) (at : SlotRef) → Each (Knows done s) at ds → all_fine all p e at ds ≡ true → Each (Knows (done ++ e ∷ []) (placed s us)) at ds
    each_next [] at h f = tt
    each_next (d ∷ ds) at h f =
        let parts = and_parts (is_fine all p e at d) (all_fine all p e (next_slot at) ds) f in
        (knows_next at d h.0 parts.0, each_next ds (next_slot at) h.1 parts.1)

    inv_next : Inv done s → Inv (done ++ e ∷ []) (placed s us)
    inv_next h = (each_next all first h.0 fine, zero_still)

  abbrev place_of : List Draft → SlotRef
  place_of done = slot_behind first (length done)

  place_next : (done : List Draft) (e : Draft) → next_slot (place_of done) ≡ place_of (done ++ e ∷ [])
  place_next done e =
      ap (λ (k : ℕ). let q : SlotRef = record first { slot = k } in q) (let l = length-append done (e ∷ []) in let k : (first.slot + length done) + 1 ≡ first.slot + length (done ++ e ∷ []) = omega (arith, l) in k)

  more_told : (done : List Draft) (e : Draft) (q : SlotRef) → told all done q ≡ true → told all (done ++ e ∷ []) q ≡ true
  more_told done e q h =
      elim (or_cases (list_all (spared all q) all) (list_any (clears all q) done) h) [
        | inl k ↦ or_left (list_all (spared all q) all) (list_any (clears all q) (done ++ e ∷ [])) k
        | inr k ↦ or_right (list_all (spared all q) all) (list_any (clears all q) (done ++ e ∷ [])) (wider done k)
      ]
    where
      wider : (ds : List Draft) → list_any (clears all q) ds ≡ true → list_any (clears all q) (ds ++ e ∷ []) ≡ true
      wider [] k = absurd (false≢true k)
      wider (d ∷ ds) k = elim (or_cases (clears all q d) (list_any (clears all q) ds) k) [ inl m ↦ or_left (clears all q d) (list_any (clears all q) (ds ++ e ∷ [])) m | inr m ↦ or_right (clears all q d) (list_any (clears all q) (ds ++ e ∷ [])) (wider ds m) ]

  all_more_told : (done : List Draft) (e : Draft) (ds : List Draft) (at : SlotRef) → all_told all done at ds ≡ true → all_told all (done ++ e ∷ []) at ds ≡ true
  all_more_told done e [] at h = refl
  all_more_told done e (d ∷ ds) at h =
      let parts = and_parts (told all done at) (all_told all done (next_slot at) ds) h in
      and_from (told all (done ++ e ∷ []) at) _ (more_told done e at parts.0) (all_more_told done e ds (next_slot at) parts.1)

  sound_behind : (ds es : List Draft) (at : SlotRef) → all_sound all first at (ds ++ es) ≡ true → all_sound all first (slot_behind at (length ds)) es ≡ true
  sound_behind [] es at h = ap (λ (q : SlotRef). all_sound all first q es) (behind_none at) ∙ h
  sound_behind (d ∷ ds) es at h =
      ap (λ (q : SlotRef). all_sound all first q es) (sym (behind_next at (length ds))) ∙ sound_behind ds es (next_slot at) (and_parts (is_sound all first at d) (all_sound all first (next_slot at) (ds ++ es)) h).1

  module _ (sound : all_sound all first first all ≡ true) where
    -- the drafts of a segment
    run_segment : (ds done rest : List Draft) (s : Bytes) (us : List Put) (shown : List Obs) → all ≡ done ++ (ds ++ rest) → Inv done s → all_told all done (place_of done) ds ≡ true → runs chain (place_of done) ds s ≡ Went us shown → Inv (done ++ ds) (placed s us)
    run_segment [] done rest s us shown whole inv told_there goes =
        let none : [] ≡ us = cc in
        subst (λ (l : List Put). Inv (done ++ []) (placed s l)) none (subst (λ (l : List Draft). Inv l s) (sym (append-nil done)) inv)
    run_segment (e ∷ ds) done rest s us shown whole inv told_there goes =
        let parts = and_parts (told all done (place_of done)) (all_told all done (next_slot (place_of done)) ds) told_there in
        let went = went_first (step chain (place_of done) e s) (λ (vs : List Put). runs chain (next_slot (place_of done)) ds (placed s vs)) us shown goes in
        let here : Knows done s (place_of done) e = (each_behind (Knows done s) done (e ∷ (ds ++ rest)) first (subst (λ (l : List Draft). Each (Knows done s) first l) whole inv.0)).0 in
        let its_sound : is_sound all first (place_of done) e ≡ true = (and_parts (is_sound all first (place_of done) e) (all_sound all first (next_slot (place_of done)) (ds ++ rest)) (sound_behind done (e ∷ (ds ++ rest)) first (subst (λ (l : List Draft). all_sound all first first l ≡ true) whole sound))).0 in
        let next : Inv (done ++ e ∷ []) (placed s went.0) = inv_next done e (ds ++ rest) whole (place_of done) s its_sound here inv.1 parts.0 went.0 went.2 went.4 inv in
        let at : next_slot (place_of done) ≡ place_of (done ++ e ∷ []) = place_next done e in
        let more : Inv ((done ++ e ∷ []) ++ ds) (placed (placed s went.0) went.1) = run_segment ds (done ++ e ∷ []) rest (placed s went.0) went.1 went.3 (whole ∙ sym (append_assoc done (e ∷ []) (ds ++ rest))) next (subst (λ (q : SlotRef). all_told all (done ++ e ∷ []) q ds ≡ true) at (all_more_told done e ds (next_slot (place_of done)) parts.1)) (subst (λ (q : SlotRef). runs chain q ds (placed s went.0) ≡ Went went.1 went.3) at went.5) in
        subst (λ (l : List Put). Inv (done ++ e ∷ ds) (placed s l)) (sym went.6) (subst (λ (t : Bytes). Inv (done ++ e ∷ ds) t) (sym (placed_append went.0 went.1 s)) (subst (λ (l : List Draft). Inv l (placed (placed s went.0) went.1)) (append_assoc done (e ∷ []) ds) more))

    segment_may : (ds : List Draft) (done : List Draft) (at : SlotRef) (s : Bytes) → Each (Knows done s) at ds → all_told all done at ds ≡ true → SegmentMayHave all at ds s
    segment_may [] done at s h t = tt
    segment_may (d ∷ ds) done at s h t =
        let parts = and_parts (told all done at) (all_told all done (next_slot at) ds) t in
        (h.0.1 parts.0, segment_may ds done (next_slot at) s h.1 parts.1)

    each_front : (P : SlotRef → Draft → Type 0) (ds es : List Draft) (at : SlotRef) → Each P at (ds ++ es) → Each P at ds
    each_front P [] es at h = tt
    each_front P (d ∷ ds) es at h = (h.0, each_front P ds es (next_slot at) h.1)

    tell : (segments : List (List Draft)) (done : List Draft) (s : Bytes) → all ≡ done ++ drafts_of segments → Inv done s → segments_told all done (place_of done) segments ≡ true → HaveOpcodes all chain (place_of done) segments s
    tell [] done s whole inv t = tt
    tell (ds ∷ rest) done s whole inv t =
        let parts = and_parts (all_told all done (place_of done) ds) (segments_told all (done ++ ds) (slot_behind (place_of done) (length ds)) rest) t in
        let here : Each (Knows done s) (place_of done) ds = each_front (Knows done s) ds (drafts_of rest) (place_of done) (each_behind (Knows done s) done (ds ++ drafts_of rest) first (subst (λ (l : List Draft). Each (Knows done s) first l) whole inv.0)) in
        let at : slot_behind (place_of done) (length ds) ≡ place_of (done ++ ds) = ap (λ (k : ℕ). let q : SlotRef = record first { slot = k } in q) (let l = length-append done ds in let k : (first.slot + length done) + length ds ≡ first.slot + length (done ++ ds) = omega (arith, l) in k) in
        (segment_may ds done (place_of done) s here parts.0, λ us shown goes. subst (λ (q : SlotRef). HaveOpcodes all chain q rest (placed s us)) (sym at) (tell rest (done ++ ds) (placed s us) (whole ∙ sym (append_assoc done ds (drafts_of rest))) (run_segment ds done (drafts_of rest) s us shown whole inv parts.0 goes) (subst (λ (q : SlotRef). segments_told all (done ++ ds) q rest ≡ true) at parts.1)))

known_is : (op : Opcode) → is_known op ≡ true → IsKnown op
known_is (Undefined n) h = absurd (false≢true h)
known_is _ h = tt

module _ (all : List Draft) (s : Bytes) where
  untouched : (q : SlotRef) (i : ℕ) (es : List Draft) → ((e : Draft) → spared all q e ≡ true → writes_at (space.Slot q) i e ≡ false) → list_all (spared all q) es ≡ true → writes_slot es q i ≡ false
  untouched q i [] each h = refl
  untouched q i (e ∷ es) each h =
      let parts = and_parts (spared all q e) (list_all (spared all q) es) h in
      let here = each e parts.0 in
      let rest = untouched q i es each parts.1 in
      rw (here, rest) refl

  -- a slot that none touches has its draft's opcode
  first_opcode : (q : SlotRef) (d : Draft) → is_known d.op ≡ true → IsPrimed (writes_slot all q) d (s (space.Slot q)) → list_all (spared all q) all ≡ true → opcode_in (s (space.Slot q)) ≡ d.op
  first_opcode q d known primed free =
      let zeroth : writes_slot all q 0 ≡ false = untouched q 0 all (λ e h. not_true (writes_at (space.Slot q) 0 e) (and_parts (not (writes_at (space.Slot q) 0 e)) (not (writes_at (space.Slot q) 1 e)) h).0) free in
      let oneth : writes_slot all q 1 ≡ false = untouched q 1 all (λ e h. not_true (writes_at (space.Slot q) 1 e) (and_parts (not (writes_at (space.Slot q) 0 e)) (not (writes_at (space.Slot q) 1 e)) h).1) free in
      opcode_kept (writes_slot all q) d (s (space.Slot q)) primed (known_is d.op known) (rw (zeroth, oneth) refl)

  start_each : (chain : View) (first at : SlotRef) (ds : List Draft) → list_all (λ (d : Draft). is_known d.op) ds ≡ true → Primed all at ds s → Each (Knows all first chain [] s) at ds
  start_each chain first at [] known primed = tt
  start_each chain first at (d ∷ ds) known primed =
      let parts = and_parts (is_known d.op) (list_all (λ (e : Draft). is_known e.op) ds) known in
      ((primed.0, λ h. elim (or_cases (list_all (spared all at) all) false h) [ inl free ↦ inl (first_opcode at d parts.0 primed.0 free) | inr never ↦ absurd (false≢true never) ]), start_each chain first (next_slot at) ds parts.1 primed.1)

pub tell_opcodes : (first : SlotRef) (segments : List (List Draft)) → tells first segments ≡ true → TellOpcodes first segments
tell_opcodes first segments test chain bytes s whole room primed =
    let all : List Draft = drafts_of segments in
    let a = and_parts (list_all (λ (d : Draft). is_known d.op) all) _ test in
    let b = and_parts (all_sound all first first all) (segments_told all [] first segments) a.1 in
    let at : slot_behind first 0 ≡ first = behind_none first in
    subst (λ (q : SlotRef). HaveOpcodes all chain q segments s) at (tell all first chain b.0 segments [] s refl (start_each all s chain first first all a.0 primed, whole.numbers 0) (subst (λ (q : SlotRef). segments_told all [] q segments ≡ true) (sym at) b.1))

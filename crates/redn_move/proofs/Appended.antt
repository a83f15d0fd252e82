-- What a reply appends.
use Rattle.std.proofs.Common.{◌≡◌, ℕ, ◌+◌, ◌-◌, ◌*◌, ◌<◌, ◌≤◌, true, false, not, Bool, ◌&&◌, ◌||◌, ◌++◌, List, [], ◌∷◌, length, map, refl, sym, ap, ◌∙◌, arith, length-append}
use Rattle.std.specs.Prelude.{nat_le, nat_lt, min, max, slice_index}
use Rattle.std.specs.List.{list_all, list_any, sum_by}
use Rattle.std.proofs.lemmas.List.Sums.{sum_by-cons}
use Rattle.redn_kernel.specs.Costs.{reply_cost}
use Rattle.redn_segment.specs.Costs.{Costs, sends, segment_slots, segment_actions}
use Rattle.std.proofs.lemmas.Bool.{false≢true, and_from}
use Rattle.std.proofs.lemmas.Bool.Decides.{nat_tests}
use Rattle.redn_words.specs.declared.types.Obs.{Obs}
use Rattle.redn_words.specs.declared.types.Obs.TheVariants as shows
use Rattle.redn_words.specs.Words.{word}
use Rattle.redn_kernel.specs.declared.types.Cell.{Cell}
use Rattle.redn_segment.specs.declared.types.Draft.{Draft}
use Rattle.redn_segment.specs.declared.types.SlotRef.{SlotRef}
use Rattle.redn_segment.specs.declared.types.Site.TheVariants as site
use Rattle.redn_segment.specs.declared.types.Space.TheVariants as space
use Rattle.redn_segment.specs.Building.{Building, drafts_of}
use Rattle.redn_segment.specs.Drafts.{copy}
use Rattle.redn_segment.specs.Effects.{replies, first_slot, slot_behind}
use Rattle.redn_segment.specs.Footprints.{both_sides, ends_inside, drafts_free, all_free, spares, segments_apart}
use Rattle.redn_segment.specs.Parts.{IsTame}
use Rattle.redn_segment.specs.Sites.{next_slot}
use Rattle.redn_segment.specs.Opcodes.{word_opcode, turns, TellOpcodes}
use Rattle.redn_segment.specs.Rights.{Rights}
use Rattle.redn_segment.proofs.Suiting.{turned_well, all_suit, both_turn, turned_once, turns_within, suiting, rights_by}
use Rattle.redn_segment.proofs.Telling.{is_known, spared, all_fine, all_sound, all_told, segments_told, tell_opcodes}
use Rattle.redn_segment.proofs.Both.{all_append}
use Rattle.redn_segment.specs.Templates.{Appends, one_event, may_show, is_filled}
use Rattle.redn_move.specs.Replying.{copies_from, send_words, reply}
use Rattle.redn_move.proofs.Replying.{reply_does, writes_none, length_copies}

pub tame_replies : (at : SlotRef) (n : ℕ) (words : List Cell) → IsTame at n (replies words)
tame_replies at n words =
    record {
      alike = λ chain s t aside free h.
          (λ i. shows_reply chain.number (map (λ (k : ℕ). slice_index (map (λ (c : Cell). word (h (space.Cell c) (free.cells c) i) 0) words) k) (0 ∷ 1 ∷ 2 ∷ 3 ∷ 4 ∷ 5 ∷ 6 ∷ 7 ∷ [])), h);
      whole = λ chain bytes s whole. whole;
      slots = λ chain s q k. refl;
    }
  where
    shows_reply : ℕ → List ℕ → List Obs
    shows_reply chain l = shows.Reply chain (length words) l ∷ []

inside_copies : (ws : List Cell) (i : ℕ) → i + length ws ≤ 8 → list_all (both_sides ends_inside) (copies_from i ws) ≡ true
inside_copies [] i h = refl
inside_copies (w ∷ ws) i h =
    let here : nat_le 8 (64 - 8 * i) ≡ true = grind (arith, nat_tests) in
    let rest = inside_copies ws (i + 1) (omega arith) in
    rw (here, rest) refl

free_copies : (w : Cell) (ws : List Cell) (i j : ℕ) → i < j → list_all (drafts_free (copy (site.Cell w) 0 (site.ReplyWord i) 8)) (copies_from j ws) ≡ true
free_copies w [] i j h = refl
free_copies w (v ∷ ws) i j h =
    let here : nat_lt (max (8 * i + 0) (8 * j + 0)) (min ((8 * i + 0) + 8) ((8 * j + 0) + 8)) ≡ false = grind (arith, nat_tests) in
    let rest = free_copies w ws i (j + 1) (omega arith) in
    rw (here, rest) refl

all_free_copies : (ws : List Cell) (i : ℕ) → all_free (copies_from i ws) ≡ true
all_free_copies [] i = refl
all_free_copies (w ∷ ws) i =
    let here = free_copies w ws i (i + 1) (omega arith) in
    let rest = all_free_copies ws (i + 1) in
    rw (here, rest) refl

spares_copies : (ws : List Cell) (i n : ℕ) (q : SlotRef) → list_all (both_sides (spares q n)) (copies_from i ws) ≡ true
spares_copies [] i n q = refl
spares_copies (w ∷ ws) i n q = spares_copies ws (i + 1) n q

pub quiet_with : (w : Cell) (ws : List Cell) (i j : ℕ) → list_all (λ (e : Draft). not (may_show (copy (site.Cell w) 0 (site.ReplyWord i) 8) && may_show e)) (copies_from j ws) ≡ true
quiet_with w [] i j = refl
quiet_with w (v ∷ ws) i j = quiet_with w ws i (j + 1)

pub quiet_copies : (ws : List Cell) (i : ℕ) → one_event (copies_from i ws) ≡ true
quiet_copies [] i = refl
quiet_copies (w ∷ ws) i =
    let here = quiet_with w ws i (i + 1) in
    let rest = quiet_copies ws (i + 1) in
    rw (here, rest) refl

-- opcodes
known_copies : (ws : List Cell) (i : ℕ) → list_all (λ (d : Draft). is_known d.op) (copies_from i ws) ≡ true
known_copies [] i = refl
known_copies (w ∷ ws) i = known_copies ws (i + 1)

turned_none : (p : SlotRef) (ws : List Cell) (i : ℕ) (n : ℕ) → list_any (turns p) (copies_from i ws ++ send_words n ∷ []) ≡ false
turned_none p [] i n = refl
turned_none p (w ∷ ws) i n = turned_none p ws (i + 1) n

spared_all : (all : List Draft) (q : SlotRef) (ws : List Cell) (i : ℕ) (n : ℕ) → list_all (spared all q) (copies_from i ws ++ send_words n ∷ []) ≡ true
spared_all all q [] i n = refl
spared_all all q (w ∷ ws) i n = spared_all all q ws (i + 1) n

fine_copy : (all : List Draft) (p : SlotRef) (w : Cell) (i : ℕ) (at : SlotRef) (ds : List Draft) → all_fine all p (copy (site.Cell w) 0 (site.ReplyWord i) 8) at ds ≡ true
fine_copy all p w i at [] = refl
fine_copy all p w i at (d ∷ ds) = fine_copy all p w i (next_slot at) ds

fine_send : (all : List Draft) (p : SlotRef) (n : ℕ) (at : SlotRef) (ds : List Draft) → all_fine all p (send_words n) at ds ≡ true
fine_send all p n at [] = refl
fine_send all p n at (d ∷ ds) = fine_send all p n (next_slot at) ds

module _ (words : List Cell) (few : length words ≤ 8) (first : SlotRef) where
  abbrev sent : List Draft
  sent = copies_from 0 words ++ send_words (length words) ∷ []

  sound_from : (ws : List Cell) (i : ℕ) (at : SlotRef) → i + length ws ≤ 8 → all_sound sent first at (copies_from i ws ++ send_words (length words) ∷ []) ≡ true
  sound_from [] i at h =
      let unturned_here = turned_none at words 0 (length words) in
      let fine = fine_send sent at (length words) first sent in
      let short : nat_le (0 + 8 * length words) 64 ≡ true = grind (arith, nat_tests) in
      rw (unturned_here, fine, short) refl
  sound_from (w ∷ ws) i at h =
      let unturned_here = turned_none at words 0 (length words) in
      let fine = fine_copy sent at w i first sent in
      let here : nat_le 8 (64 - 8 * i) ≡ true = grind (arith, nat_tests) in
      let rest = sound_from ws (i + 1) (next_slot at) (omega arith) in
      rw (unturned_here, fine, here, rest) refl

  told_from : (done : List Draft) (ws : List Cell) (i : ℕ) (at : SlotRef) → all_told sent done at (copies_from i ws) ≡ true
  told_from done [] i at = refl
  told_from done (w ∷ ws) i at =
      let here = spared_all sent at words 0 (length words) in
      let rest = told_from done ws (i + 1) (next_slot at) in
      rw (here, rest) refl

  known_sent : list_all (λ (d : Draft). is_known d.op) sent ≡ true
  known_sent = all_append (λ (d : Draft). is_known d.op) (copies_from 0 words) (send_words (length words) ∷ []) (known_copies words 0) refl

  told_sent : segments_told sent [] first (reply words) ≡ true
  told_sent =
      let copies = told_from [] words 0 first in
      let last = spared_all sent (slot_behind first (length (copies_from 0 words))) words 0 (length words) in
      rw (copies, last) refl

  reply_opcodes : TellOpcodes first (reply words)
  reply_opcodes = tell_opcodes first (reply words) (and_from (list_all (λ (d : Draft). is_known d.op) sent) _ known_sent (and_from (all_sound sent first first sent) _ (sound_from words 0 first (omega arith)) told_sent))

-- the copies and the SEND suit their sides, and none of them turns a slot
turn_nothing : (q : SlotRef) (test : Draft → Bool) (ws : List Cell) (i n : ℕ) → list_all (λ (e : Draft). not (turns q e) || test e) (copies_from i ws ++ send_words n ∷ []) ≡ true
turn_nothing q test [] i n = refl
turn_nothing q test (w ∷ ws) i n = turn_nothing q test ws (i + 1) n

suit_sent : (all : List Draft) → ((q : SlotRef) (test : Draft → Bool) → list_all (λ (e : Draft). not (turns q e) || test e) all ≡ true) → (ws : List Cell) (i n : ℕ) (at : SlotRef) → all_suit [] all at (copies_from i ws ++ send_words n ∷ []) ≡ true
suit_sent all none [] i n at =
    let here = none at (λ (e : Draft). turned_well [] (send_words n) (word_opcode e.second)) in
    rw here refl
suit_sent all none (w ∷ ws) i n at =
    let here = none at (λ (e : Draft). turned_well [] (copy (site.Cell w) 0 (site.ReplyWord i) 8) (word_opcode e.second)) in
    let rest = suit_sent all none ws (i + 1) n (next_slot at) in
    rw (here, rest) refl

turns_alone : (w : Cell) (i : ℕ) (ws : List Cell) (j n : ℕ) → list_all (λ (f : Draft). not (both_turn (copy (site.Cell w) 0 (site.ReplyWord i) 8) f)) (copies_from j ws ++ send_words n ∷ []) ≡ true
turns_alone w i [] j n = refl
turns_alone w i (v ∷ ws) j n = turns_alone w i ws (j + 1) n

once_sent : (ws : List Cell) (i n : ℕ) → turned_once (copies_from i ws ++ send_words n ∷ []) ≡ true
once_sent [] i n = refl
once_sent (w ∷ ws) i n =
    let here = turns_alone w i ws (i + 1) n in
    let rest = once_sent ws (i + 1) n in
    rw (here, rest) refl

within_sent : (at : SlotRef) (k : ℕ) (ws : List Cell) (i n : ℕ) → list_all (turns_within at k) (copies_from i ws ++ send_words n ∷ []) ≡ true
within_sent at k [] i n = refl
within_sent at k (w ∷ ws) i n = within_sent at k ws (i + 1) n

suits_reply : (words : List Cell) (at : SlotRef) → suiting [] at (drafts_of (reply words)) ≡ true
suits_reply words at =
    let ds : List Draft = drafts_of (reply words) in
    let n : ℕ = length words in
    and_from (all_suit [] ds at ds) _ (suit_sent ds (λ q test. turn_nothing q test words 0 n) words 0 n at) (and_from (turned_once ds) _ (once_sent words 0 n) (within_sent at (length ds) words 0 n))

pub reply_rights : (words : List Cell) (old new : Building) → new ≡ record old { segments = old.segments ++ reply words } → Rights old new []
reply_rights words old new e = rights_by old new [] (reply words) e (suits_reply words (first_slot old))

module _ (words : List Cell) (some : 1 ≤ length words) (few : length words ≤ 8) where
  filled : (ws : List Cell) → 1 ≤ length ws → is_filled 0 (reply ws) ≡ true
  filled [] h = absurd (omega arith)
  filled (w ∷ ws) h = refl

  pub count : length (drafts_of (reply words)) ≡ length words + 1
  count = length-append (copies_from 0 words) (send_words (length words) ∷ []) ∙ ap (λ (n : ℕ). n + 1) (length_copies words 0)

  pub apart_reply : (q : SlotRef) → segments_apart q (reply words) ≡ true
  apart_reply q =
      let a = inside_copies words 0 (omega arith) in
      let b = all_free_copies words 0 in
      let c = spares_copies words 0 (length (copies_from 0 words)) q in
      let short : nat_le (0 + 8 * length words) 64 ≡ true = grind (arith, nat_tests) in
      rw (a, b, c, short) refl

  pub appends_reply : (old new : Building) → new ≡ record old { segments = old.segments ++ reply words } → Appends old new 2 (length words + 1) 0 (replies words)
  appends_reply old new e =
      let quiet = quiet_copies words 0 in
      record {
        added = reply words;
        appended = e;
        segments_are = refl;
        drafts_are = count;
        filled = filled words some;
        one_event = rw quiet refl;
        apart = apart_reply (first_slot old);
        part = record {
          does = reply_does words some few (first_slot old);
          within = λ q i w. absurd (false≢true (sym (writes_none words 0 (length words) q i) ∙ w));
          tame = tame_replies (first_slot old) _ words;
        };
        opcodes = reply_opcodes words few (first_slot old);
      }

  no_send : (ws : List Cell) (i : ℕ) → sends (copies_from i ws) ≡ false
  no_send [] i = refl
  no_send (w ∷ ws) i = no_send ws (i + 1)

  pub reply_costs : (old new : Building) → new ≡ record old { segments = old.segments ++ reply words } → Costs old new (length words + 5) (reply_cost (length words))
  reply_costs old new e =
      let none = no_send words 0 in
      let long : length (copies_from 0 words) ≡ length words = length_copies words 0 in
      let slots : segment_slots (copies_from 0 words) ≡ length words + 4 = rw (none, long) refl in
      let actions : segment_actions (copies_from 0 words) ≡ 4 * length words + 12 = rw (none, long) refl in
      let last : List (List Draft) = (send_words (length words) ∷ []) ∷ [] in
      let last_slots : sum_by segment_slots last ≡ 1 = refl in
      let last_actions : sum_by segment_actions last ≡ 4 = refl in
      record {
        added = reply words;
        appended = e;
        slots_are = omega (arith, sum_by-cons segment_slots (copies_from 0 words) last, slots, last_slots);
        actions_are = omega (arith, sum_by-cons segment_actions (copies_from 0 words) last, actions, last_actions);
      }

-- Pieces of a text are read to what the whole text is.
use Rattle.std.proofs.Common.{◌≡◌, ℕ, ◌+◌, ◌≤◌, true, List, [], ◌∷◌, ◌++◌, length, take, drop, refl, sym, ap, subst, ◌∙◌, inl, inr, arith, append_assoc, append-nil, length-append, length-drop}
use Rattle.std.specs.Prelude.{Option, Some, None}
use Rattle.std.specs.List.{list_all, prefix_len}
use Rattle.std.proofs.lemmas.List.{drop_all, drop_at, take_all, take-append-drop}
use Rattle.redn_sched.specs.declared.text.Numbered.{Numbered}
use Rattle.redn_sched.specs.declared.reader.Got.{Got}
use Rattle.redn_sched.specs.declared.reader.Got.TheVariants.{More, Action as AnAction, Bad}
use Rattle.redn_text.specs.Texts.{IsSplit, is_no_newline}
use Rattle.redn_sched.specs.ScheduleText.{IsSkipped, last_line, lines_after, lines_of, Reads, Begins}
use Rattle.redn_sched.specs.Pieces.{Reader, held_of, StillReads, ReadsOn, StillBegins, BeginsOn, actions_got, bad_got, behind_line, Takes, TakesWhole, TakesLine, FedBy, IsFed, EndsWith, EndedBy, IsEnded}
use Rattle.redn_sched.proofs.Begun.{skipped_whole, action_whole, bad_whole, same_lines, same_lines_begin, begun_again, goes_on}
use Rattle.redn_sched.proofs.Cuts.{reads_skipped, reads_action, reads_bad}
use Rattle.redn_sched.proofs.Replay.{after_line}
use Rattle.redn_text.proofs.Fields.{front_has_none, space_first}

-- of a line what is held was taken: so was the line
pub takes_whole : (r : Reader) (line : List ℕ) (got : Got) (now : Reader) → Takes (record r { held = held_of line }) (held_of line) got now → Takes r line got now
takes_whole r line More now h = (skipped_whole line h.0, h.1)
takes_whole r line (AnAction n a) now h = (action_whole line a h.0, h.1, h.2)
takes_whole r line (Bad n) now h = (bad_whole line h.0, h.1, h.2)

-- a line was taken, and these follow
taken_reads : (r : Reader) (line : List ℕ) (got : Got) (now : Reader) (text : List ℕ) (xs : List Numbered) (bad : Option ℕ) → Takes r line got now → StillReads now text xs bad → Reads (r.lines + 1) (line ∷ lines_of text) (actions_got got ++ xs) bad
taken_reads r line More now text xs bad h k =
    let on : StillReads (behind_line r None) text xs bad = subst (λ (t : Reader). StillReads t text xs bad) h.1 k in
    reads_skipped (r.lines + 1) line (lines_of text) xs bad h.0 on
taken_reads r line (AnAction n a) now text xs bad h k =
    let on : StillReads (behind_line r None) text xs bad = subst (λ (t : Reader). StillReads t text xs bad) h.2 k in
    reads_action (r.lines + 1) line (lines_of text) (record { line = n; action = a }) xs bad h.0 h.1 on
taken_reads r line (Bad n) now text xs bad h k =
    let on : StillReads (behind_line r (Some n)) text xs bad = subst (λ (t : Reader). StillReads t text xs bad) h.2 k in
    let here : bad ≡ Some (r.lines + 1) = on.1 ∙ ap Some h.1 in
    subst (λ (ys : List Numbered). Reads (r.lines + 1) (line ∷ lines_of text) ys bad) (sym on.0) (subst (λ (b : Option ℕ). Reads (r.lines + 1) (line ∷ lines_of text) [] b) (sym here) (reads_bad (r.lines + 1) line (lines_of text) h.0))

module _ (r : Reader) (piece : List ℕ) (taken : ℕ) (got : Got) (now : Reader) (text : List ℕ) (xs : List Numbered) (bad : Option ℕ) where
  whole_reads : r.bad ≡ None → TakesWhole r piece taken got now → StillReads now (drop taken piece ++ text) xs bad → Reads (r.lines + 1) (lines_after r.held (piece ++ text)) (actions_got got ++ xs) bad
  whole_reads good h k =
      let none : drop taken piece ≡ [] = ap (λ (n : ℕ). drop n piece) h.taken_is ∙ drop_all (length piece) piece (omega arith) in
      let here : StillReads (record r { held = held_of (r.held ++ piece) }) text xs bad = subst (λ (l : List ℕ). StillReads (record r { held = held_of (r.held ++ piece) }) (l ++ text) xs bad) none (subst (λ (t : Reader). StillReads t (drop taken piece ++ text) xs bad) h.now_is k) in
      let on : Reads (r.lines + 1) (lines_after (held_of (r.held ++ piece)) text) xs bad = subst (λ (o : Option ℕ). ReadsOn o (r.lines + 1) (lines_after (held_of (r.held ++ piece)) text) xs bad) good here in
      let same : held_of (held_of (r.held ++ piece)) ≡ held_of (r.held ++ piece) = again in
      rw (h.got_is, goes_on r.held piece text h.one_line) (same_lines (r.lines + 1) (held_of (r.held ++ piece)) (r.held ++ piece) text xs bad same on)
    where
      again : held_of (held_of (r.held ++ piece)) ≡ held_of (r.held ++ piece)
      again = ap held_of (sym (append-nil (held_of (r.held ++ piece)))) ∙ begun_again 34 (r.held ++ piece) [] ∙ ap held_of (append-nil (r.held ++ piece))

  line_reads : TakesLine r piece taken got now → StillReads now (drop taken piece ++ text) xs bad → Reads (r.lines + 1) (lines_after r.held (piece ++ text)) (actions_got got ++ xs) bad
  line_reads h k =
      let cut : piece ≡ (h.front ++ 10 ∷ []) ++ h.behind = h.split.is ∙ sym (append_assoc h.front (10 ∷ []) h.behind) in
      let left : drop taken piece ≡ h.behind = ap (λ (n : ℕ). drop n piece) h.taken_is ∙ ap (drop (length h.front + 1)) cut ∙ drop_at (h.front ++ 10 ∷ []) h.behind (length h.front + 1) (simp length-append refl) in
      let joined : piece ++ text ≡ h.front ++ 10 ∷ (h.behind ++ text) = ap (λ (l : List ℕ). l ++ text) h.split.is ∙ append_assoc h.front (10 ∷ h.behind) text in
      let lines : lines_after r.held (piece ++ text) ≡ (r.held ++ h.front) ∷ lines_of (h.behind ++ text) = ap (lines_after r.held) joined ∙ after_line r.held h.front (h.behind ++ text) h.split.first in
      let on : StillReads now (h.behind ++ text) xs bad = subst (λ (l : List ℕ). StillReads now (l ++ text) xs bad) left k in
      subst (λ (ls : List (List ℕ)). Reads (r.lines + 1) ls (actions_got got ++ xs) bad) (sym lines) (taken_reads r (r.held ++ h.front) got now (h.behind ++ text) xs bad h.takes on)

  by_bad : (o : Option ℕ) → r.bad ≡ o → FedBy o r piece taken got now → StillReads now (drop taken piece ++ text) xs bad → ReadsOn o (r.lines + 1) (lines_after r.held (piece ++ text)) (actions_got got ++ xs) bad
  by_bad None e (inl h) k = whole_reads e h k
  by_bad None e (inr h) k = line_reads h k
  by_bad (Some n) e h k =
      let met : StillReads r (drop taken piece ++ text) xs bad = subst (λ (t : Reader). StillReads t (drop taken piece ++ text) xs bad) h.now_is k in
      let on : (xs ≡ []) × (bad ≡ Some n) = subst (λ (o : Option ℕ). ReadsOn o (r.lines + 1) (lines_after r.held (drop taken piece ++ text)) xs bad) e met in
      (ap (λ (g : Got). actions_got g ++ xs) h.got_is ∙ on.0, on.1)

  pub fed_reads : IsFed r piece taken got now → StillReads now (drop taken piece ++ text) xs bad → StillReads r (piece ++ text) (actions_got got ++ xs) bad
  fed_reads h k = by_bad r.bad refl h k

-- a text up to its first newline
module _ (text : List ℕ) where
  abbrev pub front_len : ℕ
  front_len = prefix_len is_no_newline text

  pub no_newline : front_len ≡ length text → list_all is_no_newline text ≡ true
  no_newline e = ap (list_all is_no_newline) (sym (ap (λ (n : ℕ). take n text) e ∙ take_all (length text) text (omega arith))) ∙ front_has_none 10 text

  pub first_newline : front_len ≤ length text → ¬ (front_len ≡ length text) → (behind : List ℕ) × IsSplit 10 text (take front_len text) behind
  first_newline within other = by_rest (drop front_len text) refl
    where
      by_rest : (ds : List ℕ) → drop front_len text ≡ ds → (behind : List ℕ) × IsSplit 10 text (take front_len text) behind
      by_rest [] e = absurd (other (omega (arith, within, ap length e, length-drop front_len text)))
      by_rest (b ∷ behind) e =
          let newline : b ≡ 10 = space_first 10 text b behind e in
          (behind, record { is = sym (take-append-drop front_len text) ∙ ap (λ (l : List ℕ). take front_len text ++ l) (e ∙ ap (λ (x : ℕ). x ∷ behind) newline); first = front_has_none 10 text })

-- a reader that met no bad line
pub good_fed : (r : Reader) (piece : List ℕ) (taken : ℕ) (got : Got) (now : Reader) → r.bad ≡ None → FedBy None r piece taken got now → IsFed r piece taken got now
good_fed r piece taken got now good h = subst (λ (o : Option ℕ). FedBy o r piece taken got now) (sym good) h

-- a line that was held was taken
pub held_takes : (r held : Reader) (line : List ℕ) (got : Got) (now : Reader) → held ≡ record r { held = held_of line } → Takes held held.held got now → Takes r line got now
held_takes r held line got now e h = takes_whole r line got now (subst (λ (t : Reader). Takes t t.held got now) e h)

-- ---- how it begins

begins_skipped : (n : ℕ) (line : List ℕ) (rest : List (List ℕ)) (xs : List Numbered) → IsSkipped line → Begins (n + 1) rest xs → Begins n (line ∷ rest) xs
begins_skipped n line rest [] s h = tt
begins_skipped n line rest (x ∷ xs) s h = inr (s, h)

taken_begins : (r : Reader) (line : List ℕ) (got : Got) (now : Reader) (text : List ℕ) (xs : List Numbered) → Takes r line got now → StillBegins now text xs → Begins (r.lines + 1) (line ∷ lines_of text) (actions_got got ++ xs)
taken_begins r line More now text xs h k =
    let on : StillBegins (behind_line r None) text xs = subst (λ (t : Reader). StillBegins t text xs) h.1 k in
    begins_skipped (r.lines + 1) line (lines_of text) xs h.0 on
taken_begins r line (AnAction n a) now text xs h k =
    let on : StillBegins (behind_line r None) text xs = subst (λ (t : Reader). StillBegins t text xs) h.2 k in
    inl (h.0, h.1, on)
taken_begins r line (Bad n) now text xs h k =
    let on : StillBegins (behind_line r (Some n)) text xs = subst (λ (t : Reader). StillBegins t text xs) h.2 k in
    subst (λ (ys : List Numbered). Begins (r.lines + 1) (line ∷ lines_of text) ys) (sym on) tt

module _ (r : Reader) (piece : List ℕ) (taken : ℕ) (got : Got) (now : Reader) (text : List ℕ) (xs : List Numbered) where
  whole_begins : r.bad ≡ None → TakesWhole r piece taken got now → StillBegins now (drop taken piece ++ text) xs → Begins (r.lines + 1) (lines_after r.held (piece ++ text)) (actions_got got ++ xs)
  whole_begins good h k =
      let none : drop taken piece ≡ [] = ap (λ (n : ℕ). drop n piece) h.taken_is ∙ drop_all (length piece) piece (omega arith) in
      let here : StillBegins (record r { held = held_of (r.held ++ piece) }) text xs = subst (λ (l : List ℕ). StillBegins (record r { held = held_of (r.held ++ piece) }) (l ++ text) xs) none (subst (λ (t : Reader). StillBegins t (drop taken piece ++ text) xs) h.now_is k) in
      let on : Begins (r.lines + 1) (lines_after (held_of (r.held ++ piece)) text) xs = subst (λ (o : Option ℕ). BeginsOn o (r.lines + 1) (lines_after (held_of (r.held ++ piece)) text) xs) good here in
      let same : held_of (held_of (r.held ++ piece)) ≡ held_of (r.held ++ piece) = ap held_of (sym (append-nil (held_of (r.held ++ piece)))) ∙ begun_again 34 (r.held ++ piece) [] ∙ ap held_of (append-nil (r.held ++ piece)) in
      rw (h.got_is, goes_on r.held piece text h.one_line) (same_lines_begin (r.lines + 1) (held_of (r.held ++ piece)) (r.held ++ piece) text xs same on)

  line_begins : TakesLine r piece taken got now → StillBegins now (drop taken piece ++ text) xs → Begins (r.lines + 1) (lines_after r.held (piece ++ text)) (actions_got got ++ xs)
  line_begins h k =
      let cut : piece ≡ (h.front ++ 10 ∷ []) ++ h.behind = h.split.is ∙ sym (append_assoc h.front (10 ∷ []) h.behind) in
      let left : drop taken piece ≡ h.behind = ap (λ (n : ℕ). drop n piece) h.taken_is ∙ ap (drop (length h.front + 1)) cut ∙ drop_at (h.front ++ 10 ∷ []) h.behind (length h.front + 1) (simp length-append refl) in
      let joined : piece ++ text ≡ h.front ++ 10 ∷ (h.behind ++ text) = ap (λ (l : List ℕ). l ++ text) h.split.is ∙ append_assoc h.front (10 ∷ h.behind) text in
      let lines : lines_after r.held (piece ++ text) ≡ (r.held ++ h.front) ∷ lines_of (h.behind ++ text) = ap (lines_after r.held) joined ∙ after_line r.held h.front (h.behind ++ text) h.split.first in
      let on : StillBegins now (h.behind ++ text) xs = subst (λ (l : List ℕ). StillBegins now (l ++ text) xs) left k in
      subst (λ (ls : List (List ℕ)). Begins (r.lines + 1) ls (actions_got got ++ xs)) (sym lines) (taken_begins r (r.held ++ h.front) got now (h.behind ++ text) xs h.takes on)

  begins_by_bad : (o : Option ℕ) → r.bad ≡ o → FedBy o r piece taken got now → StillBegins now (drop taken piece ++ text) xs → BeginsOn o (r.lines + 1) (lines_after r.held (piece ++ text)) (actions_got got ++ xs)
  begins_by_bad None e (inl h) k = whole_begins e h k
  begins_by_bad None e (inr h) k = line_begins h k
  begins_by_bad (Some n) e h k =
      let met : StillBegins r (drop taken piece ++ text) xs = subst (λ (t : Reader). StillBegins t (drop taken piece ++ text) xs) h.now_is k in
      let on : xs ≡ [] = subst (λ (o : Option ℕ). BeginsOn o (r.lines + 1) (lines_after r.held (drop taken piece ++ text)) xs) e met in
      ap (λ (g : Got). actions_got g ++ xs) h.got_is ∙ on

  pub fed_begins : IsFed r piece taken got now → StillBegins now (drop taken piece ++ text) xs → StillBegins r (piece ++ text) (actions_got got ++ xs)
  fed_begins h k = begins_by_bad r.bad refl h k

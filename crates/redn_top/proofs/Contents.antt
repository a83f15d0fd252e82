-- Why contents of files are refused, and that nothing is wrong with good ones.
use Rattle.std.proofs.Common.{◌≡◌, ℕ, List, inl, inr, refl, sym, ap, subst, ◌∙◌}
use Rattle.std.specs.Prelude.{Some, None}
use Rattle.redn_kernel.specs.declared.types.Program.{Program}
use Rattle.redn_image.specs.declared.numbers.Fault.{Fault}
use Rattle.redn_image.specs.Rules.{Numbers}
use Rattle.redn_disasm.specs.Assembly.{Assembles, Outcome, Made, WrongLine, BreaksRule}
use Rattle.redn_disasm.specs.Laws.{OneMeaning}
use Rattle.redn_top.specs.declared.status.TextFault.TheVariants.{Line}
use Rattle.redn_top.specs.declared.status.ImageFault.TheVariants.{Rule}
use Rattle.redn_image.specs.Spelling.{refused}
use Rattle.redn_top.specs.declared.status.Status.{Status}
use Rattle.redn_top.specs.declared.status.Status.TheVariants.{Done, Words, Schedule as BadSchedule, ReadFailed, Missing, WriteFailed, Long, Text, Program as ProgramRefused, Image, Memory, Step, Message}
use Rattle.redn_top.specs.Sources.{IsTextOf, Means}
use Rattle.redn_top.specs.Reasons.{Never, NoneHolds, no_tree, no_program, wrong_line, source_reasons, image_reasons, listing_reasons, First}
use Rattle.redn_top.specs.Refusals.{Refuses, SourceRefused}
use Rattle.redn_top.proofs.FirstReason.{same_text}

module _ (text : List ℕ) where
  -- a text with a tree isn't refused for having none
  never_no_tree : (f : _) → IsTextOf text f → Never (no_tree (Some text))
  never_no_tree f read s h =
      let same = same_text text h.0 h.1 in
      h.2.1.none f (subst (λ (t : List ℕ). IsTextOf t f) same read)

  -- nor a text with a program for a rule
  never_no_program : (p : Program) → Means text p → Never (no_program (Some text))
  never_no_program p means s h =
      let same = same_text text h.0 h.1 in
      h.2.3.none p (subst (λ (t : List ℕ). Means t p) same means)

  pub means_none : (p : Program) → Means text p → NoneHolds (source_reasons (Some text))
  means_none p means = (never_no_tree means.file means.read, (never_no_program p means, tt))

  pub source_refused : (s : Status) → SourceRefused text s → Refuses (source_reasons (Some text)) s
  source_refused Memory h = tt
  source_refused (Text fault) h = inl (text, refl, (fault, h, refl))
  source_refused (ProgramRefused rule at seen) h = inr (never_no_tree h.file h.read, inl (text, refl, (rule, at, seen, h, refl)))
  source_refused Done h = absurd h
  source_refused ReadFailed h = absurd h
  source_refused Missing h = absurd h
  source_refused WriteFailed h = absurd h
  source_refused (Long seen limit) h = absurd h
  source_refused (Image fault) h = absurd h
  source_refused (Step line) h = absurd h
  source_refused (Message fault) h = absurd h
  source_refused Words h = absurd h
  source_refused (BadSchedule number) h = absurd h

  -- a listing with an image has no wrong line and breaks no rule, and one that breaks a rule has no wrong line
  never_wrong_line : OneMeaning → (a : Outcome) → Assembles text a → ((n : ℕ) → a ≡ WrongLine n → ⊥) → Never (wrong_line (Some text))
  never_wrong_line one a means other s h =
      let same = same_text text h.0 h.1 in
      other h.2.0 (one text a (WrongLine h.2.0) means (subst (λ (t : List ℕ). Assembles t (WrongLine h.2.0)) (sym same) h.2.1))

  pub listing_none : OneMeaning → (rows : Numbers) (memory : List ℕ) → Assembles text (Made rows memory) → NoneHolds (listing_reasons (Some text))
  listing_none one rows memory means = (
    never_wrong_line one (Made rows memory) means (λ n e. absurd (cc)),
    (
      (λ s h.
          let same = same_text text h.0 h.1 in
          let other = one text (Made rows memory) (BreaksRule h.2.0) means (subst (λ (t : List ℕ). Assembles t (BreaksRule h.2.0)) (sym same) h.2.1) in
          absurd (cc)),
      tt,
    ),
  )

  pub wrong_line_first : (n : ℕ) → Assembles text (WrongLine n) → First (listing_reasons (Some text)) (Text (Line n))
  wrong_line_first n means = inl (text, refl, (n, means, refl))

  pub broken_rows_first : OneMeaning → (f : Fault) → Assembles text (BreaksRule f) → First (listing_reasons (Some text)) (Image (Rule f.rule f.index))
  broken_rows_first one f means = inr (never_wrong_line one (BreaksRule f) means (λ n e. absurd (cc)), inl (text, refl, (f, means, refl)))

  pub image_none : refused text ≡ None → NoneHolds (image_reasons (Some text))
  image_none e = (
    (λ s h.
        let same = same_text text h.0 h.1 in
        let other : refused text ≡ Some h.2.0 = ap refused same ∙ h.2.1 in
        absurd (cc)),
    tt,
  )

-- How far a text was read.
use Rattle.std.specs.Prelude.{◌≡◌, ℕ, ◌+◌, ◌≤◌, true, List, ◌∷◌, length, replicate, None, Some}
use Rattle.redn_image.specs.Rules.{Image, Numbers, fault_at, faults, first_of, numbers_of}
use Rattle.redn_disasm.specs.declared.assembler.ListFault.{ListFault}
use Rattle.redn_disasm.specs.declared.assembler.ListFault.TheVariants as fault
use Rattle.redn_disasm.specs.Assembly.{Assembles, BreaksRule, ComesTo, Outcome, Progress, WrongLine, fills}
use Rattle.redn_text.specs.Texts.{lines_of}

-- what the rest of a text comes to, the whole does
pub record GoesOn (k : ℕ) (p : Progress) (text : List ℕ) (j : ℕ) (q : Progress) (rest : List ℕ) : Type 0 where
  pub whole : (out : Outcome) → ComesTo j q (lines_of rest) out → ComesTo k p (lines_of text) out
  pub low : j + length rest ≤ k + length text

-- why lines are refused
abbrev pub Refuses : ℕ → Progress → List ℕ → ListFault → Type 0
Refuses k p text (fault.Line n) = ComesTo k p (lines_of text) (WrongLine n)
Refuses k p text (fault.Rule number index) = ComesTo k p (lines_of text) (BreaksRule (fault_at number index))
Refuses k p text fault.Memory = Unit {0}

-- the next line is one of those that stand behind all rows
pub record FillsNext (text : List ℕ) : Type 0 where
  pub line : List ℕ
  pub behind : List (List ℕ)
  pub first : lines_of text ≡ line ∷ behind
  pub filling : fills line ≡ true

-- rows are those of an image whose memory is zeros
pub record IsFresh (n : Numbers) (i : Image) : Type 0 where
  pub keeps : first_of (faults n) ≡ None
  pub rows : numbers_of i ≡ n
  pub memory : i.memory ≡ replicate n.size 0

abbrev pub BreaksFirst : Numbers → ListFault → Type 0
BreaksFirst n (fault.Line k) = ⊥
BreaksFirst n (fault.Rule number index) = first_of (faults n) ≡ Some (fault_at number index)
BreaksFirst n fault.Memory = Unit {0}

-- why a text is refused
abbrev pub SaysWhy : List ℕ → ListFault → Type 0
SaysWhy text (fault.Line n) = Assembles text (WrongLine n)
SaysWhy text (fault.Rule number index) = Assembles text (BreaksRule (fault_at number index))
SaysWhy text fault.Memory = Unit {0}

use Rattle.std.proofs.Common.{◌≡◌, ◌⊎◌, ◌∙◌, inl, inr, get_or}
use Rattle.redn_lex.proofs.Cuts.{mark_front, mark_none}
use Rattle.redn_lex.proofs.front.mark.Goals as goal
use Rattle.redn_lex.proofs.front.mark.Goals.{After-mark_of}

-- `==` and `+=` are ruled out
single : (c : After-mark_of) → get_or c.args.text.now 1 0 ≡ 61 → (get_or c.args.text.now 0 0 ≡ 61) ⊎ (get_or c.args.text.now 0 0 ≡ 43) → ⊥
single c second (inl first) = elim c.else-is_doubled.either [ inl p ↦ p.1 first | inr n ↦ n (c.byte_at.ensures ∙ second) ]
single c second (inr first) = elim c.else-is_doubled-2.either [ inl p ↦ p.1 first | inr n ↦ n (c.byte_at.ensures ∙ second) ]

pub returns-in-Some : goal.returns-in-Some
returns-in-Some c = mark_front c.args.text.now c.in-Some.kind c.requires.some c.requires.other c.in-Some.ensures (single (goal.at.returns-in-Some c).After-mark_of)

pub returns-in-None : goal.returns-in-None
returns-in-None c = mark_none c.args.text.now c.requires.some c.requires.other c.in-None.ensures (single (goal.at.returns-in-None c).After-mark_of)

use Rattle.std.proofs.Common.{refl, arith, ◌<◌, length}
use Rattle.std.proofs.lemmas.List.{take_rest}
use Rattle.redn_lex.proofs.Steps.{next_of, bad_of, wide_of}
use Rattle.redn_lex.proofs.tokens.next_token.Goals as goal
use Rattle.redn_lex.proofs.tokens.next_token.Goals.{After-first_token}

-- something stands behind the gap
more : (c : After-first_token) → c.gap_len-gap.result < length c.args.text.now
more c = omega (arith, c.gap_len-gap.ensures.within)

pub returns-in-Ok : goal.returns-in-Ok
returns-in-Ok c =
    let text = c.args.text.now in
    let gap = c.gap_len-gap.result in
    let far = more (goal.at.returns-in-Ok c).After-first_token in
    next_of c.args.place gap text _ c.gap_len-gap.ensures.within (take_rest text gap) (c.gap_len-gap.ensures.gap far) (c.gap_len-gap.ensures.solid far) _ _ _ c.in-Ok.ensures refl refl refl

pub returns-in-Err-Bad : goal.returns-in-Err-Bad
returns-in-Err-Bad c =
    let text = c.args.text.now in
    let gap = c.gap_len-gap.result in
    let far = more (goal.at.returns-in-Err-Bad c).After-first_token in
    bad_of c.args.place gap text _ c.gap_len-gap.ensures.within (take_rest text gap) (c.gap_len-gap.ensures.gap far) (c.gap_len-gap.ensures.solid far) _ (rw c.in-Err-Bad.field-0-is at c.in-Err-Bad.ensures)

pub returns-in-Err-Wide : goal.returns-in-Err-Wide
returns-in-Err-Wide c =
    let text = c.args.text.now in
    let gap = c.gap_len-gap.result in
    let far = more (goal.at.returns-in-Err-Wide c).After-first_token in
    wide_of c.args.place gap text _ c.gap_len-gap.ensures.within (take_rest text gap) (c.gap_len-gap.ensures.gap far) (c.gap_len-gap.ensures.solid far) (rw c.in-Err-Wide.field-0-is at c.in-Err-Wide.ensures)

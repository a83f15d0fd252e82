use Rattle.std.proofs.Common.{List, ℕ, map, Vec, Global, refl, sym, ap, ◌∙◌, arith}
use Rattle.std.specs.Prelude.{is_some}
use Rattle.std.specs.Option.{option_map}
use Rattle.std.proofs.lemmas.Result.{err_from_is_err_and}
use Rattle.redn_top.proofs.MessageWork.{none_seen, as_many, seen_at, no_chain_here, twice_here, digits_refused_here, one_word_more}
use Rattle.redn_top.proofs.messages.messages_of.Goals as goal

abbrev h : Vec ℕ Global → List ℕ
h v = v.items

pub loop-word-init : goal.loop-word-init
loop-word-init c = (ap (map (option_map h)) c.in_ok-list.ensures ∙ none_seen h c.args.chains, refl)

pub returns-in_default-clause-refused : goal.returns-in_default-clause-refused
returns-in_default-clause-refused c =
    let list = c.loop-word.list in
    let long = as_many h list.items c.args.chains _ c.loop-word.invariant.0 in
    no_chain_here c.args.chains c.args.words.now c.loop-word.word-index c.word-item.result c.word-item.is c.loop-word-test.true c.loop-word.invariant.1
    (λ inside. absurd (let e = c.in_default.ensures.variant.1 (omega (arith, inside, long, list.ok)) in cc))

pub returns-then-is_some-clause-refused : goal.returns-then-is_some-clause-refused
returns-then-is_some-clause-refused c =
    let list = c.loop-word.list in
    let long = as_many h list.items c.args.chains _ c.loop-word.invariant.0 in
    let low = c.in-Some.ensures.variant.0 refl in
    let held = ap is_some (sym c.in-Some.ensures.value) ∙ sym c.is_some.ensures ∙ c.if-is_some.true in
    twice_here c.args.chains c.args.words.now c.loop-word.word-index c.word-item.result c.word-item.is c.loop-word-test.true c.loop-word.invariant.1 (omega (arith, low, long, list.ok))
    (sym (seen_at h list.items c.args.chains _ c.loop-word.invariant.0 _ _ (omega (arith, low, list.ok))) ∙ held)

pub returns-in_err-message_bytes-clause-refused : goal.returns-in_err-message_bytes-clause-refused
returns-in_err-message_bytes-clause-refused c =
    let list = c.loop-word.list in
    let long = as_many h list.items c.args.chains _ c.loop-word.invariant.0 in
    let low = c.in-Some.ensures.variant.0 refl in
    let held = ap is_some (sym c.in-Some.ensures.value) ∙ sym c.is_some.ensures ∙ c.if-is_some.false in
    let p = err_from_is_err_and c.from_residual-in_err-message_bytes.result c.from_residual-in_err-message_bytes.ensures.1 in
    rw (p.1, p.2)
    (digits_refused_here c.args.chains c.args.words.now c.loop-word.word-index c.word-item.result c.word-item.is c.loop-word-test.true c.loop-word.invariant.1 (omega (arith, low, long, list.ok))
    (sym (seen_at h list.items c.args.chains _ c.loop-word.invariant.0 _ _ (omega (arith, low, list.ok))) ∙ held) c.in_err-message_bytes.field-0.0 c.in_err-message_bytes.ensures.refused)

pub loop-word-preserved : goal.loop-word-preserved
loop-word-preserved c =
    let list = c.loop-word.list in
    let long = as_many h list.items c.args.chains _ c.loop-word.invariant.0 in
    let low = c.in-Some.ensures.variant.0 refl in
    let held = ap is_some (sym c.in-Some.ensures.value) ∙ sym c.is_some.ensures ∙ c.if-is_some.false in
    one_word_more c.args.chains c.args.words.now c.loop-word.word-index c.word-item.result c.word-item.is c.loop-word-test.true c.loop-word.invariant.1 (omega (arith, low, long, list.ok))
    (sym (seen_at h list.items c.args.chains _ c.loop-word.invariant.0 _ _ (omega (arith, low, list.ok))) ∙ held) h list.items _ c.loop-word.invariant.0 c.in_ok-message_bytes.ensures.bytes

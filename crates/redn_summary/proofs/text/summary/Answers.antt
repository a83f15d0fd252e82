use Rattle.std.proofs.Common.{arith, ◌≡◌, ◌<◌, ◌^◌, ℕ, Err, length, ap, refl, sym, ◌∙◌}
use Rattle.std.specs.Global.{Vec}
use Rattle.std.specs.Option.{option_map}
use Rattle.std.proofs.lemmas.List.{length-map}
use Rattle.std.proofs.lemmas.Result.{IfOk-weaker}
use Rattle.redn_adapter.specs.declared.opening.OpenFault.TheVariants.{Message}
use Rattle.redn_summary.specs.declared.run.TheConstants.{MAX_SUMMARY_STEPS}
use Rattle.redn_summary.specs.Counting.{told}
use Rattle.redn_summary.specs.Summary.{summary}
use Rattle.redn_summary.proofs.Messages.{no_misfit}
use Rattle.redn_summary.proofs.Whole.{summary_told}
use Rattle.redn_summary.proofs.text.summary.Goals as goal

pub unreachable-requires : goal.unreachable-requires
unreachable-requires c =
    let n = c.args.number in
    let low : n < 2 ^ 32 = omega (arith, c.ranges.number.fits) in
    let f = c.in-Err-Message in
    no_misfit n (c.each_chain_replies.ensures n low).0 c.args.image c.requires.fits c.in_ok-messages.messages c.in_ok-messages.ensures.messages (Message f.field-0-0 f.field-0-1 f.field-0-2)
    ((f.ensures.message f.field-0-0 f.field-0-1 f.field-0-2).0 (ap Err f.field-0-is))

pub returns : goal.returns
returns c =
    let n = c.args.number in
    let low : n < 2 ^ 32 = omega (arith, c.ranges.number.fits) in
    let list = c.messages.inside.list in
    let messages = c.in_ok-messages.messages in
    let seen : length list.items ≡ length messages = sym (length-map list.items (option_map (λ (v : Vec ℕ). v.items))) ∙ ap length c.messages.view_is in
    let chains : c.len-chains.result ≡ length messages = omega (arith, c.len-chains.ensures, list.ok, seen) in
    let same =
    summary_told n low c.each_chain_replies.ensures c.args.image c.requires MAX_SUMMARY_STEPS refl messages c.in-Ok.adapter c.in_ok-fair.fair c.len-chains.result c.in_ok-messages.ensures.messages c.in-Ok.ensures.state c.in_ok-fair.ensures chains c.in_ok-counted.counted c.in_ok-counted.ensures in
    IfOk-weaker c.tell.result (λ (text : Vec ℕ). text.items ≡ told n c.len-chains.result MAX_SUMMARY_STEPS c.in_ok-counted.counted) (λ (text : Vec ℕ). text.items ≡ summary n c.args.image) (λ text e. e ∙ same) c.tell.ensures

use Rattle.std.proofs.Common.{ℕ, List, ◌++◌, ◌*◌, ap, ◌∙◌}
use Rattle.std.specs.Prelude.{replicate}
use Rattle.std.specs.List.{flat_map}
use Rattle.std.proofs.lemmas.Result.{IfOk-weaker}
use Rattle.redn_emit.specs.Layout.{DESCRIPTORS_AT, descriptor, words_bytes}
use Rattle.redn_emit.proofs.Lists.{append_six}
use Rattle.redn_emit.proofs.memory.put_chain_words.Goals as goal

pub returns : goal.returns
returns c =
    let plan = c.args.plan.now in
    let first = c.in_ok-put_zeros.ensures {u = tt} in
    let second = c.in_ok-put_descriptors.ensures {u = tt} ∙ ap (λ l. c.put_zeros.new.out.items ++ flat_map descriptor l) c.rings.ensures.rings in
    let third = c.in_ok-put_zeros-2.ensures {u = tt} ∙ ap (λ (n : ℕ). c.put_descriptors.new.out.items ++ replicate n 0) c.hidden_len.ensures.len in
    let fourth = c.in_ok-put_words.ensures {u = tt} ∙ ap (λ (l : List ℕ). c.put_zeros-2.new.out.items ++ words_bytes l) c.constants.ensures in
    let fifth = c.in_ok-put_words-2.ensures {u = tt} ∙ ap (λ (l : List ℕ). c.put_words.new.out.items ++ words_bytes l) c.vars.ensures in
    IfOk-weaker c.put_zeros-3.result _ _ (λ x h. append_six c.args.out.now.items (replicate DESCRIPTORS_AT 0) (flat_map descriptor plan.rings) (replicate (8 * plan.hidden) 0) (words_bytes plan.constants) (words_bytes plan.values) (replicate (8 * plan.args) 0) c.put_zeros.new.out.items c.put_descriptors.new.out.items c.put_zeros-2.new.out.items c.put_words.new.out.items c.put_words-2.new.out.items c.put_zeros-3.new.out.items first second third fourth fifth (h ∙ ap (λ (n : ℕ). c.put_words-2.new.out.items ++ replicate n 0) c.message_len.ensures.len)) c.put_zeros-3.ensures

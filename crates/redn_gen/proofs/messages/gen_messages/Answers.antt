use Rattle.std.proofs.Common.{Some, map, ap, ◌∙◌}
use Rattle.std.specs.Option.{option_map}
use Rattle.std.proofs.lemmas.List.{map-append}
use Rattle.redn_gen.specs.Generated.{message}
use Rattle.redn_gen.proofs.Below.{goes_on}
use Rattle.redn_gen.proofs.messages.gen_messages.Goals as goal

pub loop-chain-preserved : goal.loop-chain-preserved
loop-chain-preserved c =
    goes_on (λ i. Some (message c.args.n i)) c.loop-chain.chain _ _ _
    (ap (map (option_map (λ v. v.items))) c.in_ok-push.ensures.items ∙ map-append (option_map (λ v. v.items)) c.loop-chain.list.items _)
    c.loop-chain.invariant
    (ap Some c.in_ok-message.ensures)

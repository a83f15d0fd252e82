use Rattle.std.proofs.Common.{sym, subst, take}
use Rattle.redn_check.specs.Names.{Holds, chain_names}
use Rattle.redn_check.proofs.Twice.{twice_more, mapped_more, mapped_length}
use Rattle.redn_check.proofs.names.declare_chains.Goals as goal

pub loop-i-preserved : goal.loop-i-preserved
loop-i-preserved c =
    let chains = c.args.chains.now in
    let before = chain_names (take c.loop-i.i chains) in
    let held = c.loop-i.invariant.holds in
    let more = mapped_more (λ t. t.name) chains c.loop-i.i c.index-chains-i.result c.loop-i-test.true c.index-chains-i.is in
    let size = mapped_length (λ t. t.name) chains c.loop-i.i c.index-chains-i.result c.loop-i-test.true c.index-chains-i.is in
    record {
      holds = subst (Holds c.add.new.self.places) (sym more) (c.in_ok-found.ensures.holds before held size);
      told = twice_more before _ _ _ _ _ more c.earlier-first.ensures c.loop-i.invariant.told (c.in_ok-found.ensures.twice before held);
    }

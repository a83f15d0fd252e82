use Rattle.std.proofs.Common.{sym, subst, take, ◌++◌}
use Rattle.redn_check.specs.Names.{Holds, variable_names}
use Rattle.redn_check.proofs.Twice.{twice_more, appended_more, appended_length}
use Rattle.redn_check.proofs.names.declare_variables.Goals as goal

pub loop-i-preserved : goal.loop-i-preserved
loop-i-preserved c =
    let args = c.as_slice-args.result.now in
    let vars = c.as_slice-vars.result.now in
    let before = args ++ variable_names (take c.loop-i.i vars) in
    let held = c.loop-i.invariant.holds in
    let more = appended_more (λ v. v.name) vars c.loop-i.i c.index-vars-i.result c.loop-i-test.true c.index-vars-i.is args in
    let size = appended_length (λ v. v.name) vars c.loop-i.i c.index-vars-i.result c.loop-i-test.true c.index-vars-i.is args in
    record {
      holds = subst (Holds c.add.new.self.places) (sym more) (c.in_ok-found.ensures.holds before held size);
      told = twice_more before _ _ _ _ _ more c.earlier-first.ensures c.loop-i.invariant.told (c.in_ok-found.ensures.twice before held);
    }

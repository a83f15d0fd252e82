use Rattle.std.proofs.Common.{sym, subst, take, ◌∙◌, ap, ◌++◌, ◌∷◌, [], arith}
use Rattle.std.proofs.lemmas.List.{take_more, length-take-le}
use Rattle.redn_check.specs.Names.{Holds}
use Rattle.redn_check.proofs.Twice.{twice_more}
use Rattle.redn_check.proofs.names.declare_arguments.Goals as goal

pub loop-i-preserved : goal.loop-i-preserved
loop-i-preserved c =
    let args = c.args.args.now in
    let before = take c.loop-i.i args in
    let held = c.loop-i.invariant.holds in
    let more = take_more args c.loop-i.i c.index-args-i.result c.loop-i-test.true ∙ ap (λ n. take c.loop-i.i args ++ n ∷ []) (sym c.index-args-i.is) in
    let size = length-take-le c.loop-i.i args (omega arith) in
    record {
      holds = subst (Holds c.add.new.self.places) (sym more) (c.in_ok-found.ensures.holds before held size);
      told = twice_more before _ _ _ _ _ more c.earlier-first.ensures c.loop-i.invariant.told (c.in_ok-found.ensures.twice before held);
    }

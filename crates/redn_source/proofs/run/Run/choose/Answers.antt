use Rattle.std.proofs.Common.{sym, ap, if◌then◌else◌}
use Rattle.redn_source.specs.RunView.{run_view}
use Rattle.redn_source.proofs.Does.{taken}
use Rattle.redn_source.proofs.run.Run.choose.Goals as goal

pub returns-then-met-clause-turn : goal.returns-then-met-clause-turn
returns-then-met-clause-turn c =
    let a = c.args in
    λ tables chain. taken chain tables (run_view c.args.self.now) _ _ a.met a.yes.now a.no.now _ (ap (λ b. if b then a.yes.now else a.no.now) (sym c.if-met.true)) (c.branch-self.ensures.turn tables chain)

pub returns-else-met-clause-turn : goal.returns-else-met-clause-turn
returns-else-met-clause-turn c =
    let a = c.args in
    λ tables chain. taken chain tables (run_view c.args.self.now) _ _ a.met a.yes.now a.no.now _ (ap (λ b. if b then a.yes.now else a.no.now) (sym c.if-met.false)) (c.branch-self-else-met.ensures.turn tables chain)

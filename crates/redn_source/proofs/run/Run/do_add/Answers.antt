use Rattle.std.proofs.Common.{◌+◌, ap, ◌∙◌}
use Rattle.std.specs.Prelude.{slice_index}
use Rattle.std.proofs.lemmas.List.{get_or_read}
use Rattle.redn_kernel.specs.Source.{wrapped}
use Rattle.redn_source.specs.RunView.{run_view}
use Rattle.redn_source.proofs.Does.{takes}
use Rattle.redn_source.proofs.run.Run.do_add.Goals as goal

pub returns-clause-turn : goal.returns-clause-turn
returns-clause-turn c =
    let vars = c.args.self.now.vars.items in
    let old = get_or_read vars c.args.to c.index.result.now c.requires.there c.index.ensures 0 in
    let sum = ap (λ n. wrapped (n + c.value.result)) old ∙ ap (λ n. wrapped (slice_index vars c.args.to + n)) c.value.ensures in
    λ tables. takes c.args.chain tables (run_view c.args.self.now) c.args.to _ _ _ _ sum (c.assign.ensures.turn tables)

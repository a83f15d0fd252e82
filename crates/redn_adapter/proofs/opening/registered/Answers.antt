use Rattle.std.proofs.Common.{ap, sym, ◌∙◌}
use Rattle.std.specs.Prelude.{Err}
use Rattle.std.proofs.lemmas.Bool.{false≢true}
use Rattle.redn_adapter.proofs.opening.registered.Goals as goal

pub unreachable-requires : goal.unreachable-requires
unreachable-requires c =
    let i = c.in-Err-Repeated.field-0-0 in
    let twice = (c.new.ensures.repeated i (c.in-Err-Repeated.is ∙ ap Err c.in-Err-Repeated.field-0-is)).0 in
    false≢true (sym (c.requires.distinct i) ∙ twice)

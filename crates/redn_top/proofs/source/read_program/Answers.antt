-- The rules of the text's only tree.
use Rattle.std.proofs.Common.{◌≡◌}
use Rattle.std.proofs.lemmas.Result.{IfOk-weaker, IfErr-weaker}
use Rattle.redn_kernel.specs.declared.types.Program.{Program}
use Rattle.redn_check.specs.Numbering.{program_of}
use Rattle.redn_top.specs.Sources.{Means}
use Rattle.redn_top.specs.Refusals.{SourceRefused}
use Rattle.redn_top.specs.Refusals.{RulesRefused}
use Rattle.redn_top.proofs.SourceFaults.{the_program, rules_refused}
use Rattle.redn_top.proofs.source.read_program.Goals as goal

pub returns-clause-only : goal.returns-clause-only
returns-clause-only c =
    let t = c.in_ok-f.ensures in
    IfOk-weaker c.resolve.result (λ (p : Program). p ≡ program_of c.in_ok-f.f) (λ (p : Program). (q : Program) → Means c.args.text.now q → p ≡ q) (λ p e. the_program c.args.text.now c.in_ok-f.f t.tree t.only p e) c.resolve.ensures.program

pub returns-clause-refused : goal.returns-clause-refused
returns-clause-refused c =
    let t = c.in_ok-f.ensures in
    IfErr-weaker c.resolve.result (RulesRefused c.in_ok-f.f) (SourceRefused c.args.text.now) (λ s h. rules_refused c.args.text.now c.in_ok-f.f t.tree t.only s h) c.resolve.ensures.refused

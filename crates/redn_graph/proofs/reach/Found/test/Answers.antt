use Rattle.std.proofs.Common.{sym, subst}
use Rattle.redn_graph.specs.declared.types.End.{End}
use Rattle.redn_graph.specs.Words.{test_end}
use Rattle.redn_graph.specs.Idle.{past_idle}
use Rattle.redn_graph.specs.Finding.{Renamed}
use Rattle.redn_graph.proofs.Finding.{renamed_test}
use Rattle.redn_graph.proofs.reach.Found.test.Goals as goal

pub returns-clause-renamed : goal.returns-clause-renamed
returns-clause-renamed c =
    let a = c.args in
    let yes = past_idle a.all.now a.yes in
    let no = past_idle a.all.now a.no in
    subst (λ (now : End). Renamed a.self.now c.number_past-2.new.self (test_end a.wide a.left a.right yes no) now) (sym c.test.ensures)
    (renamed_test a.self.now c.number_past.new.self c.number_past-2.new.self a.wide a.left a.right yes no c.in_ok-yes.yes c.in_ok-no.no c.in_ok-yes.ensures.numbered c.in_ok-no.ensures.numbered)

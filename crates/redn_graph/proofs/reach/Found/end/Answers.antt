use Rattle.std.proofs.Common.{length, inl, inr, refl, sym, subst}
use Rattle.redn_graph.specs.declared.types.End.{End}
use Rattle.redn_graph.specs.declared.types.End.TheVariants as e
use Rattle.redn_graph.specs.Idle.{past_idle}
use Rattle.redn_graph.specs.Reached.{renumbered}
use Rattle.redn_graph.specs.Finding.{Renamed, TargetsThere}
use Rattle.redn_graph.proofs.Finding.{renamed_one, renamed_two}
use Rattle.redn_graph.proofs.reach.Found.end.Goals as goal

pub number_past-requires-clause-there : goal.number_past-requires-clause-there
number_past-requires-clause-there c = subst (TargetsThere (length c.args.all.now)) c.in-Jump.is c.requires.there c.in-Jump.to refl

pub test-requires-clause-there : goal.test-requires-clause-there
test-requires-clause-there c = subst (TargetsThere (length c.args.all.now)) c.in-Test48.is c.requires.there c.in-Test48.yes (inl refl)

pub test-requires-clause-there_too : goal.test-requires-clause-there_too
test-requires-clause-there_too c = subst (TargetsThere (length c.args.all.now)) c.in-Test48.is c.requires.there c.in-Test48.no (inr refl)

pub test-requires-in-Test64-clause-there : goal.test-requires-in-Test64-clause-there
test-requires-in-Test64-clause-there c = subst (TargetsThere (length c.args.all.now)) c.in-Test64.is c.requires.there c.in-Test64.yes (inl refl)

pub test-requires-in-Test64-clause-there_too : goal.test-requires-in-Test64-clause-there_too
test-requires-in-Test64-clause-there_too c = subst (TargetsThere (length c.args.all.now)) c.in-Test64.is c.requires.there c.in-Test64.no (inr refl)

pub number_past-requires-in-Probe-clause-there : goal.number_past-requires-in-Probe-clause-there
number_past-requires-in-Probe-clause-there c = subst (TargetsThere (length c.args.all.now)) c.in-Probe.is c.requires.there c.in-Probe.hit (inl refl)

pub number_past-requires-in-Probe-2-clause-there :
    goal.number_past-requires-in-Probe-2-clause-there
number_past-requires-in-Probe-2-clause-there c = subst (TargetsThere (length c.args.all.now)) c.in-Probe.is c.requires.there c.in-Probe.miss (inr refl)

pub returns-in_ok-to-in-Jump-clause-renamed : goal.returns-in_ok-to-in-Jump-clause-renamed
returns-in_ok-to-in-Jump-clause-renamed c =
    let r = past_idle c.args.all.now in
    subst (λ (end : End). Renamed c.args.self.now c.number_past.new.self (renumbered r end) (e.Jump c.in_ok-to-in-Jump.to)) (sym c.in-Jump.is)
    (renamed_one c.args.self.now c.number_past.new.self (r c.in-Jump.to) c.in_ok-to-in-Jump.to c.in_ok-to-in-Jump.ensures.numbered c.in_ok-to-in-Jump.ensures.found)

pub returns-in_ok-miss-in-Probe-clause-renamed : goal.returns-in_ok-miss-in-Probe-clause-renamed
returns-in_ok-miss-in-Probe-clause-renamed c =
    let i = c.in-Probe in
    let r = past_idle c.args.all.now in
    subst (λ (end : End). Renamed c.args.self.now c.number_past-in-Probe-2.new.self (renumbered r end) (e.Probe c.in-Probe.to c.in-Probe.table c.in-Probe.offset c.in-Probe.key c.in_ok-hit-in-Probe.hit c.in_ok-miss-in-Probe.miss)) (sym i.is)
    (renamed_two c.args.self.now c.number_past-in-Probe.new.self c.number_past-in-Probe-2.new.self (r i.hit) (r i.miss) c.in_ok-hit-in-Probe.hit c.in_ok-miss-in-Probe.miss (e.Probe c.in-Probe.to c.in-Probe.table c.in-Probe.offset c.in-Probe.key) (λ f j k. refl) (λ j k l h. h) (λ j k l h. h) c.in_ok-hit-in-Probe.ensures.numbered c.in_ok-miss-in-Probe.ensures.numbered)

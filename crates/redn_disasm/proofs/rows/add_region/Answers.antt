use Rattle.std.proofs.Common.{◌≡◌, length, map, sym, ap, ◌∙◌}
use Rattle.redn_disasm.specs.Reading.{queue_of, region_of}
use Rattle.redn_disasm.proofs.Steps.{empty_list, is_none, map_one, no_items, region_given}
use Rattle.redn_disasm.proofs.rows.add_region.Goals as goal

pub returns-clause-added : goal.returns-clause-added
returns-clause-added c =
    let old = c.args.rows.now in
    let queues : length old.queues.items ≡ 0 = is_none _ _ (sym c.is_empty-else-not-is_empty.ensures ∙ c.if-not-is_empty-2.false) (sym old.queues.ok.0) in
    let receives : length old.receives.items ≡ 0 = is_none _ _ (sym c.is_empty.ensures ∙ c.if-not-is_empty.false) (sym old.receives.ok.0) in
    region_given (map region_of old.regions.items) _ (map queue_of old.queues.items) old.receives.items old.size c.args.line.now (region_of c.in-Some.region) c.in-Some.ensures.found (empty_list queue_of old.queues.items queues) (no_items old.receives.items receives) (ap (map region_of) c.in_ok-push.ensures.items ∙ map_one region_of old.regions.items c.in-Some.region)

pub returns-in_default-clause-added : goal.returns-in_default-clause-added
returns-in_default-clause-added c = λ after h. c.in_default.ensures.none h.0 h.1

use Rattle.std.proofs.Common.{ℕ, [], length}
use Rattle.std.specs.Prelude.{nat_le, nat_lt}
use Rattle.redn_image.specs.Rules.{QueueNumbers, RegionNumbers, kind_is_known, receive_is_inside, region_is_inside, ring_is_inside}
use Rattle.redn_image.proofs.Faults.{joined, placed}
use Rattle.redn_image.proofs.rules.row_fault.Goals as goal

pub returns : goal.returns
returns c =
    let rs = c.args.regions.now in
    let qs = c.args.queues.now in
    let cs = c.args.receives.now in
    let size : ℕ = c.args.size in
    let chains : ℕ = length cs in
    let f7 = placed 7 (λ (r : RegionNumbers). nat_lt r.domain chains) rs _ _ c.fault.ensures c.strange_domain.ensures.first in
    let f8 = placed 8 (kind_is_known []) rs _ _ c.fault-2.ensures c.unknown_kind.ensures.first in
    let f9 = placed 9 (λ (r : RegionNumbers). nat_lt r.rights 16) rs _ _ c.fault-3.ensures c.strange_rights.ensures.first in
    let f10 = placed 10 (region_is_inside size []) rs _ _ c.fault-4.ensures c.outer_region.ensures.first in
    let f12 = placed 12 (λ (q : QueueNumbers). nat_lt q.domain chains) qs _ _ c.fault-5.ensures c.strange_queue_domain.ensures.first in
    let f13 = placed 13 (λ (q : QueueNumbers). nat_lt q.managed 2) qs _ _ c.fault-6.ensures c.unknown_order.ensures.first in
    let f14 = placed 14 (ring_is_inside size []) qs _ _ c.fault-7.ensures c.outer_ring.ensures.first in
    let f15 = placed 15 (λ (q : QueueNumbers). nat_le q.limit q.slots) qs _ _ c.fault-8.ensures c.wide_limit.ensures.first in
    let f17 = placed 17 (receive_is_inside size []) cs _ _ c.fault-9.ensures c.outer_receive.ensures.first in
    let to7 = joined _ _ _ _ _ c.or.ensures c.in_ok-keys.ensures f7 in
    let to8 = joined _ _ _ _ _ c.or-2.ensures to7 f8 in
    let to9 = joined _ _ _ _ _ c.or-3.ensures to8 f9 in
    let to10 = joined _ _ _ _ _ c.or-4.ensures to9 f10 in
    let to11 = joined _ _ _ _ _ c.or-5.ensures to10 c.in_ok-tables.ensures in
    let to12 = joined _ _ _ _ _ c.or-6.ensures to11 f12 in
    let to13 = joined _ _ _ _ _ c.or-7.ensures to12 f13 in
    let to14 = joined _ _ _ _ _ c.or-8.ensures to13 f14 in
    let to15 = joined _ _ _ _ _ c.or-9.ensures to14 f15 in
    let to16 = joined _ _ _ _ _ c.or-10.ensures to15 c.slot_fault.ensures in
    joined _ _ _ _ _ c.or-11.ensures to16 f17

use Rattle.std.proofs.Common.{rules, ◌≡◌, ℕ, ◌+◌, ◌-◌, List, Bool, true, false, cond, length, sym, ap, ◌∙◌, subst, arith}
use Rattle.redn_segment.specs.declared.types.Draft.{Draft}
use Rattle.redn_recycle.specs.Places.{Whole}
use Rattle.redn_recycle.specs.Lapped.{start_of, first_of, segment_of_slot, slots_in_laps, names_last, MayGoRound}
use Rattle.redn_recycle.proofs.Starts.{first_few, slot_near, some_slots}
use Rattle.redn_recycle.proofs.places.Places.slot.Goals as goal

pub overflow_sub-result : goal.overflow_sub-result
overflow_sub-result c =
    let same : c.self.inside.segments.items ≡ c.args.self.now.segments = ap (λ (w : Whole). w.segments) c.self.view_is in
    let xs : List (List Draft) = c.args.self.now.segments in
    let may : MayGoRound xs c.args.self.now.ring = subst (λ (w : Whole). MayGoRound w.segments w.ring) c.self.view_is c.self.invariant.may in
    let count : c.len.result ≡ length xs = (let h : c.len.result ≡ length c.self.inside.segments.items = search rules in h) ∙ ap length same in
    let all : c.first.result ≡ slots_in_laps xs = c.first.ensures ∙ ap (first_of xs) count in
    let some = some_slots xs may.some in
    omega (arith, all, some)

pub returns-then-is_last_enable : goal.returns-then-is_last_enable
returns-then-is_last_enable c =
    let same : c.self.inside.segments.items ≡ c.args.self.now.segments = ap (λ (w : Whole). w.segments) c.self.view_is in
    let xs : List (List Draft) = c.args.self.now.segments in
    let count : c.len.result ≡ length xs = (let h : c.len.result ≡ length c.self.inside.segments.items = search rules in h) ∙ ap length same in
    let all : c.first.result ≡ slots_in_laps xs = c.first.ensures ∙ ap (first_of xs) count in
    let here : names_last xs c.args.slot ≡ true = sym c.is_last_enable.ensures ∙ c.if-is_last_enable.true in
    ap (λ (n : ℕ). n - 1) all ∙ sym (ap (λ (b : Bool). cond b (slots_in_laps xs - 1) (first_of xs (segment_of_slot xs c.args.slot) + (c.args.slot - start_of xs (segment_of_slot xs c.args.slot)))) here)

pub first-requires-2 : goal.first-requires-2
first-requires-2 c =
    let same : c.self.inside.segments.items ≡ c.args.self.now.segments = ap (λ (w : Whole). w.segments) c.self.view_is in
    let xs : List (List Draft) = c.args.self.now.segments in
    let near = slot_near xs c.args.slot c.requires in
    let at : c.segment_of_slot-j.result ≡ segment_of_slot xs c.args.slot = c.segment_of_slot-j.ensures in
    let inside = near.0 in
    omega (arith, at, inside)

pub start-requires : goal.start-requires
start-requires c =
    let same : c.self.inside.segments.items ≡ c.args.self.now.segments = ap (λ (w : Whole). w.segments) c.self.view_is in
    let xs : List (List Draft) = c.args.self.now.segments in
    let near = slot_near xs c.args.slot c.requires in
    let at : c.segment_of_slot-j.result ≡ segment_of_slot xs c.args.slot = c.segment_of_slot-j.ensures in
    let inside = near.0 in
    omega (arith, at, inside)

pub overflow_sub-result-2 : goal.overflow_sub-result-2
overflow_sub-result-2 c =
    let same : c.self.inside.segments.items ≡ c.args.self.now.segments = ap (λ (w : Whole). w.segments) c.self.view_is in
    let xs : List (List Draft) = c.args.self.now.segments in
    let near = slot_near xs c.args.slot c.requires in
    let at : c.segment_of_slot-j.result ≡ segment_of_slot xs c.args.slot = c.segment_of_slot-j.ensures in
    let begin : c.start.result ≡ start_of xs (segment_of_slot xs c.args.slot) = c.start.ensures ∙ ap (start_of xs) at in
    let low = near.1 in
    omega (arith, begin, low)

pub overflow_add-result : goal.overflow_add-result
overflow_add-result c =
    let same : c.self.inside.segments.items ≡ c.args.self.now.segments = ap (λ (w : Whole). w.segments) c.self.view_is in
    let xs : List (List Draft) = c.args.self.now.segments in
    let may : MayGoRound xs c.args.self.now.ring = subst (λ (w : Whole). MayGoRound w.segments w.ring) c.self.view_is c.self.invariant.may in
    let near = slot_near xs c.args.slot c.requires in
    let at : c.segment_of_slot-j.result ≡ segment_of_slot xs c.args.slot = c.segment_of_slot-j.ensures in
    let begin : c.start.result ≡ start_of xs (segment_of_slot xs c.args.slot) = c.start.ensures ∙ ap (start_of xs) at in
    let first : c.first-2.result ≡ first_of xs (segment_of_slot xs c.args.slot) = c.first-2.ensures ∙ ap (first_of xs) at in
    let few = first_few xs (segment_of_slot xs c.args.slot) in
    let inside = near.0 in
    let low = near.1 in
    let all = may.few in
    omega (arith, begin, first, few, inside, low, c.requires, all)

pub returns : goal.returns
returns c =
    let same : c.self.inside.segments.items ≡ c.args.self.now.segments = ap (λ (w : Whole). w.segments) c.self.view_is in
    let xs : List (List Draft) = c.args.self.now.segments in
    let near = slot_near xs c.args.slot c.requires in
    let at : c.segment_of_slot-j.result ≡ segment_of_slot xs c.args.slot = c.segment_of_slot-j.ensures in
    let begin : c.start.result ≡ start_of xs (segment_of_slot xs c.args.slot) = c.start.ensures ∙ ap (start_of xs) at in
    let first : c.first-2.result ≡ first_of xs (segment_of_slot xs c.args.slot) = c.first-2.ensures ∙ ap (first_of xs) at in
    let other : names_last xs c.args.slot ≡ false = sym c.is_last_enable.ensures ∙ c.if-is_last_enable.false in
    ap (λ (n : ℕ). n + (c.args.slot - c.start.result)) first ∙ ap (λ (n : ℕ). first_of xs (segment_of_slot xs c.args.slot) + (c.args.slot - n)) begin ∙ sym (ap (λ (b : Bool). cond b (slots_in_laps xs - 1) (first_of xs (segment_of_slot xs c.args.slot) + (c.args.slot - start_of xs (segment_of_slot xs c.args.slot)))) other)

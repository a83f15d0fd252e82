use Rattle.std.proofs.Common.{rules, ◌≡◌, ℕ, suc, ◌+◌, List, true, false, length, sym, ap, ◌∙◌, arith}
use Rattle.std.proofs.lemmas.Bool.{eq-eqb, ne_eqb}
use Rattle.redn_words.specs.declared.types.Opcode.TheVariants.{Wait, Enable}
use Rattle.redn_segment.specs.declared.types.Draft.{Draft}
use Rattle.redn_recycle.specs.Places.{Whole}
use Rattle.redn_recycle.specs.Laps.{Ring, is_last}
use Rattle.redn_recycle.specs.Lapped.{ring_of, gate_draft, gate_drafts, first_of}
use Rattle.redn_recycle.proofs.Rings.{no_gates, last_gates, inner_gates, pushed_none, pushed_two}
use Rattle.redn_recycle.proofs.places.Places.push_gates.Goals as goal

pub returns-then-is_send_last : goal.returns-then-is_send_last
returns-then-is_send_last c =
    λ domain base. let number : ℕ = c.args.self.now.ring in
    let segments : List (List Draft) = c.args.self.now.segments in
    let r : Ring = ring_of segments number domain base in
    pushed_none c.args.drafts.now.items (gate_drafts number r c.args.j) (no_gates number r c.args.j (sym (c.is_send_last.ensures domain base) ∙ c.if-is_send_last.true))

pub returns-in_ok-push-2 : goal.returns-in_ok-push-2
returns-in_ok-push-2 c =
    λ domain base. let number : ℕ = c.args.self.now.ring in
    let segments : List (List Draft) = c.args.self.now.segments in
    let r : Ring = ring_of segments number domain base in
    let queue : c.from-queue.result ≡ number = c.from-queue.ensures ∙ ap (λ (w : Whole). w.ring) c.self.view_is in
    let count : c.len.result ≡ length segments = (let h : c.len.result ≡ length c.self.inside.segments.items = search rules in h) ∙ ap (λ (w : Whole). length w.segments) c.self.view_is in
    let last : is_last number r c.args.j ≡ true = eq-eqb (suc c.args.j) (length segments) (omega (arith, c.if-j-len.true, count)) in
    pushed_two c.args.drafts.now.items c.push.new.self.items c.push-then-j-len.new.self.items (gate_drafts number r c.args.j) c.gate.result c.gate-then-j-len.result (gate_draft Wait number 0) (gate_draft Enable 0 0) c.in_ok-push.ensures.items c.in_ok-push-2.ensures.items (c.gate.ensures ∙ ap (λ (n : ℕ). gate_draft Wait n 0) queue) c.gate-then-j-len.ensures (last_gates number r c.args.j (sym (c.is_send_last.ensures domain base) ∙ c.if-is_send_last.false) last)

pub returns-in_ok-push-4 : goal.returns-in_ok-push-4
returns-in_ok-push-4 c =
    λ domain base. let number : ℕ = c.args.self.now.ring in
    let segments : List (List Draft) = c.args.self.now.segments in
    let r : Ring = ring_of segments number domain base in
    let queue : c.from-queue.result ≡ number = c.from-queue.ensures ∙ ap (λ (w : Whole). w.ring) c.self.view_is in
    let count : c.len.result ≡ length segments = (let h : c.len.result ≡ length c.self.inside.segments.items = search rules in h) ∙ ap (λ (w : Whole). length w.segments) c.self.view_is in
    let inner : is_last number r c.args.j ≡ false = ne_eqb (suc c.args.j) (length segments) (λ e. c.if-j-len.false (omega (arith, e, count))) in
    let next : c.from.result ≡ first_of segments (suc (suc c.args.j)) = c.from.ensures ∙ c.first.ensures ∙ ap (first_of segments) (let e : c.args.j + 2 ≡ suc (suc c.args.j) = omega arith in e) in
    pushed_two c.args.drafts.now.items c.push-else-j-len.new.self.items c.push-else-j-len-2.new.self.items (gate_drafts number r c.args.j) c.gate-else-j-len.result c.gate-else-j-len-2.result (gate_draft Wait number (suc c.args.j)) (gate_draft Enable number (first_of segments (suc (suc c.args.j)))) c.in_ok-push-3.ensures.items c.in_ok-push-4.ensures.items (c.gate-else-j-len.ensures ∙ ap (λ (n : ℕ). gate_draft Wait n (c.args.j + 1)) queue ∙ ap (gate_draft Wait number) (let e : c.args.j + 1 ≡ suc c.args.j = omega arith in e)) (c.gate-else-j-len-2.ensures ∙ ap (λ (n : ℕ). gate_draft Enable n c.from.result) queue ∙ ap (gate_draft Enable number) next) (inner_gates number r c.args.j inner)

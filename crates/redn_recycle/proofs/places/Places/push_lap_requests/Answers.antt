use Rattle.std.proofs.Common.{rules, ◌≡◌, ℕ, ◌-◌, ◌<◌, ◌++◌, [], ◌∷◌, List, false, length, sym, ap, ◌∙◌, arith}
use Rattle.redn_segment.specs.declared.types.Draft.{Draft}
use Rattle.redn_recycle.specs.Places.{Whole}
use Rattle.redn_recycle.specs.Laps.{Ring, is_send_last, lap_requests, raise_wait, raise_enable, raise_descriptor}
use Rattle.redn_recycle.specs.Lapped.{ring_of}
use Rattle.redn_recycle.specs.Lapped.{sends_last}
use Rattle.redn_recycle.proofs.Rings.{one_request, first_requests, no_requests, two_requests, pushed_none, pushed_one, pushed_two}
use Rattle.redn_recycle.proofs.places.Places.push_lap_requests.Goals as goal
use Rattle.redn_recycle.proofs.places.Places.push_lap_requests.Goals.{then-not-self+in_ok-push, else-not-self}

pub returns-in_ok-push-2 : goal.returns-in_ok-push-2
returns-in_ok-push-2 c =
    λ domain base. let number : ℕ = c.args.self.now.ring in
    let segments : List (List Draft) = c.args.self.now.segments in
    let r : Ring = ring_of segments number domain base in
    let sends : c.self.inside.sends ≡ sends_last segments = c.self.invariant.sends_is ∙ ap (λ (w : Whole). sends_last w.segments) c.self.view_is in
    let here : lap_requests number r c.args.j ≡ lap_requests number r 0 = ap (lap_requests number r) c.if-j-eq0.true in
    elim c.if-not-self.branch [
      | then-not-self+in_ok-push w ↦
          let count : w.len.result ≡ length segments = (let h : w.len.result ≡ length c.self.inside.segments.items = search rules in h) ∙ ap (λ (x : Whole). length x.segments) c.self.view_is in
          let both : lap_requests number r 0 ≡ raise_wait number r (length segments - 1) ∷ raise_descriptor number r ∷ [] = first_requests number r (sym sends ∙ w.if-not-self.true) in
          let pushed : c.push-then-j-eq0.new.self.items ≡ w.push.new.self.items ++ c.raise_descriptor.result ∷ [] = c.in_ok-push-2.ensures.items ∙ ap (λ (v : _). v.items ++ c.raise_descriptor.result ∷ []) w.drafts-is in
          pushed_two c.args.drafts.now.items w.push.new.self.items c.push-then-j-eq0.new.self.items (lap_requests number r c.args.j) w.raise_wait.result c.raise_descriptor.result (raise_wait number r (length segments - 1)) (raise_descriptor number r) w.in_ok-push.ensures.items pushed (w.raise_wait.ensures domain base ∙ ap (λ (n : ℕ). raise_wait number r (n - 1)) count) (c.raise_descriptor.ensures domain base) (here ∙ both)
      | else-not-self w ↦
          let one : lap_requests number r 0 ≡ raise_descriptor number r ∷ [] = one_request number r (sym sends ∙ w.if-not-self.false) in
          let pushed : c.push-then-j-eq0.new.self.items ≡ c.args.drafts.now.items ++ c.raise_descriptor.result ∷ [] = c.in_ok-push-2.ensures.items ∙ ap (λ (v : _). v.items ++ c.raise_descriptor.result ∷ []) w.drafts-is in
          pushed_one c.args.drafts.now.items c.push-then-j-eq0.new.self.items (lap_requests number r c.args.j) c.raise_descriptor.result (raise_descriptor number r) pushed (c.raise_descriptor.ensures domain base) (here ∙ one)
    ]

pub returns-in_ok-push-4 : goal.returns-in_ok-push-4
returns-in_ok-push-4 c =
    λ domain base. let number : ℕ = c.args.self.now.ring in
    let segments : List (List Draft) = c.args.self.now.segments in
    let r : Ring = ring_of segments number domain base in
    let later : 0 < c.args.j = omega (arith, c.if-j-eq0.false) in
    let inner : is_send_last number r c.args.j ≡ false = sym (c.is_send_last.ensures domain base) ∙ c.if-not-is_send_last.true in
    pushed_two c.args.drafts.now.items c.push-then-not-is_send_last.new.self.items c.push-then-not-is_send_last-2.new.self.items (lap_requests number r c.args.j) c.raise_wait-then-not-is_send_last.result c.raise_enable.result (raise_wait number r (c.args.j - 1)) (raise_enable number r (c.args.j - 1)) c.in_ok-push-3.ensures.items c.in_ok-push-4.ensures.items (c.raise_wait-then-not-is_send_last.ensures domain base) (c.raise_enable.ensures domain base) (two_requests number r c.args.j later inner)

pub returns-else-not-is_send_last : goal.returns-else-not-is_send_last
returns-else-not-is_send_last c =
    λ domain base. let number : ℕ = c.args.self.now.ring in
    let segments : List (List Draft) = c.args.self.now.segments in
    let r : Ring = ring_of segments number domain base in
    pushed_none c.args.drafts.now.items (lap_requests number r c.args.j) (no_requests number r c.args.j (omega (arith, c.if-j-eq0.false)) (sym (c.is_send_last.ensures domain base) ∙ c.if-not-is_send_last.false))

use Rattle.std.proofs.Common.{rules, ◌≡◌, ℕ, Bool, false, not, ◌&&◌, ◌==◌, List, length, sym, ap, ◌∙◌}
use Rattle.redn_segment.specs.declared.types.Draft.{Draft}
use Rattle.redn_segment.specs.Building.{drafts_of}
use Rattle.redn_recycle.specs.Places.{Whole}
use Rattle.redn_recycle.specs.Lapped.{start_of, sends_last}
use Rattle.redn_recycle.proofs.Starts.{start_all}
use Rattle.redn_recycle.proofs.places.Places.is_last_enable.Goals as goal

pub returns-then-not-self : goal.returns-then-not-self
returns-then-not-self c =
    let xs : List (List Draft) = c.args.self.now.segments in
    let same : c.self.inside.segments.items ≡ xs = ap (λ (w : Whole). w.segments) c.self.view_is in
    let none : sends_last xs ≡ false = ap sends_last (sym same) ∙ sym c.self.invariant.sends_is ∙ c.if-not-self.true in
    let count : c.len.result ≡ length xs = (let h : c.len.result ≡ length c.self.inside.segments.items = search rules in h) ∙ ap length same in
    let end : c.start.result ≡ length (drafts_of xs) = c.start.ensures ∙ ap (start_of xs) count ∙ start_all xs in
    ap (λ (n : ℕ). c.args.slot == n) end ∙ sym (ap (λ (b : Bool). not b && (c.args.slot == length (drafts_of xs))) none)

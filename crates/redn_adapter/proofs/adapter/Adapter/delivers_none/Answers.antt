use Rattle.std.proofs.Common.{◌≡◌, false, Option, Some, None, length, refl, sym, ap, ◌∙◌, arith, inl, inr}
use Rattle.std.specs.Prelude.{slice_get}
use Rattle.std.proofs.lemmas.Bool.{false≢true, cases_lt}
use Rattle.std.proofs.lemmas.Option.{slice_get_past}
use Rattle.redn_words.specs.declared.types.Receive.{Receive}
use Rattle.redn_words.specs.States.{Chain}
use Rattle.redn_words.specs.Steps.{possible, deliver_possible}
use Rattle.redn_adapter.specs.Running.{Running}
use Rattle.redn_adapter.proofs.adapter.Adapter.delivers_none.Goals as goal

pub returns-then-may_deliver : goal.returns-then-may_deliver
unfolding possible
returns-then-may_deliver c = (λ e. absurd (false≢true e), λ h. sym (h c.loop-c.c) ∙ sym c.may_deliver.ensures ∙ c.if-may_deliver.true)

no_chain : (place : Option Receive) (c : Option Chain) → c ≡ None → deliver_possible place c ≡ false
no_chain None c e = refl
no_chain (Some place) c e = rw e refl

pub returns : goal.returns
unfolding possible
returns c =
    let s = c.args.self.now.state in
    let chains = ap (λ (r : Running). length r.state.chains) c.self.view_is in (
      λ _ k.
          elim (cases_lt k c.loop-c.c) [
            | inl lt ↦ c.loop-c.invariant k lt
            | inr ge ↦ no_chain (slice_get s.receives k) (slice_get s.chains k) (slice_get_past s.chains k (omega (arith, ge, c.loop-c-test.false, c.len-c-end.ensures, chains, c.self.inside.chains.ok)))
          ],
      λ _. refl,
    )

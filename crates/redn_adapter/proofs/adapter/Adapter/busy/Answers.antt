use Rattle.std.proofs.Common.{◌≡◌, ℕ, length, sym, ◌∙◌}
use Rattle.redn_words.specs.States.{State}
use Rattle.redn_adapter.specs.Busy.{HasActive}
use Rattle.redn_adapter.specs.Running.{Running}
use Rattle.redn_adapter.specs.AdapterView.{adapter_view}
use Rattle.redn_adapter.proofs.Acting.{acts_busy, marked_is_its, busy_is_marked}
use Rattle.redn_adapter.proofs.adapter.Adapter.busy.Goals as goal

pub returns : goal.returns
returns c =
    let a = c.self.inside in
    let s : State = (adapter_view a).state in
    let h = c.self.invariant.busy in
    let n = length a.chains.items in
    rw (← c.self.view_is) record {
      its = λ q e. marked_is_its s a.busy n h c.args.chain q (sym (c.of.ensures q) ∙ e);
      all = λ q u there domain e. c.of.ensures q ∙ busy_is_marked s a.busy n h c.args.chain q u there domain (acts_busy s u e);
    }

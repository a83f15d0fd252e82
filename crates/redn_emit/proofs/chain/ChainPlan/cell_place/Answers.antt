use Rattle.std.proofs.Common.{◌≡◌, ℕ, ◌+◌, ◌*◌, Bool, ◌==◌, ap, sym, ◌∙◌}
use Rattle.std.specs.Option.{unwrap_or}
use Rattle.redn_kernel.specs.declared.types.Cell.{Cell}
use Rattle.redn_emit.specs.Layout.{ChainPlan, at_home, control_row, constant_index, cell_home}
use Rattle.redn_emit.specs.Kept.{place_of}
use Rattle.redn_emit.proofs.Lists.{position_is}
use Rattle.redn_emit.proofs.chain.ChainPlan.cell_place.Goals as goal

pub returns-in-Num-clause-place : goal.returns-in-Num-clause-place
returns-in-Num-clause-place c =
    let eq : ℕ → Bool = λ m. c.in-Num.n == m in
    let index : c.unwrap_or-index.result ≡ constant_index c.args.self.now c.in-Num.n =
    c.unwrap_or-index.ensures ∙ (λ i. unwrap_or (c.get_index_of.ensures.index i) (c.len-absent.ensures.len i)) ∙ position_is eq c.self.inside.constants.keys ∙ ap (λ (q : ChainPlan). constant_index q c.in-Num.n) c.self.view_is in
    c.in_control-in-Num.ensures ∙ (λ i. place_of (at_home (control_row c.args.self.now) (c.constants_at.ensures.at i + 8 * index i))) ∙ ap (λ (x : Cell). place_of (cell_home c.args.self.now x)) (sym c.in-Num.is)

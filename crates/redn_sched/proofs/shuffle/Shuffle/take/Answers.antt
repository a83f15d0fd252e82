use Rattle.std.proofs.Common.{◌≡◌, ◌<◌, ℕ, length, Option, Some, None, refl, rules, sym, ap, ◌∙◌, arith}
use Rattle.std.specs.List.{find}
use Rattle.std.proofs.lemmas.List.{get_or_default}
use Rattle.redn_words.specs.declared.types.Action.{Action}
use Rattle.redn_sched.specs.Shuffles.{Shuffling, behind, drawn, acting, candidates}
use Rattle.redn_sched.specs.MadeSchedules.{cyclically, queues_of, queue_acts}
use Rattle.redn_sched.proofs.Drawing.{IsDrawn, chain_drawn, none_next, some_next}
use Rattle.redn_sched.proofs.shuffle.Shuffle.take.Goals as goal
use Rattle.redn_sched.proofs.shuffle.Shuffle.take.Goals.{In_ok-chain, After-drawn-2}

first_drawn : (c : In_ok-chain) → drawn c.self.inside.z (acting c.args.a.now.state) ≡ Some c.in_ok-chain.chain
first_drawn c = ap (drawn c.self.inside.z) (sym (c.as_slice.ensures.value ∙ c.acting_chains-chains.ensures.chains)) ∙ sym c.drawn.ensures ∙ c.in_ok-chain.was

pub index-requires : goal.index-requires
index-requires c =
    let at = (goal.at.index-requires c).In_ok-chain in
    omega (arith, chain_drawn c.args.a.now.state c.self.inside.z c.in_ok-chain.chain (first_drawn at), ap (λ (k : Shuffling). length k.queues) c.self.view_is, c.requires, c.self.inside.queues.ok)

is_drawn : (c : After-drawn-2) → IsDrawn c.args.a.now.state (record { z = c.self.inside.z; queues = c.self.inside.queues.items }) c.in_ok-chain.chain c.active_queue-queue.result
is_drawn c =
    let chain : drawn c.self.inside.z (acting c.args.a.now.state) ≡ Some c.in_ok-chain.chain = ap (drawn c.self.inside.z) (sym (c.as_slice.ensures.value ∙ c.acting_chains-chains.ensures.chains)) ∙ sym c.drawn.ensures ∙ c.in_ok-chain.was in
    let there : c.in_ok-chain.chain < length c.self.inside.queues.items = omega (arith, chain_drawn c.args.a.now.state c.self.inside.z c.in_ok-chain.chain chain, ap (λ (k : Shuffling). length k.queues) c.self.view_is, c.requires) in
    record {
      drawn_is = chain;
      queue = c.active_queue-queue.ensures ∙ ap (λ (k : ℕ). find (queue_acts c.args.a.now.state) (cyclically k (queues_of c.args.a.now.state c.in_ok-chain.chain))) (c.index.ensures ∙ get_or_default c.self.inside.queues.items c.in_ok-chain.chain c.index.result.now 0 there);
    }

second_drawn : (c : After-drawn-2) (o : Option Action) → c.drawn-2.result ≡ o → drawn (behind c.self.inside.z) (candidates c.args.a.now.state c.in_ok-chain.chain c.active_queue-queue.result) ≡ o
second_drawn c o e =
    ap (drawn (behind c.self.inside.z)) (sym (c.as_slice-2.ensures ∙ c.of-choices.ensures)) ∙ ap (λ (z : ℕ). drawn z c.as_slice-2.result.now) (sym c.behind-z.ensures) ∙ sym c.drawn-2.ensures ∙ e

pub returns-in_err-action-clause-action : goal.returns-in_err-action-clause-action
returns-in_err-action-clause-action c =
    let at = (goal.at.returns-in_err-action-clause-action c).After-drawn-2 in
    rw (← c.self.view_is, none_next c.args.a.now.state (record { z = c.self.inside.z; queues = c.self.inside.queues.items }) c.in_ok-chain.chain c.active_queue-queue.result (is_drawn at) (second_drawn at None c.in_err-action.was)) c.from_residual-in_err-action.ensures

pub returns-in_err-action-clause-now : goal.returns-in_err-action-clause-now
returns-in_err-action-clause-now c =
    let at = (goal.at.returns-in_err-action-clause-now c).After-drawn-2 in
    rw (← c.self.view_is, none_next c.args.a.now.state (record { z = c.self.inside.z; queues = c.self.inside.queues.items }) c.in_ok-chain.chain c.active_queue-queue.result (is_drawn at) (second_drawn at None c.in_err-action.was)) refl

pub index_mut-requires : goal.index_mut-requires
index_mut-requires c =
    let at = (goal.at.index_mut-requires c).In_ok-chain in
    omega (arith, chain_drawn c.args.a.now.state c.self.inside.z c.in_ok-chain.chain (first_drawn at), ap (λ (k : Shuffling). length k.queues) c.self.view_is, c.requires, c.self.inside.queues.ok)

pub returns-in-Some-clause-action : goal.returns-in-Some-clause-action
returns-in-Some-clause-action c =
    let at = (goal.at.returns-in-Some-clause-action c).After-drawn-2 in
    rw (← c.self.view_is, some_next c.args.a.now.state (record { z = c.self.inside.z; queues = c.self.inside.queues.items }) c.in_ok-chain.chain c.active_queue-queue.result (is_drawn at) c.in_ok-action.action (second_drawn at (Some c.in_ok-action.action) c.in_ok-action.was)) refl

pub returns-in-Some-clause-now : goal.returns-in-Some-clause-now
returns-in-Some-clause-now c =
    let at = (goal.at.returns-in-Some-clause-now c).After-drawn-2 in
    rw (← c.self.view_is, some_next c.args.a.now.state (record { z = c.self.inside.z; queues = c.self.inside.queues.items }) c.in_ok-chain.chain c.active_queue-queue.result (is_drawn at) c.in_ok-action.action (second_drawn at (Some c.in_ok-action.action) c.in_ok-action.was))
    (rw (c.behind-self-inside.ensures, c.behind-z.ensures, c.in-Some.is) refl)

pub returns-in_default-clause-action : goal.returns-in_default-clause-action
returns-in_default-clause-action c =
    let at = (goal.at.returns-in_default-clause-action c).After-drawn-2 in
    rw (← c.self.view_is, some_next c.args.a.now.state (record { z = c.self.inside.z; queues = c.self.inside.queues.items }) c.in_ok-chain.chain c.active_queue-queue.result (is_drawn at) c.in_ok-action.action (second_drawn at (Some c.in_ok-action.action) c.in_ok-action.was)) refl

pub returns-in_default-clause-now : goal.returns-in_default-clause-now
returns-in_default-clause-now c =
    let at = (goal.at.returns-in_default-clause-now c).After-drawn-2 in
    let none : c.active_queue-queue.result ≡ None = search rules in
    rw (← c.self.view_is, some_next c.args.a.now.state (record { z = c.self.inside.z; queues = c.self.inside.queues.items }) c.in_ok-chain.chain c.active_queue-queue.result (is_drawn at) c.in_ok-action.action (second_drawn at (Some c.in_ok-action.action) c.in_ok-action.was))
    (rw (c.behind-self-inside.ensures, c.behind-z.ensures, none) refl)

-- The summary of a fair run of a faithful image.
use Rattle.std.proofs.Common.{arith, ◌≡◌, ℕ, ◌*◌, ◌^◌, ◌<◌, ◌≤◌, ◌==◌, Bool, true, false, cond, List, ◌++◌, length, Option, refl, sym, ap, subst, ◌∙◌}
use Rattle.std.specs.Prelude.{codes}
use Rattle.std.specs.List.{flat_map, filter}
use Rattle.std.proofs.lemmas.Bool.Decides.{nat_tests}
use Rattle.std.proofs.lemmas.List.{length-map}
use Rattle.redn_words.specs.declared.types.Action.{Action}
use Rattle.redn_words.specs.States.{State, start, fresh_chain}
use Rattle.redn_words.specs.Runs.{reached, all_shown, useful_for}
use Rattle.redn_kernel.specs.Source.{Source, source_after, is_running}
use Rattle.redn_image.specs.Rules.{Image}
use Rattle.redn_image.specs.Faithful.{Faithful, Explains, start_of}
use Rattle.redn_adapter.specs.Running.{Running}
use Rattle.redn_adapter.specs.Opening.{opened}
use Rattle.redn_adapter.specs.Quiet.{IsQuiet}
use Rattle.redn_sched.specs.MadeSchedules.{Cursors, first_cursors, fair_from, fair}
use Rattle.redn_gen.specs.Generated.{below, chain_count, generated_messages}
use Rattle.redn_gen.specs.Runs.{is_reply_of, NoneRuns, ChainsReply, EachChainReplies, generated_start}
use Rattle.redn_summary.specs.declared.run.Counted.{Counted}
use Rattle.redn_summary.specs.declared.run.TheConstants.{MAX_SUMMARY_STEPS}
use Rattle.redn_summary.specs.Counting.{Counts, replies_text, told}
use Rattle.redn_summary.specs.Summary.{counted, generated_program, generated_run, reply_line, summary}
use Rattle.redn_summary.proofs.Chains.{fair_below}
use Rattle.redn_summary.proofs.Numbers.{at_most}
use Rattle.redn_summary.proofs.Messages.{messages_are}
use Rattle.redn_summary.proofs.Replies.{same_below, one_reply}

-- where no useful action is possible, no chain is running
none_runs : (first : State) (acts : List Action) (source : Source) (turns : List ℕ) → Explains first acts source turns → IsQuiet (reached first acts) → NoneRuns (source_after source turns)
none_runs first acts source turns e quiet c = by_test (is_running (source_after source turns) c) refl
  where
    by_test : (b : Bool) → is_running (source_after source turns) c ≡ b → b ≡ false
    by_test false running = refl
    by_test true running =
        let next = e.goes_on c running in
        sym next.useful ∙ quiet next.action next.can

as_many_chains : (i : Image) (messages : List (Option (List ℕ))) → length (start_of i messages).chains ≡ length messages
unfolding start
as_many_chains i messages = length-map messages fresh_chain

few_chains : (n : ℕ) → chain_count n ≤ 4
few_chains n = omega arith

is_quiet : (b : Bool) → b ≡ false → cond b (codes "end steps\n") (codes "end quiet\n") ≡ codes "end quiet\n"
is_quiet b e = rw e refl

-- the parts of the text
texts : (n : ℕ) (i : Image) (v s : ℕ) (r q : List ℕ) → v ≡ 4003 * chain_count n → s ≡ length (generated_run n i) → r ≡ flat_map (reply_line n) (below (chain_count n)) → q ≡ codes "end quiet\n" →
    counted (codes "gen ") n ++ counted (codes "chains ") (chain_count n) ++ counted (codes "events ") v ++ counted (codes "steps ") s ++ r ++ q ≡ summary n i
texts n i v s r q ev st re en = rw (ev, st, re, en) refl

module _ (n : ℕ) (low : n < 2 ^ 32) (law : EachChainReplies) (i : Image) (faithful : Faithful (generated_program n) i) (most : ℕ) (is : most ≡ MAX_SUMMARY_STEPS) where
  abbrev first : State
  first = start_of i (generated_messages n)

  abbrev acts : List Action
  acts = fair_from most first (first_cursors first)

  most_is : most ≡ 8000000
  most_is = is

  module _ (c : Counted) (counts : Counts first most acts c) where
    abbrev Explained : List ℕ → Type 0
    Explained turns = Explains first acts (generated_start n) turns

    short : (turns : List ℕ) → Explained turns → length acts ≤ 3843200
    short turns e =
        let replies = (law n low).1 turns e.runs in
        let each : (d : ℕ) → useful_for d first acts ≤ 960800 = λ d. omega (arith, e.few d, replies.few d) in
        let many : length first.chains ≡ chain_count n = as_many_chains i (generated_messages n) ∙ (law n low).0.messages in
        omega (arith, at_most (chain_count n) 960800 first acts counts.useful (fair_below (chain_count n) most first (first_cursors first) many) each, few_chains n)

    -- the run of the source that explains it, and its end
    module _ (turns : List ℕ) (e : Explained turns) where
      abbrev replies : ChainsReply n turns
      replies = (law n low).1 turns e.runs

      ended : NoneRuns (source_after (generated_start n) turns)
      ended = none_runs first acts (generated_start n) turns e (counts.quiet (omega (arith, short turns e, most_is)))

      events_are : c.events ≡ 4003 * chain_count n
      events_are = counts.events ∙ ap length e.shows_events ∙ replies.all ended

      replies_are : flat_map (replies_text c.replies.items) (below (chain_count n)) ≡ flat_map (reply_line n) (below (chain_count n))
      replies_are = same_below (replies_text c.replies.items) (reply_line n) (chain_count n) (λ d l. one_reply n d (all_shown first acts) c.replies.items counts.replies (ap (filter (is_reply_of d)) e.shows_events ∙ replies.replies ended d l))

      all_steps : generated_run n i ≡ acts
      unfolding fair
      all_steps = ap (λ m. fair_from m first (first_cursors first)) (sym is)

      steps_are : c.steps ≡ length (generated_run n i)
      steps_are = counts.steps ∙ ap length (sym all_steps)

      not_all : (c.steps == most) ≡ false
      not_all = (let l : c.steps < most = omega (arith, short turns e, counts.steps, most_is) in grind (arith, nat_tests))

      same_text : told n (chain_count n) most c ≡ summary n i
      same_text = texts n i c.events c.steps (flat_map (replies_text c.replies.items) (below (chain_count n))) _ events_are steps_are replies_are (is_quiet (c.steps == most) not_all)

    pub is_summary : told n (chain_count n) most c ≡ summary n i
    is_summary =
        let run = faithful.explained (generated_messages n) (messages_are n (law n low).0) acts (omega (arith, counts.few, most_is)) counts.can in
        same_text run.0 run.1

  -- so is what is told by an adapter that was opened with the messages
  pub summary_told : (messages : List (Option (List ℕ))) (a : Running) (k : Cursors) (chains : ℕ) → messages ≡ generated_messages n → a ≡ opened i messages → k ≡ first_cursors a.state → chains ≡ length messages → (c : Counted) → Counts a.state most (fair_from most a.state k) c → told n chains most c ≡ summary n i
  summary_told messages a k chains em ea ek ec c counts =
      let es : a.state ≡ first = ap (λ (r : Running). r.state) ea ∙ ap (start_of i) em in
      let at_first : Counts first most (fair_from most first k) c = subst (λ (s : State). Counts s most (fair_from most s k) c) es counts in
      let from_first : Counts first most acts c = subst (λ (k : Cursors). Counts first most (fair_from most first k) c) (ek ∙ ap first_cursors es) at_first in
      ap (λ m. told n m most c) (ec ∙ ap length em ∙ (law n low).0.messages) ∙ is_summary c from_first

-- Feeds of a chain before and behind some of its steps.
use Rattle.std.proofs.Common.{◌≡◌, ◌≢◌, ℕ, zero, suc, ◌<◌, ◌≤◌, ◌⊎◌, inl, inr, Bool, true, false, if◌then◌else◌, List, [], ◌∷◌, ◌++◌, length, replicate, Option, Some, None, refl, sym, ap, ◌∙◌, subst, arith}
use Rattle.std.specs.Prelude.{is_some, not, ◌&&◌}
use Rattle.redn_words.specs.declared.types.Obs.{Obs}
use Rattle.redn_kernel.specs.Source.{ChainState, Turn, Item, first_does, chain_runs}
use Rattle.redn_kernel.specs.Steps.{Steps, unchanged}
use Rattle.redn_kernel.specs.Feeds.{Feed, seen_then, chain_turn, chain_after, chain_seen}
use Rattle.redn_kernel.proofs.Quiet.{is_nothing, nothing_or, not_nothing, goes_on, Quiet, quiet_vars, quiet_ended, Later, later_vars, later_ended, later_done, later_then, Loud, split, running_turn, seen_step, after_step, quiet_seen, quiet_after, first_content, content_step, Remains, remains}

pub bool_or : (b : Bool) → (b ≡ true) ⊎ (b ≡ false)
bool_or true = inl refl
bool_or false = inr refl

pub zero_or : (n : ℕ) → (n ≡ 0) ⊎ (1 ≤ n)
zero_or zero = inl refl
zero_or (suc n) = inr (omega arith)

pub ended_stops : (t : ChainState) → t.ended ≡ true → chain_runs t ≡ false
ended_stops t e = by_message t.message
  where
    by_message : (m : Option (List ℕ)) → (is_some m && not t.ended) ≡ false
    by_message None = refl
    by_message (Some words) = ap not e

-- what a step of the blocks is seen to do some feed of the chain is
pub record Fed (c : ℕ) (tables : List (List ℕ)) (t : ChainState) (turn : Turn) (feed : Feed) : Type 0 where
  pub whole : Feed
  pub seen : chain_seen c whole t ≡ seen_then tables turn.event (chain_seen c feed turn.chain)
  pub after : chain_after c whole t ≡ chain_after c feed turn.chain

pub fed : (c n : ℕ) (tables : List (List ℕ)) (t : ChainState) (turn : Turn) (feed : Feed) → Steps c tables t n turn → Fed c tables t turn feed
fed c n tables t turn feed steps =
    elim (split c n tables t turn steps) [
      | inl quiet ↦ record {
        whole = replicate n tables ++ feed;
        seen = quiet_seen c n tables feed t turn.chain quiet.0 ∙ sym (ap (λ (e : Obs). seen_then tables e (chain_seen c feed turn.chain)) quiet.1);
        after = quiet_after c n tables feed t turn.chain quiet.0;
      }
      | inr loud ↦
          let rest : Feed = replicate loud.after tables ++ feed in
          let does : Turn = first_does c tables loud.mid loud.mid.items in
          let is = running_turn c tables loud.mid loud.running in
          record {
            whole = replicate loud.before tables ++ (tables ∷ rest);
            seen =
                quiet_seen c loud.before tables (tables ∷ rest) t loud.mid loud.quiet ∙ seen_step c tables rest loud.mid does is
                ∙ ap (seen_then tables does.event) (quiet_seen c loud.after tables feed does.chain turn.chain loud.rest)
                ∙ ap (λ (e : Obs). seen_then tables e (chain_seen c feed turn.chain)) (sym loud.shown);
            after = quiet_after c loud.before tables (tables ∷ rest) t loud.mid loud.quiet ∙ after_step c tables rest loud.mid does is ∙ quiet_after c loud.after tables feed does.chain turn.chain loud.rest;
          }
    ]

-- a chain that isn't running stays as it is
pub stopped : (c : ℕ) (feed : Feed) (t : ChainState) → chain_runs t ≡ false → (chain_seen c feed t ≡ []) × (chain_after c feed t ≡ t)
stopped c [] t e = (refl, refl)
stopped c (tables ∷ feed) t e =
    let is : chain_turn c tables t ≡ unchanged tables t = ap (λ (b : Bool). if b then first_does c tables t t.items else unchanged tables t) e in
    let more = stopped c feed t e in
    (seen_step c tables feed t _ is ∙ more.0, after_step c tables feed t _ is ∙ more.1)

-- a feed of the chain goes on behind a step of the blocks on the contents of its first step that shows something, or shows nothing more
pub record GoesBehind (c n : ℕ) (feed : Feed) (t : ChainState) (turn : Turn) : Type 0 where
  pub feed_left : Feed
  pub seen : chain_seen c feed t ≡ seen_then (first_content c feed t) turn.event (chain_seen c feed_left turn.chain)
  pub later : Later c (chain_after c feed t) (chain_after c feed_left turn.chain)
  pub shorter : length feed_left ≤ length feed
  pub less : 1 ≤ n → 1 ≤ length feed → length feed_left < length feed

-- a feed of the chain shows nothing more, and something is left to do behind it
pub record ShowsNoMore (c : ℕ) (feed : Feed) (t : ChainState) : Type 0 where
  pub seen : chain_seen c feed t ≡ []
  pub vars : (chain_after c feed t).vars ≡ t.vars
  pub ended : (chain_after c feed t).ended ≡ t.ended
  pub busy : (chain_after c feed t).items ≢ []

module _ (c n : ℕ) (feed : Feed) (t : ChainState) (turn : Turn) where
  abbrev best : List (List ℕ)
  best = first_content c feed t

  past_loud : (loud : Loud c best t n turn) (r : Remains c loud.before feed t loud.mid) (left : Feed) → r.feed_left ≡ left → GoesBehind c n feed t turn ⊎ ShowsNoMore c feed t
  past_loud loud r [] is =
      let later = subst (λ (list : Feed). Later c (chain_after c feed t) (chain_after c list loud.mid)) is r.later in
      inr (record {
        seen = r.seen ∙ ap (λ (list : Feed). chain_seen c list loud.mid) is;
        vars = later_vars c _ _ later ∙ quiet_vars c loud.before t loud.mid loud.quiet;
        ended = later_ended c _ _ later ∙ quiet_ended c loud.before t loud.mid loud.quiet;
        busy = λ none. not_nothing turn.event loud.loud (loud.shown ∙ ap (λ (list : List Item). (first_does c best loud.mid list).event) (later_done c _ _ later none));
      })
  past_loud loud r (tables ∷ left) is =
      let does : List (List ℕ) → Turn = λ list. first_does c list loud.mid loud.mid.items in
      let runs = running_turn c tables loud.mid loud.running in
      let loud_there : is_nothing (does tables).event ≡ false =
      elim (nothing_or (does tables).event) [
        | inr other ↦ other
        | inl none ↦
            let go = goes_on c tables loud.mid loud.mid.items none in
            not_nothing turn.event loud.loud (loud.shown ∙ ap (λ (u : Turn). u.event) (go.same best))
      ]
      in
      let same : best ≡ tables =
      r.content ∙ ap (λ (list : Feed). first_content c list loud.mid) is ∙ content_step c tables left loud.mid _ runs ∙ ap (λ (b : Bool). if b then first_content c left (does tables).chain else tables) loud_there
      in
      let quiet = subst (λ (list : List (List ℕ)). Quiet c loud.after (does list).chain turn.chain) same loud.rest in
      let rest = remains c loud.after left (does tables).chain turn.chain quiet in
      let fewer : length (tables ∷ left) ≤ length feed = subst (λ (list : Feed). length list ≤ length feed) is r.shorter in
      inl (record {
        feed_left = rest.feed_left;
        seen =
            r.seen ∙ ap (λ (list : Feed). chain_seen c list loud.mid) is ∙ seen_step c tables left loud.mid _ runs
            ∙ ap (seen_then tables (does tables).event) rest.seen
            ∙ ap (λ (list : List (List ℕ)). seen_then list (does list).event (chain_seen c rest.feed_left turn.chain)) (sym same)
            ∙ ap (λ (e : Obs). seen_then best e (chain_seen c rest.feed_left turn.chain)) (sym loud.shown);
        later =
            later_then c _ _ _ (subst (Later c (chain_after c feed t)) (ap (λ (list : Feed). chain_after c list loud.mid) is ∙ after_step c tables left loud.mid _ runs) r.later)
            rest.later;
        shorter = omega (arith, rest.shorter, fewer);
        less = λ some h. omega (arith, rest.shorter, fewer);
      })

  pub behind : Steps c best t n turn → GoesBehind c n feed t turn ⊎ ShowsNoMore c feed t
  behind steps =
      elim (split c n best t turn steps) [
        | inl quiet ↦
            let r = remains c n feed t turn.chain quiet.0 in
            inl (record {
              feed_left = r.feed_left;
              seen = r.seen ∙ sym (ap (λ (e : Obs). seen_then best e (chain_seen c r.feed_left turn.chain)) quiet.1);
              later = r.later;
              shorter = r.shorter;
              less = r.less;
            })
        | inr loud ↦ let r = remains c loud.before feed t loud.mid loud.quiet in past_loud loud r r.feed_left refl
      ]

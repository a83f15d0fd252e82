-- Where the fair rules have no next action.
use Rattle.std.proofs.Common.{◌≡◌, ◌↔◌, ℕ, zero, suc, ◌+◌, ◌<◌, Bool, true, false, cond, ◌||◌, List, [], ◌∷◌, Option, Some, None, length, get_or, refl, sym, ap, subst, ◌∙◌, inl, inr, arith}
use Rattle.std.specs.Prelude.{slice_get, slice_index, slice_set, is_some}
use Rattle.std.proofs.lemmas.List.{length-set}
use Rattle.std.specs.List.{All, find, filter, list_any, range_with_len}
use Rattle.std.specs.Option.{option_map}
use Rattle.std.proofs.lemmas.Bool.{false≢true, true≢false, eq-eqb, cases_lt}
use Rattle.std.proofs.lemmas.List.FromFn.{length-range_with_len, get_or-range_with_len}
use Rattle.std.proofs.lemmas.Option.{slice_get_past, slice_get_within, get_or_from_slice_get}
use Rattle.redn_words.specs.declared.types.Receive.{Receive}
use Rattle.redn_words.specs.declared.types.Action.{Action}
use Rattle.redn_words.specs.declared.types.Action.TheVariants.{Deliver}
use Rattle.redn_words.specs.States.{Queue, State}
use Rattle.redn_words.specs.Steps.{possible, with_queue, deliver_possible}
use Rattle.redn_adapter.specs.Quiet.{IsQuiet, is_active}
use Rattle.redn_adapter.proofs.Quiet.{find_passes, then_quiet, no_delivery, quiet_idle}
use Rattle.redn_sched.specs.MadeSchedules.{Cursors, cyclically, is_of, queues_of, queue_action, queue_acts, chain_acts, active_queue, with_action, by_queue, by_chain, fair_next}
use Rattle.redn_sched.specs.MadeView.{moved}
use Rattle.redn_sched.proofs.Turning.{some_acts}
use Rattle.redn_sched.proofs.Active.{some_is, acts_here, acts_is_active}

none_is : {X : Type 0} (o : Option X) → is_some o ≡ false → o ≡ None
none_is None e = refl
none_is (Some x) e = absurd (true≢false e)

map_some : {X Y : Type 0} (f : X → Y) (o : Option X) → is_some (option_map f o) ≡ is_some o
map_some f None = refl
map_some f (Some x) = refl

-- neither of two
sides : (a b : Bool) → (a || b) ≡ false → (a ≡ false) × (b ≡ false)
sides true b e = absurd (true≢false e)
sides false b e = (refl, e)

module _ {X : Type 0} (p : X → Bool) where
  pub none_passes : (xs : List X) → ((x : X) → p x ≡ false) → list_any p xs ≡ false
  none_passes [] h = refl
  none_passes (x ∷ xs) h = rw (h x) (none_passes xs h)

  none_at : (xs : List X) → list_any p xs ≡ false → (k : ℕ) (d : X) → k < length xs → p (get_or xs k d) ≡ false
  none_at [] e k d l = absurd (omega arith)
  none_at (x ∷ xs) e zero d l = (sides (p x) (list_any p xs) e).0
  none_at (x ∷ xs) e (suc k) d l = none_at xs (sides (p x) (list_any p xs) e).1 k d (omega (arith, l))

  -- nor what the filter f keeps
  none_kept : (f : X → Bool) (xs : List X) → list_any p (filter f xs) ≡ false → (k : ℕ) (d : X) → k < length xs → f (get_or xs k d) ≡ true → p (get_or xs k d) ≡ false
  none_kept f [] e k d l h = absurd (omega arith)
  none_kept f (x ∷ xs) e zero d l h = (sides (p x) (list_any p (filter f xs)) (subst (λ (b : Bool). list_any p (cond b (x ∷ filter f xs) (filter f xs)) ≡ false) h e)).0
  none_kept f (x ∷ xs) e (suc k) d l h =
      none_kept f xs (elim (f x) as (λ b. list_any p (cond b (x ∷ filter f xs) (filter f xs)) ≡ false → list_any p (filter f xs) ≡ false) [ true ↦ λ t. (sides (p x) (list_any p (filter f xs)) t).1 | false ↦ λ t. t ] e) k d (omega (arith, l)) h

-- a chain that may be taken has a next action
module _ (s : State) (c : ℕ) where
  acting_queue : (k : Cursors) (o : Option ℕ) → is_some o ≡ true → ((q : ℕ) → o ≡ Some q → queue_acts s q ≡ true) → is_some (by_queue s k c o) ≡ true
  acting_queue k None e acts = absurd (false≢true e)
  acting_queue k (Some q) e acts = let a = some_is (queue_action s q) (acts q refl) in rw a.1 refl

  taken_acts : (k : Cursors) → chain_acts s c ≡ true → is_some (by_chain s k (Some c)) ≡ true
  taken_acts k =
      let next = record k { chain = c + 1 } in
      elim (possible s (Deliver c)) as (λ b. (b || list_any (queue_acts s) (queues_of s c)) ≡ true → is_some (cond b (Some (Deliver c, next)) (by_queue s next c (active_queue s next c))) ≡ true) [
        | true ↦ λ e. refl
        | false ↦ λ e.
            acting_queue next (active_queue s next c)
            (some_acts (queue_acts s) (slice_index k.queues c) (queues_of s c) ∙ e)
            (λ q f. find_passes (queue_acts s) (cyclically (slice_index k.queues c) (queues_of s c)) q f)
      ]

module _ (s : State) (k : Cursors) where
  abbrev chains : List ℕ
  chains = range_with_len 0 (length s.chains)

  abbrev is_next : Option (Action × Cursors) → Option Action
  is_next o = option_map (λ (p : Action × Cursors). p.0) o

  untaken : (o : Option ℕ) → find (chain_acts s) (cyclically k.chain chains) ≡ o → is_next (by_chain s k o) ≡ None → is_some o ≡ false
  untaken None f e = refl
  untaken (Some c) f e =
      let acts = taken_acts s c k (find_passes (chain_acts s) (cyclically k.chain chains) c f) in
      absurd (true≢false (sym acts ∙ sym (map_some (λ (p : Action × Cursors). p.0) (by_chain s k (Some c))) ∙ ap is_some e))

  no_chain : is_next (fair_next s k) ≡ None → list_any (chain_acts s) chains ≡ false
  no_chain e = sym (some_acts (chain_acts s) k.chain chains) ∙ untaken (find (chain_acts s) (cyclically k.chain chains)) refl e

  no_next : list_any (chain_acts s) chains ≡ false → is_next (fair_next s k) ≡ None
  no_next e = rw (none_is (find (chain_acts s) (cyclically k.chain chains)) (some_acts (chain_acts s) k.chain chains ∙ e)) refl

undelivered : (place : Option Receive) → deliver_possible place None ≡ false
undelivered None = refl
undelivered (Some r) = refl

-- where no chain may be taken, and each queue is one of the chains'
module _ (s : State) (domains : All (λ (u : Queue). u.row.domain < length s.chains) s.queues) (none : list_any (chain_acts s) (range_with_len 0 (length s.chains)) ≡ false) where
  idle_chain : (c : ℕ) → c < length s.chains → chain_acts s c ≡ false
  idle_chain c l =
      let at : get_or (range_with_len 0 (length s.chains)) c 0 ≡ c = omega (arith, get_or-range_with_len 0 (length s.chains) c 0 l) in
      sym (ap (chain_acts s) at) ∙ none_at (chain_acts s) (range_with_len 0 (length s.chains)) none c 0 (omega (arith, l, length-range_with_len 0 (length s.chains)))

  delivers_none : (c : ℕ) → possible s (Deliver c) ≡ false
  unfolding possible
  delivers_none c =
      elim (cases_lt c (length s.chains)) [
        | inl l ↦ (sides (deliver_possible (slice_get s.receives c) (slice_get s.chains c)) _ (idle_chain c l)).0
        | inr g ↦ rw (slice_get_past s.chains c g) (undelivered (slice_get s.receives c))
      ]

  idle_queue : (q : ℕ) (u : Queue) → slice_get s.queues q ≡ Some u → is_active s u ≡ false
  idle_queue q u there =
      let n = length s.queues in
      let l : q < n = slice_get_within s.queues q u there in
      let low : u.row.domain < length s.chains = subst (λ (v : Queue). v.row.domain < length s.chains) (get_or_from_slice_get s.queues q u u there) (domains q u l) in
      let at : get_or (range_with_len 0 n) q 0 ≡ q = omega (arith, get_or-range_with_len 0 n q 0 l) in
      let mine : is_of u.row.domain (slice_get s.queues (get_or (range_with_len 0 n) q 0)) ≡ true = rw (at, there) (eq-eqb u.row.domain u.row.domain refl) in
      let idle = none_kept (queue_acts s) (λ (q : ℕ). is_of u.row.domain (slice_get s.queues q)) (range_with_len 0 n) (sides (possible s (Deliver u.row.domain)) _ (idle_chain u.row.domain low)).1 q 0 (omega (arith, l, length-range_with_len 0 n)) mine in
      sym (acts_here s q u there) ∙ sym (ap (queue_acts s) at) ∙ idle

  pub quiet_where : IsQuiet s
  quiet_where = then_quiet s delivers_none idle_queue

-- and where no useful action is possible
module _ (s : State) (quiet : IsQuiet s) where
  quiet_queue : (q : ℕ) → queue_acts s q ≡ false
  quiet_queue q = acts_is_active s q ∙ by_place (slice_get s.queues q) refl
    where
      by_place : (o : Option Queue) → slice_get s.queues q ≡ o → with_queue o false (is_active s) ≡ false
      by_place None e = refl
      by_place (Some u) e = quiet_idle s quiet q u e

  pub quiet_chain : (c : ℕ) → chain_acts s c ≡ false
  quiet_chain c = rw (no_delivery s quiet c) (none_passes (queue_acts s) (queues_of s c) quiet_queue)

pub none_acts : (s : State) (k : Cursors) → All (λ (u : Queue). u.row.domain < length s.chains) s.queues → (option_map (λ (p : Action × Cursors). p.0) (fair_next s k) ≡ None) ↔ IsQuiet s
none_acts s k domains = (
  λ e. quiet_where s domains (no_chain s k e),
  λ quiet. no_next s k (none_passes (chain_acts s) (range_with_len 0 (length s.chains)) (quiet_chain s quiet)),
)

-- a move leaves as many cursors
pub moved_many : (s : State) (k : Cursors) → length (moved k (fair_next s k)).queues ≡ length k.queues
moved_many s k = by_taken (find (chain_acts s) (cyclically k.chain (range_with_len 0 (length s.chains))))
  where
    by_action : (next : Cursors) (o : Option Action) → length next.queues ≡ length k.queues → length (moved k (with_action next o)).queues ≡ length k.queues
    by_action next None e = refl
    by_action next (Some a) e = e

    by_acting : (c : ℕ) (o : Option ℕ) → length (moved k (by_queue s (record k { chain = c + 1 }) c o)).queues ≡ length k.queues
    by_acting c None = refl
    by_acting c (Some q) = by_action (record { chain = c + 1; queues = slice_set k.queues c q }) (queue_action s q) (length-set k.queues c q)

    by_taken : (o : Option ℕ) → length (moved k (by_chain s k o)).queues ≡ length k.queues
    by_taken None = refl
    by_taken (Some c) =
        let next = record k { chain = c + 1 } in
        elim (possible s (Deliver c)) as (λ b. length (moved k (cond b (Some (Deliver c, next)) (by_queue s next c (active_queue s k c)))).queues ≡ length k.queues) [ true ↦ refl | false ↦ by_acting c (active_queue s k c) ]

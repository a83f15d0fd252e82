-- A request in flight lands.
use Rattle.std.proofs.Common.{◌≡◌, ℕ, Bool, true, false, cond, List, Option, Some, None, refl, sym, ap, ◌∙◌}
use Rattle.std.specs.Prelude.{slice_get, slice_set}
use Rattle.std.specs.Option.{option_map}
use Rattle.redn_words.specs.declared.types.Flight.{Flight}
use Rattle.redn_words.specs.declared.types.Obs.{Obs}
use Rattle.redn_words.specs.declared.types.Action.TheVariants.{Land}
use Rattle.redn_words.specs.States.{Queue, State}
use Rattle.redn_words.specs.Landings.{Landing, changed}
use Rattle.redn_words.specs.Steps.{after, shown, flying, stopped, landed_at, landing_at, land_leaves}
use Rattle.redn_words.proofs.Actions.{landed_is, land_shows_is}
use Rattle.redn_exec.specs.declared.landing.Landing.TheVariants.{Done, Refused}
use Rattle.redn_exec.specs.Landed.{answer_of}

-- what an answer says of the landing
allowed_by : (b : Bool) (o shown : Obs) → cond b (Done o) (Refused o) ≡ Done shown → (b ≡ true) × (shown ≡ o)
allowed_by true o shown e = (refl, cc)
allowed_by false o shown e = absurd (cc)

refused_by : (b : Bool) (o shown : Obs) → cond b (Done o) (Refused o) ≡ Refused shown → (b ≡ false) × (shown ≡ o)
refused_by true o shown e = absurd (cc)
refused_by false o shown e = (refl, cc)

-- the request whose copy this is
pub flight_of : (copy : List ℕ) (o : Option Flight) → option_map (λ (f : Flight). f.copy) o ≡ Some copy → (f : Flight) × (o ≡ Some f) × (f.copy ≡ copy)
flight_of copy None e = absurd (cc)
flight_of copy (Some f) e = (f, refl, let is : f.copy ≡ copy = cc in is)

-- the landing l of an index in queue u, which leaves these bytes
pub record IsLandingAt (s : State) (q i : ℕ) (u : Queue) (left : List ℕ) (l : Landing) : Type 0 where
  pub copy : List ℕ
  pub queue : slice_get s.queues q ≡ Some u
  pub flies : option_map (λ (f : Flight). f.copy) (flying u i) ≡ Some copy
  pub same : l ≡ landing_at s q i u copy
  pub memory : left ≡ changed s.memory l.writes

module _ (s : State) (q i : ℕ) (u : Queue) (left : List ℕ) (l : Landing) (is : IsLandingAt s q i u left l) where
  leaves_is : after s (Land q i) ≡ land_leaves s q i u l
  leaves_is =
      let f = flight_of is.copy (flying u i) is.flies in
      landed_is s q u is.queue i f.0 f.1 ∙ ap (λ (c : List ℕ). land_leaves s q i u (landing_at s q i u c)) f.2 ∙ ap (λ (x : Landing). land_leaves s q i u x) (sym is.same)

  shown_is : shown s (Land q i) ≡ l.shown
  shown_is =
      let f = flight_of is.copy (flying u i) is.flies in
      land_shows_is s q u is.queue i f.0 f.1 ∙ ap (λ (c : List ℕ). (landing_at s q i u c).shown) f.2 ∙ ap (λ (x : Landing). x.shown) (sym is.same)

  by_answer : (b : Bool) → l.allowed ≡ b → record s { memory = left; queues = slice_set s.queues q (cond b (landed_at u i) (stopped u)) } ≡ after s (Land q i)
  by_answer b e = rw (leaves_is, e) (ap (λ (m : List ℕ). record s { memory = m; queues = slice_set s.queues q (cond b (landed_at u i) (stopped u)) }) is.memory)

  pub done_leaves : (o : Obs) → answer_of l ≡ Done o → record s { memory = left; queues = slice_set s.queues q (landed_at u i) } ≡ after s (Land q i)
  done_leaves o e = by_answer true (allowed_by l.allowed l.shown o e).0

  pub done_shows : (o : Obs) → answer_of l ≡ Done o → o ≡ shown s (Land q i)
  done_shows o e = (allowed_by l.allowed l.shown o e).1 ∙ sym shown_is

  pub refused_leaves : (o : Obs) → answer_of l ≡ Refused o → record s { memory = left; queues = slice_set s.queues q (stopped u) } ≡ after s (Land q i)
  refused_leaves o e = by_answer false (refused_by l.allowed l.shown o e).0

  pub refused_shows : (o : Obs) → answer_of l ≡ Refused o → o ≡ shown s (Land q i)
  refused_shows o e = (refused_by l.allowed l.shown o e).1 ∙ sym shown_is

-- What leaves a chain as it is, and how a window of it opens while all its rings are at rest.
use Rattle.std.proofs.Common.{◌≡◌, ◌≢◌, ℕ, ◌+◌, ◌==◌, inl, inr, true, false, List, [], Some, length, refl, sym, ap, subst, ◌∙◌, arith}
use Rattle.std.specs.Prelude.{slice_get}
use Rattle.std.proofs.lemmas.Bool.{cases_eq, false≢true, eqb-true, and_parts}
use Rattle.redn_words.specs.declared.types.Region.{Region}
use Rattle.redn_words.specs.declared.types.QueueRow.{QueueRow}
use Rattle.redn_words.specs.declared.types.Action.{Action}
use Rattle.redn_words.specs.States.{Queue, Chain, State}
use Rattle.redn_words.specs.Steps.{after, raised, enabled_in, acts_on}
use Rattle.redn_words.specs.Laws.{row_of, row_at}
use Rattle.redn_words.proofs.Others.{enabled_elsewhere, rows_stay, regions_stay}
use Rattle.redn_words.proofs.Inside.{chains_stay}
use Rattle.redn_words.specs.Others.{row_may_raise}
use Rattle.redn_words.specs.Access.{EndsBy}
use Rattle.redn_words.specs.Ranges.{domain_holds}
use Rattle.redn_words.proofs.Domains.{byte_outside, length_stays, domains_stay}
use Rattle.redn_proof_window.specs.Windows.{Opening, bodies_of, place_of, slots_of, enable_of}
use Rattle.redn_proof_window.specs.Scripts.{Script, IsScript, RestsAt, Moment, window_at, AllCount, ChainAt, opened, SameChain}
use Rattle.redn_proof_window.proofs.Marks.{landed_past}
use Rattle.redn_proof_window.proofs.Places.{place_is}
use Rattle.redn_proof_window.proofs.Counters.{counts_stay}
use Rattle.redn_proof_window.proofs.Stages.{gates_are}
use Rattle.redn_proof_window.proofs.Ends.{opens}
use Rattle.redn_proof_window.proofs.Rests.{rest_like}
use Rattle.redn_proof_window.proofs.Openings.{Next, raised_opens}

-- the domain of a row that a domain may raise
domain_of : (domain : ℕ) (row : QueueRow) → row_may_raise domain (Some row) ≡ true → row.domain ≡ domain
domain_of domain row e = eqb-true row.domain domain (and_parts row.managed (row.domain == domain) e).1

module _ (p : Script) (script : IsScript p) where
  module _ (s : State) (z : Moment p) (h : ChainAt p s z) where
    abbrev w : Opening
    w = window_at p z

    abbrev Same : State → Type 0
    Same r = SameChain p z s r

    -- each ring is there, with its row
    ring_there : (q : ℕ) → p.ring q ≡ true → (x : Queue) × (slice_get s.queues q ≡ Some x) × (x.row ≡ p.row q)
    ring_there q r =
        elim (cases_eq q w.queue) [
          | inl same ↦ (z.progress.queue, ap (slice_get s.queues) same ∙ h.stage.there, h.stage.window.row ∙ script.row_is z.point z.memory ∙ ap p.row (sym same))
          | inr ne ↦ let rest = h.others q r ne in (rest.u, rest.there, rest.rest.row_is)
        ]

    -- an action of another domain, none of whose regions has a private byte
    pub other_domain_same : (a : Action) (q : ℕ) (v : Queue) → acts_on a ≡ Some q → slice_get s.queues q ≡ Some v → v.row.domain ≢ w.row.domain → ((b : ℕ) → w.ours b ≡ true → domain_holds s.regions v.row.domain b ≡ false) → Same (after s a)
    other_domain_same a q v its there other spared =
        record {
          queues = stays;
          regions = regions_stay s a;
          counts = λ all x m ready. counts_stay s (after s a) (rows_stay s a) (λ c x here. (x, ap (λ (chains : List Chain). slice_get chains c) (chains_stay s q v there a its) ∙ here))
              (p.window x m) (all x m ready);
          size = length_stays s q v there ends a its;
          bytes = λ b ours. byte_outside s q v there ends a b its (spared b ours);
        }
      where
        ends : EndsBy (length s.memory) s.regions
        ends =
            let ok = script.orderly z.point z.memory h.ready in
            subst (λ (rows : List Region). EndsBy (length s.memory) rows) (sym h.stage.regions) (subst (λ n. EndsBy n w.regions) (sym h.stage.standing.size) ok.ends)

        stays : (n : ℕ) → p.ring n ≡ true → slice_get (after s a).queues n ≡ slice_get s.queues n
        stays n r =
            let own = ring_there n r in
            let domain : own.0.row.domain ≡ w.row.domain = ap (λ (y : QueueRow). y.domain) own.2 ∙ domain_of w.row.domain (p.row n) (script.managed z.point z.memory n r) in
            domains_stay s a q n v own.0 its there own.1 (λ e. other (sym e ∙ domain)) ∙ sym own.1

  -- an ENABLE opens a window, while all rings are at rest in the queues that it finds
  module _ (s : State) (x : p.Point) (ready : p.Ready x s.memory) (queues : List Queue) (rests : (q : ℕ) → p.ring q ≡ true → RestsAt p (record s { queues = queues }) x q)
      (rows : (q : ℕ) → p.ring q ≡ true → row_at s.queues q ≡ Some (p.row q)) (counts : AllCount p s) where
    abbrev v : Opening
    v = p.window x s.memory

    pub opens_there : (a : Action) (limit : ℕ) → s.regions ≡ v.regions → after s a ≡ record s { queues = enabled_in queues v.queue limit } → limit ≡ p.at x v.queue + slots_of v → (u : Queue) × ChainAt p (after s a) (opened p x s.memory u)
    opens_there a limit regions is limit_is =
        let own = rests v.queue (script.ring_is x s.memory) in
        let begun = raised_opens v s a queues v.queue limit own.u is begins own.there (rest_like own.rest (script.row_is x s.memory) (script.from x s.memory) (script.counter x s.memory)) in (
          raised own.u limit,
          record {
            ready = ready;
            stage = opens v (after s a) (raised own.u limit) begun;
            wrote = λ lands inside. absurd (false≢true (sym (landed_past 0 [] (place_of v v.event) (omega arith)) ∙ lands));
            more = λ by. let two = (gates_are v (script.orderly x s.memory ready) by).two in let slots = place_is v (bodies_of v + length v.gates) in omega (arith, two, slots);
            counts = λ y m readied. counts_stay s (after s a) (rows_stay s a) (λ c z here. (z, ap (λ (t : State). slice_get t.chains c) is ∙ here)) (p.window y m) (counts y m readied);
            others = λ q r ne. let old = rests q r in record { u = old.u; there = ap (λ (t : State). slice_get t.queues q) is ∙ enabled_elsewhere queues v.queue limit q ne ∙ old.there; rest = old.rest };
          },
        )
      where
        begins : Next v s v.queue limit
        begins =
            record {
              queue_is = refl;
              limit_is = limit_is ∙ ap (λ n. n + slots_of v) (sym (script.from x s.memory));
              regions = regions;
              memory = sym (script.memory x s.memory);
              waits = counts x s.memory ready;
              target = λ by. let r = script.target x s.memory ready by in ap (row_may_raise v.row.domain) (rows (enable_of v).first r) ∙ script.managed x s.memory (enable_of v).first r;
            }

  -- an ENABLE of another queue opens the first window
  module _ (s : State) (x : p.Point) (ready : p.Ready x s.memory) (counts : AllCount p s) (rests : (q : ℕ) → p.ring q ≡ true → RestsAt p s x q) where
    abbrev first : Opening
    first = p.window x s.memory

    pub entry_opens : (a : Action) (queues : List Queue) (limit : ℕ) → s.regions ≡ first.regions → ((q : ℕ) → p.ring q ≡ true → slice_get queues q ≡ slice_get s.queues q)
        → after s a ≡ record s { queues = enabled_in queues first.queue limit } → limit ≡ p.at x first.queue + slots_of first → (u : Queue) × ChainAt p (after s a) (opened p x s.memory u)
    entry_opens a queues limit regions same is limit_is =
        opens_there s x ready queues (λ q r. let old = rests q r in record { u = old.u; there = same q r ∙ old.there; rest = old.rest })
        (λ q r. let old = rests q r in ap row_of old.there ∙ ap (λ (y : QueueRow). Some y) old.rest.row_is) counts a limit regions is limit_is

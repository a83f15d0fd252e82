-- All chains: every list of actions is explained by a run of the machines, one turn after the other.
use Rattle.std.proofs.Common.{◌≡◌, ◌≢◌, ℕ, ◌+◌, ◌<◌, ◌≤◌, inl, inr, Bool, true, false, ◌==◌, List, [], ◌∷◌, Option, Some, None, length, replicate, refl, sym, ap, subst, ◌∙◌, arith}
use Rattle.std.specs.Prelude.{slice_get, if◌then◌else◌}
use Rattle.std.proofs.lemmas.Bool.{cases_eq, cases_lt, eq-eqb, eqb-true, false_from_ne_true}
use Rattle.redn_words.specs.declared.types.Obs.{Obs}
use Rattle.redn_words.specs.declared.types.Obs.TheVariants as shows
use Rattle.redn_words.specs.declared.types.Receive.{Receive}
use Rattle.redn_words.specs.declared.types.Action.{Action}
use Rattle.redn_words.specs.declared.types.Action.TheVariants.{Deliver, Fetch, Start, Land, Complete}
use Rattle.redn_words.specs.Words.{with_bytes_at}
use Rattle.redn_words.specs.States.{Queue, Pending, Delivered, Chain, State}
use Rattle.redn_words.specs.Steps.{possible, after, shown, acts_on}
use Rattle.redn_words.specs.Runs.{shown_then}
use Rattle.redn_words.specs.Landings.{change}
use Rattle.redn_words.proofs.Bytes.{byte-changed, length-changed}
use Rattle.redn_words.specs.Bytes.{byte, hits, over}
use Rattle.redn_words.specs.Laws.{Delivers, row_of}
use Rattle.redn_words.proofs.Deliveries.{delivers, delivered_is, length-delivered, byte-delivered}
use Rattle.redn_words.proofs.Domains.{length_stays}
use Rattle.redn_words.proofs.Others.{acting_there, rows_stay, regions_stay, receives_stay, rises, set_here, set_other}
use Rattle.redn_proof_window.proofs.Sound.{bytes_stay, delivery_bytes}
use Rattle.redn_proof_window.specs.Gateways.{gate_budget}
use Rattle.redn_image.specs.Faithful.{IsClean}
use Rattle.redn_image.proofs.Simulation.{spent, Follows}
use Rattle.redn_proof_interleave.specs.Machines.{Many, many_running, many_step, many_tells, many_credit}
use Rattle.redn_proof_interleave.proofs.Machines.{Alone, alone}
use Rattle.redn_words.proofs.Inside.{chains_stay}
use Rattle.redn_proof_interleave.proofs.Leaves.{chain_is, spent_most, spent_nothing}
use Rattle.redn_proof_interleave.specs.Forms.{World, chains_of, message, message_in, with_message, pending, awake, machine, SameMine, MailPlace, Promises, AllPromise, expected}
use Rattle.redn_proof_interleave.specs.Explains.{after_turns, turns_earn}
use Rattle.redn_proof_interleave.proofs.Relations.{Mailed, due, Entering, Stands, Enters, Opened, Over, Related}
use Rattle.redn_proof_interleave.proofs.Views.{IsOwn, stands_still, other_unchanged, delivery_unchanged, ends_here}
use Rattle.redn_proof_interleave.proofs.Own.{Acts, own_acts}

module _ (g : World) where
  abbrev pub FollowsHere : ℕ → State → Many g.M → (ℕ → ℕ) → Action → Type 0
  FollowsHere n s z b a = Follows (Many g.M) (many_running g.M (machine g) (awake g)) (many_step g.M (machine g) (awake g)) (many_tells g.M (machine g) (awake g)) (many_credit g.M (machine g) (awake g)) (Related g) g.most n s z b a

  delivery_silent : (s : State) (d : ℕ) → shown s (Deliver d) ≡ shows.Nothing
  unfolding shown
  delivery_silent s d = refl

  abbrev with_budget : (ℕ → ℕ) → ℕ → ℕ → ℕ → ℕ
  with_budget b c m d = if d == c then m else b d

  budget_here : (b : ℕ → ℕ) (c m : ℕ) → with_budget b c m c ≡ m
  budget_here b c m = let same : (c == c) ≡ true = eq-eqb c c refl in rw same refl

  budget_elsewhere : (b : ℕ → ℕ) (c m d : ℕ) → d ≢ c → with_budget b c m d ≡ b d
  budget_elsewhere b c m d ne = let apart : (d == c) ≡ false = false_from_ne_true (d == c) (λ t. ne (eqb-true d c t)) in rw apart refl

  module _ (all : AllPromise g) (n : ℕ) (s : State) (z : Many g.M) (b : ℕ → ℕ) (r : Related g n s z b) where
    heads_after : (a : Action) (q : ℕ) (v : Queue) → slice_get (after s a).queues q ≡ Some v → v.head ≤ n + 1
    heads_after a q v there = by_before (slice_get s.queues q) refl
      where
        by_before : (o : Option Queue) → slice_get s.queues q ≡ o → v.head ≤ n + 1
        by_before None e = let same = rows_stay s a q in absurd (cc (same, ap row_of there, ap row_of e))
        by_before (Some u) e = let one = (rises s a q).head u v e there in let low = r.heads q u e in omega (arith, one, low)

    -- an action of a queue
    module _ (few : n < g.most) (a : Action) (q : ℕ) (u : Queue) (its : acts_on a ≡ Some q) (there : slice_get s.queues q ≡ Some u) (l : u.row.domain < chains_of g) (own : IsOwn g u.row.domain q) (p : possible s a ≡ true) where
      abbrev c : ℕ
      c = u.row.domain

      acts : Acts g c s z.tables (z.at c) a (b c)
      acts = own_acts g all c l n s z b r few (z.at c) (b c) (r.each c l) a q its own p

      abbrev turns : List ℕ
      turns = replicate acts.steps c

      lone : Alone g.M (machine g) (awake g) c z acts.steps
      lone = alone g.M (machine g) (awake g) c acts.steps z acts.woken acts.go

      stands_after : (d : ℕ) → d < chains_of g → Stands g d (after s a) ((after_turns g z turns).at d) (with_budget b c acts.left d)
      stands_after d inside =
          elim (cases_eq d c) [
            | inl same ↦ subst (λ (e : ℕ). Stands g e (after s a) ((after_turns g z turns).at e) (with_budget b c acts.left e)) (sym same) here
            | inr ne ↦ subst (Stands g d (after s a) ((after_turns g z turns).at d)) (sym (budget_elsewhere b c acts.left d ne)) (subst (λ (y : g.M). Stands g d (after s a) y (b d)) (sym (lone.others d ne)) (stands_still g d (all.each d inside) s (after s a) (other_unchanged g all n s z b r a q u d inside its there (λ e. ne (sym e))) (z.at d) (b d) (r.each d inside)))
          ]
        where
          here : Stands g c (after s a) ((after_turns g z turns).at c) (with_budget b c acts.left c)
          here = subst (Stands g c (after s a) ((after_turns g z turns).at c)) (sym (budget_here b c acts.left)) (subst (λ (y : g.M). Stands g c (after s a) y acts.left) (sym lone.state) acts.stands)

      spends_after : (d : ℕ) → spent d s a + with_budget b c acts.left d ≤ b d + turns_earn g d z turns
      spends_after d =
          elim (cases_eq d c) [
            | inl same ↦ subst (λ (e : ℕ). spent e s a + with_budget b c acts.left e ≤ b e + turns_earn g e z turns) (sym same) here
            | inr ne ↦
                let none = spent_nothing d c s a (chain_is s q u there a its) ne in
                let left = budget_elsewhere b c acts.left d ne in
                omega (arith, none, left)
          ]
        where
          here : spent c s a + with_budget b c acts.left c ≤ b c + turns_earn g c z turns
          here =
              let most = spent_most c s a in
              let left = budget_here b c acts.left in
              let gain = lone.earns in
              let spends = acts.spends in
              omega (arith, most, left, gain, spends)

      queue_follows : FollowsHere n s z b a
      queue_follows =
          record {
            turns = turns;
            left = with_budget b c acts.left;
            runs = lone.running;
            showing = acts.showing ∙ sym lone.telling;
            clean = acts.clean;
            related = record {
              rows = λ m. rows_stay s a m ∙ r.rows m;
              regions = regions_stay s a ∙ r.regions;
              receives = receives_stay s a ∙ r.receives;
              size = length_stays s q u there (ends_here g all n s z b r) a its ∙ r.size;
              sound = bytes_stay s r.sound q u there a its;
              heads = heads_after a;
              tables = subst (λ t. g.Tables t (after s a).memory) (sym lone.tables) acts.tables;
              past = λ d far. ap (λ (chains : List Chain). slice_get chains d) (chains_stay s q u there a its) ∙ r.past d far;
              each = stands_after;
            };
            spends = spends_after;
          }

    -- a message comes
    module _ (d : ℕ) (v : Delivers s d) (l : d < chains_of g) where
      k : Promises g d
      k = all.each d l

      is_delivered : (chain : Chain) → slice_get s.chains d ≡ Some chain → chain.mail ≡ Delivered → ⊥
      is_delivered chain there mail =
          let same : v.chain ≡ chain = cc (v.chain_there, there) in
          let twice : Pending v.bytes ≡ Delivered = sym v.pending ∙ ap (λ (x : Chain). x.mail) same ∙ mail in
          cc

      done_already : Mailed g d s true → ⊥
      done_already m = is_delivered _ m.2 refl

      module _ (h : Entering g d s (z.at d) (b d)) (early : h.came ≡ false) where
        mailed : slice_get s.chains d ≡ slice_get g.begin.chains d
        mailed = subst (Mailed g d s) early h.mailed

        its_message : message g d ≡ Some v.bytes
        its_message = ap message_in (sym mailed ∙ v.chain_there) ∙ ap pending v.pending

        place : MailPlace g d v.bytes
        place = k.place v.bytes its_message

        same_place : v.place ≡ place.place
        same_place = let there = ap (λ (rows : List Receive). slice_get rows d) r.receives in cc (v.place_there, place.there, there)

        base_is : v.place.base ≡ place.place.base
        base_is = ap (λ (x : Receive). x.base) same_place

        fits : v.place.base + length v.bytes ≤ length s.memory
        fits = let room = place.fits in let size = r.size in omega (arith, base_is, room, size)

        fits_first : v.place.base + length v.bytes ≤ length g.begin.memory
        fits_first = let room = place.fits in omega (arith, base_is, room)

        expected_is : expected g d true ≡ with_bytes_at g.begin.memory v.place.base v.bytes
        expected_is = ap (λ (o : Option Receive). with_message g.begin.memory o (message g d)) place.there ∙ ap (with_message g.begin.memory (Some place.place)) its_message ∙ ap (λ (at : ℕ). with_bytes_at g.begin.memory at v.bytes) (sym base_is)

        memory_is : (after s (Deliver d)).memory ≡ with_bytes_at s.memory v.place.base v.bytes
        memory_is = ap (λ (t : State). t.memory) (delivered_is s d v)

        before : SameMine g d s.memory g.begin.memory
        before = subst (λ (came : Bool). SameMine g d s.memory (expected g d came)) early h.memory

        delivered_memory : SameMine g d (after s (Deliver d)).memory (expected g d true)
        delivered_memory =
            record {
              size = length-delivered s d v fits ∙ before.size ∙ sym (length-changed g.begin.memory (change v.place.base v.bytes ∷ []) (fits_first, tt)) ∙ sym (ap length expected_is);
              bytes = λ p own. ap (λ (m : List ℕ). byte m p) memory_is ∙ byte-changed s.memory (change v.place.base v.bytes ∷ []) p (fits, tt) ∙ ap (over (change v.place.base v.bytes ∷ []) p) (before.bytes p own) ∙ sym (byte-changed g.begin.memory (change v.place.base v.bytes ∷ []) p (fits_first, tt)) ∙ sym (ap (λ (m : List ℕ). byte m p) expected_is);
            }

        received_one : slice_get (after s (Deliver d)).chains d ≡ Some (record { mail = Delivered; received = 1 })
        received_one =
            let begins = k.chain_begins in
            let same : v.chain ≡ begins.0 = cc (v.chain_there, mailed, begins.1) in
            let none : v.chain.received ≡ 0 = ap (λ (x : Chain). x.received) same ∙ begins.2 in
            let one : v.chain.received + 1 ≡ 1 = omega (arith, none) in
            ap (λ (t : State). slice_get t.chains d) (delivered_is s d v) ∙ set_here s.chains d v.chain _ v.chain_there ∙ ap (λ (m : ℕ). Some (record { mail = Delivered; received = m })) one

        abbrev left : ℕ
        left = gate_budget (g.form d).entry h.u.held h.passed + (g.form d).machine.cost (g.form d).begin

        entered : Entering g d (after s (Deliver d)) (z.at d) left
        entered =
            record {
              u = h.u;
              passed = h.passed;
              came = true;
              there = ap (λ (t : State). slice_get t.queues (g.form d).entry.queue) (delivered_is s d v) ∙ h.there;
              queue = h.queue;
              few = h.few;
              waited = λ some. refl;
              mailed = (v.bytes, its_message, received_one);
              memory = delivered_memory;
              rests = λ q ring. let old = h.rests q ring in record { u = old.u; there = ap (λ (t : State). slice_get t.queues q) (delivered_is s d v) ∙ old.there; rest = old.rest };
              is = h.is;
              enough = omega arith;
            }

        stands_delivered : (c : ℕ) → c < chains_of g → Stands g c (after s (Deliver d)) (z.at c) (with_budget b d left c)
        stands_delivered c inside =
            elim (cases_eq c d) [
              | inl same ↦ subst (λ (e : ℕ). Stands g e (after s (Deliver d)) (z.at e) (with_budget b d left e)) (sym same) (subst (Stands g d (after s (Deliver d)) (z.at d)) (sym (budget_here b d left)) (Enters entered))
              | inr ne ↦ subst (Stands g c (after s (Deliver d)) (z.at c)) (sym (budget_elsewhere b d left c ne)) (stands_still g c (all.each c inside) s (after s (Deliver d)) (delivery_unchanged g all n s z b r d c inside ne v fits (spared c inside ne)) (z.at c) (b c) (r.each c inside))
            ]
          where
            spared : (c : ℕ) → c < chains_of g → c ≢ d → (p : ℕ) → (g.form c).mine p ≡ true → hits (change v.place.base v.bytes ∷ []) p ≡ false
            spared c inside ne p own = ap (λ (at : ℕ). hits (change at v.bytes ∷ []) p) base_is ∙ place.spares_others c p inside ne own

        spends_delivered : (c : ℕ) → spent c s (Deliver d) + with_budget b d left c ≤ b c + 0
        spends_delivered c =
            elim (cases_eq c d) [
              | inl same ↦ subst (λ (e : ℕ). spent e s (Deliver d) + with_budget b d left e ≤ b e + 0) (sym same) here
              | inr ne ↦
                  let none = spent_nothing c d s (Deliver d) refl ne in
                  let rest = budget_elsewhere b d left c ne in
                  omega (arith, none, rest)
            ]
          where
            here : spent d s (Deliver d) + with_budget b d left d ≤ b d + 0
            here =
                let most = spent_most d s (Deliver d) in
                let rest = budget_here b d left in
                let enough = subst (λ (came : Bool). (if came then 0 else 1) + left ≤ b d) early paid in
                omega (arith, most, rest, enough)
              where
                paid : (if h.came then 0 else 1) + left ≤ b d
                paid = by_came h.came h.enough
                  where
                    by_came : (came : Bool) → due g d came + left ≤ b d → (if came then 0 else 1) + left ≤ b d
                    by_came true e = e
                    by_came false e = e

        delivery_follows : FollowsHere n s z b (Deliver d)
        delivery_follows =
            record {
              turns = [];
              left = with_budget b d left;
              runs = tt;
              showing = quiet;
              clean = subst IsClean (sym silent) tt;
              related = record {
                rows = λ m. rows_stay s (Deliver d) m ∙ r.rows m;
                regions = regions_stay s (Deliver d) ∙ r.regions;
                receives = receives_stay s (Deliver d) ∙ r.receives;
                size = length-delivered s d v fits ∙ r.size;
                sound = delivery_bytes s r.sound d v place.sound;
                heads = heads_after (Deliver d);
                tables = all.tables_same z.tables s.memory (after s (Deliver d)).memory (length-delivered s d v fits) (λ p common. byte-delivered s d v fits p (ap (λ (at : ℕ). hits (change at v.bytes ∷ []) p) base_is ∙ place.spares_tables p common)) r.tables;
                past = λ c far. ap (λ (t : State). slice_get t.chains c) (delivered_is s d v) ∙ set_other s.chains d c _ (far_apart c far) ∙ r.past c far;
                each = stands_delivered;
              };
              spends = spends_delivered;
            }
          where
            silent : shown s (Deliver d) ≡ shows.Nothing
            silent = delivery_silent s d

            quiet : shown_then (shown s (Deliver d)) [] ≡ []
            quiet = ap (λ (o : Obs). shown_then o []) silent

            far_apart : (c : ℕ) → chains_of g ≤ c → c ≢ d
            far_apart c far e = omega arith

      message_follows : FollowsHere n s z b (Deliver d)
      message_follows = by_stands (r.each d l)
        where
          by_came : (h : Entering g d s (z.at d) (b d)) (came : Bool) → h.came ≡ came → FollowsHere n s z b (Deliver d)
          by_came h true e = absurd (done_already (subst (Mailed g d s) e h.mailed))
          by_came h false e = delivery_follows h e

          by_stands : Stands g d s (z.at d) (b d) → FollowsHere n s z b (Deliver d)
          by_stands (Enters h) = by_came h h.came refl
          by_stands (Opened h) = absurd (done_already h.mailed)
          by_stands (Over h) = absurd (done_already h.mailed)

    -- every possible action
    queue_case : n < g.most → (a : Action) (q : ℕ) → acts_on a ≡ Some q → possible s a ≡ true → FollowsHere n s z b a
    queue_case few a q its p =
        let u = acting_there s a q its p in
        let row = all.rows q u.0.row (sym (r.rows q) ∙ ap row_of u.1) in
        queue_follows few a q u.0 its u.1 row.0 row.1 p

    pub each_follows : n < g.most → (a : Action) → possible s a ≡ true → FollowsHere n s z b a
    each_follows few (Deliver d) p =
        let v = delivers s d p in
        elim (cases_lt d (chains_of g)) [
          | inl inside ↦ message_follows d v inside
          | inr far ↦ let none = r.past d far in absurd (cc (none, v.chain_there))
        ]
    each_follows few (Fetch q i) p = queue_case few (Fetch q i) q refl p
    each_follows few (Start q) p = queue_case few (Start q) q refl p
    each_follows few (Land q i) p = queue_case few (Land q i) q refl p
    each_follows few (Complete q) p = queue_case few (Complete q) q refl p

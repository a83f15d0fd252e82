-- What other chains do leaves a chain where it is.
use Rattle.std.proofs.Common.{◌≡◌, ◌≢◌, ℕ, ◌+◌, ◌*◌, ◌%◌, ◌<◌, ◌≤◌, ◌⊎◌, ◌==◌, inl, inr, Bool, true, false, List, [], ◌∷◌, Option, Some, None, length, refl, sym, ap, subst, ◌∙◌, arith}
use Rattle.std.specs.Prelude.{slice_get}
use Rattle.std.proofs.lemmas.Bool.{and_parts, eqb-true}
use Rattle.redn_words.specs.declared.types.Region.{Region}
use Rattle.redn_words.specs.declared.types.QueueRow.{QueueRow}
use Rattle.redn_words.specs.declared.types.Action.{Action}
use Rattle.redn_words.specs.declared.types.Action.TheVariants.{Deliver}
use Rattle.redn_words.specs.States.{Queue, Chain, State}
use Rattle.redn_words.specs.Steps.{after, acts_on}
use Rattle.redn_words.specs.Landings.{change}
use Rattle.redn_words.proofs.Bytes.{same_range}
use Rattle.redn_words.specs.Bytes.{byte, hits}
use Rattle.redn_words.specs.Ranges.{domain_holds}
use Rattle.redn_words.proofs.Domains.{byte_outside, length_stays, domains_stay}
use Rattle.redn_words.specs.Laws.{Delivers, row_of, row_at}
use Rattle.redn_words.proofs.Deliveries.{delivered_is, length-delivered, byte-delivered}
use Rattle.redn_words.specs.Access.{EndsBy}
use Rattle.redn_words.proofs.Others.{set_other, regions_stay}
use Rattle.redn_proof_window.specs.Gateways.{GateStage}
use Rattle.redn_proof_window.proofs.Counters.{no_gate_counts}
use Rattle.redn_proof_window.proofs.Chains.{chain_stays}
use Rattle.redn_proof_interleave.specs.Machines.{Many}
use Rattle.redn_words.proofs.Inside.{chains_stay}
use Rattle.redn_proof_window.specs.Scripts.{RestsAt}
use Rattle.redn_proof_interleave.specs.Forms.{Point, Form, World, chains_of, SameMine, Promises, AllPromise, expected}
use Rattle.redn_proof_interleave.proofs.Relations.{Mailed, Entering, EntryOver, Inside, Stands, Enters, Opened, Over, Related}

module _ (g : World) where
  module _ (c : ℕ) where
    abbrev f : Form g.M
    f = g.form c

    -- the queues of a chain
    abbrev pub IsOwn : ℕ → Type 0
    IsOwn q = (q ≡ f.entry.queue) ⊎ (f.script.ring q ≡ true)

    -- what a chain sees of a state is the same in another
    pub record Unchanged (s t : State) : Type 0 where
      pub queues : (q : ℕ) → IsOwn q → slice_get t.queues q ≡ slice_get s.queues q
      pub regions : t.regions ≡ s.regions
      pub size : length t.memory ≡ length s.memory
      pub bytes : (p : ℕ) → f.mine p ≡ true → byte t.memory p ≡ byte s.memory p
      pub mail : slice_get t.chains c ≡ slice_get s.chains c

    module _ (k : Promises g c) (s t : State) (e : Unchanged s t) where
      mail_stays : (came : Bool) → Mailed g c s came → Mailed g c t came
      mail_stays true h = (h.0, h.1, e.mail ∙ h.2)
      mail_stays false h = e.mail ∙ h

      over_stays : EntryOver g c s → EntryOver g c t
      over_stays h = record { u = h.u; there = e.queues f.entry.queue (inl refl) ∙ h.there; rest = h.rest }

      memory_stays : (m : List ℕ) → SameMine g c s.memory m → SameMine g c t.memory m
      memory_stays m h = record { size = e.size ∙ h.size; bytes = λ p own. e.bytes p own ∙ h.bytes p own }

      rest_stays : (x : Point g c) (q : ℕ) → f.script.ring q ≡ true → RestsAt f.script s x q → RestsAt f.script t x q
      rest_stays x q r h = record { u = h.u; there = e.queues q (inr r) ∙ h.there; rest = h.rest }

      inside_stays : (y : g.M) (b : ℕ) → Inside g c s y b → Inside g c t y b
      inside_stays y b h =
          record {
            moment = h.moment;
            told = h.told;
            chain = chain_stays f.script k.script s h.moment h.chain t record {
              queues = λ q r. e.queues q (inr r);
              regions = e.regions;
              counts = λ all x m ready. no_gate_counts (f.script.window x m) t (k.no_first_gate x m);
              size = e.size;
              bytes = λ p own. e.bytes p (k.ours h.moment.point h.moment.memory p own);
            };
            is_told = h.is_told;
            over = over_stays h.over;
            mailed = mail_stays true h.mailed;
            is = h.is;
            enough = h.enough;
          }

      pub stands_still : (y : g.M) (b : ℕ) → Stands g c s y b → Stands g c t y b
      stands_still y b (Enters h) =
          Enters record {
            u = h.u;
            passed = h.passed;
            came = h.came;
            there = e.queues f.entry.queue (inl refl) ∙ h.there;
            queue = h.queue;
            few = h.few;
            waited = h.waited;
            mailed = mail_stays h.came h.mailed;
            memory = memory_stays (expected g c h.came) h.memory;
            rests = λ q r. rest_stays f.first q r (h.rests q r);
            is = h.is;
            enough = h.enough;
          }
      stands_still y b (Opened h) = Opened (inside_stays y b h)
      stands_still y b (Over h) =
          Over record {
            rings = λ q r. let old = h.rings q r in record { u = old.u; there = e.queues q (inr r) ∙ old.there; still = old.still };
            over = over_stays h.over;
            mailed = mail_stays true h.mailed;
            ended = h.ended;
            holds = k.holds_same y t.memory s.memory (record { size = e.size; bytes = e.bytes }) h.holds;
          }

    -- the slots of the entry stand
    pub entry_stage : (k : Promises g c) (s : State) (y : g.M) (b : ℕ) (h : Entering g c s y b) → GateStage f.entry s h.u h.passed
    entry_stage k s y b h =
        let two = k.entry.two in
        record {
          there = h.there;
          queue = h.queue;
          slots = λ n l.
              same_range s.memory (expected g c h.came) (f.entry.row.base + 64 * (n % f.entry.row.slots)) 64 h.memory.size (λ p low high. h.memory.bytes p (k.entry.slots_mine n p (omega arith) low high)) ∙ k.entry.slots h.came n (omega arith);
        }

  module _ (all : AllPromise g) (n : ℕ) (s : State) (z : Many g.M) (b : ℕ → ℕ) (h : Related g n s z b) where
    pub ends_here : EndsBy (length s.memory) s.regions
    ends_here = subst (λ (rows : List Region). EndsBy (length s.memory) rows) (sym h.regions) (subst (λ m. EndsBy m g.begin.regions) (sym h.size) all.ends)

    -- each queue of a chain is there, and its row is of its domain
    pub own_there : (c : ℕ) → c < chains_of g → (q : ℕ) → IsOwn c q → (v : Queue) × (slice_get s.queues q ≡ Some v) × (v.row.domain ≡ c)
    own_there c l q own = by_row own (row_at g.begin.queues q) refl
      where
        k : Promises g c
        k = all.each c l

        found : (o : Option Queue) (row : QueueRow) → slice_get s.queues q ≡ o → row_of o ≡ Some row → row.domain ≡ c → (v : Queue) × (slice_get s.queues q ≡ Some v) × (v.row.domain ≡ c)
        found None row e r d = absurd (cc)
        found (Some v) row e r d = let same : v.row ≡ row = cc in (v, e, ap (λ (x : QueueRow). x.domain) same ∙ d)

        with_row : (row : QueueRow) → row_at g.begin.queues q ≡ Some row → row.domain ≡ c → (v : Queue) × (slice_get s.queues q ≡ Some v) × (v.row.domain ≡ c)
        with_row row r d = found (slice_get s.queues q) row refl (h.rows q ∙ r) d

        by_row : IsOwn c q → (o : Option QueueRow) → row_at g.begin.queues q ≡ o → (v : Queue) × (slice_get s.queues q ≡ Some v) × (v.row.domain ≡ c)
        by_row (inl entry) o e =
            let first = k.entry_begins in
            with_row first.0.row (ap (row_at g.begin.queues) entry ∙ ap row_of first.1) (ap (λ (x : QueueRow). x.domain) first.2.row ∙ k.entry.domain)
        by_row (inr ring) o e =
            let first = k.rings_begin q ring in
            with_row first.u.row (ap row_of first.there) (ap (λ (x : QueueRow). x.domain) first.rest.row_is ∙ ring_domain q ring)
          where
            ring_domain : (r : ℕ) → (g.form c).script.ring r ≡ true → ((g.form c).script.row r).domain ≡ c
            ring_domain r own =
                let may = k.script.managed (g.form c).first g.begin.memory r own in
                eqb-true ((g.form c).script.row r).domain ((g.form c).script.window (g.form c).first g.begin.memory).row.domain (and_parts ((g.form c).script.row r).managed (((g.form c).script.row r).domain == ((g.form c).script.window (g.form c).first g.begin.memory).row.domain) may).1 ∙ k.domain (g.form c).first g.begin.memory

    -- an action of another chain's queue
    pub other_unchanged : (a : Action) (q : ℕ) (u : Queue) (c : ℕ) → c < chains_of g → acts_on a ≡ Some q → slice_get s.queues q ≡ Some u → u.row.domain ≢ c → Unchanged c s (after s a)
    other_unchanged a q u c l its there other =
        let k = all.each c l in
        record {
          queues = λ n own. let v = own_there c l n own in domains_stay s a q n u v.0 its there v.1 (λ e. other (sym e ∙ v.2)) ∙ sym v.1;
          regions = regions_stay s a;
          size = length_stays s q u there ends_here a its;
          bytes = λ p own. byte_outside s q u there ends_here a p its (ap (λ (rows : List Region). domain_holds rows u.row.domain p) h.regions ∙ k.apart u.row.domain p other own);
          mail = ap (λ (chains : List Chain). slice_get chains c) (chains_stay s q u there a its);
        }

    -- another chain's message
    pub delivery_unchanged : (d : ℕ) (c : ℕ) → c < chains_of g → c ≢ d → (v : Delivers s d) → v.place.base + length v.bytes ≤ length s.memory → ((p : ℕ) → (g.form c).mine p ≡ true → hits (change v.place.base v.bytes ∷ []) p ≡ false) → Unchanged c s (after s (Deliver d))
    delivery_unchanged d c l ne v fits spared =
        record {
          queues = λ q own. ap (λ (t : State). slice_get t.queues q) (delivered_is s d v);
          regions = regions_stay s (Deliver d);
          size = length-delivered s d v fits;
          bytes = λ p own. byte-delivered s d v fits p (spared p own);
          mail = ap (λ (t : State). slice_get t.chains c) (delivered_is s d v) ∙ set_other s.chains d c _ ne;
        }

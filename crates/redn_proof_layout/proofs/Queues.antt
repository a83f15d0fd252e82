-- The queues of a placed image are the entries and the rings of its chains.
use Rattle.std.proofs.Common.{◌≡◌, ℕ, zero, suc, ◌+◌, ◌-◌, ◌*◌, ◌<◌, ◌≤◌, ◌⊎◌, inl, inr, Bool, true, false, ◌||◌, List, [], ◌∷◌, ◌++◌, length, map, take, Some, refl, sym, ap, ◌∙◌, arith}
use Rattle.std.specs.Prelude.{slice_get, nat_lt, nat_le}
use Rattle.std.specs.List.{flat_map}
use Rattle.std.proofs.lemmas.Bool.{and_parts, and_from, lt-ltb, le-leb, ltb-true, leb-true, cases_lt, false≢true}
use Rattle.std.proofs.lemmas.List.{length-map}
use Rattle.std.proofs.lemmas.List.Sums.{sum_by-cons}
use Rattle.redn_words.specs.declared.types.QueueRow.{QueueRow}
use Rattle.redn_kernel.specs.declared.types.ChainInit.{ChainInit}
use Rattle.redn_kernel.specs.declared.types.Program.{Program}
use Rattle.redn_graph.specs.declared.types.Graph.{Graph}
use Rattle.redn_proof_ring.specs.Plans.{is_ring}
use Rattle.redn_proof_ring.proofs.LapSteps.{slice_get_append}
use Rattle.redn_emit.specs.Layout.{Plain, ChainPlan, ring_slots, code_slots, data_len, has_ring, first_limit, entry_row, ring_rows_from, ring_rows, receive}
use Rattle.redn_emit.specs.Placed.{chain_rings, chains_from, entries_base, data_base, plans, plan_at, plans_from, queues}
use Rattle.redn_emit.proofs.Counts.{length-rings}
use Rattle.redn_emit.proofs.Lists.{map_at}
use Rattle.redn_proof_layout.specs.Layouts.{no_ring, ring_named}
use Rattle.redn_proof_layout.specs.PlacedLaws.{AreSound}
use Rattle.redn_proof_layout.specs.Beginning.{plan_for}
use Rattle.redn_proof_layout.specs.Rows.{QueuesStand, IsEntered, AllQueuesStand, AllEntered}
use Rattle.redn_proof_layout.proofs.Chains.{plan_low, plans_follow}
use Rattle.redn_proof_layout.proofs.Homes.{in_range}
use Rattle.redn_proof_layout.proofs.Lengths.{count}
use Rattle.redn_proof_layout.proofs.Whole.{chain, rings_are}
use Rattle.redn_proof_layout.proofs.Began.{got}
use Rattle.redn_proof_layout.proofs.Beside.{third}

got_front : {X : Type 0} (xs ys : List X) (k : ℕ) (x : X) → slice_get xs k ≡ Some x → slice_get (xs ++ ys) k ≡ Some x
got_front [] ys k x e = absurd (cc)
got_front (y ∷ xs) ys zero x e = e
got_front (y ∷ xs) ys (suc k) x e = got_front xs ys k x e

got_back : {X : Type 0} (xs ys : List X) (k n : ℕ) (x : X) → n ≡ length xs + k → slice_get ys k ≡ Some x → slice_get (xs ++ ys) n ≡ Some x
got_back [] ys k n x here e = let same : n ≡ k = here ∙ omega arith in ap (slice_get ys) same ∙ e
got_back (y ∷ xs) ys k zero x here e = absurd (omega (arith, here))
got_back (y ∷ xs) ys k (suc n) x here e = got_back xs ys k n x (omega (arith, here)) e

got_mapped : {X Y : Type 0} (f : X → Y) (xs : List X) (k : ℕ) (x : X) → slice_get xs k ≡ Some x → slice_get (map f xs) k ≡ Some (f x)
got_mapped f [] k x e = absurd (cc)
got_mapped f (y ∷ xs) zero x e = let same : y ≡ x = cc in ap (λ z. Some (f z)) same
got_mapped f (y ∷ xs) (suc k) x e = got_mapped f xs k x e

mapped_from : {X Y : Type 0} (f : X → Y) (xs : List X) (k : ℕ) (y : Y) → slice_get (map f xs) k ≡ Some y → (x : X) × (slice_get xs k ≡ Some x) × (y ≡ f x)
mapped_from f [] k y e = absurd (cc)
mapped_from f (x ∷ xs) zero y e = (x, refl, cc)
mapped_from f (x ∷ xs) (suc k) y e = mapped_from f xs k y e

-- the row of a ring
abbrev row_made : ℕ → ℕ → Plain → QueueRow
row_made domain base r = record { domain = domain; managed = true; base = base; slots = ring_slots r; limit = 0 }

row_at : (domain base : ℕ) (rings : List Plain) (k : ℕ) (r : Plain) → slice_get rings k ≡ Some r → slice_get (ring_rows_from domain base rings) k ≡ Some (row_made domain (base + 64 * code_slots (take k rings)) r)
row_at domain base [] k r e = absurd (cc)
row_at domain base (x ∷ rs) zero r e =
    let same : x ≡ r = cc in
    let here : base ≡ base + 64 * code_slots (take 0 (x ∷ rs)) = omega arith in
    ap (λ (y : Plain). Some (row_made domain base y)) same ∙ ap (λ (b : ℕ). Some (row_made domain b r)) here
row_at domain base (x ∷ rs) (suc k) r e =
    let all = sum_by-cons ring_slots x (take k rs) in
    let place : (base + 64 * ring_slots x) + 64 * code_slots (take k rs) ≡ base + 64 * code_slots (take (suc k) (x ∷ rs)) = omega (arith, all) in
    row_at domain (base + 64 * ring_slots x) rs k r e ∙ ap (λ (b : ℕ). Some (row_made domain b r)) place

row_domain : (domain base : ℕ) (rings : List Plain) (k : ℕ) (row : QueueRow) → slice_get (ring_rows_from domain base rings) k ≡ Some row → (row.domain ≡ domain) × (k < length rings)
row_domain domain base [] k row e = absurd (cc)
row_domain domain base (x ∷ rs) zero row e = let same : row_made domain base x ≡ row = cc in (sym (ap (λ (y : QueueRow). y.domain) same), omega arith)
row_domain domain base (x ∷ rs) (suc k) row e = let rest = row_domain domain (base + 64 * ring_slots x) rs k row e in let low = rest.1 in (rest.0, omega (arith, low))

length-rows : (domain base : ℕ) (rings : List Plain) → length (ring_rows_from domain base rings) ≡ length rings
length-rows domain base [] = refl
length-rows domain base (r ∷ rs) = ap suc (length-rows domain (base + 64 * ring_slots r) rs)

-- the rows of all rings, chain after chain
rows_at : (tables number code control first : ℕ) (cs : List ChainInit) (gs : List Graph) (i : ℕ) (c : ChainPlan) → slice_get (plans_from tables number code control (chains_from first cs gs)) i ≡ Some c → (k n : ℕ) (row : QueueRow) → first + n ≡ c.first + k → slice_get (ring_rows c) k ≡ Some row → slice_get (flat_map ring_rows (plans_from tables number code control (chains_from first cs gs))) n ≡ Some row
rows_at tables number code control first [] gs i c e k n row here there = absurd (cc)
rows_at tables number code control first (x ∷ cs) [] i c e k n row here there = absurd (cc)
rows_at tables number code control first (x ∷ cs) (g ∷ gs) zero c e k n row here there =
    let plan : ChainPlan = plan_at tables number code control (chain_rings first x g) in
    let rest : List ChainPlan = plans_from tables (suc number) (code + 64 * code_slots plan.rings) (control + data_len plan) (chains_from (first + length g.blocks) cs gs) in
    let same : plan ≡ c = cc in
    let begins : first ≡ c.first = ap (λ (y : ChainPlan). y.first) same in
    let place : n ≡ k = omega (arith, here, begins) in
    got_front (ring_rows plan) (flat_map ring_rows rest) n row (ap (λ (y : ChainPlan). slice_get (ring_rows y) n) same ∙ ap (slice_get (ring_rows c)) place ∙ there)
rows_at tables number code control first (x ∷ cs) (g ∷ gs) (suc i) c e k n row here there =
    let plan : ChainPlan = plan_at tables number code control (chain_rings first x g) in
    let rest : List ChainPlan = plans_from tables (suc number) (code + 64 * code_slots plan.rings) (control + data_len plan) (chains_from (first + length g.blocks) cs gs) in
    let low = (plan_low tables (suc number) (code + 64 * code_slots plan.rings) (control + data_len plan) (first + length g.blocks) cs gs i c e).first_ring in
    let long = length-rows number code plan.rings in
    let many = length-rings first first g.blocks in
    got_back (ring_rows plan) (flat_map ring_rows rest) (n - length g.blocks) n row (omega (arith, here, low, long, many)) (rows_at tables (suc number) (code + 64 * code_slots plan.rings) (control + data_len plan) (first + length g.blocks) cs gs i c e k (n - length g.blocks) row (omega (arith, here, low)) there)

-- each of them is a ring of a chain
record IsRingRow (first n : ℕ) (row : QueueRow) (ps : List ChainPlan) : Type 0 where
  pub place : ℕ
  pub plan : ChainPlan
  pub plan_there : slice_get ps place ≡ Some plan
  pub domain : row.domain ≡ plan.number
  pub ring : ℕ
  pub inside : ring < length plan.rings
  pub number : first + n ≡ plan.first + ring

rows_each : (tables number code control first : ℕ) (cs : List ChainInit) (gs : List Graph) (n : ℕ) (row : QueueRow) → slice_get (flat_map ring_rows (plans_from tables number code control (chains_from first cs gs))) n ≡ Some row → IsRingRow first n row (plans_from tables number code control (chains_from first cs gs))
rows_each tables number code control first [] gs n row e = absurd (cc)
rows_each tables number code control first (x ∷ cs) [] n row e = absurd (cc)
rows_each tables number code control first (x ∷ cs) (g ∷ gs) n row e =
    let plan : ChainPlan = plan_at tables number code control (chain_rings first x g) in
    let rest : List ChainPlan = plans_from tables (suc number) (code + 64 * code_slots plan.rings) (control + data_len plan) (chains_from (first + length g.blocks) cs gs) in
    elim (slice_get_append (ring_rows plan) (flat_map ring_rows rest) n row e) [
      | inl mine ↦ let at = row_domain number code plan.rings n row mine in record { place = 0; plan = plan; plan_there = refl; domain = at.0; ring = n; inside = at.1; number = refl }
      | inr later ↦
          let found = rows_each tables (suc number) (code + 64 * code_slots plan.rings) (control + data_len plan) (first + length g.blocks) cs gs later.0 row later.2 in
          let here = later.1 in
          let long = length-rows number code plan.rings in
          let many = length-rings first first g.blocks in
          let at = found.number in
          record { place = suc found.place; plan = found.plan; plan_there = found.plan_there; domain = found.domain; ring = found.ring; inside = found.inside; number = omega (arith, here, long, many, at) }
    ]

module _ (p : Program) (graphs : List Graph) (are : AreSound p graphs) where
  abbrev ps : List ChainPlan
  ps = plans p graphs

  abbrev entries : List QueueRow
  entries = map (entry_row (entries_base p graphs)) ps

  many : length entries ≡ length p.chains
  many = length-map ps (entry_row (entries_base p graphs)) ∙ count p graphs are

  ring_known : (c : ChainPlan) (r : ℕ) → has_ring c r ≡ true → (c.first ≤ r) × (r < c.first + length c.rings)
  ring_known c r h =
      let parts = and_parts (nat_le c.first r) (nat_lt r (c.first + length c.rings)) h in
      (leb-true c.first r parts.0, ltb-true r (c.first + length c.rings) parts.1)

  known_ring : (c : ChainPlan) (r : ℕ) → c.first ≤ r → r < c.first + length c.rings → has_ring c r ≡ true
  known_ring c r a b = and_from (nat_le c.first r) (nat_lt r (c.first + length c.rings)) (le-leb c.first r a) (lt-ltb r (c.first + length c.rings) b)

  firsts : (i : ℕ) (c : ChainPlan) → slice_get ps i ≡ Some c → length p.chains ≤ c.first
  firsts i c there = (plan_low (length p.tables) 0 0 (data_base p graphs) (length p.chains) p.chains graphs i c there).first_ring

  number_of : (i : ℕ) (c : ChainPlan) → slice_get ps i ≡ Some c → c.number ≡ i
  number_of i c there = let n : c.number ≡ 0 + i = ap (λ (z : ChainPlan). z.number) (chain p graphs are i c there).is in omega (arith, n)

  ring_there : (i : ℕ) (c : ChainPlan) (r : ℕ) → slice_get ps i ≡ Some c → has_ring c r ≡ true → slice_get (queues p graphs) r ≡ Some ((plan_for p graphs c).ring r).row
  ring_there i c r there h =
      let known = ring_known c r h in
      let a = known.0 in
      let b = known.1 in
      let low = firsts i c there in
      let k : ℕ = r - c.first in
      let is : slice_get c.rings k ≡ Some (ring_named c r) = got c.rings k no_ring (omega (arith, a, b)) in
      let made : slice_get (ring_rows c) k ≡ Some ((plan_for p graphs c).ring r).row = row_at c.number c.code_base c.rings k (ring_named c r) is in
      let long = many in
      got_back entries (flat_map ring_rows ps) (r - length p.chains) r _ (omega (arith, a, low, long)) (rows_at (length p.tables) 0 0 (data_base p graphs) (length p.chains) p.chains graphs i c there k (r - length p.chains) _ (omega (arith, a, low)) made)

  each_row : (q : ℕ) (row : QueueRow) → slice_get (queues p graphs) q ≡ Some row → (c : ChainPlan) × (slice_get ps row.domain ≡ Some c) × ((q ≡ row.domain) ⊎ (is_ring (plan_for p graphs c) q ≡ true))
  each_row q row e =
      elim (slice_get_append entries (flat_map ring_rows ps) q row e) [
        | inl entry ↦
            let found = mapped_from (entry_row (entries_base p graphs)) ps q row entry in
            let c : ChainPlan = found.0 in
            let n = number_of q c found.1 in
            let domain : row.domain ≡ q = ap (λ (y : QueueRow). y.domain) found.2 ∙ n in
            (c, ap (slice_get ps) domain ∙ found.1, inl (sym domain))
        | inr ring ↦
            let found = rows_each (length p.tables) 0 0 (data_base p graphs) (length p.chains) p.chains graphs ring.0 row ring.2 in
            let n = number_of found.place found.plan found.plan_there in
            let domain : row.domain ≡ found.place = found.domain ∙ n in
            let here = ring.1 in
            let long = many in
            let at = found.number in
            let low = found.inside in
            (found.plan, ap (slice_get ps) domain ∙ found.plan_there, inr (known_ring found.plan q (omega (arith, here, long, at)) (omega (arith, here, long, at, low))))
      ]

  behind_entries : (i : ℕ) (c : ChainPlan) (r : ℕ) → slice_get ps i ≡ Some c → has_ring c r ≡ true → length ps ≤ r
  behind_entries i c r there h =
      let a = (ring_known c r h).0 in
      let low = firsts i c there in
      let all = count p graphs are in
      omega (arith, a, low, all)

  one_chain : (i j : ℕ) (c d : ChainPlan) (r : ℕ) → slice_get ps i ≡ Some c → slice_get ps j ≡ Some d → has_ring c r ≡ true → has_ring d r ≡ true → i ≡ j
  one_chain i j c d r x y h g =
      elim (cases_lt i j) [
        | inl before ↦ absurd (never i j c d before x y h g)
        | inr past ↦ elim (cases_lt j i) [
          | inl before ↦ absurd (never j i d c before y x g h)
          | inr also ↦ omega (arith, past, also)
        ]
      ]
    where
      never : (i j : ℕ) (c d : ChainPlan) → i < j → slice_get ps i ≡ Some c → slice_get ps j ≡ Some d → has_ring c r ≡ true → has_ring d r ≡ true → ⊥
      never i j c d l x y h g =
          let follow = (plans_follow (length p.tables) 0 0 (data_base p graphs) (length p.chains) p.chains graphs i j c d l x y).rings in
          let high = (ring_known c r h).1 in
          let low = (ring_known d r g).0 in
          omega (arith, follow, high, low)

  pub stand : QueuesStand p graphs
  stand =
      record {
        entries = λ i c there. got_front entries (flat_map ring_rows ps) i (entry_row (entries_base p graphs) c) (got_mapped (entry_row (entries_base p graphs)) ps i c there);
        rings = ring_there;
        each = each_row;
        no_entry = behind_entries;
        one = one_chain;
        receives = λ i c there. got_mapped receive ps i c there;
      }

  module _ (i : ℕ) (c : ChainPlan) (there : slice_get ps i ≡ Some c) where
    entry_inside : c.entry < length c.rings
    entry_inside =
        let is : c.entry ≡ (chain p graphs are i c there).graph.entry = ap (λ (z : ChainPlan). z.entry) (chain p graphs are i c there).is in
        let low = (chain p graphs are i c there).can.entry in
        let long : length c.rings ≡ length (chain p graphs are i c there).graph.blocks = ap length (rings_are p graphs are i c there) ∙ length-rings c.first c.first (chain p graphs are i c there).graph.blocks in
        omega (arith, is, low, long)

    second : (a b d : Bool) → b ≡ true → (a || (b || (d || false))) ≡ true
    second true b d e = refl
    second false true d e = refl
    second false false d e = absurd (false≢true e)

    pub entered : IsEntered p graphs c
    entered =
        let inside = entry_inside in
        let place : (c.first + c.entry) - c.first ≡ c.entry = omega arith in
        record {
          ring = known_ring c (c.first + c.entry) (omega arith) (omega (arith, inside));
          limit = map_at first_limit c.rings ((c.first + c.entry) - c.first) no_ring 0 (omega (arith, inside));
          slots = λ q a b. second _ _ _ (in_range (entries_base p graphs + 128 * c.number) 128 q a b);
          message = λ q a b. third _ _ _ (in_range c.control_base (data_len c) q (omega (arith, a)) (omega (arith, b)));
        }

pub all_queues_stand : AllQueuesStand
all_queues_stand p graphs are = stand p graphs are

pub all_entered : AllEntered
all_entered p graphs are i c there = entered p graphs are i c there

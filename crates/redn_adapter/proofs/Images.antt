-- What an image's rules say of its ranges.
use Rattle.std.proofs.Common.{◌≡◌, ℕ, zero, suc, ◌+◌, ◌*◌, ◌%◌, ◌<◌, ◌≤◌, Bool, true, false, cond, ◌&&◌, ◌==◌, List, [], ◌∷◌, ◌++◌, Option, Some, None, ◌||◌, length, map, take, get_or, refl, ap, subst, ◌∙◌, inl, inr, arith, append_assoc}
use Rattle.std.specs.Prelude.{nat_lt, nat_le, is_some, slice_get, IfSome}
use Rattle.std.specs.List.{All, list_any}
use Rattle.std.proofs.lemmas.Bool.{and_parts, not-true, cases_lt, ltb-true, leb-true}
use Rattle.std.proofs.lemmas.List.{get_or-map, length-map, take-map, append-nil}
use Rattle.std.proofs.lemmas.List.Elements.{All-nil, All-cons, All-weaker}
use Rattle.redn_words.specs.declared.types.Region.{Region}
use Rattle.redn_words.specs.declared.types.Kind.TheVariants.{Vars}
use Rattle.redn_words.specs.declared.limits.TheConstants.{MAX_MEMORY, MAX_RING}
use Rattle.redn_words.specs.declared.types.QueueRow.{QueueRow}
use Rattle.redn_words.specs.declared.types.Receive.{Receive}
use Rattle.redn_words.specs.Access.{region_of}
use Rattle.redn_words.specs.States.{fresh_chain}
use Rattle.redn_image.specs.Rules.{Image, Numbers, numbers_of, region_numbers, queue_numbers, breaking, unless, header_faults, row_faults, faults, key_is_new, kind_is_known, region_is_inside, ring_is_inside, receive_is_inside, slots_are_few, table_is_one, Obeys}
use Rattle.redn_image.specs.declared.numbers.RegionNumbers.{RegionNumbers}
use Rattle.redn_image.specs.declared.numbers.QueueNumbers.{QueueNumbers}
use Rattle.redn_image.specs.declared.numbers.Fault.{Fault}
use Rattle.redn_adapter.specs.declared.opening.OpenFault.TheVariants as fault
use Rattle.redn_region.specs.Rows.{repeats}
use Rattle.redn_region.proofs.Keys.{repeats_found, repeats_past}
use Rattle.redn_words.specs.Access.{EndsBy}
use Rattle.redn_words.specs.Misfits.{misfit}
use Rattle.redn_words.proofs.Misfits.{misfit_fits, both_none}
use Rattle.redn_adapter.specs.AdapterView.{IsRing, MailFits}
use Rattle.redn_adapter.specs.Opening.{misfits}

kept : (b : Bool) (rule : ℕ) → unless b rule ≡ [] → b ≡ true
kept true rule e = refl
kept false rule e = absurd (cc)

-- the first row keeps a rule that no row breaks, and so do the others
kept_here : {X : Type 0} (rule : ℕ) (keeps : List X → X → Bool) (earlier : List X) (x : X) (xs : List X) → breaking rule keeps earlier (x ∷ xs) ≡ [] → (keeps earlier x ≡ true) × (breaking rule keeps (earlier ++ x ∷ []) xs ≡ [])
kept_here rule keeps earlier x xs e =
    let found : List Fault = record { rule = rule; index = length earlier } ∷ [] in
    let here : cond (keeps earlier x) [] found ≡ [] = (both_none (cond (keeps earlier x) [] found) _ e).0 in
    (elim (keeps earlier x) as (λ b. cond b [] found ≡ [] → b ≡ true) [ true ↦ λ h. refl | false ↦ λ h. absurd (cc) ] here, (both_none (cond (keeps earlier x) [] found) _ e).1)

-- a rule of the rows that no row breaks
each_keeps : {X : Type 0} (rule : ℕ) (keeps : List X → X → Bool) (P : X → Type 0) → ((earlier : List X) (x : X) → keeps earlier x ≡ true → P x) → (earlier xs : List X) → breaking rule keeps earlier xs ≡ [] → All P xs
each_keeps rule keeps P from earlier [] e = All-nil P
each_keeps rule keeps P from earlier (x ∷ xs) e =
    let here = kept_here rule keeps earlier x xs e in
    All-cons P x xs (from earlier x here.0) (each_keeps rule keeps P from (earlier ++ x ∷ []) xs here.1)

All-unmap : {X Y : Type 0} (P : Y → Type 0) (f : X → Y) (xs : List X) → All P (map f xs) → All (λ x. P (f x)) xs
All-unmap P f xs h = λ k d l. subst P (get_or-map f xs k d (f d) l) (h k (f d) (omega (arith, length-map xs f)))

-- the ranges of an image lie in its memory
pub record IsInside (i : Image) : Type 0 where
  pub size : length i.memory ≤ MAX_MEMORY
  pub few_regions : length i.regions ≤ 4096
  pub few : length i.receives ≤ 16
  pub few_queues : length i.queues ≤ 65535
  pub domains : All (λ (row : QueueRow). row.domain < length i.receives) i.queues
  pub regions : EndsBy (length i.memory) i.regions
  pub queues : All (IsRing (length i.memory)) i.queues
  pub receives : All (λ (r : Receive). r.base + r.len ≤ length i.memory) i.receives

module _ (size : ℕ) where
  region_ends : (earlier : List RegionNumbers) (r : RegionNumbers) → region_is_inside size earlier r ≡ true → r.base + r.len ≤ size
  region_ends earlier r e = leb-true (r.base + r.len) size (and_parts (r.base % 8 == 0) _ e).1

  receive_ends : (earlier : List Receive) (r : Receive) → receive_is_inside size earlier r ≡ true → r.base + r.len ≤ size
  receive_ends earlier r e = leb-true (r.base + r.len) size (and_parts (r.base % 8 == 0 && r.len % 8 == 0 && nat_le r.len 64) _ e).1

  abbrev EndsRing : QueueNumbers → Type 0
  EndsRing q = (0 < q.slots) × (q.slots ≤ MAX_RING) × (q.base + 64 * q.slots ≤ size)

  ring_ends : (earlier : List QueueNumbers) (q : QueueNumbers) → ring_is_inside size earlier q ≡ true → EndsRing q
  ring_ends earlier q e =
      let last = and_parts (q.base % 64 == 0 && nat_lt 0 q.slots && nat_le q.slots MAX_RING) _ e in
      let few = and_parts (q.base % 64 == 0 && nat_lt 0 q.slots) _ last.0 in
      let some = and_parts (q.base % 64 == 0) _ few.0 in
      (ltb-true 0 q.slots some.1, leb-true q.slots MAX_RING few.1, leb-true (q.base + 64 * q.slots) size last.1)

  ring_is : (row : QueueRow) → EndsRing (queue_numbers row) → IsRing size row
  ring_is row h = record { some = h.0; few = h.1; inside = h.2 }

-- the rules of the rows that bound their ranges, and that of keys
record RowsInside (n : Numbers) : Type 0 where
  keys : breaking 6 key_is_new [] n.regions ≡ []
  regions : All (λ (r : RegionNumbers). r.base + r.len ≤ n.size) n.regions
  queues : All (EndsRing n.size) n.queues
  receives : All (λ (r : Receive). r.base + r.len ≤ n.size) n.receives
  domains : All (λ (q : QueueNumbers). q.domain < length n.receives) n.queues

rows_inside : (n : Numbers) → row_faults n ≡ [] → RowsInside n
rows_inside n e17 =
    let e16 = (both_none _ (breaking 17 (receive_is_inside n.size) [] n.receives) e17).0 in
    let e15 = (both_none _ (breaking 16 slots_are_few [] n.queues) e16).0 in
    let e14 = (both_none _ (breaking 15 (λ earlier (q : QueueNumbers). nat_le q.limit q.slots) [] n.queues) e15).0 in
    let e13 = (both_none _ (breaking 14 (ring_is_inside n.size) [] n.queues) e14).0 in
    let e12 = (both_none _ (breaking 13 (λ earlier (q : QueueNumbers). nat_lt q.managed 2) [] n.queues) e13).0 in
    let e11 = (both_none _ (breaking 12 (λ earlier (q : QueueNumbers). nat_lt q.domain (length n.receives)) [] n.queues) e12).0 in
    let e10 = (both_none _ (breaking 11 table_is_one [] n.regions) e11).0 in
    let e9 = (both_none _ (breaking 10 (region_is_inside n.size) [] n.regions) e10).0 in
    let e8 = (both_none _ (breaking 9 (λ earlier (r : RegionNumbers). nat_lt r.rights 16) [] n.regions) e9).0 in
    let e7 = (both_none _ (breaking 8 kind_is_known [] n.regions) e8).0 in
    record {
      keys = (both_none _ (breaking 7 (λ earlier (r : RegionNumbers). nat_lt r.domain (length n.receives)) [] n.regions) e7).0;
      regions = each_keeps 10 (region_is_inside n.size) (λ (r : RegionNumbers). r.base + r.len ≤ n.size) (region_ends n.size) [] n.regions ((both_none _ (breaking 10 (region_is_inside n.size) [] n.regions) e10).1);
      queues = each_keeps 14 (ring_is_inside n.size) (EndsRing n.size) (ring_ends n.size) [] n.queues ((both_none _ (breaking 14 (ring_is_inside n.size) [] n.queues) e14).1);
      domains = each_keeps 12 (λ earlier (q : QueueNumbers). nat_lt q.domain (length n.receives)) (λ (q : QueueNumbers). q.domain < length n.receives) (λ earlier q e. ltb-true q.domain (length n.receives) e) [] n.queues ((both_none _ (breaking 12 (λ earlier (q : QueueNumbers). nat_lt q.domain (length n.receives)) [] n.queues) e12).1);
      receives = each_keeps 17 (receive_is_inside n.size) (λ (r : Receive). r.base + r.len ≤ n.size) (receive_ends n.size) [] n.receives ((both_none _ (breaking 17 (receive_is_inside n.size) [] n.receives) e17).1);
    }

header_bounds : (regions queues receives zero_field size : ℕ) → header_faults regions queues receives zero_field size ≡ [] → (regions ≤ 4096) × (receives ≤ 16) × (size ≤ MAX_MEMORY) × (queues ≤ 65535)
header_bounds regions queues receives zero_field size e5 =
    let last = kept (size % 8 == 0 && nat_le size MAX_MEMORY) 5 ((both_none _ (unless (size % 8 == 0 && nat_le size MAX_MEMORY) 5) e5).1) in
    let e4 = (both_none _ (unless (size % 8 == 0 && nat_le size MAX_MEMORY) 5) e5).0 in
    let e3 = (both_none _ (unless (zero_field == 0) 4) e4).0 in
    let chains = kept (nat_lt 0 receives && nat_le receives 16) 3 ((both_none _ (unless (nat_lt 0 receives && nat_le receives 16) 3) e3).1) in
    let e2 = (both_none _ (unless (nat_lt 0 receives && nat_le receives 16) 3) e3).0 in
    let rings = kept (nat_le queues 65535) 2 ((both_none _ (unless (nat_le queues 65535) 2) e2).1) in
    let rows = kept (nat_le regions 4096) 1 ((both_none _ (unless (nat_le queues 65535) 2) e2).0) in
    (leb-true regions 4096 rows, leb-true receives 16 (and_parts (nat_lt 0 receives) _ chains).1, leb-true size MAX_MEMORY (and_parts (size % 8 == 0) _ last).1, leb-true queues 65535 rings)

pub image_inside : (i : Image) → Obeys i → IsInside i
unfolding faults
image_inside i e =
    let n : Numbers = numbers_of i in
    let header = header_bounds (length n.regions) (length n.queues) (length n.receives) 0 n.size ((both_none _ (row_faults n) e).0) in
    let rows = rows_inside n ((both_none (header_faults (length n.regions) (length n.queues) (length n.receives) 0 n.size) _ e).1) in
    record {
      size = header.2;
      few_regions = omega (arith, header.0, length-map i.regions region_numbers);
      few = header.1;
      few_queues = omega (arith, header.3, length-map i.queues queue_numbers);
      domains = All-unmap (λ (q : QueueNumbers). q.domain < length i.receives) queue_numbers i.queues rows.domains;
      regions = All-unmap (λ (r : RegionNumbers). r.base + r.len ≤ length i.memory) region_numbers i.regions rows.regions;
      queues = All-weaker (λ (q : QueueRow). EndsRing (length i.memory) (queue_numbers q)) (IsRing (length i.memory)) (ring_is (length i.memory)) i.queues (All-unmap (EndsRing (length i.memory)) queue_numbers i.queues rows.queues);
      receives = rows.receives;
    }

-- a rule that looks at the rows before each
each_passes : {X : Type 0} (rule : ℕ) (keeps : List X → X → Bool) (earlier xs : List X) → breaking rule keeps earlier xs ≡ [] → (k : ℕ) (d : X) → k < length xs → keeps (earlier ++ take k xs) (get_or xs k d) ≡ true
each_passes rule keeps earlier [] e k d l = absurd (omega arith)
each_passes rule keeps earlier (x ∷ xs) e zero d l = rw append-nil (kept_here rule keeps earlier x xs e).0
each_passes rule keeps earlier (x ∷ xs) e (suc k) d l =
    let there = each_passes rule keeps (earlier ++ x ∷ []) xs (kept_here rule keeps earlier x xs e).1 k d (omega (arith, l)) in
    subst (λ (before : List _). keeps before (get_or xs k d) ≡ true) (append_assoc earlier (x ∷ []) (take k xs)) there

none_has : (key : ℕ) (rows : List Region) → list_any (λ (e : RegionNumbers). e.key == key) (map region_numbers rows) ≡ false → region_of rows key ≡ None
none_has key [] h = refl
none_has key (r ∷ rows) h = elim (r.key == key) as (λ b. (b || list_any (λ (e : RegionNumbers). e.key == key) (map region_numbers rows)) ≡ false → cond b (Some r) (region_of rows key) ≡ None) [ true ↦ λ no. absurd (cc) | false ↦ none_has key rows ] h

any : Region
any = record { key = 0; domain = 0; kind = Vars; rights = 0; base = 0; len = 0 }

-- no key stands twice in an image
pub keys_differ : (i : Image) → Obeys i → (k : ℕ) → repeats i.regions k ≡ false
unfolding faults
keys_differ i e k =
    let n : Numbers = numbers_of i in
    elim (cases_lt k (length i.regions)) [
      | inl low ↦
          let rows = rows_inside n ((both_none (header_faults (length n.regions) (length n.queues) (length n.receives) 0 n.size) _ e).1) in
          let r : Region = get_or i.regions k any in
          let new = each_passes 6 key_is_new [] n.regions rows.keys k (region_numbers any) (omega (arith, length-map i.regions region_numbers)) in
          let here : get_or n.regions k (region_numbers any) ≡ region_numbers r = get_or-map region_numbers i.regions k any (region_numbers any) low in
          let before : take k n.regions ≡ map region_numbers (take k i.regions) = take-map region_numbers k i.regions in
          let there : key_is_new (map region_numbers (take k i.regions)) (region_numbers r) ≡ true = subst (λ (e : List RegionNumbers). key_is_new e (region_numbers r) ≡ true) before (subst (λ (x : RegionNumbers). key_is_new (take k n.regions) x ≡ true) here new) in
          repeats_found i.regions k any low ∙ ap is_some (none_has r.key (take k i.regions) (not-true _ (and_parts _ _ there).1))
      | inr high ↦ repeats_past i.regions k high
    ]

no_mail : (o : Option Receive) → MailFits o None
no_mail None = tt
no_mail (Some place) = tt

-- without a misfit each message has the length of its place
fits_here : (place : Receive) (m : Option (List ℕ)) → IfSome m (λ bytes. length bytes ≡ place.len) → MailFits (Some place) (Some (fresh_chain m))
fits_here place None e = tt
fits_here place (Some bytes) e = e

pub mails_fit : (c : ℕ) (places : List Receive) (messages : List (Option (List ℕ))) → misfits c places messages ≡ [] → (k : ℕ) → MailFits (slice_get places k) (slice_get (map fresh_chain messages) k)
mails_fit c [] messages e k = tt
mails_fit c (place ∷ places) [] e zero = tt
mails_fit c (place ∷ places) [] e (suc k) = no_mail (slice_get places k)
mails_fit c (place ∷ places) (m ∷ messages) e zero = fits_here place m (misfit_fits fault.Message c place.len m (both_none (misfit fault.Message c place.len m) _ e).0)
mails_fit c (place ∷ places) (m ∷ messages) e (suc k) = mails_fit (c + 1) places messages (both_none (misfit fault.Message c place.len m) _ e).1 k

-- Rows with one more.
use Rattle.std.proofs.Common.{◌≡◌, ◌≢◌, ℕ, ◌==◌, true, List, [], ◌∷◌, ◌++◌, length, map, refl, ap, inl, inr, arith}
use Rattle.std.specs.Prelude.{codes}
use Rattle.std.proofs.lemmas.Bool.Decides.{nat_tests}
use Rattle.redn_words.specs.declared.types.Receive.{Receive}
use Rattle.redn_image.specs.declared.numbers.QueueNumbers.{QueueNumbers}
use Rattle.redn_image.specs.declared.numbers.RegionNumbers.{RegionNumbers}
use Rattle.redn_image.specs.Rules.{Numbers}
use Rattle.redn_disasm.specs.Assembly.{GivenRows, GivesQueue, GivesReceive, GivesRegion, Leads, Progress, queue_formats, queue_values, receive_formats, receive_values, region_formats, region_values}
use Rattle.redn_disasm.specs.Fields.{IsRow}
use Rattle.redn_disasm.proofs.OneValue.{one_number}

abbrev pub rows_of : List RegionNumbers → List QueueNumbers → List Receive → ℕ → Numbers
rows_of rs qs cs size = record { regions = rs; queues = qs; receives = cs; size = size }

pub map_one : {X Y : Type 0} (f : X → Y) (xs : List X) (x : X) → map f (xs ++ x ∷ []) ≡ map f xs ++ f x ∷ []
map_one f [] x = refl
map_one f (y ∷ xs) x = ap (λ (l : List _). f y ∷ l) (map_one f xs x)

pub empty_list : {X Y : Type 0} (f : X → Y) (xs : List X) → length xs ≡ 0 → map f xs ≡ []
empty_list f [] h = refl
empty_list f (x ∷ xs) h = absurd (omega arith)

pub no_items : {X : Type 0} (xs : List X) → length xs ≡ 0 → xs ≡ []
no_items [] h = refl
no_items (x ∷ xs) h = absurd (omega arith)

pub region_given : (rs now : List RegionNumbers) (qs : List QueueNumbers) (cs : List Receive) (size : ℕ) (line : List ℕ) (r : RegionNumbers) → IsRow (codes "region") region_formats line (region_values r) → qs ≡ [] → cs ≡ [] → now ≡ rs ++ r ∷ [] → GivesRegion (rows_of rs qs cs size) line (GivenRows (rows_of now qs cs size))
region_given rs now qs cs size line r row no_q no_c e = (r, row, no_q, no_c, ap (λ (l : List RegionNumbers). GivenRows (rows_of l qs cs size)) e)

pub queue_given : (rs : List RegionNumbers) (qs now : List QueueNumbers) (cs : List Receive) (size k : ℕ) (line : List ℕ) (q : QueueNumbers) → IsRow (codes "queue") queue_formats line (queue_values k q) → k ≡ length qs → cs ≡ [] → now ≡ qs ++ q ∷ [] → GivesQueue (rows_of rs qs cs size) line (GivenRows (rows_of rs now cs size))
queue_given rs qs now cs size k line q row is no_c e = (q, rw (← is) row, no_c, ap (λ (l : List QueueNumbers). GivenRows (rows_of rs l cs size)) e)

pub receive_given : (rs : List RegionNumbers) (qs : List QueueNumbers) (cs now : List Receive) (size k : ℕ) (line : List ℕ) (r : Receive) → IsRow (codes "receive") receive_formats line (receive_values k r) → k ≡ length cs → now ≡ cs ++ r ∷ [] → GivesReceive (rows_of rs qs cs size) line (GivenRows (rows_of rs qs now size))
receive_given rs qs cs now size k line r row is e = (r, rw (← is) row, ap (λ (l : List Receive). GivenRows (rows_of rs qs l size)) e)

-- a line of another number
pub no_queue : (n : Numbers) (line : List ℕ) (k : ℕ) (q : QueueNumbers) → IsRow (codes "queue") queue_formats line (queue_values k q) → k ≢ length n.queues → (after : Progress) → GivesQueue n line after → ⊥
no_queue n line k q row other after h = other (one_number (codes "queue") queue_formats line k (length n.queues) (q.domain ∷ q.managed ∷ q.base ∷ q.slots ∷ q.limit ∷ []) (h.0.domain ∷ h.0.managed ∷ h.0.base ∷ h.0.slots ∷ h.0.limit ∷ []) row h.1)

pub no_receive : (n : Numbers) (line : List ℕ) (k : ℕ) (r : Receive) → IsRow (codes "receive") receive_formats line (receive_values k r) → k ≢ length n.receives → (after : Progress) → GivesReceive n line after → ⊥
no_receive n line k r row other after h = other (one_number (codes "receive") receive_formats line k (length n.receives) (r.base ∷ r.len ∷ []) (h.0.base ∷ h.0.len ∷ []) row h.1)

-- a line that adds nothing
pub no_lead : (n : Numbers) (line : List ℕ) → ((after : Progress) → GivesRegion n line after → ⊥) → ((after : Progress) → GivesQueue n line after → ⊥) → ((after : Progress) → GivesReceive n line after → ⊥) → (after : Progress) → Leads (GivenRows n) line after → ⊥
unfolding Leads
no_lead n line a b c after (inl h) = a after h
no_lead n line a b c after (inr (inl h)) = b after h
no_lead n line a b c after (inr (inr h)) = c after h

pub is_none : (n m : ℕ) → (n == 0) ≡ true → m ≡ n → m ≡ 0
is_none n m e f = grind (arith, nat_tests)

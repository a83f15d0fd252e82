-- Rows that keep the rules, and what is filled in behind them.
use Rattle.std.proofs.Common.{◌≡◌, ℕ, ◌+◌, ◌≤◌, Bool, List, [], ◌∷◌, ◌++◌, length, map, refl, sym, ap, subst, ◌∙◌}
use Rattle.std.specs.Prelude.{◌⊎◌, nat_le, nat_lt, Ok, Err, Result, MatchResult, None, Some, if◌then◌else◌, replicate}
use Rattle.std.proofs.lemmas.Bool.{and_parts, leb-true}
use Rattle.std.proofs.lemmas.List.{length-replicate}
use Rattle.redn_words.specs.declared.types.QueueRow.{QueueRow}
use Rattle.redn_words.specs.declared.types.Receive.{Receive}
use Rattle.redn_words.specs.declared.types.Region.{Region}
use Rattle.redn_image.specs.declared.numbers.Fault.{Fault}
use Rattle.redn_image.specs.declared.numbers.QueueNumbers.{QueueNumbers}
use Rattle.redn_image.specs.declared.numbers.RegionNumbers.{RegionNumbers}
use Rattle.redn_image.specs.Rules.{Image, Numbers, Obeys, fault_at, faults, first_of, header_faults, numbers_of, parts_of, queue_numbers, region_numbers, row_faults}
use Rattle.redn_image.proofs.Bounds.{header_small}
use Rattle.redn_image.proofs.Kept.{kept}
use Rattle.redn_disasm.specs.declared.assembler.ListFault.{ListFault}
use Rattle.redn_disasm.specs.declared.assembler.ListFault.TheVariants.{Line, Rule, Memory}
use Rattle.redn_disasm.specs.Assembly.{Begun, BreaksRule, ComesTo, Filled, GivenRows, Leads, Made, Outcome, Progress, WrongLine, all_places, held, settled}
use Rattle.redn_text.specs.Texts.{lines_of}
use Rattle.redn_disasm.specs.Going.{BreaksFirst, FillsNext, IsFresh, Refuses, SaysWhy}
use Rattle.redn_disasm.specs.Holding.{StandFor, StandsForQueue, StandsForRegion}
use Rattle.redn_disasm.proofs.FirstFaults.{same_count, same_first, same_queues, same_regions}
use Rattle.redn_disasm.proofs.Steps.{rows_of}

none_first : (xs : List Fault) → first_of xs ≡ None → xs ≡ []
none_first [] h = refl
none_first (f ∷ xs) h = absurd (cc)

first_front : (xs ys : List Fault) (f : Fault) → first_of xs ≡ Some f → first_of (xs ++ ys) ≡ Some f
first_front [] ys f h = absurd (cc)
first_front (x ∷ xs) ys f h = h

-- a broken rule of the header comes first
pub header_first : (n : Numbers) (f : Fault) → first_of (header_faults (length n.regions) (length n.queues) (length n.receives) 0 n.size) ≡ Some f → first_of (faults n) ≡ Some f
unfolding faults
header_first n f h = first_front (header_faults (length n.regions) (length n.queues) (length n.receives) 0 n.size) (row_faults n) f h

rows_first : (n : Numbers) → header_faults (length n.regions) (length n.queues) (length n.receives) 0 n.size ≡ [] → faults n ≡ row_faults n
unfolding faults
rows_first n h = ap (λ (l : List Fault). l ++ row_faults n) h

few_receives : (r q c z m : ℕ) → header_faults r q c z m ≡ [] → c ≤ 16
few_receives r q c z m h = leb-true c 16 (and_parts (nat_lt 0 c) (nat_le c 16) (header_small r q c z m h).2).1

-- rows that stand for others have their first fault
pub same_fault : (rs ss : List RegionNumbers) (qs us : List QueueNumbers) (cs : List Receive) (size : ℕ) → header_faults (length rs) (length qs) (length cs) 0 size ≡ [] → StandFor StandsForRegion rs ss → StandFor StandsForQueue qs us → first_of (faults (rows_of rs qs cs size)) ≡ first_of (faults (rows_of ss us cs size))
same_fault rs ss qs us cs size h g k =
    let few = few_receives (length rs) (length qs) (length cs) 0 size h in
    let other : header_faults (length ss) (length us) (length cs) 0 size ≡ [] = sym (ap (λ (n : ℕ). header_faults n (length qs) (length cs) 0 size) (same_count StandsForRegion rs ss g) ∙ ap (λ (n : ℕ). header_faults (length ss) n (length cs) 0 size) (same_count StandsForQueue qs us k)) ∙ h in
    ap first_of (rows_first (rows_of rs qs cs size) h) ∙ same_first rs ss qs us cs size few g k ∙ sym (ap first_of (rows_first (rows_of ss us cs size) other))

-- and are those where they have none
pub same_rows : (rs ss : List RegionNumbers) (qs us : List QueueNumbers) (cs : List Receive) (size : ℕ) → header_faults (length rs) (length qs) (length cs) 0 size ≡ [] → StandFor StandsForRegion rs ss → StandFor StandsForQueue qs us → first_of (faults (rows_of rs qs cs size)) ≡ None → rows_of ss us cs size ≡ rows_of rs qs cs size
same_rows rs ss qs us cs size h g k e =
    let few = few_receives (length rs) (length qs) (length cs) 0 size h in
    let none : row_faults (rows_of rs qs cs size) ≡ [] = none_first (row_faults (rows_of rs qs cs size)) (sym (ap first_of (rows_first (rows_of rs qs cs size) h)) ∙ e) in
    let all = kept (rows_of rs qs cs size) none in
    ap (λ (l : List RegionNumbers). rows_of l us cs size) (same_regions [] rs ss g all.kinds all.rights) ∙ ap (λ (l : List QueueNumbers). rows_of rs l cs size) (same_queues (length cs) [] qs us few k all.owners)

-- what rows come to once they are held
pub held_comes : (k : ℕ) (n : Numbers) (text : List ℕ) (out : Outcome) → FillsNext text → first_of (faults n) ≡ None → ComesTo k (Filled n (all_places 0 n.queues) (replicate n.size 0)) (lines_of text) out → ComesTo k (GivenRows n) (lines_of text) out
held_comes k n text out f none h =
    let A : Progress → Type 0 = λ r. ((after : Progress) × Leads r f.line after × ComesTo (k + 1) after f.behind out) ⊎ (((after : Progress) → ¬ Leads r f.line after) × (out ≡ WrongLine k)) in
    let B : Fault → Type 0 = λ g. out ≡ BreaksRule g in
    let here : ComesTo k (Filled n (all_places 0 n.queues) (replicate n.size 0)) (f.line ∷ f.behind) out = subst (λ (ls : List (List ℕ)). ComesTo k (Filled n (all_places 0 n.queues) (replicate n.size 0)) ls out) f.first h in
    let is : settled (GivenRows n) f.line ≡ Ok (Filled n (all_places 0 n.queues) (replicate n.size 0)) = ap (λ (b : Bool). if b then held n (first_of (faults n)) else Ok (GivenRows n)) f.filling ∙ ap (held n) none in
    subst (λ (ls : List (List ℕ)). ComesTo k (GivenRows n) ls out) (sym f.first) (subst (λ (r : Result Progress Fault). MatchResult r A B) (sym is) here)

pub counted : (n : Numbers) (a b c : ℕ) → a ≡ length n.regions → b ≡ length n.queues → c ≡ length n.receives → header_faults a b c 0 n.size ≡ header_faults (length n.regions) (length n.queues) (length n.receives) 0 n.size
counted n a b c e f g =
    ap (λ (x : ℕ). header_faults x b c 0 n.size) e ∙ ap (λ (x : ℕ). header_faults (length n.regions) x c 0 n.size) f ∙ ap (λ (x : ℕ). header_faults (length n.regions) (length n.queues) x 0 n.size) g

sized : (n : Numbers) (memory : List ℕ) → memory ≡ replicate n.size 0 → length memory ≡ n.size
sized n memory e = ap length e ∙ length-replicate n.size 0

-- rows that stand for these, with a memory of zeros
pub hold_fresh : (n : Numbers) (regions : List Region) (queues : List QueueRow) (memory : List ℕ) (i : Image) → header_faults (length n.regions) (length n.queues) (length n.receives) 0 n.size ≡ [] → StandFor StandsForRegion n.regions (map region_numbers regions) → StandFor StandsForQueue n.queues (map queue_numbers queues) → memory ≡ replicate n.size 0 → i ≡ parts_of regions queues n.receives memory → Obeys (parts_of regions queues n.receives memory) → IsFresh n i
hold_fresh n regions queues memory i h g k e is obeys =
    let rows : ℕ → Numbers = rows_of (map region_numbers regions) (map queue_numbers queues) n.receives in
    let none : faults (rows n.size) ≡ [] = sym (ap (λ (x : ℕ). faults (rows x)) (sized n memory e)) ∙ obeys in
    let first : first_of (faults n) ≡ None = same_fault n.regions (map region_numbers regions) n.queues (map queue_numbers queues) n.receives n.size h g k ∙ ap first_of none in
    record {
      keeps = first;
      rows = ap numbers_of is ∙ ap rows (sized n memory e) ∙ same_rows n.regions (map region_numbers regions) n.queues (map queue_numbers queues) n.receives n.size h g k first;
      memory = ap (λ (x : Image). x.memory) is ∙ e;
    }

pub hold_broken : (n : Numbers) (regions : List Region) (queues : List QueueRow) (memory : List ℕ) (f : Fault) → header_faults (length n.regions) (length n.queues) (length n.receives) 0 n.size ≡ [] → StandFor StandsForRegion n.regions (map region_numbers regions) → StandFor StandsForQueue n.queues (map queue_numbers queues) → memory ≡ replicate n.size 0 → first_of (faults (numbers_of (parts_of regions queues n.receives memory))) ≡ Some f → first_of (faults n) ≡ Some f
hold_broken n regions queues memory f h g k e some =
    let rows : ℕ → Numbers = rows_of (map region_numbers regions) (map queue_numbers queues) n.receives in
    same_fault n.regions (map region_numbers regions) n.queues (map queue_numbers queues) n.receives n.size h g k ∙ ap first_of (sym (ap (λ (x : ℕ). faults (rows x)) (sized n memory e))) ∙ some

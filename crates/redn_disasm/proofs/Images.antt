-- An image is known by its numbers and its memory, and so by its listing.
use Rattle.std.proofs.Common.{◌≡◌, ℕ, ◌<◌, ◌≤◌, List, ◌++◌, length, get_or, refl, sym, ap, subst, ◌∙◌, inl, inr, arith}
use Rattle.std.specs.Prelude.{IfErr, IfOk, MatchResult, Ok, Err, Result}
use Rattle.std.specs.List.{All, flat_map}
use Rattle.std.proofs.lemmas.Bool.{cases_lt}
use Rattle.std.proofs.lemmas.List.{get_or_past, length-map}
use Rattle.std.proofs.lemmas.List.Folds.{flat_map-map}
use Rattle.redn_words.proofs.Digits.{AreBytes}
use Rattle.redn_image.specs.Rules.{Image, Numbers, Obeys, fault_at, faults, numbers_of, queue_numbers, region_numbers}
use Rattle.redn_image.specs.Spelling.{spelled_header, spelled_queue, spelled_receive, spelled_region, spelling}
use Rattle.redn_image.proofs.OneSpelling.{one_image}
use Rattle.redn_disasm.specs.declared.assembler.ListFault.{ListFault}
use Rattle.redn_disasm.specs.declared.assembler.ListFault.TheVariants.{Line, Rule, Memory}
use Rattle.redn_disasm.specs.Assembly.{Assembles, Begun, BreaksRule, Made, WrongLine}
use Rattle.redn_text.specs.Texts.{lines_of}
use Rattle.redn_disasm.specs.Going.{SaysWhy}
use Rattle.redn_disasm.specs.Listing.{IsListing}
use Rattle.redn_disasm.proofs.OneOutcome.{one_outcome}
use Rattle.redn_disasm.proofs.Short.{listing_short}
use Rattle.redn_disasm.proofs.Whole.{read_back}

abbrev spelled_by : Numbers → List ℕ → List ℕ
spelled_by n m =
    spelled_header (length n.regions) (length n.queues) (length n.receives) (length m) ++ flat_map spelled_region n.regions ++ flat_map spelled_queue n.queues ++ flat_map spelled_receive n.receives ++ m

spelling_by : (i : Image) → spelling i ≡ spelled_by (numbers_of i) i.memory
unfolding spelling
spelling_by i =
    let r = flat_map-map spelled_region region_numbers i.regions in
    let q = flat_map-map spelled_queue queue_numbers i.queues in
    let nr = length-map i.regions region_numbers in
    let nq = length-map i.queues queue_numbers in
    cc (r, q, nr, nq)

same_image : (i j : Image) → Obeys i → numbers_of j ≡ numbers_of i → j.memory ≡ i.memory → j ≡ i
same_image i j e n m =
    let same : spelling i ≡ spelling j = spelling_by i ∙ sym (ap (λ (x : Numbers). spelled_by x i.memory) n) ∙ sym (ap (spelled_by (numbers_of j)) m) ∙ sym (spelling_by j) in
    one_image (spelling i) j i (record { bytes_are = same; obeys = ap faults n ∙ e }) (record { bytes_are = refl; obeys = e })

are_bytes : (xs : List ℕ) → All (λ b. b < 256) xs → AreBytes xs
are_bytes xs h k =
    elim (cases_lt k (length xs)) [
      | inl low ↦ h k 0 low
      | inr high ↦ let e : get_or xs k 0 ≡ 0 = get_or_past xs k 0 high in omega (arith, e)
    ]

pub listed : (text : List ℕ) (i : Image) → IsListing text i → Assembles text (Made (numbers_of i) i.memory)
listed text i l = subst (λ (t : List ℕ). Assembles t (Made (numbers_of i) i.memory)) (sym l.is) (read_back i l.obeys (are_bytes i.memory l.bytes))

pub listed_alone : (text : List ℕ) (i j : Image) → IsListing text i → Assembles text (Made (numbers_of j) j.memory) → j ≡ i
listed_alone text i j l h =
    let same : Made (numbers_of j) j.memory ≡ Made (numbers_of i) i.memory = one_outcome 1 Begun (lines_of text) (Made (numbers_of j) j.memory) (Made (numbers_of i) i.memory) h (listed text i l) in
    let rows : numbers_of j ≡ numbers_of i = cc in
    let memory : j.memory ≡ i.memory = cc in
    same_image i j l.obeys rows memory

pub listed_short : (text : List ℕ) (i : Image) → IsListing text i → length text ≤ 268435456
listed_short text i l = subst (λ (t : List ℕ). length t ≤ 268435456) (sym l.is) (listing_short i l.obeys (are_bytes i.memory l.bytes))

-- what is read of a listing is its image
pub read_alone : (text : List ℕ) (r : Result Image ListFault) (i : Image) → IfOk r (λ j. Assembles text (Made (numbers_of j) j.memory)) → IfErr r (SaysWhy text) → IsListing text i → MatchResult r (λ j. j ≡ i) (λ e. e ≡ Memory)
read_alone text (Ok j) i h g l = listed_alone text i j l h
read_alone text (Err (Line k)) i h g l =
    let same = one_outcome 1 Begun (lines_of text) (WrongLine k) (Made (numbers_of i) i.memory) g (listed text i l) in
    absurd (cc)
read_alone text (Err (Rule number index)) i h g l =
    let same = one_outcome 1 Begun (lines_of text) (BreaksRule (fault_at number index)) (Made (numbers_of i) i.memory) g (listed text i l) in
    absurd (cc)
read_alone text (Err Memory) i h g l = refl

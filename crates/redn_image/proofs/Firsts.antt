-- The first fault of an image is that of its header, or else that of its rows.
use Rattle.std.proofs.Common.{◌≡◌, ℕ, true, false, List, [], ◌∷◌, ◌++◌, Option, Some, None, length, map, refl, sym, ap, ◌∙◌}
use Rattle.std.specs.Option.{is_some, option_or}
use Rattle.std.proofs.lemmas.List.{length-map}
use Rattle.redn_image.specs.Rules.{Image, Fault, RegionNumbers, QueueNumbers, faults, first_of, header_faults, numbers_of, queue_numbers, region_numbers, row_faults}
use Rattle.redn_image.proofs.Faults.{first_append}

-- no first one, so none
pub none_first : (fs : List Fault) → None ≡ first_of fs → fs ≡ []
none_first [] e = refl
none_first (f ∷ fs) e = absurd (cc)

abbrev pub its_header : Image → List Fault
its_header i = header_faults (length i.regions) (length i.queues) (length i.receives) 0 (length i.memory)

faults_parts : (i : Image) → faults (numbers_of i) ≡ its_header i ++ row_faults (numbers_of i)
unfolding faults
faults_parts i =
    ap (λ (n : ℕ). header_faults n (length (map queue_numbers i.queues)) (length i.receives) 0 (length i.memory) ++ row_faults (numbers_of i)) (length-map i.regions region_numbers)
    ∙ ap (λ (n : ℕ). header_faults (length i.regions) n (length i.receives) 0 (length i.memory) ++ row_faults (numbers_of i)) (length-map i.queues queue_numbers)

first_parts : (i : Image) → first_of (faults (numbers_of i)) ≡ option_or (first_of (its_header i)) (first_of (row_faults (numbers_of i)))
first_parts i = ap first_of (faults_parts i) ∙ first_append (its_header i) (row_faults (numbers_of i))

pub in_header : (i : Image) (o : Option Fault) → is_some o ≡ true → o ≡ first_of (its_header i) → o ≡ first_of (faults (numbers_of i))
in_header i None some e = absurd (cc)
in_header i (Some f) some e = sym (first_parts i ∙ ap (λ (h : Option Fault). option_or h (first_of (row_faults (numbers_of i)))) (sym e))

behind_header : (i : Image) (o h : Option Fault) → is_some h ≡ false → h ≡ first_of (its_header i) → o ≡ first_of (row_faults (numbers_of i)) → o ≡ first_of (faults (numbers_of i))
behind_header i o (Some f) none is e = absurd (cc)
behind_header i o None none is e = e ∙ sym (first_parts i ∙ ap (λ (h : Option Fault). option_or h (first_of (row_faults (numbers_of i)))) (sym is))

pub in_rows : (i : Image) (regions : List RegionNumbers) (queues : List QueueNumbers) (o h : Option Fault) → is_some h ≡ false → h ≡ first_of (its_header i) → regions ≡ map region_numbers i.regions → queues ≡ map queue_numbers i.queues
    → o ≡ first_of (row_faults (record { regions = regions; queues = queues; receives = i.receives; size = length i.memory })) → o ≡ first_of (faults (numbers_of i))
in_rows i regions queues o h none is rs qs e =
    behind_header i o h none is
    (e ∙ ap (λ (l : List RegionNumbers). first_of (row_faults (record { regions = l; queues = queues; receives = i.receives; size = length i.memory }))) rs
    ∙ ap (λ (l : List QueueNumbers). first_of (row_faults (record { regions = map region_numbers i.regions; queues = l; receives = i.receives; size = length i.memory }))) qs)

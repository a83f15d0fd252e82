-- The lines of slots, one after the other.
use Rattle.std.proofs.Common.{◌≡◌, ◌≢◌, ℕ, suc, ◌+◌, ◌-◌, ◌*◌, ◌<◌, ◌≤◌, List, [], ◌∷◌, ◌++◌, length, refl, sym, ap, subst, arith}
use Rattle.std.specs.Prelude.{codes}
use Rattle.redn_words.specs.declared.types.Request.{Request}
use Rattle.redn_words.specs.Requests.{encoded}
use Rattle.redn_words.specs.Words.{with_bytes_at}
use Rattle.redn_image.specs.Rules.{Numbers}
use Rattle.redn_disasm.specs.Assembly.{ComesTo, Filled, Leads, Place, Progress, WrongLine, places_from, slot_formats, slot_values}
use Rattle.redn_text.specs.Texts.{lines_of}
use Rattle.redn_disasm.specs.Fields.{IsRow}
use Rattle.redn_disasm.specs.Going.{GoesOn}
use Rattle.redn_disasm.proofs.Going.{goes_missing, goes_more, goes_none, goes_wrong}
use Rattle.redn_disasm.proofs.OneValue.{one_row}

abbrev pub place_of : ℕ → ℕ → ℕ → Place
place_of k base i = record { queue = k; index = i; at = base + 64 * i }

pub next_place : (k base i slots : ℕ) → i < slots → places_from k base i (slots - i) ≡ place_of k base i ∷ places_from k base (i + 1) (slots - (i + 1))
next_place k base i slots h = let e : slots - i ≡ suc (slots - (i + 1)) = omega arith in ap (places_from k base i) e

pub last_place : (k base i slots : ℕ) → slots ≤ i → places_from k base i (slots - i) ≡ []
last_place k base i slots h = let e : slots - i ≡ 0 = omega arith in ap (places_from k base i) e

leads_slot : (n : Numbers) (place : Place) (slots : List Place) (memory line : List ℕ) (r : Request) → IsRow (codes "slot") slot_formats line (slot_values place.queue place.index r) → Leads (Filled n (place ∷ slots) memory) line (Filled n slots (with_bytes_at memory place.at (encoded r)))
unfolding Leads
leads_slot n place slots memory line r row = (r, row, refl)

none_slot : (n : Numbers) (place : Place) (slots : List Place) (memory line : List ℕ) → ((r : Request) → IsRow (codes "slot") slot_formats line (slot_values place.queue place.index r) → ⊥) → (after : Progress) → Leads (Filled n (place ∷ slots) memory) line after → ⊥
unfolding Leads
none_slot n place slots memory line none after h = none h.0 h.1

-- what the whole text comes to, once slots up to i are read
abbrev pub Slots : ℕ → List ℕ → ℕ → ℕ → ℕ → List ℕ → ℕ → List ℕ → List ℕ → ℕ → Numbers → List Place → Type 0
Slots first text k base slots whole line rest memory i n others =
    GoesOn first (Filled n (places_from k base 0 slots ++ others) whole) text line (Filled n (places_from k base i (slots - i) ++ others) memory) rest

at_next : (first : ℕ) (text : List ℕ) (k base slots : ℕ) (whole : List ℕ) (line : ℕ) (rest memory : List ℕ) (i : ℕ) (n : Numbers) (others : List Place) → i < slots → Slots first text k base slots whole line rest memory i n others → GoesOn first (Filled n (places_from k base 0 slots ++ others) whole) text line (Filled n (place_of k base i ∷ (places_from k base (i + 1) (slots - (i + 1)) ++ others)) memory) rest
at_next first text k base slots whole line rest memory i n others low g =
    subst (λ (l : List Place). GoesOn first (Filled n (places_from k base 0 slots ++ others) whole) text line (Filled n l memory) rest) (ap (λ (l : List Place). l ++ others) (next_place k base i slots low)) g

pub slot_read : (first : ℕ) (text : List ℕ) (k base slots : ℕ) (whole : List ℕ) (line : ℕ) (rest memory : List ℕ) (i : ℕ) (slot behind now : List ℕ) (r : Request) → i < slots → ((n : Numbers) (others : List Place) → Slots first text k base slots whole line rest memory i n others) → lines_of rest ≡ slot ∷ lines_of behind → length behind < length rest → IsRow (codes "slot") slot_formats slot (slot_values k i r) → now ≡ with_bytes_at memory (base + 64 * i) (encoded r) → (n : Numbers) (others : List Place) → Slots first text k base slots whole (line + 1) behind now (i + 1) n others
slot_read first text k base slots whole line rest memory i slot behind now r low g e short row is n others =
    let here = at_next first text k base slots whole line rest memory i n others low (g n others) in
    let after = goes_more first (Filled n (places_from k base 0 slots ++ others) whole) text line _ rest slot behind _ here e short refl (leads_slot n (place_of k base i) (places_from k base (i + 1) (slots - (i + 1)) ++ others) memory slot r row) in
    subst (λ (m : List ℕ). Slots first text k base slots whole (line + 1) behind m (i + 1) n others) (sym is) after

pub slot_missing : (first : ℕ) (text : List ℕ) (k base slots : ℕ) (whole : List ℕ) (line : ℕ) (rest memory : List ℕ) (i : ℕ) → ((n : Numbers) (others : List Place) → Slots first text k base slots whole line rest memory i n others) → lines_of rest ≡ [] → (n : Numbers) (others : List Place) → ComesTo first (Filled n (places_from k base 0 slots ++ others) whole) (lines_of text) (WrongLine line)
slot_missing first text k base slots whole line rest memory i g e n others = goes_missing first _ text line _ rest (g n others) e refl

pub slot_wrong : (first : ℕ) (text : List ℕ) (k base slots : ℕ) (whole : List ℕ) (line : ℕ) (rest memory : List ℕ) (i : ℕ) (slot behind : List ℕ) → i < slots → ((n : Numbers) (others : List Place) → Slots first text k base slots whole line rest memory i n others) → lines_of rest ≡ slot ∷ lines_of behind → ((r : Request) → IsRow (codes "slot") slot_formats slot (slot_values k i r) → ⊥) → (n : Numbers) (others : List Place) → ComesTo first (Filled n (places_from k base 0 slots ++ others) whole) (lines_of text) (WrongLine line)
slot_wrong first text k base slots whole line rest memory i slot behind low g e none n others =
    let here = at_next first text k base slots whole line rest memory i n others low (g n others) in
    goes_wrong first (Filled n (places_from k base 0 slots ++ others) whole) text line _ rest slot behind here e refl (none_slot n (place_of k base i) (places_from k base (i + 1) (slots - (i + 1)) ++ others) memory slot none)

pub ring_read : (first : ℕ) (text : List ℕ) (k base slots : ℕ) (whole : List ℕ) (line : ℕ) (rest memory : List ℕ) (i : ℕ) → slots ≤ i → ((n : Numbers) (others : List Place) → Slots first text k base slots whole line rest memory i n others) → (n : Numbers) (others : List Place) → GoesOn first (Filled n (places_from k base 0 slots ++ others) whole) text line (Filled n others memory) rest
ring_read first text k base slots whole line rest memory i past g n others =
    subst (λ (l : List Place). GoesOn first (Filled n (places_from k base 0 slots ++ others) whole) text line (Filled n l memory) rest) (ap (λ (l : List Place). l ++ others) (last_place k base i slots past)) (g n others)

abbrev first_of_values : List ℕ → ℕ
first_of_values [] = 0
first_of_values (x ∷ xs) = x

abbrev second_of_values : List ℕ → ℕ
second_of_values [] = 0
second_of_values (x ∷ xs) = first_of_values xs

-- a line of another queue or index
pub other_queue : (line : List ℕ) (k j i h : ℕ) (r : Request) → IsRow (codes "slot") slot_formats line (slot_values j h r) → j ≢ k → (s : Request) → IsRow (codes "slot") slot_formats line (slot_values k i s) → ⊥
other_queue line k j i h r row apart s other = apart (ap first_of_values (one_row (codes "slot") slot_formats line (slot_values j h r) (slot_values k i s) row other))

pub other_index : (line : List ℕ) (k j i h : ℕ) (r : Request) → IsRow (codes "slot") slot_formats line (slot_values j h r) → h ≢ i → (s : Request) → IsRow (codes "slot") slot_formats line (slot_values k i s) → ⊥
other_index line k j i h r row apart s other = apart (ap second_of_values (one_row (codes "slot") slot_formats line (slot_values j h r) (slot_values k i s) row other))

pub slots_none : (first : ℕ) (text : List ℕ) (k base slots : ℕ) (whole : List ℕ) (n : Numbers) (others : List Place) → Slots first text k base slots whole first text whole 0 n others
slots_none first text k base slots whole n others =
    let e : slots ≡ slots - 0 = omega arith in
    subst (λ (m : ℕ). GoesOn first (Filled n (places_from k base 0 slots ++ others) whole) text first (Filled n (places_from k base 0 m ++ others) whole) text) e (goes_none first (Filled n (places_from k base 0 slots ++ others) whole) text)

pub same_numbers : (line : List ℕ) (k j i h : ℕ) (r : Request) → IsRow (codes "slot") slot_formats line (slot_values j h r) → j ≡ k → h ≡ i → IsRow (codes "slot") slot_formats line (slot_values k i r)
same_numbers line k j i h r row e f = subst (λ (a : ℕ). IsRow (codes "slot") slot_formats line (slot_values k a r)) f (subst (λ (a : ℕ). IsRow (codes "slot") slot_formats line (slot_values a h r)) e row)

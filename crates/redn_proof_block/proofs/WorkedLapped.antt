-- Names and descriptors of a ring of two segments, which turns a word over in its second one and then opens ring 2.
use Rattle.std.proofs.Common.{◌≡◌, ℕ, ◌+◌, ◌*◌, ◌^◌, ◌==◌, true, false, List, [], ◌∷◌, map, refl}
use Rattle.redn_words.specs.Words.{number, spelled}
use Rattle.redn_kernel.specs.declared.types.Cell.TheVariants.{Var}
use Rattle.redn_segment.specs.declared.types.Draft.{Draft}
use Rattle.redn_segment.specs.declared.types.Site.TheVariants as site
use Rattle.redn_segment.specs.declared.types.Space.TheVariants as space
use Rattle.redn_segment.specs.Drafts.{copy, choose}
use Rattle.redn_recycle.specs.Laps.{slot_of}
use Rattle.redn_proof_block.specs.Names.{Rings, in_laps, set_aside, spares_all}
use Rattle.redn_proof_block.specs.Laps.{raised_by}

abbrev segments : List (List Draft)
segments = (copy (site.Cell (Var 0)) 0 (site.Cell (Var 1)) 8 ∷ []) ∷ (copy (site.Cell (Var 1)) 0 (site.Cell (Var 0)) 8 ∷ choose 2 (slot_of 1 3) ∷ []) ∷ []

-- ring 1 alone
abbrev rings : Rings
rings = record { is_ring = λ ring. ring == 1; segments = λ ring. segments }

-- behind the first segment stand two lap requests and two gates. The number behind the last draft is that of the last ENABLE, and other rings keep theirs
names : map (λ (i : ℕ). in_laps rings (slot_of 1 i)) (0 ∷ 1 ∷ 2 ∷ 3 ∷ []) ≡ slot_of 1 0 ∷ slot_of 1 5 ∷ slot_of 1 6 ∷ slot_of 1 10 ∷ []
names = refl

other_names : in_laps rings (slot_of 2 1) ≡ slot_of 2 1
other_names = refl

-- the own descriptor counts from the second segment on
apart : map (set_aside 1 0) (space.Descriptor 1 ∷ space.Descriptor 2 ∷ space.Scratch 2 ∷ space.Scratch 1 ∷ []) ≡ true ∷ false ∷ true ∷ false ∷ []
apart = refl

apart_later : map (set_aside 1 1) (space.Descriptor 1 ∷ space.Descriptor 2 ∷ space.Scratch 2 ∷ space.Scratch 1 ∷ []) ≡ false ∷ false ∷ true ∷ false ∷ []
apart_later = refl

chooses_itself : map (λ (j : ℕ). spares_all (set_aside 1 j) (choose 1 (slot_of 1 3))) (0 ∷ 1 ∷ []) ≡ false ∷ true ∷ []
chooses_itself = refl

-- ring 1 with limit 5, raised by its 11 slots
raised : raised_by 11 (spelled 16 (1 * 2 ^ 64 + 5)) ≡ spelled 16 (1 * 2 ^ 64 + 16)
unfolding number spelled
raised = refl

-- Walks as core statements, computed.
use Rattle.std.proofs.Common.{ℕ, List, [], ◌∷◌, refl, false, arith}
use Rattle.redn_words.specs.declared.types.Obs.TheVariants as shows
use Rattle.redn_words.specs.Words.{number, spelled}
use Rattle.redn_kernel.specs.declared.types.Word.TheVariants.{Var, Num}
use Rattle.redn_kernel.specs.declared.types.Cell.TheVariants as cell
use Rattle.redn_kernel.specs.declared.types.Core.{out-Core}
use Rattle.redn_kernel.specs.declared.types.Core.TheOpen.{Core-F}
use Rattle.redn_kernel.specs.declared.types.Core.TheBlock.{shown-the_row-Core-0}
use denote.Hole.Carrier as carrier
use Rattle.redn_kernel.specs.CoreRun.{core_does, core_item_does}
use Rattle.redn_kernel.proofs.WorkedCores.{Runs, before, words_of}
use Rattle.redn_walk.specs.Walk.{cores_of}
use Rattle.redn_kernel.specs.Uses.{UsesBelow}

-- nodes at 8 and 32, and the second leads back to the first
abbrev ring : List (List ℕ)
ring = words_of (0 ∷ 5 ∷ 50 ∷ 32 ∷ 7 ∷ 70 ∷ 8 ∷ [])

-- walk x = t[8] key k nodes 3: x is variable 0 and k variable 1
the_second_node_has_the_key : Runs ring 13 (before (1 ∷ 7 ∷ []) (cores_of 0 0 (Num 8) (Var 1) 3))
    (shows.Look 0 0 8 5 ∷ shows.Look 0 0 24 32 ∷ shows.Look 0 0 32 7 ∷ shows.Load 0 0 0 40 70 ∷ []) (70 ∷ 7 ∷ [])
unfolding core_does core_item_does number spelled out-Core carrier.out shown-the_row-Core-0 carrier.shown carrier.hidden
the_second_node_has_the_key = (refl, refl, refl, refl)

-- a walk that comes back to its beginning ends by its count
a_ring_ends_by_its_count : Runs ring 21 (before (1 ∷ 9 ∷ []) (cores_of 0 0 (Num 8) (Var 1) 3))
    (shows.Look 0 0 8 5 ∷ shows.Look 0 0 24 32 ∷ shows.Look 0 0 32 7 ∷ shows.Look 0 0 48 8 ∷ shows.Look 0 0 8 5 ∷ []) (1 ∷ 9 ∷ [])
unfolding core_does core_item_does number spelled out-Core carrier.out shown-the_row-Core-0 carrier.shown carrier.hidden
a_ring_ends_by_its_count = (refl, refl, refl, refl)

-- an offset of 0 ends the list
a_list_ends_at_0 : Runs (words_of (0 ∷ 5 ∷ 50 ∷ 0 ∷ [])) 11 (before (1 ∷ 9 ∷ []) (cores_of 0 0 (Num 8) (Var 1) 3))
    (shows.Look 0 0 8 5 ∷ shows.Look 0 0 24 0 ∷ []) (1 ∷ 9 ∷ [])
unfolding core_does core_item_does number spelled out-Core carrier.out shown-the_row-Core-0 carrier.shown carrier.hidden
a_list_ends_at_0 = (refl, refl, refl, refl)

-- the hidden words 0 and 1 are below 2, and 2 isn't
two_words_are_used : UsesBelow 2 (Core-F.Move (cell.Hidden 1) (cell.Hidden 0))
two_words_are_used = (omega arith, omega arith)

another_word_is_used : UsesBelow 2 (Core-F.If false (cell.Hidden 1) (cell.Hidden 2) [] []) → ⊥
another_word_is_used (left, right) = omega (arith, right)

-- Lookups as core statements, computed.
use Rattle.std.proofs.Common.{[], ◌∷◌, refl, arith}
use Rattle.redn_words.specs.declared.types.Obs.TheVariants as shows
use Rattle.redn_words.specs.Words.{number, spelled}
use Rattle.redn_kernel.specs.declared.types.Word.TheVariants.{Var, Num}
use Rattle.redn_kernel.specs.declared.types.Cell.TheVariants as cell
use Rattle.redn_kernel.specs.declared.types.Core.{out-Core}
use Rattle.redn_kernel.specs.declared.types.Core.TheOpen.{Core-F}
use Rattle.redn_kernel.specs.declared.types.Core.TheBlock.{shown-the_row-Core-0}
use denote.Hole.Carrier as carrier
use Rattle.redn_kernel.specs.CoreRun.{core_does, core_item_does}
use Rattle.redn_kernel.proofs.WorkedCores.{Runs, before, words_of}
use Rattle.redn_lookup.specs.Lookup.{cores_of}
use Rattle.redn_kernel.specs.Uses.{UsesBelow}

-- lookup x = t[o] key k probes 2: x is variable 0, o variable 1 and k variable 2
the_second_bucket_has_the_key : Runs (words_of (5 ∷ 50 ∷ 7 ∷ 70 ∷ [])) 5 (before (1 ∷ 0 ∷ 7 ∷ []) (cores_of 0 0 (Var 1) (Var 2) 1))
    (shows.Look 0 0 0 5 ∷ shows.Look 0 0 16 7 ∷ shows.Load 0 0 0 24 70 ∷ []) (70 ∷ 0 ∷ 7 ∷ [])
unfolding core_does core_item_does number spelled out-Core carrier.out shown-the_row-Core-0 carrier.shown carrier.hidden
the_second_bucket_has_the_key = (refl, refl, refl, refl)

-- a key behind the buckets that are looked at isn't found
too_few_probes : Runs (words_of (5 ∷ 50 ∷ 7 ∷ 70 ∷ [])) 2 (before (1 ∷ 0 ∷ 7 ∷ []) (cores_of 0 0 (Var 1) (Var 2) 0))
    (shows.Look 0 0 0 5 ∷ []) (1 ∷ 0 ∷ 7 ∷ [])
unfolding core_does core_item_does number spelled out-Core carrier.out shown-the_row-Core-0 carrier.shown carrier.hidden
too_few_probes = (refl, refl, refl, refl)

-- the first of two buckets with the key counts
the_first_bucket_counts : Runs (words_of (7 ∷ 70 ∷ 7 ∷ 71 ∷ [])) 3 (before (1 ∷ []) (cores_of 0 0 (Num 0) (Num 7) 3))
    (shows.Look 0 0 0 7 ∷ shows.Load 0 0 0 8 70 ∷ []) (70 ∷ [])
unfolding core_does core_item_does number spelled out-Core carrier.out shown-the_row-Core-0 carrier.shown carrier.hidden
the_first_bucket_counts = (refl, refl, refl, refl)

-- hidden word 0 is below 1, and 1 isn't
one_word_is_used : UsesBelow 1 (Core-F.Add (cell.Hidden 0) (cell.Num 16))
one_word_is_used = (omega arith, tt)

another_word_is_used : UsesBelow 1 (Core-F.Probe (cell.Var 0) 0 (cell.Hidden 1) (cell.Num 7) [] []) → ⊥
another_word_is_used (target, offset, key) = omega (arith, offset)

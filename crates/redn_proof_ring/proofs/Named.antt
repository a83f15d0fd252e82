-- Footprints of drafts whose slots have other names, of which no two are one.
use Rattle.std.proofs.Common.{◌≡◌, ℕ, suc, Bool, true, ◌&&◌, inl, inr, List, [], ◌∷◌, ◌++◌, map, refl, ap, ◌∙◌}
use Rattle.std.specs.Prelude.{Option, Some, None, slice_get}
use Rattle.std.specs.List.{list_all}
use Rattle.std.proofs.lemmas.Bool.{and_parts, and_from}
use Rattle.redn_segment.proofs.Sides.{IsSide}
use Rattle.redn_words.specs.declared.types.Opcode.{Opcode}
use Rattle.redn_words.specs.declared.types.Opcode.TheVariants.{Noop}
use Rattle.redn_segment.specs.declared.types.SlotRef.{SlotRef}
use Rattle.redn_segment.specs.declared.types.Side.{Side}
use Rattle.redn_segment.specs.declared.types.Space.{Space}
use Rattle.redn_segment.specs.declared.types.Draft.{Draft}
use Rattle.redn_segment.specs.Sites.{same_space, same_slot}
use Rattle.redn_segment.specs.Footprints.{local_by, remote_by, holds_of, both_sides, ends_inside, is_free, drafts_free, all_free}
use Rattle.redn_segment.specs.Renaming.{renamed_site, renamed_space, renamed}
use Rattle.redn_segment.proofs.Renamed.{table_renamed, start_renamed, size_renamed, in_slot_renamed, space_renamed}
use Rattle.redn_segment.proofs.Moved.{same_renamed}
use Rattle.redn_segment.proofs.Both.{all_append as all_of_both}

-- a test of both sides from one of each
pub both_from : (d : Draft) (test : Side → Bool) → ((a : Side) → IsSide d a → test a ≡ true) → both_sides test d ≡ true
both_from d test h = and_from (holds_of test (local_by d d.op)) (holds_of test (remote_by d d.op)) (one (local_by d d.op) (λ a e. h a (inl e))) (one (remote_by d d.op) (λ a e. h a (inr e)))
  where
    one : (o : Option Side) → ((a : Side) → o ≡ Some a → test a ≡ true) → holds_of test o ≡ true
    one None f = refl
    one (Some a) f = f a refl

-- a test of all from one of each, and the other way round
pub all_from : {X : Type 0} (test : X → Bool) (xs : List X) → ((k : ℕ) (x : X) → slice_get xs k ≡ Some x → test x ≡ true) → list_all test xs ≡ true
all_from test [] h = refl
all_from test (x ∷ xs) h = and_from (test x) (list_all test xs) (h 0 x refl) (all_from test xs (λ k y e. h (suc k) y e))

-- drafts and more drafts, each free of the others
pub free_of_both : (ds es : List Draft) → all_free ds ≡ true → all_free es ≡ true → list_all (λ (d : Draft). list_all (drafts_free d) es) ds ≡ true → all_free (ds ++ es) ≡ true
free_of_both [] es a b h = b
free_of_both (d ∷ ds) es a b h =
    let parts = and_parts (list_all (drafts_free d) ds) (all_free ds) a in
    let more = and_parts (list_all (drafts_free d) es) (list_all (λ (e : Draft). list_all (drafts_free e) es) ds) h in
    and_from (list_all (drafts_free d) (ds ++ es)) (all_free (ds ++ es)) (all_of_both (drafts_free d) ds es parts.0 more.0) (free_of_both ds es parts.1 b more.1)

module _ (f : SlotRef → SlotRef) where
  abbrev pub side_named : Side → Side
  side_named a = record a { site = renamed_site f a.site }

  local_named : (test : Side → Bool) (d : Draft) (o : Opcode) → holds_of test (local_by (renamed f d) o) ≡ holds_of (λ (a : Side). test (side_named a)) (local_by d o)
  local_named test d Noop = refl
  local_named test d _ = refl

  remote_named : (test : Side → Bool) (d : Draft) (o : Opcode) → holds_of test (remote_by (renamed f d) o) ≡ holds_of (λ (a : Side). test (side_named a)) (remote_by d o)
  remote_named test d Noop = refl
  remote_named test d _ = refl

  pub both_named : (test : Side → Bool) (d : Draft) → both_sides test (renamed f d) ≡ both_sides (λ (a : Side). test (side_named a)) d
  both_named test d = λ i. local_named test d d.op i && remote_named test d d.op i

  same_test : (test other : Side → Bool) (d : Draft) → ((a : Side) → test (side_named a) ≡ other a) → both_sides test (renamed f d) ≡ both_sides other d
  same_test test other d h = both_named test d ∙ ap (λ (t : Side → Bool). both_sides t d) (λ i a. h a i)

  inside_named : (a : Side) → ends_inside (side_named a) ≡ ends_inside a
  inside_named a = simp (table_renamed f, size_renamed f, in_slot_renamed f) refl

  all_named : (test other : Draft → Bool) (ds : List Draft) → ((d : Draft) → test (renamed f d) ≡ other d) → list_all test (map (renamed f) ds) ≡ list_all other ds
  all_named test other [] h = refl
  all_named test other (d ∷ ds) h = λ i. h d i && all_named test other ds h i

  pub ends_named : (ds : List Draft) → list_all (both_sides ends_inside) (map (renamed f) ds) ≡ list_all (both_sides ends_inside) ds
  ends_named ds = all_named (both_sides ends_inside) (both_sides ends_inside) ds (λ d. same_test ends_inside ends_inside d inside_named)

  module _ (apart : (p q : SlotRef) → same_slot (f p) (f q) ≡ same_slot p q) where
    free_sides : (a b : Side) → is_free (side_named a) (side_named b) ≡ is_free a b
    free_sides a b =
        let same : (p q : Space) → same_space (renamed_space f p) (renamed_space f q) ≡ same_space p q = same_renamed f apart in
        simp (table_renamed f, start_renamed f, space_renamed f, same) refl

    free_drafts : (d e : Draft) → drafts_free (renamed f d) (renamed f e) ≡ drafts_free d e
    free_drafts d e = same_test (λ (a : Side). both_sides (is_free a) (renamed f e)) (λ (a : Side). both_sides (is_free a) e) d (λ a. same_test (is_free (side_named a)) (is_free a) e (free_sides a))

    pub free_named : (ds : List Draft) → all_free (map (renamed f) ds) ≡ all_free ds
    free_named [] = refl
    free_named (d ∷ ds) = λ i. all_named (drafts_free (renamed f d)) (drafts_free d) ds (free_drafts d) i && free_named ds i

-- What a file under a name leaves of the others; and the files in a map from texts to vectors.
use Rattle.std.proofs.Common.{◌≡◌, Result, Ok, Err, ℕ, Bool, true, false, cond, List, [], ◌∷◌, ◌≢◌, map, refl, sym, ap, ◌∙◌, Option, Some, Vec, String, string_bytes}
use Rattle.std.specs.Option.{option_map}
use Rattle.std.specs.Ordering.{nat_cmp, is_eq, eq_by_cmp}
use Rattle.std.specs.Cmp.{eq_by_cmp_equiv, Equal-is}
use Rattle.std.specs.Cmp.Lexicographic.{slice_cmp, nat_list_cmp_total}
use Rattle.std.specs.Str.{bytes_eq}
use Rattle.std.specs.String.{string_cmp}
use Rattle.std.specs.Map.{lookup}
use Rattle.std.specs.BTreeMap.{BTreeMap, is_at, get_by_text, UpdatesBy}
use Rattle.std.specs.FinMap.{find, get-from_entries, get-insert, same_map, slice_cmp-IsAntisymmetric, nat_cmp-IsAntisymmetric}
use Rattle.std.proofs.lemmas.Map.Text.{is_eq-slice_cmp, btree_map_updates_text}
use Rattle.std.proofs.lemmas.Bool.{false_from_ne_true, cond-false}
use Rattle.redn_outside.specs.StoreState.{files_after_write}
use Rattle.redn_outside.specs.declared.store.WriteFault.{WriteFault}
use Rattle.redn_outside.specs.Files.{Files, file_at, with_file, files_in, OthersStay}

option_map-cond : {Z : Type 0} (b : Bool) (v : Vec ℕ Z) (o : Option (Vec ℕ Z)) → option_map (λ w. w.items) (cond b (Some v) o) ≡ cond b (Some v.items) (option_map (λ w. w.items) o)
option_map-cond true v o = refl
option_map-cond false v o = refl

module _ {Y Z : Type 0} where
  find-map : (q : List ℕ) (es : List (String Y × Vec ℕ Z)) → find (slice_cmp nat_cmp) q (map (λ e. (string_bytes e.0, e.1.items)) es) ≡ option_map (λ v. v.items) (lookup (is_at (λ k. slice_cmp nat_cmp q (string_bytes k))) es)
  find-map q [] = refl
  find-map q (e ∷ es) =
      ap (cond (is_eq (slice_cmp nat_cmp q (string_bytes e.0))) (Some e.1.items)) (find-map q es) ∙ sym (option_map-cond _ e.1 _)

  pub file_at-files_in : (m : BTreeMap (String Y) (Vec ℕ Z)) (q : List ℕ) → file_at (files_in m) q ≡ option_map (λ v. v.items) (get_by_text m q)
  file_at-files_in m q = get-from_entries nat_list_cmp_total _ q ∙ find-map q m.entries

  pub files_in-insert : (m n : BTreeMap (String Y) (Vec ℕ Z)) (name : List ℕ) (v : Vec ℕ Z) → UpdatesBy string_cmp (λ k. slice_cmp nat_cmp name (string_bytes k)) m n (Some v) → files_in n ≡ with_file name v.items (files_in m)
  files_in-insert m n name v updates =
      let same_test : (q : List ℕ) → eq_by_cmp (slice_cmp nat_cmp) q name ≡ bytes_eq name q = λ q. (eq_by_cmp_equiv nat_list_cmp_total).symm q name ∙ is_eq-slice_cmp name q in
      same_map nat_list_cmp_total (slice_cmp-IsAntisymmetric nat_cmp-IsAntisymmetric) _ _ (λ q.
      file_at-files_in n q
      ∙ ap (option_map (λ w. w.items)) (btree_map_updates_text name m n (Some v) updates q)
      ∙ option_map-cond (bytes_eq name q) v _
      ∙ sym (get-insert nat_list_cmp_total (files_in m) name v.items q ∙ (λ i. cond (same_test q i) (Some v.items) (file_at-files_in m q i))))

other_test : (name other : List ℕ) → other ≢ name → eq_by_cmp (slice_cmp nat_cmp) other name ≡ false
other_test name other apart = false_from_ne_true _ (λ same. apart (slice_cmp-IsAntisymmetric nat_cmp-IsAntisymmetric other name ((Equal-is _).0 same)))

pub OthersStay-with_file : (name bytes : List ℕ) (files : Files) → OthersStay name (Some files) (Some (with_file name bytes files))
OthersStay-with_file name bytes files = record {
  tells = refl;
  others = λ other apart. get-insert nat_list_cmp_total files name bytes other ∙ cond-false _ _ _ (other_test name other apart);
}

pub OthersStay-after_write : {T : Type 0} (name bytes : List ℕ) (files : Files) (answer : Result T WriteFault) → OthersStay name (Some files) (Some (files_after_write files name bytes answer))
OthersStay-after_write name bytes files (Ok done) = OthersStay-with_file name bytes files
OthersStay-after_write name bytes files (Err fault) = record { tells = refl; others = λ other apart. refl }

-- A file that holds an image, listed and assembled, is written again.
use Rattle.std.proofs.Common.{◌≡◌, ℕ, List, [], ◌∷◌, inl, inr, sym, ap, subst, ◌∙◌}
use Rattle.std.specs.Prelude.{Option, Some}
use Rattle.redn_image.specs.Rules.{Image, numbers_of}
use Rattle.redn_image.specs.Spelling.{Spells}
use Rattle.redn_image.specs.Laws.{NotRefused, OneImage, OneSpelling}
use Rattle.redn_disasm.specs.Assembly.{Assembles, Made}
use Rattle.redn_disasm.specs.Laws.{ListingsAreOfOne, ListingsAreShort, ListingsComeBack, OneMeaning}
use Rattle.redn_disasm.specs.Listing.{IsListing, listing_text}
use Rattle.redn_command.specs.Words.{Assemble, Disasm}
use Rattle.redn_top.specs.declared.limits.TheConstants.{MAX_IMAGE, MAX_LISTING}
use Rattle.redn_top.specs.Reasons.{NoneHolds, image_reasons, listing_reasons, read_reasons, reasons}
use Rattle.redn_top.specs.Answers.{Written}
use Rattle.redn_top.specs.Laws.{ListedFilesComeBack, WritesAgain}
use Rattle.redn_top.proofs.Contents.{image_none, listing_none}
use Rattle.redn_top.proofs.FirstReason.{none_both, read_passed, same_text}
use Rattle.redn_top.proofs.OneReason.{none_first}

module _ (one : OneImage) (again : OneSpelling) (accepted : NotRefused) (meaning : OneMeaning) (back : ListingsComeBack) (alone : ListingsAreOfOne) (short : ListingsAreShort) where
  -- what is assembled of the listing of an image
  assembled : (listing other : List ℕ) (bytes : List ℕ) (image : Image) → Spells bytes image → (text : List ℕ) → IsListing text image → WritesAgain listing other bytes text
  assembled listing other bytes image spells text l j t empty written found (inl h) =
      let none = none_both (read_reasons (Some text) MAX_LISTING) (listing_reasons (Some text)) (read_passed text MAX_LISTING (short text image l)) (listing_none text meaning (numbers_of image) image.memory (back text image l)) in
      absurd (none_first (reasons (Assemble listing other) j) (subst (λ (o : Option (List ℕ)). NoneHolds (reasons (Assemble listing other) (record { first = o; schedule = j.schedule }))) (sym found) none) t h.0)
  assembled listing other bytes image spells text l j t empty written found (inr h) =
      let a = h.1.0 in
      let same : a.text ≡ text = same_text a.text text (sym a.found ∙ found) in
      let means = subst (λ (x : List ℕ). Assembles x (Made (numbers_of a.image) a.image.memory)) same a.means in
      let is : a.image ≡ image = alone text image a.image l means in
      let spelled = subst (Spells a.bytes) is a.spells in
      (h.1.1, a.writes ∙ ap (λ (b : List ℕ). let w : Written = record { name = other; bytes = b } in w ∷ []) (again a.bytes bytes image spelled spells))

  pub come_back : ListedFilesComeBack
  come_back name listing other bytes image spells are small i s text none found (inl h) =
      let free = none_both (read_reasons (Some bytes) MAX_IMAGE) (image_reasons (Some bytes)) (read_passed bytes MAX_IMAGE small) (image_none bytes (accepted bytes image spells)) in
      absurd (none_first (reasons (Disasm name) i) (subst (λ (o : Option (List ℕ)). NoneHolds (reasons (Disasm name) (record { first = o; schedule = i.schedule }))) (sym found) free) s h.0)
  come_back name listing other bytes image spells are small i s text none found (inr h) =
      let l = h.1.0 in
      let same : l.bytes ≡ bytes = same_text l.bytes bytes (sym l.found ∙ found) in
      let is : l.image ≡ image = one bytes l.image image (subst (λ (b : List ℕ). Spells b l.image) same l.spells) spells in
      let listed : IsListing text image = record { is = l.prints ∙ ap listing_text is; obeys = spells.obeys; bytes = are } in
      (h.1.1, assembled listing other bytes image spells text listed)

use Rattle.std.proofs.Common.{◌≡◌, ℕ, ◌<◌, Ok, Err, Result, Vec, Global}
use Rattle.std.specs.Prelude.{IfOk, OnOk}
use Rattle.std.specs.List.{All}
use Rattle.redn_image.specs.Rules.{Image, Obeys}
use Rattle.redn_disasm.specs.Listing.{IsListing, listing_text}
use Rattle.redn_disasm.proofs.write.listing.Goals as goal

its_listing : {E : Type 0} (r : Result (Vec ℕ Global) E) (i : Image) → IfOk r (λ text. text.items ≡ listing_text i) → OnOk r (Obeys i) → OnOk r (All (λ (b : ℕ). b < 256) i.memory) → IfOk r (λ text. IsListing text.items i)
its_listing (Ok text) i is obeys bytes = record { is = is; obeys = obeys; bytes = bytes }
its_listing (Err e) i is obeys bytes = tt

pub returns : goal.returns
returns c = its_listing c.lines_of.result c.args.i.now c.lines_of.ensures.text c.lines_of.ensures.obeys c.lines_of.ensures.bytes

-- A field is read at its place.
use Rattle.std.proofs.Common.{◌≡◌, ℕ, List, refl}
use Rattle.redn_words.specs.Words.{number}
use Rattle.redn_words.specs.Requests.{decoded}
use Rattle.redn_wqe.specs.declared.fields.Field.{Field}
use Rattle.redn_wqe.specs.declared.fields.Field.TheVariants.{Op, Id, Lkey, Rkey, Local, Remote, Length, First, Second, Flags}
use Rattle.redn_wqe.specs.Fields.{place_of, width_of, field_of}

pub field_reads : (f : Field) (slot : List ℕ) → field_of f (decoded slot) ≡ number (width_of f) slot (place_of f)
unfolding decoded
field_reads Op slot = refl
field_reads Id slot = refl
field_reads Lkey slot = refl
field_reads Rkey slot = refl
field_reads Local slot = refl
field_reads Remote slot = refl
field_reads Length slot = refl
field_reads First slot = refl
field_reads Second slot = refl
field_reads Flags slot = refl

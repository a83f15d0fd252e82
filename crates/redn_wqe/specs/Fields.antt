-- Where each field of a request stands in its slot.
use Rattle.std.specs.Prelude.{ℕ}
use Rattle.redn_words.specs.declared.types.Request.{Request}
use Rattle.redn_wqe.specs.declared.fields.Field.{Field}
use Rattle.redn_wqe.specs.declared.fields.Field.TheVariants.{Op, Id, Lkey, Rkey, Local, Remote, Length, First, Second, Flags}

-- its first byte
abbrev pub place_of : Field → ℕ
place_of Op = 0
place_of Id = 2
place_of Lkey = 8
place_of Rkey = 12
place_of Local = 16
place_of Remote = 24
place_of Length = 32
place_of First = 40
place_of Second = 48
place_of Flags = 56

-- how many bytes it has
abbrev pub width_of : Field → ℕ
width_of Op = 2
width_of Id = 6
width_of Lkey = 4
width_of Rkey = 4
width_of Local = 8
width_of Remote = 8
width_of Length = 8
width_of First = 8
width_of Second = 8
width_of Flags = 8

-- its number in a request
abbrev pub field_of : Field → Request → ℕ
field_of Op r = r.op
field_of Id r = r.id
field_of Lkey r = r.lkey
field_of Rkey r = r.rkey
field_of Local r = r.local
field_of Remote r = r.remote
field_of Length r = r.length
field_of First r = r.first
field_of Second r = r.second
field_of Flags r = r.flags

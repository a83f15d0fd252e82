-- What is known of a line that was read, field by field.
use Rattle.std.specs.Prelude.{◌≡◌, ℕ, ◌≤◌, ◌-◌, ◌^◌, Bool, true, not, ◌==◌, if◌then◌else◌, map, List, [], ◌∷◌, ◌++◌}
use Rattle.std.specs.List.{list_all, prefix_len}
use Rattle.redn_disasm.specs.declared.formats.Format.{Format}
use Rattle.redn_disasm.specs.declared.formats.Format.TheVariants as format
use Rattle.redn_image.specs.declared.numbers.QueueNumbers.{QueueNumbers}
use Rattle.redn_image.specs.declared.numbers.RegionNumbers.{RegionNumbers}
use Rattle.redn_image.specs.Rules.{Numbers}
use Rattle.redn_disasm.specs.declared.rows.QueueFields.{QueueFields}
use Rattle.redn_disasm.specs.declared.rows.RegionFields.{RegionFields}
use Rattle.redn_disasm.specs.declared.rows.Rows.{Rows}
use Rattle.redn_disasm.specs.Assembly.{is_inside}
use Rattle.redn_disasm.specs.Fields.{kind_word, op_word, order_word}

-- a text begins with a space and a field, which ends where the next space or newline stands
pub record IsField (text field behind : List ℕ) : Type 0 where
  pub is : text ≡ 32 ∷ field ++ behind
  pub inside : list_all is_inside field ≡ true
  pub stops : prefix_len is_inside behind ≡ 0

-- how many words a format has, and which
abbrev pub names : Format → ℕ
names (format.Number most) = 0
names format.Kind = 5
names format.Order = 2
names format.Op = 8
names format.Hex = 0

abbrev pub name_word : Format → ℕ → List ℕ
name_word (format.Number most) n = []
name_word format.Kind n = kind_word n
name_word format.Order n = order_word n
name_word format.Op n = op_word n
name_word format.Hex n = []

-- each value fits its format
abbrev pub greatest : Format → ℕ
greatest (format.Number most) = most
greatest format.Kind = 4
greatest format.Order = 1
greatest format.Op = 2 ^ 16 - 1
greatest format.Hex = 2 ^ 64 - 1

abbrev pub AllFit : List Format → List ℕ → Type 0
AllFit [] values = Unit {0}
AllFit (f ∷ formats) [] = ⊥
AllFit (f ∷ formats) (n ∷ values) = (n ≤ greatest f) × AllFit formats values

-- the rows that were read, as the numbers of an image's rows
abbrev pub region_of : RegionFields → RegionNumbers
region_of r = record { key = r.key; domain = r.domain; kind = r.kind; table = r.table; rights = r.rights; base = r.base; len = r.len }

abbrev pub queue_of : QueueFields → QueueNumbers
queue_of q = record { domain = q.domain; managed = if q.managed then 1 else 0; base = q.base; slots = q.slots; limit = q.limit }

abbrev pub numbers : Rows → Numbers
numbers r = record { regions = map region_of r.regions.items; queues = map queue_of r.queues.items; receives = r.receives.items; size = r.size }

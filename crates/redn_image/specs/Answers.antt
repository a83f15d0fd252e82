-- What a refusal says of rows, and of bytes.
use Rattle.std.specs.Prelude.{◌≡◌, ◌<◌, ◌≤◌, ℕ, List, [], Option, Some, length, true}
use Rattle.redn_image.specs.declared.image.RuleFault.{RuleFault}
use Rattle.redn_image.specs.declared.image.RuleFault.TheVariants as rows
use Rattle.redn_image.specs.declared.read.ImageFault.{ImageFault}
use Rattle.redn_image.specs.declared.read.ImageFault.TheVariants as bytes
use Rattle.redn_words.specs.Words.{bytes_at}
use Rattle.redn_image.specs.Rules.{Fault, QueueNumbers, RegionNumbers, fault_at, first_of, header_faults, kind_is_known}
use Rattle.redn_image.specs.Spelling.{Broken, NotMagic, OtherVersion, Refused, TooLong, TooShort, refused, refused_rows, spelled_header}

-- the rule and the row are the first of these
abbrev pub NamesFirst : List Fault → RuleFault → Type 0
NamesFirst faults (rows.Rule number index) = first_of faults ≡ Some (fault_at number index)
NamesFirst faults rows.Memory = Unit {0}

-- this is why bytes are refused
abbrev pub SaysWhy : Option Refused → ImageFault → Type 0
SaysWhy why bytes.Magic = why ≡ Some NotMagic
SaysWhy why (bytes.Version v) = why ≡ Some (OtherVersion v)
SaysWhy why (bytes.Short need) = why ≡ Some (TooShort need)
SaysWhy why (bytes.Trailing n) = why ≡ Some (TooLong n)
SaysWhy why (bytes.Rule number index) = why ≡ Some (Broken (fault_at number index))
SaysWhy why bytes.Memory = Unit {0}

-- these bytes begin with a header that announces so many rows and bytes
pub record HasHeader (b : List ℕ) (regions queues receives size : ℕ) : Type 0 where
  pub long : 32 ≤ length b
  pub spelled : bytes_at b 0 32 ≡ spelled_header regions queues receives size
  pub keeps : header_faults regions queues receives 0 size ≡ []
  pub refusal : refused b ≡ refused_rows b regions queues receives size

-- the numbers of a region, or of a queue
abbrev pub IsRegion : RegionNumbers → Type 0
IsRegion r = (kind_is_known [] r ≡ true) × (r.rights < 256)

abbrev pub IsQueue : QueueNumbers → Type 0
IsQueue q = (q.domain < 65536) × (q.managed < 2)

-- What the opcodes of a template ask of the regions of their sides.
use Rattle.std.specs.Prelude.{◌≡◌, ℕ, ◌≤◌, Bool, true, false, ◌==◌, List, [], ◌∷◌, ◌++◌, length}
use Rattle.std.specs.List.{list_any, count_by}
use Rattle.redn_words.specs.declared.types.Kind.{Kind}
use Rattle.redn_words.specs.declared.types.Kind.TheVariants as kind
use Rattle.redn_words.specs.declared.types.Need.{Need}
use Rattle.redn_words.specs.declared.types.Need.TheVariants.{Any, LocalWrite, RemoteRead, RemoteWrite, Atomic}
use Rattle.redn_words.specs.declared.types.Opcode.{Opcode}
use Rattle.redn_words.specs.declared.types.Opcode.TheVariants.{Write, Read, Cas, Add}
use Rattle.redn_words.specs.Landings.{local_need, remote_need}
use Rattle.redn_segment.specs.declared.types.SlotRef.{SlotRef}
use Rattle.redn_segment.specs.declared.types.Space.{Space}
use Rattle.redn_segment.specs.declared.types.Space.TheVariants as space
use Rattle.redn_segment.specs.declared.types.Draft.{Draft}
use Rattle.redn_segment.specs.Sites.{kind_of, next_slot}
use Rattle.redn_segment.specs.Plain.{local_space, remote_space}
use Rattle.redn_segment.specs.Building.{Building, drafts_of}
use Rattle.redn_segment.specs.Effects.{first_slot, is_own}
use Rattle.redn_segment.specs.Orders.{Follows}
use Rattle.redn_segment.specs.Opcodes.{turns, MayHave}
use Rattle.redn_segment.specs.Templates.{may_show_by, may_show}

-- the regions of a chain's own words: its variables, and its constants, descriptors and other words
abbrev pub has_words : Kind → Bool
has_words kind.Vars = true
has_words kind.Control = true
has_words _ = false

abbrev pub is_table_kind : Kind → Bool
is_table_kind (kind.Table t) = true
is_table_kind _ = false

-- and that of its slots
abbrev pub is_private : Kind → Bool
is_private kind.Code = true
is_private k = has_words k

-- a table is written only where it is among these
abbrev pub is_written : List ℕ → Kind → Bool
is_written written (kind.Table t) = list_any (λ (u : ℕ). u == t) written
is_written written k = is_private k

-- what the region of each kind allows. A message is only read, as a local side
abbrev pub allows : List ℕ → Kind → Need → Bool
allows written k Any = true
allows written k LocalWrite = has_words k
allows written k RemoteRead = is_table_kind k
allows written k RemoteWrite = is_written written k
allows written k Atomic = is_private k

abbrev pub has_remote : Opcode → Bool
has_remote Write = true
has_remote Read = true
has_remote Cas = true
has_remote Add = true
has_remote _ = false

abbrev pub is_descriptor : Space → Bool
is_descriptor (space.Descriptor ring) = true
is_descriptor _ = false

-- an opcode is allowed at the sides of a draft, changes no descriptor, shows nothing where the draft doesn't, and is the draft's own or turned
pub record Suits (written : List ℕ) (d : Draft) (op : Opcode) : Type 0 where
  pub local : allows written (kind_of (local_space d)) (local_need op) ≡ true
  pub remote : has_remote op ≡ true → allows written (kind_of (remote_space d)) (remote_need op) ≡ true
  pub local_descriptor : is_descriptor (local_space d) ≡ true → local_need op ≡ Any
  pub remote_descriptor : has_remote op ≡ true → is_descriptor (remote_space d) ≡ false
  pub silent : may_show d ≡ false → may_show_by d op ≡ false
  pub follows : Follows d op

-- each opcode that a slot may have suits its draft
abbrev pub AllSuit : List ℕ → List Draft → SlotRef → List Draft → Type 0
AllSuit written all at [] = Unit {0}
AllSuit written all at (d ∷ ds) = ((op : Opcode) → MayHave all at d op → Suits written d op) × AllSuit written all (next_slot at) ds

-- a ring has grown by drafts that write no tables but these. At most one of them can turn a slot, and none one that isn't theirs
pub record Rights (old new : Building) (written : List ℕ) : Type 0 where
  pub added : List (List Draft)
  pub appended : new ≡ record old { segments = old.segments ++ added }
  pub suit : AllSuit written (drafts_of added) (first_slot old) (drafts_of added)
  pub once : (q : SlotRef) → count_by (turns q) (drafts_of added) ≤ 1
  pub within : (q : SlotRef) → is_own (first_slot old) (length (drafts_of added)) (space.Slot q) ≡ false → count_by (turns q) (drafts_of added) ≡ 0

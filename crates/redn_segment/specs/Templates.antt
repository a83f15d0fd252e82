-- What a template appends.
use Rattle.std.specs.Prelude.{◌≡◌, ℕ, zero, suc, Bool, true, false, not, ◌&&◌, ◌||◌, List, [], ◌∷◌, ◌++◌, length}
use Rattle.std.specs.List.{list_all}
use Rattle.redn_words.specs.declared.types.Opcode.{Opcode}
use Rattle.redn_words.specs.declared.types.Opcode.TheVariants.{Read, Send}
use Rattle.redn_kernel.specs.declared.types.Cell.TheVariants.{Var}
use Rattle.redn_segment.specs.declared.types.Site.{Site}
use Rattle.redn_segment.specs.declared.types.Site.TheVariants as site
use Rattle.redn_segment.specs.declared.types.Draft.{Draft}
use Rattle.redn_segment.specs.Building.{Building, drafts_of}
use Rattle.redn_segment.specs.Plain.{Bytes, View}
use Rattle.redn_segment.specs.Effects.{Effect, first_slot}
use Rattle.redn_segment.specs.Footprints.{segments_apart}
use Rattle.redn_segment.specs.Parts.{IsPart}
use Rattle.redn_segment.specs.Opcodes.{TellOpcodes}

abbrev pub is_variable : Site → Bool
is_variable (site.Cell (Var i)) = true
is_variable _ = false

abbrev pub is_shown : Site → Bool
is_shown (site.Table t offset) = true
is_shown s = is_variable s

-- a draft that may show an event
abbrev pub may_show_by : Draft → Opcode → Bool
may_show_by d Send = true
may_show_by d Read = is_shown d.remote || is_variable d.local
may_show_by d _ = is_shown d.remote

abbrev pub may_show : Draft → Bool
may_show d = may_show_by d d.op

-- no two drafts may show an event
abbrev pub one_event : List Draft → Bool
one_event [] = true
one_event (d ∷ ds) = list_all (λ (e : Draft). not (may_show d && may_show e)) ds && one_event ds

abbrev pub is_some : List Draft → Bool
is_some [] = false
is_some (d ∷ ds) = true

-- each segment but the last has a draft
abbrev pub all_filled : List (List Draft) → Bool
all_filled [] = true
all_filled (ds ∷ []) = true
all_filled (ds ∷ es ∷ rest) = is_some ds && all_filled (es ∷ rest)

-- each segment has a draft, but where `more` is 1 the last one need not
abbrev pub is_filled : ℕ → List (List Draft) → Bool
is_filled zero segments = list_all is_some segments
is_filled (suc more) segments = all_filled segments

-- a ring has grown by so many segments with so many drafts, which do what they should, write their own slots, and where `more` is 1 also the one behind
pub record Appends (old new : Building) (segments drafts more : ℕ) (effect : View → Bytes → Effect) : Type 0 where
  pub added : List (List Draft)
  pub appended : new ≡ record old { segments = old.segments ++ added }
  pub segments_are : length added ≡ segments
  pub drafts_are : length (drafts_of added) ≡ drafts
  pub filled : is_filled more added ≡ true
  pub one_event : list_all one_event added ≡ true
  pub apart : segments_apart (first_slot old) added ≡ true
  pub part : IsPart (first_slot old) (drafts_of added) more effect
  pub opcodes : TellOpcodes (first_slot old) added

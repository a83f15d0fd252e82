-- Laws of plain runs and of what templates promise.
use Rattle.std.specs.Prelude.{◌≡◌, ℕ, ◌+◌, List, ◌++◌, map}
use Rattle.redn_segment.specs.declared.types.SlotRef.{SlotRef}
use Rattle.redn_segment.specs.declared.types.Draft.{Draft}
use Rattle.redn_segment.specs.Sites.{same_slot, next_slot}
use Rattle.redn_segment.specs.Building.{Building}
use Rattle.redn_segment.specs.Plain.{Bytes, View, runs}
use Rattle.redn_segment.specs.Effects.{Effect}
use Rattle.redn_segment.specs.Costs.{Costs}
use Rattle.redn_segment.specs.Rights.{Rights}
use Rattle.redn_segment.specs.Parts.{in_turn}
use Rattle.redn_segment.specs.Renaming.{renamed, renamed_outcome, pulled, pulled_view}
use Rattle.redn_segment.specs.Templates.{Appends}

-- what two templates append, one after the other, is what one would that does both
abbrev pub TemplatesInTurn : Type 0
TemplatesInTurn =
    (a b c : Building) (segments others drafts more_drafts more : ℕ) (first second : View → Bytes → Effect) → Appends a b segments drafts 0 first
    → Appends b c others more_drafts more second → Appends a c (segments + others) (drafts + more_drafts) more (in_turn first second)

-- and costs as much as both
abbrev pub CostsInTurn : Type 0
CostsInTurn =
    (a b c : Building) (slots more_slots actions more_actions : ℕ) → Costs a b slots actions → Costs b c more_slots more_actions
    → Costs a c (slots + more_slots) (actions + more_actions)

-- what is asked of the regions is what both ask
abbrev pub RightsInTurn : Type 0
RightsInTurn =
    (a b c : Building) (written others : List ℕ) → Rights a b written → Rights b c others → Rights a c (written ++ others)

-- the drafts of which opcodes are told are those that suit them
abbrev pub AddedOnce : Type 0
AddedOnce =
    (a b : Building) (segments drafts more : ℕ) (effect : View → Bytes
    → Effect) (written : List ℕ) (appends : Appends a b segments drafts more effect) (rights : Rights a b written) → appends.added ≡ rights.added

-- other numbers of slots, of which no two are one, and which keep neighbours
pub record Renumbers (f : SlotRef → SlotRef) : Type 0 where
  pub apart : (p q : SlotRef) → same_slot (f p) (f q) ≡ same_slot p q
  pub next : (q : SlotRef) → f (next_slot q) ≡ next_slot (f q)

-- change no plain run
abbrev pub RunsRenumbered : Type 0
RunsRenumbered =
    (f : SlotRef → SlotRef) → Renumbers f → (chain : View) (at : SlotRef) (ds : List Draft) (s : Bytes)
    → runs chain (f at) (map (renamed f) ds) s ≡ renamed_outcome f (runs (pulled_view f chain) at ds (pulled f s))

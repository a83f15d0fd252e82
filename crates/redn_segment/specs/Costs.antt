-- What segments cost once round.
use Rattle.std.specs.Prelude.{◌≡◌, ℕ, ◌+◌, ◌*◌, Bool, if◌then◌else◌, List, ◌++◌, length}
use Rattle.std.specs.List.{list_any, sum_by}
use Rattle.redn_segment.specs.declared.types.Draft.{Draft}
use Rattle.redn_segment.specs.Building.{Building}
use Rattle.redn_segment.specs.Orders.{is_send}

abbrev pub sends : List Draft → Bool
sends ds = list_any (λ (d : Draft). is_send d.op) ds

-- the slots of a segment: its drafts, two lap requests, a WAIT and an ENABLE. A SEND stands alone
abbrev pub segment_slots : List Draft → ℕ
segment_slots ds = length ds + (if sends ds then 0 else 4)

-- a draft or lap request is fetched, starts, lands and completes; a WAIT or an ENABLE is fetched and starts
abbrev pub segment_actions : List Draft → ℕ
segment_actions ds = 4 * length ds + (if sends ds then 0 else 12)

-- a ring has grown by segments that take so many slots and useful actions
pub record Costs (old new : Building) (slots actions : ℕ) : Type 0 where
  pub added : List (List Draft)
  pub appended : new ≡ record old { segments = old.segments ++ added }
  pub slots_are : sum_by segment_slots added ≡ slots
  pub actions_are : sum_by segment_actions added ≡ actions

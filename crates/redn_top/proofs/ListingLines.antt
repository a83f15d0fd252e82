-- A text that is put line by line.
use Rattle.std.proofs.Common.{◌≡◌, ℕ, ◌==◌, true, false, cond, List, [], ◌∷◌, ◌++◌, refl, sym, ap, ◌∙◌, append_assoc, take, drop}
use Rattle.std.specs.Prelude.{Option, Some, None}
use Rattle.std.specs.Option.{option_map}
use Rattle.std.proofs.lemmas.List.{take-append-drop}
use Rattle.redn_outside.specs.Seen.{SinkSeen}
use Rattle.redn_text.specs.Texts.{lines_after, lines_of}
use Rattle.redn_top.specs.declared.status.Status.{Status}
use Rattle.redn_top.specs.declared.status.Status.TheVariants.{Done, Words, Schedule as BadSchedule, ReadFailed, Missing, WriteFailed, Long, Text, Program, Image, Memory, Step, Message}
use Rattle.redn_top.specs.Refusals.{FaultsStay, LinesRefused, PutRefused}
use Rattle.redn_top.proofs.RunLemmas.{failed_later}

some_line : (x : ℕ) (line rest : List ℕ) → lines_after (x ∷ line) rest ≡ [] → ⊥
some_line x line [] e = absurd (cc)
some_line x line (b ∷ rest) e =
    elim (b == 10) as (λ v. cond v ((x ∷ line ++ b ∷ []) ∷ lines_after [] rest) (lines_after (x ∷ line ++ b ∷ []) rest) ≡ [] → ⊥) [
      | true ↦ λ h. absurd (cc)
      | false ↦ λ h. some_line x (line ++ b ∷ []) rest h
    ] e

-- where no line is left, nothing is
pub no_line_left : (text : List ℕ) → lines_of text ≡ [] → text ≡ []
no_line_left [] e = refl
no_line_left (b ∷ text) e =
    elim (b == 10) as (λ v. cond v ((b ∷ []) ∷ lines_after [] text) (lines_after (b ∷ []) text) ≡ [] → b ∷ text ≡ []) [
      | true ↦ λ h. absurd (cc)
      | false ↦ λ h. absurd (some_line b [] text h)
    ] e

pub told_more : (a b : List ℕ) (before mid now : Option (List ℕ)) → mid ≡ option_map (λ t. t ++ a) before → now ≡ option_map (λ t. t ++ b) mid → now ≡ option_map (λ t. t ++ (a ++ b)) before
told_more a b before mid now e f = f ∙ ap (option_map (λ t. t ++ b)) e ∙ twice before where
  twice : (told : Option (List ℕ)) → option_map (λ t. t ++ b) (option_map (λ t. t ++ a) told) ≡ option_map (λ t. t ++ (a ++ b)) told
  twice None = refl
  twice (Some t) = ap Some (append_assoc t a b)

-- the put of a line failed
module _ (text done rest line behind : List ℕ) (whole : text ≡ done ++ rest) (first : rest ≡ line ++ behind) (before mid now : SinkSeen) (stays : FaultsStay before mid) (told : mid.told ≡ option_map (λ t. t ++ done) before.told) where
  pub lines_cut : (s : Status) → PutRefused line mid now s → LinesRefused text before now s
  lines_cut WriteFailed h =
      let part = take h.1.0 line in
      let left = drop h.1.0 line ++ behind in
      let is : text ≡ (done ++ part) ++ left =
      whole ∙ ap (λ r. done ++ r) (first ∙ ap (λ l. l ++ behind) (sym (take-append-drop h.1.0 line)) ∙ append_assoc part (drop h.1.0 line) behind) ∙ sym (append_assoc done part left) in
      (failed_later before mid now stays h.0, (done ++ part, left, is, told_more done part before.told mid.told now.told told h.1.1))
  lines_cut Memory h = absurd h
  lines_cut Done h = absurd h
  lines_cut ReadFailed h = absurd h
  lines_cut Missing h = absurd h
  lines_cut (Long seen limit) h = absurd h
  lines_cut (Text fault) h = absurd h
  lines_cut (Program rule at seen) h = absurd h
  lines_cut (Image fault) h = absurd h
  lines_cut (Step number) h = absurd h
  lines_cut (Message fault) h = absurd h
  lines_cut Words h = absurd h
  lines_cut (BadSchedule number) h = absurd h

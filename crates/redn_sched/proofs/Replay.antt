-- Lines with their newlines are cut at those newlines, and the text of actions is read back.
use Rattle.std.proofs.Common.{◌≡◌, ℕ, ◌+◌, ◌^◌, ◌<◌, Bool, true, false, not, cond, ◌==◌, List, [], ◌∷◌, ◌++◌, decimal, refl, sym, ap, subst, ◌∙◌, arith, append_assoc, append-nil}
use Rattle.std.specs.Prelude.{codes, Option, None}
use Rattle.std.specs.List.{list_all, flat_map}
use Rattle.std.proofs.lemmas.Bool.Decides.{nat_tests}
use Rattle.redn_words.specs.declared.types.Action.{Action}
use Rattle.redn_words.specs.declared.types.Action.TheVariants.{Deliver, Fetch, Start, Land, Complete}
use Rattle.redn_sched.specs.declared.text.Numbered.{Numbered}
use Rattle.redn_text.specs.Texts.{is_no_newline}
use Rattle.redn_sched.specs.ScheduleText.{pair_text, action_text, Fits, last_line, lines_after, lines_of, Reads, recorded, numbered}
use Rattle.redn_text.proofs.Fields.{and_left, and_right, all_append, decimal_all}
use Rattle.redn_sched.proofs.Cuts.{reads_action}
use Rattle.redn_sched.proofs.OneReading.{one_reading}

is_false : (v : Bool) → not v ≡ true → v ≡ false
is_false true e = sym e
is_false false e = refl

-- a line up to its newline
pub after_line : (front line rest : List ℕ) → list_all is_no_newline line ≡ true → lines_after front (line ++ 10 ∷ rest) ≡ (front ++ line) ∷ lines_of rest
after_line front [] rest e = ap (λ l. l ∷ lines_of rest) (sym (append-nil front))
after_line front (b ∷ line) rest e =
    let goes_on : (b == 10) ≡ false = is_false (b == 10) (and_left (is_no_newline b) _ e) in
    ap (λ v. cond v (front ∷ lines_of (line ++ 10 ∷ rest)) (lines_after (front ++ b ∷ []) (line ++ 10 ∷ rest))) goes_on ∙ after_line (front ++ b ∷ []) line rest (and_right (is_no_newline b) _ e) ∙ ap (λ l. l ∷ lines_of rest) (append_assoc front (b ∷ []) line)

digit : (n : ℕ) → n < 10 → is_no_newline (48 + n) ≡ true
digit n small = grind (arith, nat_tests)

number : (n : ℕ) → n < 2 ^ 64 → list_all is_no_newline (decimal n) ≡ true
number n small = decimal_all is_no_newline digit n small

small_number : (n : ℕ) → n < 2 ^ 32 → list_all is_no_newline (decimal n) ≡ true
small_number n small = number n (omega arith)

pair : (q i : ℕ) → (q < 2 ^ 32) × (i < 2 ^ 64) → list_all is_no_newline (pair_text q i) ≡ true
pair q i fits = all_append is_no_newline (decimal q) (32 ∷ decimal i) (small_number q fits.0) (number i fits.1)

one_line : (a : Action) → Fits a → list_all is_no_newline (action_text a) ≡ true
unfolding action_text
one_line (Deliver c) fits = small_number c fits
one_line (Fetch q i) fits = pair q i fits
one_line (Start q) fits = small_number q fits
one_line (Land q i) fits = pair q i fits
one_line (Complete q) fits = small_number q fits

-- actions that fit, each on a line of its own
abbrev pub AllFit : List Action → Type 0
AllFit [] = Unit {0}
AllFit (a ∷ actions) = Fits a × AllFit actions

-- the text of actions is read back to them
pub read_back : (n : ℕ) (actions : List Action) → AllFit actions → Reads n (lines_of (recorded actions)) (numbered n actions) None
read_back n [] fit = tt
read_back n (a ∷ actions) fit =
    let cut : lines_of (recorded (a ∷ actions)) ≡ action_text a ∷ lines_of (recorded actions) = ap lines_of (append_assoc (action_text a) (codes "\n") (recorded actions)) ∙ after_line [] (action_text a) (recorded actions) (one_line a fit.0) in
    subst (λ (ls : List (List ℕ)). Reads n ls (numbered n (a ∷ actions)) None) (sym cut) (reads_action n (action_text a) (lines_of (recorded actions)) (record { line = n; action = a }) (numbered (n + 1) actions) None (record { text = refl; fits = fit.0 }) refl (read_back (n + 1) actions fit.1))

-- with one more action
pub all_fit_more : (actions : List Action) (a : Action) → AllFit actions → Fits a → AllFit (actions ++ a ∷ [])
all_fit_more [] a all fits = (fits, tt)
all_fit_more (x ∷ actions) a all fits = (all.0, all_fit_more actions a all.1 fits)

pub recorded_more : (actions : List Action) (a : Action) → recorded (actions ++ a ∷ []) ≡ recorded actions ++ (action_text a ++ codes "\n")
recorded_more [] a = append-nil (action_text a ++ codes "\n")
recorded_more (x ∷ actions) a = ap (λ (l : List ℕ). (action_text x ++ codes "\n") ++ l) (recorded_more actions a) ∙ sym (append_assoc (action_text x ++ codes "\n") (recorded actions) (action_text a ++ codes "\n"))

-- Words mean one command.
use Rattle.std.proofs.Common.{◌≡◌, ℕ, ◌^◌, ◌<◌, ◌≤◌, List, [], ◌∷◌, map, Option, Some, None, decimal, length, get_or, refl, sym, ap, subst, ◌∙◌, arith}
use Rattle.std.specs.Prelude.{Result, Ok, Err, IfOk}
use Rattle.redn_command.specs.declared.command.Command.{Command as CommandView}
use Rattle.redn_command.specs.declared.command.WordsFault.{WordsFault}
use Rattle.std.specs.Option.{option_to_list}
use Rattle.std.proofs.lemmas.Fmt.{decimal_injective}
use Rattle.redn_command.specs.declared.line.Choice.TheVariants as choice
use Rattle.redn_command.specs.Words.{Command, Check, Compile, Run, Go, Disasm, Assemble, Gen, Plan, Schedule, Fair, Shuffle, RunWords, MessageWord, Line, verb_of, most_steps, GivesNone, GivesPlan, Means, IsLine, IsCommand, command_view}
use Rattle.redn_command.specs.Lines.{GivesOnce}
use Rattle.redn_command.proofs.MessageTexts.{same_messages}
use Rattle.redn_command.proofs.Parts.{one_line}

-- ---- no option stands twice

module _ (line : Line) where
  length_of : (xs ys : List (List ℕ)) → xs ≡ ys → length ys ≤ 1 → length xs ≤ 1
  length_of xs ys e l = omega (arith, ap length e, l)

  kept_once : (keep : Option (List ℕ)) → length (option_to_list keep) ≤ 1
  kept_once None = omega arith
  kept_once (Some f) = omega arith

  none_once : GivesNone line → GivesOnce line
  none_once g choice.Schedule = length_of _ [] g.schedule (omega arith)
  none_once g choice.Fair = length_of _ [] g.fair (omega arith)
  none_once g choice.Shuffle = length_of _ [] g.shuffle (omega arith)
  none_once g choice.Steps = length_of _ [] g.steps (omega arith)
  none_once g choice.Record = length_of _ [] g.recorded (omega arith)

  plan_once : (p : Plan) (keep : Option (List ℕ)) → GivesPlan line p keep → GivesOnce line
  plan_once (Schedule f) keep g choice.Schedule = length_of _ (f ∷ []) g.schedule (omega arith)
  plan_once (Schedule f) keep g choice.Fair = length_of _ [] g.fair (omega arith)
  plan_once (Schedule f) keep g choice.Shuffle = length_of _ [] g.shuffle (omega arith)
  plan_once (Schedule f) keep g choice.Steps = length_of _ [] g.steps (omega arith)
  plan_once (Schedule f) keep g choice.Record = length_of _ [] g.recorded (omega arith)
  plan_once (Fair n) keep g choice.Schedule = length_of _ [] g.schedule (omega arith)
  plan_once (Fair n) keep g choice.Fair = length_of _ (decimal n ∷ []) g.fair (omega arith)
  plan_once (Fair n) keep g choice.Shuffle = length_of _ [] g.shuffle (omega arith)
  plan_once (Fair n) keep g choice.Steps = length_of _ [] g.steps (omega arith)
  plan_once (Fair n) keep g choice.Record = length_of _ (option_to_list keep) g.recorded (kept_once keep)
  plan_once (Shuffle z n) keep g choice.Schedule = length_of _ [] g.schedule (omega arith)
  plan_once (Shuffle z n) keep g choice.Fair = length_of _ [] g.fair (omega arith)
  plan_once (Shuffle z n) keep g choice.Shuffle = length_of _ (decimal z ∷ []) g.shuffle (omega arith)
  plan_once (Shuffle z n) keep g choice.Steps = length_of _ (decimal n ∷ []) g.steps (omega arith)
  plan_once (Shuffle z n) keep g choice.Record = length_of _ (option_to_list keep) g.recorded (kept_once keep)

  means_once : (c : Command) → Means line c → GivesOnce line
  means_once (Check f) m = none_once m.gives
  means_once (Compile f i) m = none_once m.gives
  means_once (Run i r) m = plan_once r.plan r.keep m.gives.0
  means_once (Go f i r) m = plan_once r.plan r.keep m.gives.0
  means_once (Disasm i) m = none_once m.gives
  means_once (Assemble l i) m = none_once m.gives
  means_once (Gen n i) m = none_once m.gives.0

  -- ---- a line gives one plan

  same_keep : (a b : Option (List ℕ)) → option_to_list a ≡ option_to_list b → a ≡ b
  same_keep None None e = refl
  same_keep None (Some g) e = absurd (cc)
  same_keep (Some f) None e = absurd (cc)
  same_keep (Some f) (Some g) e = cc

  few_digits : (keep : Option (List ℕ)) (n : ℕ) → n ≤ most_steps keep → n < 2 ^ 64
  few_digits None n l = omega (arith, l)
  few_digits (Some f) n l = omega (arith, l)

  one_of : (xs : List (List ℕ)) (a b : List ℕ) → xs ≡ a ∷ [] → xs ≡ b ∷ [] → a ≡ b
  one_of xs a b e f = cc

  not_both : {P : Type 0} (xs : List (List ℕ)) (a : List ℕ) → xs ≡ a ∷ [] → xs ≡ [] → P
  not_both xs a e f = absurd (cc)

  one_plan : (p q : Plan) (a b : Option (List ℕ)) → GivesPlan line p a → GivesPlan line q b → (p ≡ q) × (a ≡ b)
  one_plan (Schedule f) (Schedule g) a b h k = (ap Schedule (one_of _ f g h.schedule k.schedule), h.kept ∙ sym k.kept)
  one_plan (Fair m) (Fair n) a b h k = (ap Fair (decimal_injective m n (few_digits a m h.few) (few_digits b n k.few) (one_of _ (decimal m) (decimal n) h.fair k.fair)), same_keep a b (sym h.recorded ∙ k.recorded))
  one_plan (Shuffle y m) (Shuffle z n) a b h k =
      let number = decimal_injective y z h.small k.small (one_of _ (decimal y) (decimal z) h.shuffle k.shuffle) in
      let steps = decimal_injective m n (few_digits a m h.few) (few_digits b n k.few) (one_of _ (decimal m) (decimal n) h.steps k.steps) in
      (ap (λ (x : ℕ). Shuffle x m) number ∙ ap (Shuffle z) steps, same_keep a b (sym h.recorded ∙ k.recorded))
  one_plan (Schedule f) (Fair n) a b h k = not_both _ f h.schedule k.schedule
  one_plan (Schedule f) (Shuffle z n) a b h k = not_both _ f h.schedule k.schedule
  one_plan (Fair m) (Schedule g) a b h k = not_both _ g k.schedule h.schedule
  one_plan (Fair m) (Shuffle z n) a b h k = not_both _ (decimal m) h.fair k.fair
  one_plan (Shuffle y m) (Schedule g) a b h k = not_both _ g k.schedule h.schedule
  one_plan (Shuffle y m) (Fair n) a b h k = not_both _ (decimal n) k.fair h.fair

  run_with : Plan → Option (List ℕ) → List MessageWord → RunWords
  run_with plan keep messages = record { plan = plan; keep = keep; messages = messages }

  same_run : (r s : RunWords) → (r.plan ≡ s.plan) × (r.keep ≡ s.keep) → r.messages ≡ s.messages → r ≡ s
  unfolding run_with
  same_run r s e f = ap (λ (p : Plan). run_with p r.keep r.messages) e.0 ∙ ap (λ (k : Option (List ℕ)). run_with s.plan k r.messages) e.1 ∙ ap (run_with s.plan s.keep) f

  -- a line means one command of a verb
  pub one_meaning : (c d : Command) → Means line c → Means line d → verb_of c ≡ verb_of d → c ≡ d
  one_meaning (Check f) (Check g) a b e = let p = sym a.positions ∙ b.positions in cc
  one_meaning (Compile f i) (Compile g j) a b e = let p = sym a.positions ∙ b.positions in cc
  one_meaning (Disasm i) (Disasm j) a b e = let p = sym a.positions ∙ b.positions in cc
  one_meaning (Assemble f i) (Assemble g j) a b e = let p = sym a.positions ∙ b.positions in cc
  one_meaning (Gen m i) (Gen n j) a b e =
      let p = sym a.positions ∙ b.positions in
      let digits : decimal m ≡ decimal n = cc in
      let image : i ≡ j = cc in
      ap (λ (x : ℕ). Gen x i) (decimal_injective m n (omega (arith, a.gives.1)) (omega (arith, b.gives.1)) digits) ∙ ap (Gen n) image
  one_meaning (Run i r) (Run j s) a b e =
      let p = sym a.positions ∙ b.positions in
      let image : i ≡ j = cc in
      let texts : map _ r.messages ≡ map _ s.messages = cc in
      ap (λ (x : List ℕ). Run x r) image ∙ ap (Run j) (same_run r s (one_plan r.plan s.plan r.keep s.keep a.gives.0 b.gives.0) (same_messages r.messages s.messages a.gives.1 b.gives.1 texts))
  one_meaning (Go f i r) (Go g j s) a b e =
      let p = sym a.positions ∙ b.positions in
      let file : f ≡ g = cc in
      let image : i ≡ j = cc in
      let texts : map _ r.messages ≡ map _ s.messages = cc in
      ap (λ (x : List ℕ). Go x i r) file ∙ ap (λ (x : List ℕ). Go g x r) image ∙ ap (Go g j) (same_run r s (one_plan r.plan s.plan r.keep s.keep a.gives.0 b.gives.0) (same_messages r.messages s.messages a.gives.1 b.gives.1 texts))
  one_meaning (Run i r) (Gen n j) a b e = absurd (omega (arith, ap (λ (l : List ℕ). get_or l 0 0) e))
  one_meaning (Gen n j) (Run i r) a b e = absurd (omega (arith, ap (λ (l : List ℕ). get_or l 0 0) e))
  one_meaning c d a b e = absurd (cc)

-- ---- whole words

module _ (words : List (List ℕ)) (verb : List ℕ) (rest : List (List ℕ)) (are : words ≡ verb ∷ rest) where
  behind_verb : (c : Command) (is : IsCommand words c) → (verb_of c ≡ verb) × (is.behind ≡ rest)
  behind_verb c is =
      let e : verb_of c ∷ is.behind ≡ verb ∷ rest = sym is.are ∙ are in
      (cc, cc)

  pub no_line_refused : ((line : Line) → IsLine rest line → ¬ GivesOnce line) → (c : Command) → ¬ IsCommand words c
  no_line_refused h c is =
      let b = behind_verb c is in
      h is.line (subst (λ (l : List (List ℕ)). IsLine l is.line) b.1 is.cut) (means_once is.line c is.means)

  module _ (line : Line) (cut : IsLine rest line) where
    on_line : (c : Command) (is : IsCommand words c) → Means line c
    on_line c is =
        let b = behind_verb c is in
        subst (λ (l : Line). Means l c) (one_line rest is.line line (subst (λ (l : List (List ℕ)). IsLine l is.line) b.1 is.cut) cut) is.means

    pub line_refused : ((c : Command) → verb_of c ≡ verb → ¬ Means line c) → (c : Command) → ¬ IsCommand words c
    line_refused h c is = h c (behind_verb c is).0 (on_line c is)

    pub line_only : (c : Command) → verb_of c ≡ verb → Means line c → (d : Command) → IsCommand words d → d ≡ c
    line_only c e m d is = one_meaning line d c (on_line d is) m ((behind_verb d is).0 ∙ sym e)

pub only_of : (words : List (List ℕ)) (verb : List ℕ) (rest : List (List ℕ)) → words ≡ verb ∷ rest → (line : Line) → IsLine rest line → (r : Result CommandView WordsFault) → IfOk r (λ c. verb_of (command_view c) ≡ verb) → IfOk r (λ c. Means line (command_view c)) → IfOk r (λ c. (d : Command) → IsCommand words d → d ≡ command_view c)
only_of words verb rest are line cut (Ok c) e m = λ d is. line_only words verb rest are line cut (command_view c) e m d is
only_of words verb rest are line cut (Err f) e m = tt

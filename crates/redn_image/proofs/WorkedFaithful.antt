-- A chain that replies 7, its image, and an image that doesn't do what it says.
use Rattle.std.proofs.Common.{◌≡◌, ℕ, zero, suc, ◌*◌, ◌≤◌, Bool, true, false, List, [], ◌∷◌, ◌++◌, length, map, refl, sym, ap, subst, ◌∙◌, arith}
use Rattle.std.specs.Prelude.{Option, Some, None, slice_get, All, if◌then◌else◌, ◌==◌, ◌&&◌}
use Rattle.std.proofs.lemmas.Bool.{false≢true}
use Rattle.std.proofs.lemmas.List.Elements.{All-cons}
use Rattle.std.proofs.lemmas.Option.{same_Some}
use Rattle.std.specs.FinMap.{gets}
use Rattle.redn_words.specs.declared.types.Region.{Region}
use Rattle.redn_words.specs.declared.types.Kind.TheVariants.{Vars, Control}
use Rattle.redn_words.specs.declared.types.Obs.{Obs}
use Rattle.redn_words.specs.declared.types.Obs.TheVariants as shows
use Rattle.redn_words.specs.declared.types.Action.{Action}
use Rattle.redn_words.specs.declared.types.Action.TheVariants.{Deliver, Fetch, Start, Land}
use Rattle.redn_words.specs.Words.{number, spelled}
use Rattle.redn_words.specs.Requests.{decoded, encoded, opcode_named}
use Rattle.redn_words.specs.Access.{access}
use Rattle.redn_words.specs.Landings.{lands}
use Rattle.redn_words.specs.States.{State, start}
use Rattle.redn_words.specs.Steps.{possible, after, shown, may_start, started, counter_of, is_useful, chain_of}
use Rattle.redn_words.specs.Runs.{reached, all_shown, useful_for, is_for}
use Rattle.redn_kernel.specs.declared.types.Word.TheVariants.{Num}
use Rattle.redn_kernel.specs.declared.types.Kernel.{Kernel, fold-Kernel, fold_out-Kernel, map-Kernel}
use Rattle.redn_kernel.specs.declared.types.Kernel.TheVariants.{Reply, outs-Reply}
use Rattle.redn_kernel.specs.declared.types.Kernel.TheOpen.{Kernel-F}
use Rattle.redn_kernel.specs.declared.types.ChainInit.{ChainInit}
use Rattle.redn_kernel.specs.declared.types.Program.{Program}
use Rattle.redn_kernel.specs.Source.{ChainState, Source, Do, source_start, source_step, is_running, events, item_does, statement_does}
use Rattle.redn_image.specs.Rules.{Image}
use Rattle.redn_image.specs.Agreement.{Fits, Agrees, HoldsVariables, HasTableLength, variables_of, names_table, names_by}
use Rattle.redn_image.specs.Faithful.{Explains, CanGoOn, IsClean, start_of}

says_seven : ChainInit
says_seven = record { serve = 1; args = 0; vars = []; body = Reply (Num 7 ∷ []) ∷ [] }

program : Program
program = record { tables = []; chains = says_seven ∷ [] }

row : ℕ → ℕ → ℕ → ℕ → ℕ → List ℕ
row op lkey len first second =
    encoded (record { op = op; id = 0; lkey = lkey; rkey = 0; local = 0; remote = 0; length = len; first = first; second = second; flags = 0 })

rows : List Region
rows = record { key = 1; domain = 0; kind = Vars; rights = 0; base = 128; len = 0 } ∷ record { key = 2; domain = 0; kind = Control; rights = 0; base = 128; len = 8 } ∷ []

-- a WAIT for the message, and a SEND of the word 7
image : Image
image =
    record {
      regions = rows;
      queues = record { domain = 0; managed = false; base = 0; slots = 2; limit = 2 } ∷ [];
      receives = record { base = 136; len = 0 } ∷ [];
      memory = row 6 0 0 65536 1 ++ (row 5 2 8 0 0 ++ spelled 8 7);
    }

none : (P : Region → Type 0) → All P []
none P k d l = absurd (omega arith)

no_table : (t : ℕ) → fold-Kernel Bool (names_by t) (Reply (Num 7 ∷ [])) ≡ false
unfolding names_by
no_table t = fold_out-Kernel Bool (names_by t) (Reply (Num 7 ∷ [])) ∙ ap (λ (l : Kernel-F Kernel). names_by t (map-Kernel Kernel Bool (fold-Kernel Bool (names_by t)) l)) (outs-Reply (Num 7 ∷ []))

its_vars : (k : ℕ) (c : ChainInit) → slice_get (says_seven ∷ []) k ≡ Some c → map (λ (r : Region). r.len) (variables_of k rows) ≡ 8 * length c.vars ∷ []
unfolding says_seven rows
its_vars zero c e = let vars = ap (λ (d : ChainInit). length d.vars) (same_Some says_seven c e) in let none_there : length c.vars ≡ 0 = sym vars in rw none_there refl
its_vars (suc k) c e = cc

unnamed : (k t : ℕ) (c : ChainInit) → slice_get (says_seven ∷ []) k ≡ Some c → names_table t c ≡ true → ⊥
unfolding says_seven
unnamed zero t c e names =
    let its : names_table t c ≡ false = ap (λ (d : ChainInit). names_table t d) (sym (same_Some says_seven c e)) ∙ rw (no_table t) refl in
    false≢true (sym its ∙ names)
unnamed (suc k) t c e names = cc

it_fits : Fits program image
unfolding program image says_seven rows
it_fits =
    record {
      messages = refl;
      variables = its_vars;
      lengths = All-cons (HasTableLength []) (record { key = 1; domain = 0; kind = Vars; rights = 0; base = 128; len = 0 }) (record { key = 2; domain = 0; kind = Control; rights = 0; base = 128; len = 8 } ∷ []) tt (All-cons (HasTableLength []) (record { key = 2; domain = 0; kind = Control; rights = 0; base = 128; len = 8 }) [] tt (none (HasTableLength [])));
      named = λ k t c e names. absurd (unnamed k t c e names);
    }

-- the first states, with the message of no words and without one
with_message : State
with_message = start_of image (Some [] ∷ [])

source : Source
source = source_start program (Some [] ∷ [])

-- it agrees with any memory where the chain has no variable
agrees_always : (memory : List ℕ) (s : Source) (t : ChainState) → s.chains ≡ t ∷ [] → t.vars ≡ [] → Agrees rows memory s
unfolding rows
agrees_always memory s t e no_vars =
    record {
      variables = λ k c there. its k c (ap (λ (l : List ChainState). slice_get l k) (sym e) ∙ there);
      tables = λ u k d l. absurd (omega arith);
    }
  where
    its : (k : ℕ) (c : ChainState) → slice_get (t ∷ []) k ≡ Some c → All (HoldsVariables memory c.vars) (variables_of k rows)
    its zero c there =
        let empty : length c.vars ≡ 0 = ap (λ (d : ChainState). length d.vars) (sym (same_Some t c there)) ∙ ap length no_vars in
        All-cons (HoldsVariables memory c.vars) (record { key = 1; domain = 0; kind = Vars; rights = 0; base = 128; len = 0 }) [] (record { words = λ x l. absurd (omega (arith, empty)) }) (none (HoldsVariables memory c.vars))
    its (suc k) c there = cc

-- it disagrees where a variable isn't the word at its place
one_variable : Region
one_variable = record { key = 1; domain = 0; kind = Vars; rights = 0; base = 0; len = 8 }

disagrees : (message : Option (List ℕ)) → Agrees (one_variable ∷ []) (spelled 8 5) (record { tables = []; chains = record { vars = 6 ∷ []; message = message; items = []; ended = false } ∷ [] }) → ⊥
unfolding one_variable spelled number
disagrees message a =
    let here = a.variables 0 (record { vars = 6 ∷ []; message = message; items = []; ended = false }) refl 0 one_variable (omega arith) in
    let wrong : ◌≡◌ {A = ℕ} 5 6 = here.words 0 (omega arith) in
    omega (arith, wrong)

some_useful : (b : Bool) → (if b then 1 else 0) ≤ 1
some_useful true = omega arith
some_useful false = omega arith

-- the message comes: the source makes no step
explains_delivered : Explains with_message (Deliver 0 ∷ []) source []
unfolding with_message source image program says_seven rows row encoded spelled start source_start possible after shown
explains_delivered =
    record {
      runs = tt;
      shows_events = refl;
      agrees = agrees_always _ source (record { vars = []; message = Some []; items = _; ended = false }) refl refl;
      clean = λ k d l. absurd (omega arith);
      few = λ c. omega (arith, some_useful (c == 0));
      goes_on = λ c running. on c running;
    }
  where
    on : (c : ℕ) → is_running source c ≡ true → CanGoOn (after with_message (Deliver 0)) c
    on zero running = record { action = Fetch 0 0; can = refl; useful = simp gets refl; its = refl }
    on (suc c) running = absurd (false≢true running)

-- every request is fetched before the message comes; then the chain replies
whole : List Action
whole = Fetch 0 0 ∷ Fetch 0 1 ∷ Deliver 0 ∷ Start 0 ∷ Start 0 ∷ Land 0 1 ∷ []

reply_7 : Obs
reply_7 = shows.Reply 0 1 (7 ∷ 0 ∷ 0 ∷ 0 ∷ 0 ∷ 0 ∷ 0 ∷ 0 ∷ [])

it_replies : all_shown with_message whole ≡ reply_7 ∷ []
unfolding whole reply_7 with_message image rows row encoded spelled start possible after shown started may_start counter_of decoded opcode_named number access lands
it_replies = simp gets refl

the_source_replies : events source (0 ∷ []) ≡ reply_7 ∷ []
unfolding reply_7 source program says_seven source_start source_step item_does statement_does
the_source_replies = simp (outs-Reply (Num 7 ∷ [])) refl

useful_few : (c : ℕ) (s : State) (acts : List Action) → useful_for c s acts ≤ length acts
useful_few c s [] = omega arith
useful_few c s (a ∷ acts) = omega (arith, useful_few c (after s a) acts, some_useful (is_useful s a && is_for c (chain_of s a)))

its_end : source_step source 0 ≡ (record { tables = []; chains = record { vars = []; message = Some []; items = Do (Reply (Num 7 ∷ [])) ∷ []; ended = true } ∷ [] }, reply_7)
unfolding reply_7 source program says_seven source_start source_step item_does statement_does
its_end = simp (outs-Reply (Num 7 ∷ [])) refl

six_there : length whole ≡ 6
unfolding whole
six_there = refl

agrees_there : (memory : List ℕ) → Agrees (with_message).regions memory (record { tables = []; chains = record { vars = []; message = Some []; items = Do (Reply (Num 7 ∷ [])) ∷ []; ended = true } ∷ [] })
unfolding with_message image start
agrees_there memory = agrees_always memory (record { tables = []; chains = record { vars = []; message = Some []; items = Do (Reply (Num 7 ∷ [])) ∷ []; ended = true } ∷ [] }) (record { vars = []; message = Some []; items = Do (Reply (Num 7 ∷ [])) ∷ []; ended = true }) refl refl

clean_reply : All IsClean (reply_7 ∷ [])
unfolding reply_7
clean_reply = All-cons IsClean (shows.Reply 0 1 (7 ∷ 0 ∷ 0 ∷ 0 ∷ 0 ∷ 0 ∷ 0 ∷ 0 ∷ [])) [] tt (λ k d l. absurd (omega arith))

explains_whole : Explains with_message whole source (0 ∷ [])
unfolding source program says_seven source_start
explains_whole =
    let ended = ap (λ (p : Source × Obs). p.0) its_end in
    record {
      runs = (refl, tt);
      shows_events = it_replies ∙ sym the_source_replies;
      agrees = subst (λ (s : Source). Agrees (with_message).regions (reached with_message whole).memory s) (sym ended) its_agreement;
      clean = subst (All IsClean) (sym it_replies) one_clean;
      few = λ c. let few = useful_few c with_message whole in let six = its_length in omega (arith, few, six);
      goes_on = λ c running. absurd (over c (subst (λ (s : Source). is_running s c ≡ true) ended running));
    }
  where
    its_length : length whole ≡ 6
    its_length = six_there

    its_agreement : Agrees (with_message).regions (reached with_message whole).memory (record { tables = []; chains = record { vars = []; message = Some []; items = Do (Reply (Num 7 ∷ [])) ∷ []; ended = true } ∷ [] })
    its_agreement = agrees_there (reached with_message whole).memory

    one_clean : All IsClean (reply_7 ∷ [])
    one_clean = clean_reply

    over : (c : ℕ) → is_running (record { tables = []; chains = record { vars = []; message = Some []; items = Do (Reply (Num 7 ∷ [])) ∷ []; ended = true } ∷ [] }) c ≡ true → ⊥
    over zero running = false≢true running
    over (suc c) running = false≢true running

-- an image that sends without waiting for a message
hasty : Image
hasty =
    record {
      regions = rows;
      queues = record { domain = 0; managed = false; base = 64; slots = 1; limit = 1 } ∷ [];
      receives = record { base = 136; len = 0 } ∷ [];
      memory = row 6 0 0 65536 1 ++ (row 5 2 8 0 0 ++ spelled 8 7);
    }

unasked : List Action
unasked = Fetch 0 0 ∷ Start 0 ∷ Land 0 0 ∷ []

it_replies_unasked : all_shown (start_of hasty (None ∷ [])) unasked ≡ reply_7 ∷ []
unfolding unasked reply_7 hasty rows row encoded spelled start possible after shown started may_start counter_of decoded opcode_named number access lands
it_replies_unasked = simp gets refl

-- no run of the source shows that reply
nothing_explains_it : (turns : List ℕ) → Explains (start_of hasty (None ∷ [])) unasked (source_start program (None ∷ [])) turns → ⊥
unfolding program says_seven source_start
nothing_explains_it [] e = let shown_is = sym it_replies_unasked ∙ e.shows_events in absurd (cc)
nothing_explains_it (zero ∷ turns) e = false≢true e.runs.0
nothing_explains_it (suc c ∷ turns) e = false≢true e.runs.0

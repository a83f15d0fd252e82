-- Code of core statements is put before code.
use Rattle.std.proofs.Common.{Vec, Global, ◌≡◌, ℕ, zero, suc, ◌+◌, ◌*◌, ◌≤◌, ◌⊎◌, inl, inr, if◌then◌else◌, Bool, true, false, None, List, [], ◌∷◌, ◌++◌, length, length-append, reverse, refl, sym, ap, ◌∙◌, subst, arith}
use Rattle.std.proofs.Math.Path.{fun_ext}
use Rattle.std.proofs.lemmas.List.{reverse-append}
use Rattle.redn_kernel.specs.declared.types.Cell.{Cell}
use Rattle.redn_kernel.specs.declared.types.Core.{Core, out-Core}
use Rattle.redn_kernel.specs.declared.types.Core.TheOpen.{Core-F}
use Rattle.redn_words.specs.declared.types.Obs.TheVariants as shows
use Rattle.redn_kernel.specs.Source.{Do, same_low, has_word, word_in, wrapped}
use Rattle.redn_kernel.specs.CoreRun.{Cells, held, put, shown_load}
use Rattle.redn_kernel.specs.declared.types.Kernel.{Kernel}
use Rattle.redn_kernel.specs.Composes.{Composes, Remains, Point, DoesHere, First, FirstOf, Acts, Chooses, Looks, Rounds, Quits, branch, past, opens}
use Rattle.redn_graph.specs.declared.types.Instr.{Instr}
use Rattle.redn_graph.specs.declared.types.Instr.TheVariants.{Add, Load}
use Rattle.redn_graph.specs.declared.types.End.{End}
use Rattle.redn_graph.specs.declared.types.End.TheVariants.{Jump, Test48, Test64, Probe, Reply}
use Rattle.redn_graph.specs.declared.types.Block.{Block}
use Rattle.redn_graph.specs.declared.build.Tail.{Tail}
use Rattle.redn_graph.specs.declared.build.Tail.TheVariants as tail
use Rattle.redn_graph.specs.Run.{Way, On, Taking, To, Out, Effect, effect, end_does}
use Rattle.redn_kernel.specs.Costs.{step_worth, statement_worth, search_worth, jump_worth}
use Rattle.redn_graph.specs.Idle.{idle_code, jump_of}
use Rattle.redn_graph.specs.Code.{Meaning, Label, InstrRuns, EndRuns, Runs, JumpsWithin, Serves, TailRuns, Extends, Means, Compiled, Compiles, Labels, IsOpen, left_after, with_worth}
use Rattle.redn_graph.specs.Growth.{Bound}
use Rattle.redn_graph.specs.Onward.{Works}
use Rattle.redn_graph.specs.Words.{test_end}
use Rattle.redn_graph.specs.Cores.{cell_move, IsOwnTarget, left_then, IgnoresSearches, TailDoes, PaysJump, Continues, CoresDo, CoresCompile, Forks}
use Rattle.redn_graph.proofs.Ends.{jump_runs}
use Rattle.redn_graph.proofs.Openings.{jumps_to, jumps_behind}
use Rattle.redn_graph.proofs.Building.{extends_then, extends_one, own_leads, means_still, compiled_none, compiled_means, compiled_then, compiled_bound, test_stays}
use Rattle.redn_graph.proofs.CoreSteps.{move_acts, add_acts, load_acts, choose_runs, look_runs}

-- more may be spent
more_left : (all : List Label) (less more taking : ℕ) (w : Way) → less ≤ more → (cost count : ℕ) → cost + left_after all less taking w ≤ less + step_worth * count → cost + left_after all more taking w ≤ more + step_worth * count
more_left all less more taking On le cost count paid = omega (arith, le, paid)
more_left all less more taking Taking le cost count paid = omega (arith, le, paid)
more_left all less more taking (To l) le cost count paid = omega (arith, le, paid)
more_left all less more taking Out le cost count paid = omega (arith, le, paid)

-- no end leads to the next place
either_never : (b : Bool) (e f : Effect) → (e.way ≡ On → ⊥) → (f.way ≡ On → ⊥) → (let u : Effect = if b then e else f in u.way) ≡ On → ⊥
either_never true e f met unmet is = met is
either_never false e f met unmet is = unmet is

looked_never : (b : Bool) (l : ℕ) → (if b then Taking else To l) ≡ On → ⊥
looked_never true l e = cc
looked_never false l e = cc

ends_never : (c : ℕ) (words : List ℕ) (tables : List (List ℕ)) (s : Cells) (taking : Bool) (end : End) → (end_does c words tables s taking end).way ≡ On → ⊥
unfolding end_does
ends_never c words tables s taking (Jump to) e = cc
ends_never c words tables s taking (Test48 left right met unmet) e = cc
ends_never c words tables s taking (Test64 left right met unmet) e = cc
ends_never c words tables s false (Probe to table offset key hit miss) e =
    either_never (has_word tables table (held words s offset)) (effect c words tables s s (if same_low (word_in tables table (held words s offset)) (held words s key) then Taking else To miss) (shows.Look c table (held words s offset) (word_in tables table (held words s offset)))) (effect c words tables s s Out (shows.Fault c table (held words s offset)))
    (λ f. looked_never (same_low (word_in tables table (held words s offset)) (held words s key)) miss f) (λ f. cc) e
ends_never c words tables s true (Probe to table offset key hit miss) e =
    let o : ℕ = wrapped (held words s offset + 8) in
    either_never (has_word tables table o) (effect c words tables s (put s to (word_in tables table o)) (To hit) (shown_load c to table o (word_in tables table o))) (effect c words tables s s Out (shows.Fault c table o)) (λ f. cc) (λ f. cc) e
ends_never c words tables s taking (Reply cells) e = cc

second_left : (all : List Label) (less more taking : ℕ) (w : Way) → (w ≡ On → ⊥) → (cost count : ℕ) → cost + left_after all less taking w ≤ taking + step_worth * count → cost + left_after all more taking w ≤ taking + step_worth * count
second_left all less more taking On never cost count paid = absurd (never refl)
second_left all less more taking Taking never cost count paid = paid
second_left all less more taking (To l) never cost count paid = paid
second_left all less more taking Out never cost count paid = paid

end_more : (all : List Label) (end : End) (m : Meaning) (less more : ℕ) → less ≤ more → EndRuns all end m less → EndRuns all end m more
end_more all end m less more le r = record {
  stands = r.stands;
  taking = r.taking;
  taking_worth = r.taking_worth;
  leads = r.leads;
  affords = omega (arith, r.affords, le);
  affords_taking = r.affords_taking;
  first = λ c words tables s. let d = r.first c words tables s in record { count = d.count; steps = d.steps; paid = more_left all less more r.taking_worth (end_does c words tables s false end).way le _ d.count d.paid };
  second =
      λ c words tables s. let d = r.second c words tables s in record { count = d.count; steps = d.steps; paid = second_left all less more r.taking_worth (end_does c words tables s true end).way (ends_never c words tables s true end) _ d.count d.paid };
}

runs_more : (all : List Label) (end : End) (list : List Instr) (m : Meaning) (less more : ℕ) → less ≤ more → Runs all end list m less → Runs all end list m more
runs_more all end [] m less more le r = end_more all end m less more le r
runs_more all end (i ∷ rest) m less more le r =
    let run = r.2 in (
      r.0,
      r.1,
      record {
        stands = run.stands;
        leads = run.leads;
        affords = omega (arith, run.affords, le);
        does = λ c words tables s. let d = run.does c words tables s in record { count = d.count; steps = d.steps; paid = omega (arith, d.paid, le) };
      },
      r.3,
    )

tail_more : (all : List Label) (t : Tail) (m : Meaning) (less more : ℕ) → less ≤ more → TailDoes all less t m → TailDoes all more t m
tail_more all (tail.To l) m less more le h = h
tail_more all (tail.Open instrs end) m less more le h = record { runs = runs_more all end (reverse instrs.items) m less more le h.runs; jumps = h.jumps }

-- where a block begins
tail_starts : (all : List Label) (t : Tail) (m : Meaning) → TailDoes all search_worth t m → TailRuns all 0 search_worth t m
tail_starts all (tail.To l) m h = h
tail_starts all (tail.Open instrs end) m h = h

tail_started : (all : List Label) (t : Tail) (m : Meaning) → TailRuns all 0 search_worth t m → TailDoes all search_worth t m
tail_started all (tail.To l) m h = h
tail_started all (tail.Open instrs end) m h = h

tail_works : (all : List Label) (t : Tail) (m : Meaning) → Works t → TailDoes all search_worth t m → TailRuns all 1 search_worth t m
tail_works all (tail.To l) m works h = absurd works
tail_works all (tail.Open instrs end) m works h = h

pub opens_does : (all : List Label) (worth : ℕ) (t : Tail) (end : End) (m : Meaning) → IsOpen t [] end → jump_of end ≡ None → EndRuns all end m worth → TailDoes all worth t m
opens_does all worth (tail.To l) end m opens stops runs = absurd opens
opens_does all worth (tail.Open instrs last) end m opens stops runs =
    let serves : Serves all search_worth end [] m worth = record { runs = runs; jumps = stops } in
    subst (λ (e : End). Serves all search_worth e (reverse instrs.items) m worth) (sym opens.1) (subst (λ (is : List Instr). Serves all search_worth end (reverse is) m worth) (sym opens.0) serves)

-- an instruction before what follows
pub continues_to : (instr : Instr) (to : ℕ) (instrs : Vec Instr Global) → instrs.items ≡ instr ∷ [] → Continues instr (tail.To to) (tail.Open instrs (Jump to))
continues_to instr to instrs is all m next worth left run pays leads =
    let serves : Serves all search_worth (Jump to) (instr ∷ []) m worth = record {
      runs = (next, left, run, jump_runs all to 0 left next leads.1 (omega (arith, pays)) (omega (arith, pays, leads.0)));
      jumps = jumps_to all search_worth to instr leads.0;
    }
    in
    subst (λ (list : List Instr). Serves all search_worth (Jump to) (reverse list) m worth) (sym is) serves

pub continues_open : (instr : Instr) (end : End) (old new : Vec Instr Global) → new.items ≡ old.items ++ instr ∷ [] → Continues instr (tail.Open old end) (tail.Open new end)
continues_open instr end old new is all m next worth left run pays more =
    let serves : Serves all search_worth end (instr ∷ reverse old.items) m worth =
    record { runs = (next, left, run, more.runs); jumps = jumps_behind all search_worth instr (reverse old.items) end more.jumps }
    in
    subst (λ (list : List Instr). Serves all search_worth end list m worth) (sym (ap reverse is ∙ reverse-append old.items (instr ∷ []))) serves

jump_paid : (t : Tail) (begins : Bool) (left : ℕ) → ((begins ≡ true) → Works t) → (begins ≡ true) ⊎ (jump_worth ≤ left) → PaysJump left t
jump_paid (tail.To l) begins left works (inl e) = absurd (works e)
jump_paid (tail.To l) begins left works (inr le) = le
jump_paid (tail.Open instrs end) begins left works h = tt

-- no statement
pub cores_none : (blocks : List Block) (exit : ℕ) (t : Tail) → CoresCompile blocks blocks exit [] t t
unfolding compiled_none
cores_none blocks exit t zero p some m does is ignores whole means leaves = absurd does
cores_none blocks exit t (suc n) p some m does is ignores whole means leaves =
    let d : FirstOf (DoesHere n) p [] = subst (FirstOf (DoesHere n) p) is does in
    let same : left_then p.behind m ≡ left_then p.here m = fun_ext (λ h. ap (λ (r : _). r ++ m h) (sym (d.1 h))) in
    record {
      code = compiled_none blocks whole leaves;
      does = λ all x. tail_more all t (left_then p.here m) search_worth p.worth d.0 (tail_started all t (left_then p.here m) (subst (λ (f : Meaning). TailRuns all 0 search_worth t f) same (means all x)));
    }

first_does_here : (n : ℕ) (p : Point) (first : Core) (rest : List Core) (layer : Core-F Core) → DoesHere (suc n) p → p.cores ≡ first ∷ rest → out-Core first ≡ layer → First (DoesHere n) p layer rest
first_does_here n p first rest layer does is out =
    let d : FirstOf (DoesHere n) p (first ∷ rest) = subst (FirstOf (DoesHere n) p) is does in
    subst (λ (l : Core-F Core). First (DoesHere n) p l rest) out d

-- what a statement's rest has as its meaning
module _ {old new : List Block} (exit : ℕ) (first : Core) (rest : List Core) (before behind after : Tail) (c : CoresCompile old new exit rest before behind) where
  -- a statement that is an instruction
  acts_code : (n : ℕ) (p : Point) (layer : Core-F Core) (instr : Instr) (some : List Label) (m : Meaning) → ((opens rest ≡ true) → Works behind) → Continues instr behind after → (a : Acts (DoesHere n) p layer rest) →
      InstrRuns instr (left_then p.here m) (left_then a.next m) p.worth a.left → IgnoresSearches m → length some
      ≡ length old → Means some 0 search_worth before (left_then p.behind m) → Means some 0 search_worth (tail.To exit) (left_then p.out m) → CoresDo old new exit some p m after
  acts_code n p layer instr some m works continues a run ignores whole means leaves =
      let r = c n (record p { cores = rest; here = a.next; worth = a.left }) some m a.rest_holds refl ignores whole means leaves in
      record { code = r.code; does = λ all x. continues all (left_then p.here m) (left_then a.next m) p.worth a.left run (jump_paid behind (opens rest) a.left works a.onward) (r.does all x) }

  pub cores_move : (to from : Cell) → out-Core first ≡ Core-F.Move to from → IsOwnTarget to → ((opens rest ≡ true) → Works behind) → Continues (cell_move to from) behind after → CoresCompile old new exit (first ∷ rest) before after
  unfolding First
  cores_move to from out own works continues zero p some m does is ignores whole means leaves = absurd does
  cores_move to from out own works continues (suc n) p some m does is ignores whole means leaves =
      let a : Acts (DoesHere n) p (Core-F.Move to from) rest = first_does_here n p first rest (Core-F.Move to from) does is out in
      acts_code n p (Core-F.Move to from) (cell_move to from) some m works continues a (move_acts p m ignores to from a.next a.left own a.affords a.pays) ignores whole means leaves

  pub cores_add : (to by : Cell) → out-Core first ≡ Core-F.Add to by → IsOwnTarget to → ((opens rest ≡ true) → Works behind) → Continues (Add to by) behind after → CoresCompile old new exit (first ∷ rest) before after
  unfolding First
  cores_add to by out own works continues zero p some m does is ignores whole means leaves = absurd does
  cores_add to by out own works continues (suc n) p some m does is ignores whole means leaves =
      let a : Acts (DoesHere n) p (Core-F.Add to by) rest = first_does_here n p first rest (Core-F.Add to by) does is out in
      acts_code n p (Core-F.Add to by) (Add to by) some m works continues a (add_acts p m ignores to by a.next a.left own a.affords a.pays) ignores whole means leaves

  pub cores_load : (to offset : Cell) (table : ℕ) → out-Core first ≡ Core-F.Load to table offset → IsOwnTarget to → ((opens rest ≡ true) → Works behind) → Continues (Load to table offset) behind after → CoresCompile old new exit (first ∷ rest) before after
  unfolding First
  cores_load to offset table out own works continues zero p some m does is ignores whole means leaves = absurd does
  cores_load to offset table out own works continues (suc n) p some m does is ignores whole means leaves =
      let a : Acts (DoesHere n) p (Core-F.Load to table offset) rest = first_does_here n p first rest (Core-F.Load to table offset) does is out in
      acts_code n p (Core-F.Load to table offset) (Load to table offset) some m works continues a (load_acts p m ignores to offset table a.next a.left own a.affords a.pays) ignores whole means leaves

  -- behind a statement with blocks
  behind_code : (n : ℕ) (p : Point) (done : Remains) (some : List Label) (m : Meaning) → DoesHere n (past p rest done) → IgnoresSearches m → length some ≡ length old → Means some 0 search_worth before (left_then p.behind m) →
      Means some 0 search_worth (tail.To exit) (left_then p.out m) →
      (r : Compiled old new some 0 search_worth (tail.To exit) (left_then p.out m)) × Means r.table 0 search_worth behind (left_then done m)
  behind_code n p done some m does ignores whole means leaves =
      let r = c n (past p rest done) some m does refl ignores whole means leaves in
      (r.code, λ all x. tail_starts all behind (left_then done m) (r.does all x))

  pub cores_quit : out-Core first ≡ Core-F.Leave → CoresCompile old new exit (first ∷ rest) before (tail.To exit)
  unfolding First
  cores_quit out zero p some m does is ignores whole means leaves = absurd does
  cores_quit out (suc n) p some m does is ignores whole means leaves =
      let a : Quits (DoesHere n) p rest = first_does_here n p first rest Core-F.Leave does is out in
      let r = behind_code n p a.done some m a.rest_holds ignores whole means leaves in
      let same : left_then p.out m ≡ left_then p.here m = fun_ext (λ h. ap (λ (r : _). r ++ m h) (sym (a.leaves h))) in
      record { code = r.0; does = λ all x. subst (λ (f : Meaning). TailDoes all p.worth (tail.To exit) f) same (leaves all (extends_then r.0.extends x)) }

  module _ {last : List Block} where
    pub cores_choose : (wide : Bool) (a b : Cell) (met unmet : List Core) (yes_block no_block : ℕ) → out-Core first ≡ Core-F.If wide a b met unmet → IsOpen after [] (test_end wide a b yes_block no_block) → Forks new last exit met unmet behind yes_block no_block → CoresCompile old last exit (first ∷ rest) before after
    unfolding First compiled_then
    cores_choose wide a b met unmet yes_block no_block out opened forks zero p some m does is ignores whole means leaves = absurd does
    cores_choose wide a b met unmet yes_block no_block out opened forks (suc n) p some m does is ignores whole means leaves =
        let f : Chooses (DoesHere n) p wide a b met unmet rest = first_does_here n p first rest (Core-F.If wide a b met unmet) does is out in
        let r = behind_code n p f.done some m f.rest_holds ignores whole means leaves in
        let g = forks n p f.if_met f.if_unmet f.done r.0.table m f.met_holds f.unmet_holds ignores r.0.whole r.1 r.0.means in
        record {
          code = compiled_then r.0 g.code;
          does =
              λ all x. opens_does all p.worth after _ (left_then p.here m) opened (test_stays wide a b yes_block no_block)
              (choose_runs p m ignores all yes_block no_block f.if_met f.if_unmet (g.met all x) (g.unmet all x) wide a b f.affords f.pays);
        }

    pub cores_look : (to : Cell) (table : ℕ) (offset key : Cell) (hit miss : List Core) (yes_block no_block : ℕ) → out-Core first ≡ Core-F.Probe to table offset key hit miss → IsOwnTarget to → IsOpen after [] (Probe to table offset key yes_block no_block) → Forks new last exit hit miss behind yes_block no_block → CoresCompile old last exit (first ∷ rest) before after
    unfolding First compiled_then
    cores_look to table offset key hit miss yes_block no_block out own opened forks zero p some m does is ignores whole means leaves = absurd does
    cores_look to table offset key hit miss yes_block no_block out own opened forks (suc n) p some m does is ignores whole means leaves =
        let f : Looks (DoesHere n) p to table offset key hit miss rest = first_does_here n p first rest (Core-F.Probe to table offset key hit miss) does is out in
        let r = behind_code n p f.done some m f.rest_holds ignores whole means leaves in
        let g = forks n p f.if_hit f.if_miss f.done r.0.table m f.hit_holds f.miss_holds ignores r.0.whole r.1 r.0.means in
        record {
          code = compiled_then r.0 g.code;
          does =
              λ all x. opens_does all p.worth after _ (left_then p.here m) opened refl
              (look_runs p m ignores all yes_block no_block f.found f.if_hit f.if_miss (g.met all x) (g.unmet all x) to table offset key own f.affords f.looks f.takes);
        }

    -- a loop, whose body's code begins a block
    pub cores_round : {b1 b2 b3 : List Block} (body : List Core) (out_block head : ℕ) (spare : Block) (begin : Tail) → out-Core first ≡ Core-F.Loop body → b2 ≡ b1 ++ spare ∷ [] → head ≡ length b1 → Labels new b1 behind out_block → CoresCompile b2 b3 out_block body (tail.To head) begin → ((opens body ≡ true) → Works begin) → Bound b3 last head begin → CoresCompile old last exit (first ∷ rest) before (tail.To head)
    unfolding First compiled_then compiled_bound compiled_means
    cores_round body out_block head spare begin out is_reserved at l0 d works bound zero p some m does is ignores whole means leaves = absurd does
    cores_round {b1 = b1} {b2 = b2} body out_block head spare begin out is_reserved at l0 d works bound (suc n) p some m does is ignores whole means leaves =
        let f : Rounds (DoesHere n) p body rest = first_does_here n p first rest (Core-F.Loop body) does is out in
        let r = behind_code n p f.done some m f.rest_holds ignores whole means leaves in
        let s0 = l0 r.0.table 0 search_worth (left_then f.done m) r.0.whole r.1 in
        let own : Label = with_worth search_worth (left_then p.here m) in
        let table : List Label = s0.table ++ own ∷ [] in
        let at_head : (all : List Label) → Extends table all → TailRuns all 0 search_worth (tail.To head) own.means =
        λ all x. own_leads s0.table search_worth own.means all head x (at ∙ sym s0.whole)
        in
        let size : length table ≡ length b2 = omega (arith, s0.whole, ap length is_reserved, length-append s0.table (own ∷ []), length-append b1 (spare ∷ [])) in
        let e = d n (record { cores = body; here = p.here; behind = p.here; out = f.done; worth = search_worth }) table m f.body_holds refl ignores size at_head (λ all x. s0.means all (extends_then (extends_one s0.table own) x)) in
        let inner = compiled_means e.code {far2 = 1} {worth2 = search_worth} {t2 = begin} {m2 = own.means} (λ all x. tail_works all begin own.means (works f.begins) (e.does all x)) in
        let both = compiled_then r.0 s0 in
        let still : Means inner.table 0 search_worth (tail.To exit) (left_then p.out m) = λ all x. r.0.means all (extends_then s0.extends (extends_then (extends_one s0.table own) (extends_then e.code.extends x))) in
        record {
          code = compiled_bound both 0 search_worth (tail.To exit) (left_then p.out m) spare head own (omega arith) is_reserved at inner bound still;
          does = λ all x. at_head all (extends_then e.code.extends x);
        }

-- two branches
pub forks_made : {b0 b1 b2 b3 b4 b5 : List Block} (exit : ℕ) (met unmet : List Core) (t : Tail) (next : ℕ) (one other : Tail) (yes_block no_block : ℕ) →
    Labels b0 b1 t next → CoresCompile b1 b2 exit met (tail.To next) one → CoresCompile b2 b3 exit unmet (tail.To next) other → Labels b3 b4 one yes_block → Labels b4 b5 other no_block → Forks b0 b5 exit met unmet t yes_block no_block
unfolding compiled_then compiled_means
forks_made exit met unmet t next one other yes_block no_block l0 c1 c2 l3 l4 n p if_met if_unmet done some m met_does unmet_does ignores whole means leaves =
    let out : Meaning = left_then p.out m in
    let m1 : Meaning = left_then if_met m in
    let m2 : Meaning = left_then if_unmet m in
    let s0 = l0 some 0 search_worth (left_then done m) whole means in
    let s1 = c1 n (branch p met if_met done) s0.table m met_does refl ignores s0.whole s0.means (means_still {a = some} {b = s0.table} 0 search_worth (tail.To exit) out s0.extends leaves) in
    let s2 = c2 n (branch p unmet if_unmet done) s1.code.table m unmet_does refl ignores s1.code.whole
    (means_still {a = s0.table} {b = s1.code.table} 0 search_worth (tail.To next) (left_then done m) s1.code.extends s0.means) s1.code.means in
    let s3 = l3 s2.code.table 0 search_worth m1 s2.code.whole (λ all x. tail_starts all one m1 (s1.does all (extends_then s2.code.extends x))) in
    let s4 = l4 s3.table 0 search_worth m2 s3.whole (λ all x. tail_starts all other m2 (s2.does all (extends_then s3.extends x))) in
    let last : Means s4.table 0 search_worth (tail.To exit) out = λ all x. s2.code.means all (extends_then s3.extends (extends_then s4.extends x)) in
    record {
      code = compiled_then s0 (compiled_then s1.code (compiled_then s2.code (compiled_then s3 (compiled_means s4 last))));
      met = λ all x. s3.means all (extends_then s4.extends x);
      unmet = λ all x. s4.means all x;
    }

-- the core statements of a search before what follows it. They do something first, so their block may be a statement's
works_within : (all : List Label) (most less : ℕ) (list : List Instr) (end : End) → idle_code list end ≡ None → JumpsWithin all most list end → JumpsWithin all less list end
works_within all most less [] end works jumps = jumps
works_within all most less (i ∷ rest) end works jumps = inl works

tail_far : (all : List Label) (far worth : ℕ) (t : Tail) (m : Meaning) → Works t → TailDoes all worth t m → TailRuns all far worth t m
tail_far all far worth (tail.To l) m works h = absurd works
tail_far all far worth (tail.Open instrs end) m works h = record { runs = h.runs; jumps = works_within all search_worth worth (reverse instrs.items) end works h.jumps }

pub compiles_search : {b0 b1 b2 : List Block} (hidden exit : ℕ) (st : Kernel) (cores : List Core) (t after : Tail) (next : ℕ) → Composes st cores → ((opens cores ≡ true) → Works after) → Labels b0 b1 t next → CoresCompile b1 b2 next cores (tail.To next) after → Compiles b0 b2 hidden exit (st ∷ []) t after
compiles_search hidden exit st cores t after next f works l c some far m near whole ignores leaves means =
    let s0 = l some far statement_worth m whole means in
    let p : Point = record { cores = cores; here = λ h. Do st ∷ []; behind = λ h. []; out = λ h. []; worth = statement_worth } in
    let behind : Means s0.table 0 search_worth (tail.To next) m = λ all x. (omega (arith, (s0.means all x).0), (s0.means all x).1) in
    let r = c f.depth p s0.table m f.does refl (λ h k v lt. ignores h k v (inl lt)) s0.whole behind behind in
    compiled_then s0 (compiled_means r.code (λ all x. tail_far all far statement_worth after (left_then p.here m) (works f.begins) (r.does all x)))

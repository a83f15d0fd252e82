-- Code is put before code.
use Rattle.std.proofs.Common.{Vec, Global, ◌≡◌, ◌≢◌, ℕ, Bool, ◌+◌, ◌<◌, ◌≤◌, inl, inr, List, [], ◌∷◌, ◌++◌, length, reverse, Some, None, true, false, refl, sym, ap, ◌∙◌, subst, arith, length-append}
use Rattle.std.specs.Prelude.{slice_get}
use Rattle.std.proofs.lemmas.List.{get_or_append_left}
use Rattle.std.proofs.lemmas.Bool.{cases_lt}
use Rattle.std.proofs.Math.Nat.{eq-or-lt_of_le}
use Rattle.std.proofs.Math.Seq.{get_or-append_seam}
use Rattle.redn_kernel.specs.declared.types.Word.{Word}
use Rattle.redn_kernel.specs.declared.types.Cell.{Cell}
use Rattle.redn_kernel.specs.declared.types.Kernel.{Kernel}
use Rattle.redn_kernel.specs.declared.types.Kernel.TheVariants as k
use Rattle.redn_kernel.specs.Source.{Item, AgainLoop, do_all, again}
use Rattle.redn_graph.specs.declared.types.Instr.{Instr}
use Rattle.redn_graph.specs.declared.types.End.{End}
use Rattle.redn_graph.specs.declared.types.Block.{Block}
use Rattle.redn_graph.specs.declared.build.Tail.{Tail}
use Rattle.redn_graph.specs.declared.build.Tail.TheVariants as tail
use Rattle.redn_kernel.specs.Costs.{statement_worth, jump_worth}
use Rattle.redn_graph.specs.Idle.{jump_of}
use Rattle.redn_graph.specs.Code.{Meaning, Label, Leads, InstrRuns, EndRuns, Serves, TailRuns, BlockRuns, Extends, Means, Leaves, Ignores, Compiled, Compiles, Precedes, Labels, label_at, meaning_at, nowhere, with_worth}
use Rattle.redn_graph.specs.Growth.{Bound}
use Rattle.redn_kernel.specs.CoreRun.{cell_of}
use Rattle.redn_graph.specs.Words.{test_end}
use Rattle.redn_graph.proofs.Indexes.{slice_get_append_left, slice_get_append_at}
use Rattle.redn_graph.proofs.Doing.{leads_none, leads_more, leads_at_least, doing}
use Rattle.redn_graph.proofs.Ends.{loop_begins, loop_again, breaks, past_statements, branch_runs}

pub extends_none : (some : List Label) → Extends some some
extends_none some = record { more = omega arith; same = λ l h. refl }

pub extends_then : {a b c : List Label} → Extends a b → Extends b c → Extends a c
extends_then {a = a} {b = b} {c = c} x y = record {
  more = omega (arith, x.more, y.more);
  same = λ l h. let lt : l < length b = omega (arith, x.more, h) in y.same l lt ∙ x.same l h;
}

-- one more block has a label
pub extends_one : (some : List Label) (own : Label) → Extends some (some ++ own ∷ [])
extends_one some own = record { more = omega (arith, length-append some (own ∷ [])); same = λ l h. get_or_append_left some (own ∷ []) (with_worth 0 nowhere) l h }

pub means_still : {a b : List Label} (far worth : ℕ) (t : Tail) (m : Meaning) → Extends a b → Means a far worth t m → Means b far worth t m
means_still far worth t m x h all y = h all (extends_then x y)

pub leaves_still : {a b : List Label} (exit : ℕ) (m : Meaning) → Extends a b → Leaves a exit m → Leaves b exit m
leaves_still exit m x h all y = h all (extends_then x y)

-- a block that stays does the same
pub block_stays : {old new : List Block} (all : List Label) (l : ℕ) → slice_get new l ≡ slice_get old l → BlockRuns all old l → BlockRuns all new l
block_stays all l same r = record { block = r.block; there = same ∙ r.there; serves = r.serves }

pub own_label : (some : List Label) (own : Label) (all : List Label) (l : ℕ) → Extends (some ++ own ∷ []) all → l ≡ length some → label_at all l ≡ own
own_label some own all l x at =
    let lt : l < length (some ++ own ∷ []) = omega (arith, length-append some (own ∷ [])) in
    x.same l lt ∙ ap (label_at (some ++ own ∷ [])) at ∙ get_or-append_seam some own [] (with_worth 0 nowhere)

-- what it stands for leads to it
pub own_leads : (some : List Label) (worth : ℕ) (m : Meaning) (all : List Label) (l : ℕ) → Extends (some ++ with_worth worth m ∷ []) all → l ≡ length some → TailRuns all 0 worth (tail.To l) m
own_leads some worth m all l x at =
    let is = own_label some (with_worth worth m) all l x at in
    (omega (arith, ap (λ (u : Label). u.worth) is), λ h. leads_none (ap (λ (u : Label). u.means h) (sym is)))

-- the block whose label was just added
pub own_block : {blocks : List Block} (some : List Label) (own : Label) (all : List Label) (l : ℕ) → Extends (some ++ own ∷ []) all → l ≡ length some → (b : Block) → slice_get blocks l ≡ Some b →
    Serves all own.worth b.end b.instrs own.means own.worth → BlockRuns all blocks l
own_block some own all l x at b there serves =
    record { block = b; there = there; serves = subst (λ (u : Label). Serves all u.worth b.end b.instrs u.means u.worth) (sym (own_label some own all l x at)) serves }

-- nothing is added
unfoldable pub compiled_none : {some : List Label} {far worth : ℕ} {t : Tail} {m : Meaning} (blocks : List Block) → length some ≡ length blocks → Means some far worth t m → Compiled blocks blocks some far worth t m
compiled_none {some = some} blocks whole means = record {
  table = some;
  extends = extends_none some;
  whole = whole;
  longer = omega arith;
  kept = λ l h. refl;
  added = λ l low high. absurd (omega arith);
  means = means;
}

module _ {old new : List Block} {some : List Label} {far worth : ℕ} {t : Tail} {m : Meaning} (c : Compiled old new some far worth t m) where
  -- what was added means something else too
  unfoldable pub compiled_means : {far2 worth2 : ℕ} {t2 : Tail} {m2 : Meaning} → Means c.table far2 worth2 t2 m2 → Compiled old new some far2 worth2 t2 m2
  compiled_means h =
      record { table = c.table; extends = c.extends; whole = c.whole; longer = c.longer; kept = c.kept; added = c.added; means = h }

  -- more is added
  unfoldable pub compiled_then : {last : List Block} {far2 worth2 : ℕ} {t2 : Tail} {m2 : Meaning} → Compiled new last c.table far2 worth2 t2 m2 → Compiled old last some far2 worth2 t2 m2
  compiled_then {last = last} d = record {
    table = d.table;
    extends = extends_then c.extends d.extends;
    whole = d.whole;
    longer = omega (arith, c.longer, d.longer);
    kept = λ l h. let lt : l < length new = omega (arith, c.longer, h) in d.kept l lt ∙ c.kept l h;
    added = λ l low high. elim (cases_lt l (length new)) [
      | inl lt ↦ (λ all x. block_stays all l (d.kept l lt) (c.added l low lt all (extends_then d.extends x)))
      | inr ge ↦ d.added l ge high
    ];
    means = d.means;
  }

  -- a block is reserved, code is added, and the block is bound to it
  unfoldable pub compiled_bound : {reserved last bound : List Block} (far3 worth3 : ℕ) {t2 : Tail} (t3 : Tail) (m3 : Meaning) (spare : Block) (head : ℕ) (own : Label) → statement_worth ≤ own.worth → reserved ≡ new ++ spare ∷ [] →
      head ≡ length new →
      (d : Compiled reserved last (c.table ++ own ∷ []) 1 own.worth t2 own.means) → Bound last bound head t2 → Means d.table far3 worth3 t3 m3 → Compiled old bound some far3 worth3 t3 m3
  compiled_bound {reserved = reserved} {last = last} {bound = bound} far3 worth3 t3 m3 spare head own enough is at d b means =
      let more : length reserved ≡ length new + 1 = ap length is ∙ length-append new (spare ∷ []) in
      let x : Extends c.table d.table = extends_then (extends_one c.table own) d.extends in
      let kept_new : (l : ℕ) → l < length new → slice_get bound l ≡ slice_get new l =
      λ l lt.
      let other : l ≢ head = omega arith in
      let low : l < length reserved = omega arith in
      b.others l other ∙ d.kept l low ∙ ap (λ (list : List Block). slice_get list l) is ∙ slice_get_append_left new (spare ∷ []) l lt
      in
      record {
        table = d.table;
        extends = extends_then c.extends x;
        whole = d.whole ∙ sym b.same_count;
        longer = omega (arith, c.longer, d.longer, more, b.same_count);
        kept = λ l h. let lt : l < length new = omega (arith, c.longer, h) in kept_new l lt ∙ c.kept l h;
        added = λ l low high. elim (cases_lt l (length new)) [
          | inl lt ↦ (λ all y. block_stays all l (kept_new l lt) (c.added l low lt all (extends_then x y)))
          | inr ge ↦ elim (eq-or-lt_of_le ge) [
            | inl e ↦ (λ all y. own_block c.table own all l (extends_then d.extends y) (sym e ∙ sym c.whole) b.block (ap (λ (j : ℕ). slice_get bound j) (sym (at ∙ e)) ∙ b.there) (b.closes all own.means own.worth enough (d.means all y)))
            | inr gt ↦
                let other : l ≢ head = omega arith in
                let new_one : length reserved ≤ l = omega (arith, more) in
                let within : l < length last = omega (arith, b.same_count, high) in
                (λ all y. block_stays all l (b.others l other) (d.added l new_one within all y))
          ]
        ];
        means = means;
      }

-- an open block is added
pub labels_open : (blocks : List Block) (b : Block) (t : Tail) → ((all : List Label) (far worth : ℕ) (m : Meaning) → TailRuns all far worth t m → Serves all worth b.end b.instrs m worth) → Labels blocks (blocks ++ b ∷ []) t (length blocks)
labels_open blocks b t serves some far worth m whole means =
    let more = length-append blocks (b ∷ []) in
    let own : Label = with_worth worth m in
    record {
      table = some ++ own ∷ [];
      extends = extends_one some own;
      whole = omega (arith, whole, more, length-append some (own ∷ []));
      longer = omega (arith, more);
      kept = λ l h. slice_get_append_left blocks (b ∷ []) l h;
      added = λ l low high all x.
          let at : l ≡ length blocks = omega (arith, more) in
          own_block some own all l x (at ∙ sym whole) b (ap (slice_get (blocks ++ b ∷ [])) at ∙ slice_get_append_at blocks b) (serves all far worth m (means all (extends_then (extends_one some own) x)));
      means = λ all x. own_leads some worth m all (length blocks) x (sym whole);
    }

-- meanings behind statements
statements_ignore : (hidden : ℕ) (body : List Kernel) (m : Meaning) → Ignores hidden m → Ignores hidden (λ h. do_all body ++ m h)
statements_ignore hidden body m ignores h k v some_cell = ap (λ (items : List Item). do_all body ++ items) (ignores h k v some_cell)

statements_leave : {some : List Label} (exit : ℕ) (body : List Kernel) (m : Meaning) → Leaves some exit m → Leaves some exit (λ h. do_all body ++ m h)
statements_leave exit body m leaves all x = ((leaves all x).0, λ h. subst (λ (items : List Item). Leads 0 items (meaning_at all exit h)) (sym (past_statements body (m h))) ((leaves all x).1 h))

pub ignores_more : {hidden more : ℕ} {m : Meaning} → hidden ≤ more → Ignores hidden m → Ignores more m
ignores_more le ignores h k v (inl search) = ignores h k v (inl search)
ignores_more le ignores h k v (inr past) = ignores h k v (inr (omega (arith, le, past)))

pub compiles_none : (blocks : List Block) (hidden exit : ℕ) (t : Tail) → Compiles blocks blocks hidden exit [] t t
compiles_none blocks hidden exit t some far m near whole ignores leaves means = compiled_none blocks whole means

-- a statement before others
pub compiles_list : {old mid new : List Block} {hidden more : ℕ} (exit : ℕ) (first : Kernel) (rest : List Kernel) (t behind after : Tail) → hidden ≤ more → Compiles old mid hidden exit rest t behind → Compiles mid new more exit (first ∷ []) behind after → Compiles old new hidden exit (first ∷ rest) t after
compiles_list exit first rest t behind after le c d some far m near whole ignores leaves means =
    let one = c some far m near whole ignores leaves means in
    let m2 : Meaning = λ h. do_all rest ++ m h in
    let two = d one.table far m2 near one.whole (ignores_more le (statements_ignore _ rest m ignores)) (leaves_still exit m2 one.extends (statements_leave exit rest m leaves)) one.means in
    compiled_then one two

-- a statement that is one instruction
pub compiles_instr : (blocks : List Block) (hidden exit : ℕ) (st : Kernel) (instr : Instr) (t after : Tail) → ((m : Meaning) → InstrRuns instr (doing st m) m statement_worth jump_worth) → Precedes instr t after →
    Compiles blocks blocks hidden exit (st ∷ []) t after
compiles_instr blocks hidden exit st instr t after runs precedes some far m near whole ignores leaves means =
    compiled_none blocks whole (precedes some far far (doing st m) m (runs m) means)

-- a break
pub compiles_break : (blocks : List Block) (hidden exit : ℕ) (t : Tail) → Compiles blocks blocks hidden exit (k.Break ∷ []) t (tail.To exit)
compiles_break blocks hidden exit t some far m near whole ignores leaves means =
    compiled_none blocks whole (λ all x. ((leaves all x).0, λ h. leads_at_least near (leads_more (breaks (m h)) ((leaves all x).1 h))))

-- an end alone that is no jump
serves_alone : (all : List Label) (instrs : Vec Instr Global) (end : End) (m : Meaning) → instrs.items ≡ [] → jump_of end ≡ None → EndRuns all end m statement_worth → Serves all statement_worth end (reverse instrs.items) m statement_worth
serves_alone all instrs end m none stops runs =
    let serves : Serves all statement_worth end [] m statement_worth = record { runs = runs; jumps = stops } in
    subst (λ (list : List Instr). Serves all statement_worth end (reverse list) m statement_worth) (sym none) serves

-- a statement that ends a block and takes nothing from what follows
pub compiles_end : (blocks : List Block) (hidden exit : ℕ) (st : Kernel) (instrs : Vec Instr Global) (end : End) (t : Tail) → instrs.items ≡ [] → jump_of end ≡ None →
    ((all : List Label) (m : Meaning) → EndRuns all end (doing st m) statement_worth) → Compiles blocks blocks hidden exit (st ∷ []) t (tail.Open instrs end)
compiles_end blocks hidden exit st instrs end t none stops runs some far m near whole ignores leaves means =
    compiled_none blocks whole (λ all x. serves_alone all instrs end (doing st m) none stops (runs all m))

-- five parts, and a tail that stands before them
compiled_five : {b0 b1 b2 b3 b4 b5 : List Block} {some : List Label} {f0 f1 f2 f3 f4 far w0 w1 w2 w3 w4 worth : ℕ} {t0 t1 t2 t3 t4 t : Tail} {m0 m1 m2 m3 m4 m : Meaning}
    (s0 : Compiled b0 b1 some f0 w0 t0 m0) (s1 : Compiled b1 b2 s0.table f1 w1 t1 m1) (s2 : Compiled b2 b3 s1.table f2 w2 t2 m2) (s3 : Compiled b3 b4 s2.table f3 w3 t3 m3) (s4 : Compiled b4 b5 s3.table f4 w4 t4 m4) →
    Means s4.table far worth t m → Compiled b0 b5 some far worth t m
compiled_five s0 s1 s2 s3 s4 means = compiled_then s0 (compiled_then s1 (compiled_then s2 (compiled_then s3 (compiled_means s4 means))))

-- a test is no jump
pub test_stays : (wide : Bool) (a b : Cell) (yes_block no_block : ℕ) → jump_of (test_end wide a b yes_block no_block) ≡ None
test_stays true a b yes_block no_block = refl
test_stays false a b yes_block no_block = refl

-- two blocks between which a test chooses
pub compiles_branch : {b0 b1 b2 b3 b4 b5 : List Block} {h0 h1 h2 : ℕ} (exit : ℕ) (wide : Bool) (a b : Word) (met unmet : List Kernel) (t : Tail) (next : ℕ) (one other : Tail) (yes_block no_block : ℕ) (instrs : Vec Instr Global) → h0 ≤ h1 → h0 ≤ h2 → instrs.items ≡ [] →
    Labels b0 b1 t next → Compiles b1 b2 h1 exit met (tail.To next) one → Compiles b2 b3 h2 exit unmet (tail.To next) other → Labels b3 b4 one yes_block → Labels b4 b5 other no_block →
    Compiles b0 b5 h0 exit (k.If wide a b met unmet ∷ []) t (tail.Open instrs (test_end wide (cell_of a) (cell_of b) yes_block no_block))
compiles_branch exit wide a b met unmet t next one other yes_block no_block instrs le1 le2 none l0 c1 c2 l3 l4 some far m near whole ignores leaves means =
    let m1 : Meaning = λ h. do_all met ++ m h in
    let m2 : Meaning = λ h. do_all unmet ++ m h in
    let s0 = l0 some far statement_worth m whole means in
    let s1 = c1 s0.table 0 m (omega arith) s0.whole (ignores_more le1 ignores) (leaves_still {a = some} {b = s0.table} exit m s0.extends leaves) s0.means in
    let s2 = c2 s1.table 0 m (omega arith) s1.whole (ignores_more le2 ignores) (leaves_still {a = some} {b = s1.table} exit m (extends_then {a = some} {b = s0.table} {c = s1.table} s0.extends s1.extends) leaves)
    (means_still {a = s0.table} {b = s1.table} 0 statement_worth (tail.To next) m s1.extends s0.means) in
    let s3 = l3 s2.table 0 statement_worth m1 s2.whole (means_still {a = s1.table} {b = s2.table} 0 statement_worth one m1 s2.extends s1.means) in
    let s4 = l4 s3.table 0 statement_worth m2 s3.whole (means_still {a = s2.table} {b = s3.table} 0 statement_worth other m2 s3.extends s2.means) in
    let st : Kernel = k.If wide a b met unmet in
    let end : End = test_end wide (cell_of a) (cell_of b) yes_block no_block in
    let chooses : Means s4.table far statement_worth (tail.Open instrs end) (doing st m) =
    λ all x. serves_alone all instrs end (doing st m) none (test_stays wide (cell_of a) (cell_of b) yes_block no_block) (branch_runs all wide a b met unmet m yes_block no_block (s3.means all (extends_then {a =
    s3.table} {b = s4.table} {c = all} s4.extends x)) (s4.means all x))
    in
    compiled_five s0 s1 s2 s3 s4 chooses

-- a block to which its own body leads back
pub compiles_endless : {b0 b1 b2 b3 b4 : List Block} {h0 h1 : ℕ} (exit : ℕ) (body : List Kernel) (t : Tail) (out head : ℕ) (spare : Block) (first : Tail) → h0 ≤ h1 → b2 ≡ b1 ++ spare ∷ [] → head ≡ length b1 →
    Labels b0 b1 t out → Compiles b2 b3 h1 out body (tail.To head) first → Bound b3 b4 head first →
    Compiles b0 b4 h0 exit (k.Loop body ∷ []) t (tail.To head)
compiles_endless {b1 = b1} exit body t out head spare first le is at l0 c b some far m near whole ignores leaves means =
    let s0 = l0 some far statement_worth m whole means in
    let own : Label = with_worth statement_worth (λ h. again body (m h)) in
    let inner : Meaning = λ h. AgainLoop body ∷ m h in
    let table : List Label = s0.table ++ own ∷ [] in
    let at_head : (all : List Label) → Extends table all → TailRuns all 0 statement_worth (tail.To head) own.means =
    λ all x. own_leads s0.table statement_worth own.means all head x (at ∙ sym s0.whole)
    in
    let d =
    c table 1 inner (omega arith) (omega (arith, s0.whole, ap length is, length-append s0.table (own ∷ []), length-append b1 (spare ∷ [])))
    (λ h j v some_cell. ap (λ (items : List Item). AgainLoop body ∷ items) (ignores_more le ignores h j v some_cell))
    (λ all x. s0.means all (extends_then (extends_one s0.table own) x))
    (λ all x. ((at_head all x).0, λ h. leads_more (loop_again body (m h)) ((at_head all x).1 h)))
    in
    compiled_bound s0 far statement_worth (tail.To head) (doing (k.Loop body) m) spare head own (omega arith) is at d b
    (λ all x.
    let there = at_head all (extends_then {a = table} {b = d.table} {c = all} d.extends x) in
    (there.0, λ h. leads_at_least near (leads_more (loop_begins body (m h)) (there.1 h))))

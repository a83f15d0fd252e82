-- Code that does nothing leads to what follows, or out by a break.
use Rattle.std.proofs.Common.{◌≡◌, ◌≢◌, ℕ, ◌+◌, ◌<◌, ◌≤◌, inl, inr, Bool, true, false, ◌&&◌, ◌||◌, List, [], ◌∷◌, ◌++◌, length, length-append, reverse, Option, None, refl, sym, ap, ◌∙◌, arith}
use Rattle.std.specs.Prelude.{slice_get, if◌then◌else◌}
use Rattle.std.proofs.lemmas.List.{reverse-append}
use Rattle.redn_graph.specs.declared.types.Instr.{Instr}
use Rattle.redn_graph.specs.declared.types.End.{End}
use Rattle.redn_graph.specs.declared.types.Block.{Block}
use Rattle.redn_graph.specs.declared.build.Tail.{Tail}
use Rattle.redn_graph.specs.declared.build.Tail.TheVariants as tail
use Rattle.redn_graph.specs.Growth.{Bound}
use Rattle.redn_graph.proofs.Indexes.{slice_get_append_left}
use Rattle.redn_graph.specs.Code.{IsOpen}
use Rattle.redn_graph.specs.Idle.{puts_back, only_puts_back, jump_of, idle_code, idle_at}
use Rattle.redn_graph.specs.Onward.{Stops, AllStop, tail_idle, Works, IsAmong, TailStops, Added, Onward, LeadsOn}
use Rattle.std.proofs.lemmas.Bool.{cases_lt}
use Rattle.redn_graph.proofs.Stopping.{none_some, past_works, stops_here, stops_works, stops_before, kept_idle, added_none, added_then, added_one, idle_added, bound_stops, bound_leads}

pub false_true : {A : Type 0} → false ≡ true → A
false_true e = absurd (let h : ⊥ = cc in h)

-- code of this kind does something
pub code_works : (instrs : List Instr) (end : End) → only_puts_back instrs ≡ false → idle_code instrs end ≡ None
code_works instrs end works = ap (λ (b : Bool). let o : Option ℕ = if b then jump_of end else None in o) works

pub works_open : (t : Tail) (list : List Instr) (end : End) → IsOpen t list end → only_puts_back (reverse list) ≡ false → Works t
works_open (tail.To l) list end opens works = absurd opens
works_open (tail.Open instrs last) list end opens works = code_works (reverse instrs.items) last (ap (λ (is : List Instr). only_puts_back (reverse is)) opens.0 ∙ works)

pub works_among : (n : ℕ) (t : Tail) → Works t → IsAmong n t
works_among n (tail.To l) works = absurd works
works_among n (tail.Open instrs end) works = works

pub works_never : {A : Type 0} (blocks : List Block) (t : Tail) (r : ℕ) → Works t → TailStops blocks t r → A
works_never blocks (tail.To l) r works stops = absurd works
works_never blocks (tail.Open instrs end) r works stops = absurd stops

pub among_more : (n m : ℕ) (t : Tail) → n ≤ m → IsAmong n t → IsAmong m t
among_more n m (tail.To l) le among = omega (arith, le, among)
among_more n m (tail.Open instrs end) le among = among

-- an open block follows
pub onward_works : (old new : List Block) (exit : ℕ) (before after : Tail) (idle breaks : Bool) → Added old new → Works after → Onward old new exit before after idle breaks
onward_works old new exit before after idle breaks added works = record { added = added; among = works_among (length new) after works; leads = λ r lt stops. works_never new after r works stops }

pub leads_same : (blocks : List Block) (exit : ℕ) (t : Tail) (breaks : Bool) → LeadsOn blocks blocks exit t t true breaks
leads_same blocks exit t breaks all among = record { added = added_none blocks all; among = among; leads = λ r lt stops. inl (refl, stops) }

-- an open block is closed
pub leads_closed : (old new : List Block) (exit : ℕ) (before : Tail) (b : Block) (l : ℕ) → new ≡ old ++ b ∷ [] → l ≡ length old → idle_code b.instrs b.end ≡ None → AllStop old → Onward old new exit before (tail.To l) true false
leads_closed old new exit before b l is at works all =
    let here : idle_at new (length old) ≡ None = idle_added old new b is ∙ works in
    record {
      added = added_one old new b is here all;
      among = omega (arith, at, ap length is, length-append old (b ∷ []));
      leads = λ r lt stops.
          let own : r ≡ l = stops_works new l r (ap (idle_at new) at ∙ here) stops in
          absurd (omega (arith, own, at, lt));
    }

either : (d x : Bool) → x ≡ true → (d || x) ≡ true
either true x e = refl
either false x e = e

both : (j i : Bool) → j ≡ true → i ≡ true → (j && i) ≡ true
both j i e f = ap (λ (x : Bool). x && i) e ∙ f

-- one after the other
pub onward_then : {old mid new : List Block} {exit : ℕ} {before behind after : Tail} {i j b d : Bool} → AllStop old → exit < length old → Onward old mid exit before behind i b → Onward mid new exit behind after j d → Onward old new exit before after (j && i) (d || (j && b))
onward_then {old = old} {mid = mid} {exit = exit} {i = i} {j = j} {b = b} {d = d} all there x y = record {
  added = added_then x.added y.added;
  among = y.among;
  leads = λ r lt stops.
      let less : r < length mid = omega (arith, lt, x.added.longer) in
      elim (y.leads r less stops) [
        | inl on ↦ elim (x.leads r lt on.1) [ inl far ↦ inl (both j i on.0 far.0, far.1) | inr out ↦ inr (either d (j && b) (both j b on.0 out.0), out.1) ]
        | inr out ↦ inr (ap (λ (x : Bool). x || (j && b)) out.0, (stops_before old mid (kept_idle old mid x.added.kept) all exit r there out.1).1)
      ];
}

pub works_idle : (t : Tail) → Works t → tail_idle t ≡ None
works_idle (tail.To l) works = absurd works
works_idle (tail.Open instrs end) works = works

-- one block does something
pub all_works : (blocks : List Block) → length blocks ≡ 1 → idle_at blocks 0 ≡ None → AllStop blocks
all_works blocks one works =
    let none : (k : ℕ) → idle_at blocks k ≡ None = λ k. elim (cases_lt k 1) [
      | inl first ↦ let at : k ≡ 0 = omega (arith, first) in ap (idle_at blocks) at ∙ works
      | inr past ↦ past_works blocks k (omega (arith, one, past))
    ] in
    record { within = λ k l leads. absurd (none_some (sym (none k) ∙ leads)); stops = λ k. (k, stops_here blocks k (none k)) }

-- a block is reserved, others are added, and it is bound
module _ (b1 b2 b3 b4 : List Block) (head : ℕ) (spare : Block) (t : Tail) (reserved : b2 ≡ b1 ++ spare ∷ []) (at : head ≡ length b1) (fresh : idle_at b2 (length b1) ≡ None) (added : Added b2 b3) (among : IsAmong (length b3) t)
    (bound : Bound b3 b4 head t) (is : idle_at b4 head ≡ tail_idle t) (away : (r : ℕ) → TailStops b3 t r → r ≢ head) where
  size : length b2 ≡ length b1 + 1
  size = omega (arith, ap length reserved, length-append b1 (spare ∷ []))

  still_fresh : idle_at b3 head ≡ None
  still_fresh = kept_idle b2 b3 added.kept head (omega (arith, at, size)) ∙ ap (idle_at b2) at ∙ fresh

  pub loop_added : Added b1 b4
  loop_added = record {
    longer = omega (arith, size, added.longer, bound.same_count);
    kept = λ l lt.
        let other : l ≢ head = λ e. omega (arith, e, at, lt) in
        let low : l < length b2 = omega (arith, size, lt) in
        bound.others l other ∙ added.kept l low ∙ ap (λ (list : List Block). slice_get list l) reserved ∙ slice_get_append_left b1 (spare ∷ []) l lt;
    all_stop = bound_stops b3 b4 head still_fresh bound.others bound.same_count added.all_stop t is among away;
  }

  pub loop_leads : (r : ℕ) → r < length b1 → Stops b4 head r → TailStops b3 t r
  loop_leads r lt stops = bound_leads b3 b4 head still_fresh bound.others bound.same_count added.all_stop t is among away r (λ e. omega (arith, e, at, lt)) stops

-- a body is done again and again, and left by a break
module _ (old b1 b2 b3 b4 : List Block) (exit out head : ℕ) (spare : Block) (before again first : Tail) (idle breaks : Bool) (x : Onward old b1 exit before (tail.To out) true false) (reserved : b2 ≡ b1 ++ spare ∷ []) (at : head ≡ length b1) (fresh : idle_at b2 (length b1) ≡ None)
    (f : Onward b2 b3 out again first idle breaks) (stuck : (idle ≡ true) → (r : ℕ) → TailStops b2 again r → ⊥) (bound : Bound b3 b4 head first) (is : idle_at b4 head ≡ tail_idle first) where
  size_body : length b2 ≡ length b1 + 1
  size_body = omega (arith, ap length reserved, length-append b1 (spare ∷ []))

  -- the body leads on past its end only by a break
  by_break : (r : ℕ) → r < length b2 → TailStops b3 first r → (breaks ≡ true) × (r < length b1) × Stops b1 out r
  by_break r lt stops =
      elim (f.leads r lt stops) [
        | inl on ↦ absurd (stuck on.0 r on.1)
        | inr left ↦
            let same : (k : ℕ) → k < length b1 → idle_at b2 k ≡ idle_at b1 k = kept_idle b1 b2 (λ l low. ap (λ (list : List Block). slice_get list l) reserved ∙ slice_get_append_left b1 (spare ∷ []) l low) in
            let s = stops_before b1 b2 same x.added.all_stop out r x.among left.1 in
            (left.0, s.0, s.1)
      ]

  away : (r : ℕ) → TailStops b3 first r → r ≢ head
  away r stops e =
      let lt : r < length b2 = omega (arith, e, at, size_body) in
      let b = by_break r lt stops in
      omega (arith, e, at, b.1)

  pub round_added : Added old b4
  round_added = added_then x.added (loop_added b1 b2 b3 b4 head spare first reserved at fresh f.added f.among bound is away)

  pub round_leads : (r : ℕ) → r < length old → Stops b4 head r → (breaks ≡ true) × TailStops old before r
  round_leads r lt stops =
      let low : r < length b1 = omega (arith, lt, x.added.longer) in
      let high : r < length b2 = omega (arith, low, size_body) in
      let b = by_break r high (loop_leads b1 b2 b3 b4 head spare first reserved at fresh f.added f.among bound is away r low stops) in
      elim (x.leads r lt b.2) [ inl on ↦ (b.0, on.1) | inr left ↦ false_true left.0 ]

  pub endless_leads : head < length b4 → Onward old b4 exit before (tail.To head) breaks false
  endless_leads there = record { added = round_added; among = there; leads = λ r lt stops. inl (round_leads r lt stops) }

pub onward_as : {old new : List Block} {exit : ℕ} {before after : Tail} {i j b d : Bool} → ((i ≡ true) → (j ≡ true)) → ((b ≡ true) → (d ≡ true)) → Onward old new exit before after i b → Onward old new exit before after j d
onward_as idle breaks x = record { added = x.added; among = x.among; leads = λ r lt stops. elim (x.leads r lt stops) [ inl on ↦ inl (idle on.0, on.1) | inr out ↦ inr (breaks out.0, out.1) ] }

-- a break
pub break_leads : (blocks : List Block) (exit : ℕ) (t : Tail) (i b : Bool) → b ≡ true → exit < length blocks → LeadsOn blocks blocks exit t (tail.To exit) i b
break_leads blocks exit t i b breaks there all among = record { added = added_none blocks all; among = there; leads = λ r lt stops. inr (breaks, stops) }

pub one_idle : (i : Bool) → i ≡ true → (i && true) ≡ true
one_idle i e = ap (λ (x : Bool). x && true) e

pub one_breaks : (b x : Bool) → b ≡ true → (b || x) ≡ true
one_breaks b x e = ap (λ (y : Bool). y || x) e

pub idle_joined : (i r : Bool) → ((i && true) && r) ≡ true → (i && r) ≡ true
idle_joined true r e = e
idle_joined false r e = e

pub breaks_joined : (b i s : Bool) → ((b || (i && false)) || ((i && true) && s)) ≡ true → (b || (i && s)) ≡ true
breaks_joined true i s e = refl
breaks_joined false true s e = e
breaks_joined false false s e = e

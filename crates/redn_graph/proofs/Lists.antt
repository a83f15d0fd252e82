-- Statements of a list, the last one first.
use Rattle.std.proofs.Common.{◌≡◌, ℕ, suc, ◌+◌, ◌-◌, ◌*◌, ◌<◌, ◌≤◌, ◌&&◌, false, List, [], ◌∷◌, length, drop, get_or, ap, ◌∙◌, refl, sym, Result, Ok, Err, IfOk, subst, arith, drop-cons}
use Rattle.std.proofs.lemmas.List.Sums.{sum-map, sum_by-take-drop}
use Rattle.std.proofs.lemmas.List.Elements.{All-cons, All-nil, All-head, All-tail, All-drop}
use Rattle.std.specs.List.{All}
use Rattle.redn_kernel.specs.declared.types.Kernel.{Kernel}
use Rattle.redn_kernel.specs.Program.{weight_of, weight_of_all, idles_of, is_idle_body, breaks_idly}
use Rattle.redn_kernel.specs.Program.{IsUsable}
use Rattle.redn_graph.specs.declared.build.Builder.{Builder}
use Rattle.redn_graph.specs.declared.build.Tail.{Tail}
use Rattle.redn_graph.specs.Code.{Compiles}
use Rattle.redn_graph.specs.Slots.{SlotsWithin, Sized}
use Rattle.redn_graph.specs.Onward.{LeadsOn}
use Rattle.redn_graph.proofs.LeadingOn.{leads_same, onward_then, onward_as, one_idle, one_breaks, idle_joined, breaks_joined}
use Rattle.redn_graph.specs.Growth.{Grown, AllSound, IsSoundOne}
use Rattle.redn_graph.specs.Hidden.{repeats_in}
use Rattle.redn_graph.proofs.Repeats.{repeats_first}
use Rattle.redn_graph.specs.Fits.{Things, FitsTail, Fitted, IsWithin, IsWell, AllWell}
use Rattle.redn_graph.proofs.Building.{compiles_none, compiles_list}
use Rattle.redn_graph.proofs.Fits.{fitted_none, fitted_then, within_before}
use Rattle.redn_graph.specs.Listed.{Listed}
use Rattle.redn_graph.proofs.Statements.{weight_first, first_sound, rest_sound}

pub listed_none : (b : Builder) (exit : ℕ) (t : Tail) → Listed b b exit t [] t
listed_none b exit t = record {
  compiles = compiles_none b.blocks b.hidden exit t;
  slots = omega arith;
  grown = record { more = omega arith; cells = omega arith; longer = omega arith; blocks = omega arith };
  hidden = λ sound. omega arith;
  fits = λ n within there all tail. (fitted_none n b.blocks, tail);
  size = λ size most some fits room small. (small, omega (arith, fits));
  leads = λ sound there. leads_same b.blocks exit t false;
}

alone_sound : (first : Kernel) → IsSoundOne first → AllSound (first ∷ [])
alone_sound first u = (u.0, All-cons (IsUsable u.0) first [] u.1 (All-nil (IsUsable u.0)))

one_well : (n : Things) (statement : Kernel) → IsWell n statement → AllWell n (statement ∷ [])
one_well n statement well = All-cons (IsWell n) statement [] well (All-nil (IsWell n))

pub listed_more : {old mid new : Builder} {exit : ℕ} {before behind after : Tail} (first : Kernel) (rest : List Kernel) → Listed old mid exit before rest behind → Listed mid new exit behind (first ∷ []) after → Listed old new exit before (first ∷ rest) after
listed_more {old = old} {mid = mid} {exit = exit} {before = before} {behind = behind} {after = after} first rest x y =
    let whole = weight_first first rest in
    let alone = weight_first first [] in
    record {
      compiles = compiles_list exit first rest before behind after x.grown.more x.compiles y.compiles;
      slots = omega (arith, x.slots, y.slots, whole, alone);
      grown = record {
        more = omega (arith, x.grown, y.grown);
        cells = omega (arith, x.grown, y.grown, whole, alone);
        longer = omega (arith, x.grown, y.grown);
        blocks = omega (arith, x.grown, y.grown, whole, alone);
      };
      hidden = λ sound. omega (arith, x.hidden (rest_sound first rest _ refl sound), y.hidden (alone_sound first (first_sound first rest _ refl sound)), repeats_first first rest, repeats_first first []);
      fits = λ n within there all tail.
          let earlier = within_before n mid _ y.grown.longer y.grown.more within in
          let p = x.fits n earlier there (All-tail (IsWell n) first rest all) tail in
          let q = y.fits n within there (one_well n first (All-head (IsWell n) first rest all)) p.1 in
          (fitted_then n p.0 q.0, q.1);
      size = λ size most some fits room small.
          let p = x.size size most some fits (omega (arith, whole, room)) small in
          let q = y.size (size + 10 * weight_of_all rest) most (omega (arith, some)) p.1 (omega (arith, whole, alone, room)) p.0 in
          (q.0, omega (arith, whole, alone, q.1));
      leads = λ sound there all among.
          let p = x.leads (rest_sound first rest _ refl sound) there all among in
          let q = y.leads (alone_sound first (first_sound first rest _ refl sound)) (omega (arith, there, p.added.longer)) p.added.all_stop p.among in
          let i = idles_of first in
          onward_as (λ e. idle_joined i.is_idle (is_idle_body rest) e) (breaks_joined i.is_break i.is_idle (breaks_idly rest)) (onward_then all there p q);
    }

-- one statement, by its own weight and repeats
pub listed_one : {mid new : Builder} {exit : ℕ} {behind after : Tail} (first : Kernel) → Compiles mid.blocks new.blocks mid.hidden exit (first ∷ []) behind after → SlotsWithin mid.blocks new.blocks behind after (37 * weight_of first) →
    Grown mid new (weight_of first) →
    (IsSoundOne first → new.hidden ≡ mid.hidden + repeats_in first) → ((n : Things) → IsWithin n new → exit < n.blocks → IsWell n first → FitsTail n behind → Fitted n mid.blocks new.blocks × FitsTail n after) →
    Sized mid.blocks new.blocks behind after (weight_of first) →
    (IsSoundOne first → exit < length mid.blocks → LeadsOn mid.blocks new.blocks exit behind after (idles_of first).is_idle (idles_of first).is_break) → Listed mid new exit behind (first ∷ []) after
listed_one {mid = mid} {new = new} {behind = behind} {after = after} first compiles slots grown hidden fits size leads =
    let alone : weight_of first ≡ weight_of_all (first ∷ []) = omega (arith, weight_first first []) in
    record {
      compiles = compiles;
      slots = omega (arith, slots, alone);
      grown = subst (λ (w : ℕ). Grown mid new w) alone grown;
      hidden = λ sound. omega (arith, hidden (first_sound first [] _ refl sound), repeats_first first []);
      fits = λ n within there all tail. fits n within there (All-head (IsWell n) first [] all) tail;
      size = subst (λ (w : ℕ). Sized mid.blocks new.blocks behind after w) alone size;
      leads = λ sound there all among.
          let i = idles_of first in
          onward_as (one_idle i.is_idle) (one_breaks i.is_break (i.is_idle && false)) (leads (first_sound first [] _ refl sound) there all among);
    }

-- the same of a statement that is this one
pub listed_as : {A : Type 0} (r : Result Tail A) (old new : Builder) (exit : ℕ) (before : Tail) (st kind : Kernel) → st ≡ kind → IfOk r (λ after. Listed old new exit before (kind ∷ []) after) →
    IfOk r (λ after. Listed old new exit before (st ∷ []) after)
listed_as (Ok after) old new exit before st kind is l = subst (λ (u : Kernel). Listed old new exit before (u ∷ []) after) (sym is) l
listed_as (Err e) old new exit before st kind is l = l

pub last_and_more : (body : List Kernel) (i : ℕ) (d : Kernel) → 0 < i → i ≤ length body → drop (i - 1) body ≡ get_or body (i - 1) d ∷ drop i body
last_and_more body i d some few =
    let within : i - 1 < length body = omega arith in
    let next : suc (i - 1) ≡ i = omega arith in
    drop-cons body (i - 1) d within ∙ ap (λ (j : ℕ). get_or body (i - 1) d ∷ drop j body) next

-- a statement and those behind it weigh no more than all
pub weight_behind : (body : List Kernel) (i : ℕ) → weight_of_all (drop i body) ≤ weight_of_all body
weight_behind body i = omega (arith, sum_by-take-drop weight_of body i, sum-map weight_of (drop i body), sum-map weight_of body)

pub weight_at : (body : List Kernel) (i : ℕ) (d : Kernel) → 0 < i → i ≤ length body → weight_of (get_or body (i - 1) d) + weight_of_all (drop i body) ≤ weight_of_all body
weight_at body i d some few =
    omega (arith, weight_behind body (i - 1), ap weight_of_all (last_and_more body i d some few), weight_first (get_or body (i - 1) d) (drop i body))

pub sound_at : (body : List Kernel) (i : ℕ) (d : Kernel) → 0 < i → i ≤ length body → AllSound body → IsSoundOne (get_or body (i - 1) d)
sound_at body i d some few u =
    (u.0, All-head (IsUsable u.0) (get_or body (i - 1) d) (drop i body) (subst (λ (list : List Kernel). All (IsUsable u.0) list) (last_and_more body i d some few) (All-drop (IsUsable u.0) (i - 1) body u.1)))

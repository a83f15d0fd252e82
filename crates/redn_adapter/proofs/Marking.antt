-- Marks of busy queues, as queues change.
use Rattle.std.proofs.Common.{◌≡◌, ◌≢◌, ℕ, ◌+◌, ◌<◌, ◌≤◌, inl, inr, Bool, true, false, not, ◌&&◌, ◌||◌, List, Option, Some, length, map, get_or, set, refl, sym, ap, subst, ◌∙◌, arith}
use Rattle.std.specs.Prelude.{nat_lt, is_some, slice_get}
use Rattle.std.specs.FinMap as finite
use Rattle.std.proofs.lemmas.Bool.{cases_eq}
use Rattle.std.proofs.lemmas.Bool.Decides.{nat_tests}
use Rattle.std.proofs.lemmas.List.{length-set, get_or-set_same, get_or-set_other, get_or_default, map-set, length-map}
use Rattle.std.proofs.Math.Seq.{map-set_same}
use Rattle.redn_words.specs.States.{Queue}
use Rattle.redn_words.specs.Steps.{fetch_possible}
use Rattle.redn_marks.specs.Marks.{Marks}
use Rattle.redn_adapter.specs.Busy.{is_busy, KeepsBusy}

module _ (m : Marks) (chains : ℕ) (queues : List Queue) (q : ℕ) (u v : Queue) (h : KeepsBusy m chains queues) (l : q < length queues) (is : u ≡ get_or queues q u) (row : v.row.domain ≡ u.row.domain) where
  same_groups : m.group ≡ map (λ (w : Queue). w.row.domain) (set queues q v)
  same_groups = h.group ∙ sym (map-set_same (λ (w : Queue). w.row.domain) queues q v u (row ∙ ap (λ (w : Queue). w.row.domain) is))

  as_many : length m.marked ≡ length (set queues q v)
  as_many = h.many ∙ sym (length-set queues q v)

  -- a queue changes and isn't busy where it wasn't
  pub still_busy : (is_busy v ≡ true → is_busy u ≡ true) → KeepsBusy m chains (set queues q v)
  still_busy so =
      record {
        groups = h.groups;
        group = same_groups;
        many = as_many;
        busy = λ r d k e.
            elim (cases_eq r q) [
              | inl i ↦ ap (λ (x : ℕ). get_or m.marked x false) i ∙ h.busy q u l (ap is_busy (sym is) ∙ so (sym (ap is_busy (ap (λ (x : ℕ). get_or (set queues q v) x d) i ∙ get_or-set_same queues q v d l)) ∙ e))
              | inr i ↦ h.busy r d (omega (arith, k, length-set queues q v)) (sym (ap is_busy (get_or-set_other queues q r v d i)) ∙ e)
            ];
      }

  -- or its mark is put anew
  pub noted : KeepsBusy (record m { marked = set m.marked q (is_busy v) }) chains (set queues q v)
  noted =
      record {
        groups = h.groups;
        group = same_groups;
        many = length-set m.marked q (is_busy v) ∙ as_many;
        busy = λ r d k e.
            elim (cases_eq r q) [
              | inl i ↦ ap (λ (x : ℕ). get_or (set m.marked q (is_busy v)) x false) i ∙ get_or-set_same m.marked q (is_busy v) false (omega (arith, l, h.many)) ∙ sym (ap is_busy (ap (λ (x : ℕ). get_or (set queues q v) x d) i ∙ get_or-set_same queues q v d l)) ∙ e
              | inr i ↦ get_or-set_other m.marked q r (is_busy v) false i ∙ h.busy r d (omega (arith, k, length-set queues q v)) (sym (ap is_busy (get_or-set_other queues q r v d i)) ∙ e)
            ];
      }

-- a queue that fetches was busy
pub fetched_busy : (u : Queue) (index : ℕ) → fetch_possible index u ≡ true → is_busy u ≡ true
fetched_busy u index e = grind (arith, nat_tests)

-- so was one whose head starts
pub starts_busy : (u : Queue) → u.stopped ≡ false → is_some (finite.get u.held u.head) ≡ true → is_busy u ≡ true
starts_busy u runs held = rw (runs, held) (or_true (nat_lt u.head u.limit))
  where
    or_true : (b : Bool) → (b || true || nat_lt 0 (length u.flights)) ≡ true
    or_true true = refl
    or_true false = refl

-- the requests in flight are as many as before
pub same_flights : (u v : Queue) → v.stopped ≡ u.stopped → v.head ≡ u.head → v.limit ≡ u.limit → v.held ≡ u.held → length v.flights ≡ length u.flights → is_busy v ≡ is_busy u
same_flights u v stopped head limit held flights = rw (stopped, head, limit, held, flights) refl

use Rattle.std.proofs.Common.{◌≡◌, ℕ, ◌<◌, ◌^◌, Bool, true, false, not, ◌&&◌, ◌==◌, ◌||◌, cond, take, get_or, sym, arith}
use Rattle.std.specs.Prelude.{nat_lt}
use Rattle.std.specs.Ordering.{nat_cmp, is_eq}
use Rattle.std.specs.List.{list_any}
use Rattle.std.proofs.lemmas.Bool.Decides.{nat_tests}
use Rattle.std.proofs.lemmas.List.Folds.{list_any_more}
use Rattle.redn_image.specs.Rules.{RegionNumbers, key_is_new}
use Rattle.redn_image.proofs.Faults.{no_region, passed_more}
use Rattle.redn_image.proofs.rules.key_fault.Goals as goal

one_key : (key k : ℕ) (new old before whole : Bool) → new ≡ cond (is_eq (nat_cmp key k)) true old → old ≡ before → whole ≡ (before || (key == k)) → new ≡ whole
one_key key k new true before whole u o w = grind (arith, nat_tests)
one_key key k new false before whole u o w = grind (arith, nat_tests)

new_key : (key : ℕ) (before : Bool) → (key ≡ 0 → ⊥) → key < 2 ^ 32 → before ≡ false → (not (key == 0) && nat_lt key (2 ^ 32) && not before) ≡ true
new_key key before n l e = grind (arith, nat_tests)

not_there : (added there before : Bool) → added ≡ not there → added ≡ true → there ≡ before → before ≡ false
not_there added true before a t e = absurd (cc)
not_there added false before a t e = sym e

pub loop-index-preserved : goal.loop-index-preserved
loop-index-preserved c =
    let rows = c.args.rows.now in
    let i = c.loop-index.index in
    let key : ℕ = (get_or rows i no_region).key in
    let fits : key < 2 ^ 32 = omega arith in
    record {
      keys = λ k.
          one_key key k _ _ _ _ (c.in_ok-insert.ensures.updates.0 k) (c.loop-index.invariant.keys k) (list_any_more (λ (e : RegionNumbers). e.key == k) rows i no_region c.loop-index-test.true);
      passed =
          passed_more 6 key_is_new rows i no_region c.loop-index-test.true c.loop-index.invariant.passed
          (new_key key (list_any (λ (e : RegionNumbers). e.key == key) (take i rows)) c.if-row-eq0.false fits (not_there _ _ _ c.in_ok-insert.ensures.added c.if-not-branch.false (c.loop-index.invariant.keys key)));
    }

use Rattle.std.proofs.Common.{◌≡◌, ℕ, ◌<◌, ◌≤◌, ◌+◌, true, false, length, sym, ap, subst, ◌∙◌, inl, inr, arith}
use Rattle.std.specs.Prelude.{is_some}
use Rattle.std.specs.Ordering.{nat_cmp}
use Rattle.std.specs.BTreeMap.{get}
use Rattle.std.proofs.lemmas.Bool.{cases_lt}
use Rattle.redn_region.specs.Rows.{repeats}
use Rattle.redn_region.proofs.Keys.{finds_more, repeats_found, repeats_past, none_found}
use Rattle.redn_region.proofs.regions.Regions.new.Goals as goal

pub loop-index-preserved : goal.loop-index-preserved
loop-index-preserved c =
    let rows = c.deref-row-items.result.now in
    let i = c.loop-index.index in
    let none = sym c.in_ok-insert.ensures.old ∙ none_found c.in_ok-insert.field-0 (sym c.is_some.ensures ∙ c.if-is_some.false) in
    record {
      finds = finds_more (get nat_cmp c.loop-index.by_key) (get nat_cmp c.insert.new.self) rows i _ c.loop-index.invariant.finds c.loop-index-test.true none c.in_ok-insert.ensures.updates.0;
      distinct = λ j low.
          elim (cases_lt j i) [
            | inl before ↦ c.loop-index.invariant.distinct j before
            | inr after ↦
                let here : i ≡ j = omega arith in
                subst (λ n. repeats rows n ≡ false) here (repeats_found rows i _ c.loop-index-test.true ∙ ap is_some (sym (c.loop-index.invariant.finds _) ∙ none))
          ];
      rows = c.loop-index.invariant.rows;
    }

pub returns-then-is_some-clause-repeated : goal.returns-then-is_some-clause-repeated
returns-then-is_some-clause-repeated c = λ j same.
    let rows = c.deref-row-items.result.now in
    let i = c.loop-index.index in
    let here : i ≡ j = cc in
    let twice = repeats_found rows i _ c.loop-index-test.true ∙ ap is_some (sym (c.loop-index.invariant.finds _) ∙ sym c.in_ok-insert.ensures.old) ∙ sym c.is_some.ensures ∙ c.if-is_some.true in
    subst (λ rows. (repeats rows j ≡ true) × ((k : ℕ) → k < j → repeats rows k ≡ false)) c.loop-index.invariant.rows (subst (λ n. repeats rows n ≡ true) here twice, λ k low. c.loop-index.invariant.distinct k (omega arith))

pub returns-clause-distinct : goal.returns-clause-distinct
returns-clause-distinct c = λ j.
    let rows = c.deref-row-items.result.now in
    let done : repeats rows j ≡ false =
    elim (cases_lt j c.loop-index.index) [
      | inl before ↦ c.loop-index.invariant.distinct j before
      | inr after ↦ repeats_past rows j (omega arith)
    ] in
    subst (λ rows. repeats rows j ≡ false) c.loop-index.invariant.rows done

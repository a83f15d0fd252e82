use Rattle.std.proofs.Common.{ℕ, Bool, true, ◌&&◌, ◌==◌, Option, Some, None, get_or, sym, ap, ◌∙◌}
use Rattle.std.specs.Prelude.{if◌then◌else◌}
use Rattle.std.specs.Option.{option_or}
use Rattle.redn_image.specs.Rules.{RegionNumbers, has_place_of, table_is_one}
use Rattle.redn_image.proofs.Faults.{no_region, find_more, passed_more}
use Rattle.redn_image.proofs.rules.table_fault.Goals as goal

pub loop-index-preserved : goal.loop-index-preserved
loop-index-preserved c =
    let rows = c.args.rows.now in
    let i = c.loop-index.index in
    let r : RegionNumbers = get_or rows i no_region in
    let is_table : ℕ → RegionNumbers → Bool = λ t e. e.kind == 1 && e.table == t in
    let added : ℕ → Option RegionNumbers = λ t. if is_table t r then Some r else None in
    let place : Option RegionNumbers → Bool = λ o. if r.kind == 1 then has_place_of r o else true in
    record {
      first = λ t.
          c.in_ok-keeps_place.ensures.first t ∙ ap (λ (o : Option RegionNumbers). option_or o (added t)) (c.loop-index.invariant.first t) ∙ sym (find_more (is_table t) rows i no_region c.loop-index-test.true);
      passed = passed_more 11 table_is_one rows i no_region c.loop-index-test.true c.loop-index.invariant.passed (ap place (sym (c.loop-index.invariant.first r.table)) ∙ sym c.in_ok-keeps_place.ensures.kept ∙ c.if-not-branch.false);
    }

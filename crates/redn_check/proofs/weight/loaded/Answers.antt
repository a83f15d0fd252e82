use Rattle.std.proofs.Common.{◌≡◌, ◌&&◌, leb, ltb, arith}
use Rattle.std.proofs.lemmas.Bool.Decides.{nat_tests}
use Rattle.redn_check.proofs.Weighed.{load_push}
use Rattle.redn_check.proofs.weight.loaded.Goals as goal
use Rattle.redn_check.proofs.weight.loaded.Goals.{then-load-le-MAX_WEIGHT, else-load-le-MAX_WEIGHT}

pub returns : goal.returns
returns c = λ ws before.
    let total = c.args.load.total in
    let next = c.saturating_add-total.result in
    let passed : c.if-load-le-MAX_WEIGHT.passes ≡ (leb total 4096 && ltb 4096 next) =
    elim c.if-load-le-MAX_WEIGHT.branch [ then-load-le-MAX_WEIGHT w ↦ grind (arith, nat_tests) | else-load-le-MAX_WEIGHT w ↦ grind (arith, nat_tests) ]
    in
    load_push ws c.args.at c.args.weight total next c.args.load.first c.when.result c.earlier.result _ before c.saturating_add-total.ensures c.requires passed c.when.ensures c.earlier.ensures

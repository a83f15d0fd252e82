use Rattle.std.proofs.Common.{not}
use Rattle.redn_check.specs.Names.{variables, named, declares}
use Rattle.redn_check.specs.Faults.{fault, when}
use Rattle.redn_check.proofs.EarliestOf.{first_more_of, stepped}
use Rattle.redn_check.proofs.statements.missing_in_words.Goals as goal

pub loop-word-preserved : goal.loop-word-preserved
loop-word-preserved c =
    let more = first_more_of (λ n. when (not (declares (variables c.args.scope.now.chain.now) n)) (fault 1 n.at 0)) named c.args.words.now _ c.word-item.result c.loop-word-test.true c.word-item.is in
    stepped _ _ _ _ _ _ c.earlier-first.ensures c.loop-word.invariant c.missing_in.ensures more

use Rattle.redn_syntax.specs.declared.token.TokenKind.TheVariants as k
use Rattle.redn_syntax.specs.Canonical.{form}
use Rattle.redn_syntax.proofs.Lines.{joined_last, source, key_and_bound, halves}
use Rattle.redn_syntax.proofs.print.put_walk.Goals as goal

-- the front, then the key and the bound
pub returns : goal.returns
unfolding form
returns c =
    let a = c.args in
    let whole = halves k.Walk k.Nodes a.to.now a.table.now a.offset.now a.key.now a.nodes in
    joined_last c.put_key.result (source k.Walk a.to.now a.table.now a.offset.now) (key_and_bound a.key.now k.Nodes a.nodes) _ _ _ _ whole c.in_ok-put_source.ensures c.put_key.ensures

use Rattle.redn_parse.proofs.Trees.{one_tree}
use Rattle.redn_parse.proofs.laws.has_one_tree.Goals as goal

pub returns : goal.returns
returns c = one_tree c.args.tokens.now.text.items c.args.tokens.now.list.items

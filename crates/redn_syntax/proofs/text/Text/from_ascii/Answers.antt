use Rattle.std.proofs.lemmas.Str.{IsUtf8-from_ascii}
use Rattle.redn_syntax.proofs.text.Text.from_ascii.Goals as goal

-- ASCII is text
pub unreachable-requires : goal.unreachable-requires
unreachable-requires c = c.in-Err.ensures.cases.0 (IsUtf8-from_ascii _ c.requires)

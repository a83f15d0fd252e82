use Rattle.std.proofs.Common.{◌≡◌, take, map}
use Rattle.std.specs.Prelude.{All}
use Rattle.redn_kernel.specs.declared.types.ChainInit.{ChainInit}
use Rattle.redn_kernel.specs.Program.{AreWords}
use Rattle.redn_check.specs.Numbering.{chain_init}
use Rattle.redn_check.proofs.number.chains.Given as goal

-- those so far
abbrev pub invariant-loop-c : goal.invariant-loop-c
invariant-loop-c l = (l.list ≡ map (chain_init l.f.tables) (take l.c-index l.c-items)) × All (λ (c : ChainInit). AreWords c.vars) l.list

use Rattle.std.proofs.Common.{take}
use Rattle.std.specs.List.{All}
use Rattle.redn_kernel.specs.declared.types.TableInit.{TableInit}
use Rattle.redn_proof_window.specs.Scripts.{IsBytes}
use Rattle.redn_compile.proofs.numbers.tables_have_bytes.Given as goal

abbrev pub invariant-loop-table : goal.invariant-loop-table
invariant-loop-table l = All (λ (t : TableInit). IsBytes t.bytes) (take l.table-index l.tables)

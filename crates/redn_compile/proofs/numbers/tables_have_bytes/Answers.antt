use Rattle.std.proofs.Common.{ℕ, arith, subst}
use Rattle.std.proofs.lemmas.List.{take_all}
use Rattle.std.specs.List.{All}
use Rattle.std.specs.Prelude.{List}
use Rattle.redn_kernel.specs.declared.types.TableInit.{TableInit}
use Rattle.redn_proof_window.specs.Scripts.{IsBytes}
use Rattle.redn_block.proofs.Slots.{all_next}
use Rattle.redn_compile.proofs.numbers.tables_have_bytes.Goals as goal

pub loop-table-preserved : goal.loop-table-preserved
loop-table-preserved c =
    let bytes : IsBytes c.table-item.result.bytes = subst (λ (l : List ℕ). IsBytes l) c.as_slice.ensures c.are_bytes.ensures in
    all_next (λ (x : TableInit). IsBytes x.bytes) c.args.tables.now c.loop-table.table-index c.table-item.result (omega arith) c.loop-table.invariant (subst (λ (x : TableInit). IsBytes x.bytes) c.table-item.is bytes)

pub returns : goal.returns
returns c = subst (λ (l : List TableInit). All (λ (x : TableInit). IsBytes x.bytes) l) (take_all c.loop-table.table-index c.args.tables.now (omega arith)) c.loop-table.invariant

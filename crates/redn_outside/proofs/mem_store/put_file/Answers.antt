use Rattle.std.proofs.Common.{arith}
use Rattle.redn_outside.proofs.FileMaps.{files_in-insert}
use Rattle.redn_outside.proofs.mem_store.put_file.Goals as goal

pub returns-in-Ok-clause-ok : goal.returns-in-Ok-clause-ok
returns-in-Ok-clause-ok c =
    let held = files_in-insert c.args.files.now c.insert.new.self _ _ c.in-Ok.ensures.updates in
    grind arith

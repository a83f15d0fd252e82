use Rattle.std.proofs.Common.{arith}
use Rattle.redn_outside.proofs.FileMaps.{file_at-files_in}
use Rattle.redn_outside.proofs.mem_store.MemStore.get.Goals as goal

pub returns-in-Some : goal.returns-in-Some
returns-in-Some c = let held = file_at-files_in c.self.inside.files c.args.name.now in grind arith

pub returns-in-None : goal.returns-in-None
returns-in-None c = let held = file_at-files_in c.self.inside.files c.args.name.now in grind arith

use Rattle.std.proofs.Common.{◌≡◌, arith}
use Rattle.redn_outside.specs.Files.{files_in}
use Rattle.redn_outside.specs.StoreState.{files_after_write}
use Rattle.redn_outside.proofs.FileMaps.{OthersStay-after_write}
use Rattle.redn_outside.proofs.mem_store.MemStoreStore.write.Goals as goal

pub returns-clause-others_stay : goal.returns-clause-others_stay
returns-clause-others_stay c =
    let written : files_in c.if-not-matches.self-inside.files ≡ files_after_write c.args.self.now.files c.args.name.now c.args.bytes.now c.if-contains.answer = grind arith in
    rw written (OthersStay-after_write _ _ _ _)

-- How the fields of a `MemStore` are seen.
use Rattle.redn_outside.specs.Files.{files_in}
use Rattle.redn_outside.specs.StoreState.{StoreState}
use Rattle.redn_outside.specs.declared.mem_store.MemStore.TheInside.{Inside}

abbrev pub store_view : Inside → StoreState
store_view a = record { files = files_in a.files; fail = a.fail.items; calls = a.calls; counts = a.counts }

use Rattle.std.proofs.Common.{ap}
use Rattle.redn_top.specs.declared.status.Status.TheVariants.{ReadFailed, Missing, Long}
use Rattle.redn_top.proofs.Found.{failed_refused, want_refused, long_refused}
use Rattle.redn_top.proofs.CallsMade.{refused_read, wanted_read}
use Rattle.redn_top.proofs.reading.read_file.Goals as goal

pub returns-in-Err-Failed-clause-refused : goal.returns-in-Err-Failed-clause-refused
returns-in-Err-Failed-clause-refused g c =
    failed_refused (g.S.Store.seen c.args.store.now).told c.args.name.now c.args.limit (g.S.Store.seen c.args.store.now) (g.S.Store.seen c.read.new.self) (rw c.in-Err-Failed.field-0-is at c.in-Err-Failed.ensures.failed)

pub returns-in-Err-Long-clause-refused : goal.returns-in-Err-Long-clause-refused
returns-in-Err-Long-clause-refused g c =
    let longer = rw c.in-Err-Long.field-0-is at c.in-Err-Long.ensures.longer in
    let seen = rw c.in-Err-Long.field-0-is at c.in-Err-Long.ensures.seen_bytes in
    let rose = rw c.in-Err-Long.field-0-is at c.in-Err-Long.ensures.long in
    long_refused (g.S.Store.seen c.args.store.now).told c.args.name.now c.args.limit (g.S.Store.seen c.args.store.now) (g.S.Store.seen c.read.new.self) c.in-Err-Long.seen longer seen rose

pub returns-in-Err-Memory-clause-refused : goal.returns-in-Err-Memory-clause-refused
returns-in-Err-Memory-clause-refused g c =
    want_refused (g.S.Store.seen c.args.store.now).told c.args.name.now c.args.limit (g.S.Store.seen c.args.store.now) (g.S.Store.seen c.read.new.self)

pub returns-in-Err-Failed-clause-made : goal.returns-in-Err-Failed-clause-made
returns-in-Err-Failed-clause-made g c =
    let calls = rw c.in-Err-Failed.field-0-is at c.in-Err-Failed.ensures.calls in
    refused_read (g.S.Store.seen c.args.store.now).told c.args.name.now c.args.limit (g.S.Store.seen c.args.store.now) (g.S.Store.seen c.read.new.self) ReadFailed calls

pub returns-in-Err-Missing-clause-made : goal.returns-in-Err-Missing-clause-made
returns-in-Err-Missing-clause-made g c =
    let calls = rw c.in-Err-Missing.field-0-is at c.in-Err-Missing.ensures.calls in
    refused_read (g.S.Store.seen c.args.store.now).told c.args.name.now c.args.limit (g.S.Store.seen c.args.store.now) (g.S.Store.seen c.read.new.self) Missing calls

pub returns-in-Err-Long-clause-made : goal.returns-in-Err-Long-clause-made
returns-in-Err-Long-clause-made g c =
    let calls = rw c.in-Err-Long.field-0-is at c.in-Err-Long.ensures.calls in
    refused_read (g.S.Store.seen c.args.store.now).told c.args.name.now c.args.limit (g.S.Store.seen c.args.store.now) (g.S.Store.seen c.read.new.self) (Long c.in-Err-Long.seen c.args.limit) calls

pub returns-in-Err-Memory-clause-made : goal.returns-in-Err-Memory-clause-made
returns-in-Err-Memory-clause-made g c =
    let same = rw c.in-Err-Memory.field-0-is at c.in-Err-Memory.ensures.memory in
    wanted_read (g.S.Store.seen c.args.store.now).told c.args.name.now c.args.limit (g.S.Store.seen c.args.store.now) (g.S.Store.seen c.read.new.self) (ap (λ s. (g.S.Store.seen s).calls) same)

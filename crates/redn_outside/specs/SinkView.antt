-- How the fields of a `MemSink` are seen, and the room that it has taken.
use Rattle.std.specs.Prelude.{◌≤◌, vec_len}
use Rattle.std.specs.Vec.{vec_capacity}
use Rattle.redn_outside.specs.SinkState.{SinkState}
use Rattle.redn_outside.specs.declared.mem_sink.MemSink.TheInside.{Inside}

abbrev pub sink_view : Inside → SinkState
sink_view a = record { written = a.written.items; room = a.room; fail = a.fail.items; calls = a.calls; faults = a.faults }

-- the room is taken, and what was written fits into it
pub record HasRoom (a : Inside) : Type 0 where
  pub taken : a.room ≤ vec_capacity a.written
  pub fits : vec_len a.written ≤ a.room

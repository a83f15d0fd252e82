use Rattle.std.proofs.Common.{◌≡◌, take}
use Rattle.redn_sched.specs.ScheduleText.{recorded}
use Rattle.redn_sched.proofs.Replay.{AllFit}
use Rattle.redn_sched.proofs.written.schedule_text.Given as goal

abbrev pub invariant-loop-a : goal.invariant-loop-a
invariant-loop-a l = record {
  text : l.text.items ≡ recorded (take l.a-index l.actions);
  fit : AllFit (take l.a-index l.actions);
}

use Rattle.std.proofs.Common.{◌≡◌, ℕ, ◌≤◌, length, map, replicate}
use Rattle.redn_marks.specs.declared.marks.Group.{Group}
use Rattle.redn_marks.specs.Seats.{AreSeated, list_of}
use Rattle.redn_marks.proofs.Making.{seats_at}
use Rattle.redn_marks.proofs.marks.Marks.new.Given as goal

-- the numbers so far are seated, and none is marked
abbrev pub invariant-loop-number : goal.invariant-loop-number
invariant-loop-number l = record {
  seated : AreSeated (seats_at l.group-items l.number l.at.items l.groups.items);
  none : map (λ (g : Group). g.marked) l.groups.items ≡ replicate l.count 0;
  few : (c : ℕ) → length (list_of (seats_at l.group-items l.number l.at.items l.groups.items) c) ≤ l.number;
}

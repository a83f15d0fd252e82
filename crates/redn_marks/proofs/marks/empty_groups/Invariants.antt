use Rattle.std.proofs.Common.{◌≡◌, [], map, replicate}
use Rattle.redn_marks.specs.declared.marks.Group.{Group}
use Rattle.redn_marks.proofs.marks.empty_groups.Given as goal

abbrev pub invariant-loop : goal.invariant-loop
invariant-loop l = record {
  lists : map (λ (g : Group). g.numbers.items) l.groups.items ≡ replicate l.counter [];
  marked : map (λ (g : Group). g.marked) l.groups.items ≡ replicate l.counter 0;
}

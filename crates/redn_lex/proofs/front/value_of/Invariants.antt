use Rattle.std.proofs.Common.{◌≡◌, ◌<◌, ◌^◌, take}
use Rattle.std.specs.Str.Parse.{digits_value}
use Rattle.redn_lex.proofs.front.value_of.Given as goal

-- the value of the digits so far
abbrev pub invariant-loop-i : goal.invariant-loop-i
invariant-loop-i l = record {
  reads : l.value ≡ digits_value l.base (take l.i l.digits);
  fits : l.value < 2 ^ 64;
}

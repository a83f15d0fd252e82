-- What the walk over statements finds out about one statement, and about a list of them.
use Rattle.std.specs.Prelude.{◌-◌, ◌^◌, min, List, map}
use Rattle.std.specs.List.{flat_map}
use Rattle.redn_syntax.specs.declared.tree.Stmt.{Stmt}
use Rattle.redn_kernel.specs.Program.{some_break, break_idly}
use Rattle.redn_check.specs.declared.flow.StatementFlow.{StatementFlow}
use Rattle.redn_check.specs.declared.flow.BodyFlow.{BodyFlow}
use Rattle.redn_check.specs.declared.weight.Load.{Load}
use Rattle.redn_check.specs.Faults.{first_of}
use Rattle.redn_check.specs.Statements.{with_inner, each_of, exits_of, idles_of, falls_through, is_idle_body}
use Rattle.redn_check.specs.Rules.{unreached, flow_faults, Weight, weight_of_all, too_heavy}

abbrev pub statement_flow : Stmt → StatementFlow
statement_flow s = record {
  falls = (exits_of s).falls;
  breaks = (exits_of s).breaks;
  is_break = (idles_of s).is_break;
  is_idle = (idles_of s).is_idle;
  first = first_of (flat_map flow_faults (with_inner s));
}

abbrev pub body_flow : List Stmt → BodyFlow
body_flow body = record {
  falls = falls_through body;
  breaks = some_break (map exits_of body);
  breaks_idly = break_idly (map idles_of body);
  is_idle = is_idle_body body;
  unreached = first_of (unreached body);
  inner = first_of (flat_map flow_faults (each_of body));
}

-- the weight so far, up to 2^64 - 1, and the first fault in it
abbrev pub load_of : List Weight → Load
load_of ws = record { total = min (weight_of_all ws) (2 ^ 64 - 1); first = first_of (too_heavy ws) }

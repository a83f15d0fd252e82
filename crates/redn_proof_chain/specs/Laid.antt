-- A chain's graph in rings, with what is told of their runs.
use Rattle.redn_proof_block.specs.Laying.{Laying, Takes, Tells, Fails, Entry}
use Rattle.redn_proof_chain.specs.Formed.{Formed}

abbrev pub formed_of : Laying → Formed
formed_of l = record { layout = l.layout; course = l.course; takes = Takes l; tells = Tells l; fails = Fails l; enters = Entry l }

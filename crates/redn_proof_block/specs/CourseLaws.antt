-- Laws of a chain's graph in rings.
use Rattle.std.specs.Prelude.{◌≡◌, ℕ, ◌<◌, true, false, List}
use Rattle.redn_words.specs.declared.types.Opcode.{Opcode}
use Rattle.redn_segment.specs.declared.types.Draft.{Draft}
use Rattle.redn_graph.specs.Run.{GraphState}
use Rattle.redn_proof_landing.specs.Homes.{seen_in}
use Rattle.redn_proof_window.specs.Scripts.{IsScript}
use Rattle.redn_proof_ring.specs.Plans.{is_ring, IsOwn}
use Rattle.redn_proof_ring.specs.Turns.{script_of}
use Rattle.redn_proof_ring.specs.Runs.{Allows, Fine, meaning}
use Rattle.redn_proof_block.specs.Stages.{Ghost}
use Rattle.redn_proof_block.specs.Beginnings.{Begins}
use Rattle.redn_proof_block.specs.Laying.{Laying, plan, IsLaying, Turned, Takes, Tells, Fails, Entry}

-- by the opcodes that their slots may have, drafts of a chain's graph do what is asked of rings; and from its entry on, a ring's segments make the
-- graph's steps and lead to the entry of the next ring
abbrev pub CoursesAllow : Type 0
CoursesAllow = (l : Laying) → IsLaying l → Allows (plan l) (Takes l) Ghost (Tells l) (Fails l) (Entry l)

-- and each draft reads only tables, and sends only where it is a SEND
abbrev pub CoursesTurn : Type 0
CoursesTurn =
    (l : Laying) → IsLaying l → (r j k : ℕ) (d : Draft) (op : Opcode) → is_ring (plan l) r ≡ true → j < ((plan l).ring r).segments
    → IsOwn (plan l) r j k d → Takes l r j k op → Turned d op

-- where a graph begins in a memory, what is asked of it before the first segment of its ring holds
abbrev pub CoursesBegin : Type 0
CoursesBegin =
    (l : Laying) → IsLaying l → (v : ℕ) (y : GraphState) (m : List ℕ) → is_ring (plan l) v ≡ true → Begins l v y m
    → Fine (plan l) (Takes l) Ghost (Tells l) (Fails l) (Entry l) v 0 (record { state = y; ahead = false }) (seen_in l.layout.home m)

-- so the windows of the rings are a script
abbrev pub CoursesAreScript : Type 0
CoursesAreScript = (l : Laying) → IsLaying l → IsScript (script_of (plan l) (meaning (plan l) (Takes l) Ghost (Tells l) (Fails l) (Entry l)))

-- Laws of rings with laps.
use Rattle.std.specs.Prelude.{ℕ, List}
use Rattle.redn_words.specs.Landings.{Change}
use Rattle.redn_proof_window.specs.Scripts.{IsScript, IsOver, Behind}
use Rattle.redn_proof_ring.specs.Plans.{Plan, IsLaid}
use Rattle.redn_proof_ring.specs.Layouts.{Layout, plan_of, IsLayout}
use Rattle.redn_proof_ring.specs.Turns.{Meaning, Turn, GoesTo, script_of}

-- the windows of laid-out rings are a script: each is orderly, and behind each with gates there is the next, of the same ring or of the one that its
-- last ENABLE names
abbrev pub LapsAreScript : (c : Plan) → Meaning c → Type 0
LapsAreScript c G = IsScript (script_of c G)

-- and behind each such window, with the ghost that follows
abbrev pub LapsGoOn : (c : Plan) → Meaning c → Type 0
LapsGoOn c G =
    (x : Turn c G) (m : List ℕ) (event : List Change) (n : List ℕ) → IsOver (script_of c G) x m event n
    → (y : Turn c G) × Behind (script_of c G) x y m n × GoesTo c G x y m n

-- rings of segments that may go round, whose drafts leave lap requests and gates alone, are laid out so wherever their spaces lie apart
abbrev pub LayoutsAreLaid : Type 0
LayoutsAreLaid = (x : Layout) → IsLayout x → IsLaid (plan_of x)

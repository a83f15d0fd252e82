-- What the segments of a sum tell of a graph: the first copies the word, and the second shows the sum; then the end's show a reply.
use Rattle.std.proofs.Common.{◌≡◌, ℕ, ◌+◌, ◌*◌, ◌^◌, true, false, [], ◌∷◌, refl}
use Rattle.redn_words.specs.declared.types.Obs.TheVariants as shows
use Rattle.redn_words.specs.Words.{spelled, number}
use Rattle.redn_kernel.specs.declared.types.Cell.TheVariants.{Var}
use Rattle.redn_graph.specs.declared.types.Instr.TheVariants as instr
use Rattle.redn_graph.specs.declared.types.End.TheVariants as end
use Rattle.redn_graph.specs.declared.types.Graph.{Graph}
use Rattle.redn_graph.specs.Run.{GraphState, graph_step, instr_does, end_does}
use Rattle.redn_proof_block.specs.Truth.{IsTrueBy}
use Rattle.redn_proof_block.specs.Left.{Course}
use Rattle.redn_proof_block.specs.Parts.{Round, marks}
use Rattle.redn_proof_block.specs.Shares.{place_in, begins_in, closes_in}
use Rattle.redn_proof_block.specs.Stages.{Tells}

abbrev graph : Graph
graph = record { blocks = record { instrs = instr.Add (Var 0) (Var 1) ∷ []; end = end.Jump 0 } ∷ []; entry = 0; hidden = 0 }

abbrev course : Course
course = record { number = 2; mail = record { words = [] }; graph = graph }

abbrev at : ℕ → ℕ → GraphState
at place x = record { block = 0; place = place; taking = false; cells = record { vars = x ∷ 5 ∷ []; hidden = λ (k : ℕ). 0 }; ended = false }

-- the first segment fills the addend: it shows nothing, and nothing is done
fills : Tells course false (record { state = at 0 2; ahead = false }) [] (record { state = at 0 2; ahead = false })
fills = refl

-- the second shows the sum, which is the graph's step; no segment of the instruction is left
adds : Tells course true (record { state = at 0 2; ahead = false }) (shows.Set 2 0 7 ∷ []) (record { state = at 1 7; ahead = false })
unfolding graph_step instr_does end_does
adds = ((at 1 7, (λ tables is. refl), refl), refl)

-- were one left, the graph would be ahead until it has run
adds_before : Tells course false (record { state = at 0 2; ahead = false }) (shows.Set 2 0 7 ∷ []) (record { state = at 1 7; ahead = true })
unfolding graph_step instr_does end_does
adds_before = ((at 1 7, (λ tables is. refl), refl), refl)

then_none : Tells course true (record { state = at 1 7; ahead = true }) [] (record { state = at 1 7; ahead = false })
then_none = (refl, refl)

-- the jump shows nothing, and its last segment makes the step
jumps : Tells course true (record { state = at 1 7; ahead = false }) [] (record { state = at 0 7; ahead = false })
unfolding graph_step instr_does end_does
jumps = ((λ tables is. refl), refl)

-- a table of the words 5 and 9: what is loaded there at 8, and a fault past its end
loads : IsTrueBy (λ (t : ℕ). spelled 16 (5 * 2 ^ 64 + 9)) (shows.Load 2 0 0 8 9)
unfolding spelled number
loads = (refl, refl)

faults : IsTrueBy (λ (t : ℕ). spelled 16 (5 * 2 ^ 64 + 9)) (shows.Fault 2 0 9)
unfolding spelled number
faults = refl

-- the sum has two segments, and so has the jump behind it
abbrev round : Round
round = record { course = course; things = record { blocks = 1; hidden = 0; vars = 2; args = 0; tables = [] }; first = 5; number = 0; block = record { instrs = instr.Add (Var 0) (Var 1) ∷ []; end = end.Jump 0 }; ring = 5 }

segments_are : marks round ≡ record { place = 0; opens = true; closes = false } ∷ record { place = 0; opens = false; closes = true } ∷ record { place = 1; opens = true; closes = false } ∷ record { place = 1; opens = false; closes = true } ∷ []
segments_are = refl

-- of three parts with one, two and four segments, segment 2 is the last one of the second
shares : (place_in (1 ∷ 2 ∷ 4 ∷ []) 2 ≡ 1) × (begins_in (1 ∷ 2 ∷ 4 ∷ []) 2 ≡ false) × (closes_in (1 ∷ 2 ∷ 4 ∷ []) 2 ≡ true)
shares = (refl, refl, refl)

-- The graph's state behind an event, computed from what the event's body wrote: a load, and a probe that finds its key or doesn't.
use Rattle.std.proofs.Common.{◌≡◌, ℕ, Bool, true, false, [], ◌∷◌, refl}
use Rattle.redn_words.specs.Words.{spelled, number}
use Rattle.redn_words.specs.Landings.{change}
use Rattle.redn_kernel.specs.declared.types.Cell.TheVariants.{Var, Num}
use Rattle.redn_graph.specs.declared.types.Instr.TheVariants as instr
use Rattle.redn_graph.specs.declared.types.End.TheVariants as end
use Rattle.redn_graph.specs.declared.types.Graph.{Graph}
use Rattle.redn_graph.specs.Run.{GraphState, graph_step, instr_does, end_does}
use Rattle.redn_proof_block.specs.Left.{Course}
use Rattle.redn_proof_chain.specs.States.{next_spot, spot, behind, has_stepped}

-- block 0 loads the word at 16 of table 2; block 1 looks at 8 of table 2 for the key 5
abbrev graph : Graph
graph =
    record {
      blocks = record { instrs = instr.Load (Var 0) 2 (Num 16) ∷ []; end = end.Jump 1 } ∷ record { instrs = []; end = end.Probe (Var 0) 2 (Num 8) (Num 5) 0 1 } ∷ [];
      entry = 0;
      hidden = 0;
    }

abbrev course : Course
course = record { number = 3; mail = record { words = [] }; graph = graph }

abbrev at : ℕ → ℕ → Bool → ℕ → GraphState
at block place taking x = record { block = block; place = place; taking = taking; cells = record { vars = x ∷ []; hidden = λ (k : ℕ). 0 }; ended = false }

looks_there : next_spot course (at 0 0 false 7) ≡ spot 2 16
looks_there = refl

-- its body wrote the word 9 into the variable
loads : behind course false (at 0 0 false 7) (change 640 (spelled 8 9) ∷ []) ≡ at 0 1 false 9
unfolding graph_step instr_does spelled number
loads = refl

-- the look read the word 5 into the key word: the key is found, and the next step loads the word behind it
finds : behind course false (at 1 0 false 7) (change 320 (spelled 8 5) ∷ []) ≡ at 1 0 true 7
unfolding graph_step end_does spelled number
finds = refl

then_looks : next_spot course (at 1 0 true 7) ≡ spot 2 16
then_looks = refl

then_loads : behind course false (at 1 0 true 7) (change 640 (spelled 8 4) ∷ []) ≡ at 0 0 false 4
unfolding graph_step end_does spelled number
then_loads = refl

-- another word: the miss leads to block 1 again, and the READ that wasn't turned wrote nothing and steps no further
misses : behind course false (at 1 0 false 7) (change 320 (spelled 8 6) ∷ []) ≡ at 1 0 false 7
unfolding graph_step end_does spelled number
misses = refl

unturned : behind course false (at 1 0 false 7) [] ≡ at 1 0 false 7
unturned = refl

stays : has_stepped false [] ≡ false
stays = refl

-- The places of a small program, counted by hand: a chain that takes an argument, and replies 1 where it is 0, else 0.
use Rattle.std.proofs.Common.{◌≡◌, ℕ, true, false, List, [], ◌∷◌, ◌++◌, map, refl}
use Rattle.std.specs.Prelude.{replicate}
use Rattle.std.specs.List.{flat_map}
use Rattle.redn_words.specs.declared.types.Request.{Request}
use Rattle.redn_words.specs.Words.{spelled}
use Rattle.redn_words.specs.declared.types.Kind.TheVariants as kind
use Rattle.redn_kernel.specs.declared.types.Cell.TheVariants.{Var, Argument, Num}
use Rattle.redn_kernel.specs.declared.types.ChainInit.{ChainInit}
use Rattle.redn_kernel.specs.declared.types.Program.{Program}
use Rattle.redn_graph.specs.declared.types.Graph.{Graph}
use Rattle.redn_graph.specs.declared.types.Instr.TheVariants.{Move}
use Rattle.redn_graph.specs.declared.types.End.TheVariants.{Test48, Reply}
use Rattle.redn_emit.specs.Layout.{ChainPlan, ring_slots, first_limit, receive, Plain, operands, segment_requests, with_its_laps, home, control_bytes}
use Rattle.redn_emit.specs.Placed.{all_slots, plans, tables, regions, queues}

abbrev chain : ChainInit
chain = record { serve = 1; args = 1; vars = 0 ∷ []; body = [] }

abbrev program : Program
program = record { tables = []; chains = chain ∷ [] }

abbrev graph : Graph
graph =
    record {
      blocks = record { instrs = Move (Var 0) (Argument 0) ∷ []; end = Test48 (Var 0) (Num 0) 1 2 } ∷ record { instrs = []; end = Reply (Num 1 ∷ []) } ∷ record { instrs = []; end = Reply (Num 0 ∷ []) } ∷ [];
      entry = 0;
      hidden = 2;
    }

abbrev graphs : List Graph
graphs = graph ∷ []

slots_are : all_slots program graphs ≡ 37
slots_are = refl

rings_are : map (λ (c : ChainPlan). map ring_slots c.rings) (plans program graphs) ≡ (27 ∷ 5 ∷ 5 ∷ []) ∷ []
rings_are = refl

limits_are : map (λ (c : ChainPlan). map first_limit c.rings) (plans program graphs) ≡ (5 ∷ 4 ∷ 4 ∷ []) ∷ []
limits_are = refl

constants_are : map (λ (c : ChainPlan). c.constants) (plans program graphs) ≡ (0 ∷ 1 ∷ []) ∷ []
constants_are = refl

regions_are : regions program graphs
    ≡ (record { key = 1; domain = 0; kind = kind.Vars; rights = 13; base = 2680; len = 8 } ∷ record { key = 2; domain = 0; kind = kind.Code; rights = 12; base = 0; len = 2368 } ∷ record { key = 3; domain = 0; kind = kind.Control; rights = 13; base = 2496; len = 184 } ∷ record { key = 4; domain = 0; kind = kind.Message; rights = 0; base = 2688; len = 8 } ∷ [])
regions_are = refl

queues_are : queues program graphs
    ≡ (record { domain = 0; managed = false; base = 2368; slots = 2; limit = 2 } ∷ record { domain = 0; managed = true; base = 0; slots = 27; limit = 0 } ∷ record { domain = 0; managed = true; base = 1728; slots = 5; limit = 0 } ∷ record { domain = 0; managed = true; base = 2048; slots = 5; limit = 0 } ∷ [])
queues_are = refl

receives_are : map receive (plans program graphs) ≡ record { base = 2688; len = 8 } ∷ []
receives_are = refl

-- every request of the three rings: opcode, keys, offsets, length, operands, flags
abbrev request : ℕ → ℕ → ℕ → ℕ → ℕ → ℕ → ℕ → ℕ → ℕ → Request
request opcode lkey rkey local remote len first second flags =
    record { op = opcode; id = 0; lkey = lkey; rkey = rkey; local = local; remote = remote; length = len; first = first; second = second; flags = flags }

requests_are : map (λ (c : ChainPlan). map (λ (r : Plain). flat_map (segment_requests (home c (tables program graphs))) (with_its_laps r)) c.rings) (plans program graphs)
    ≡ ((request 1 4 1 0 0 8 0 0 0 ∷ request 4 3 2 16 1648 8 5 0 0 ∷ request 4 3 3 24 112 8 27 0 1 ∷ operands 6 1 1 ∷ operands 7 1 12 ∷ request 1 3 2 168 1152 2 0 0 0 ∷ request 1 1 2 2 1154 6 0 0 0 ∷ request 1 3 2 170 810 6 0 0 0 ∷ request 4 3 2 16 240 8 5 0 0 ∷ request 4 3 2 24 304 8 27 0 1 ∷ operands 6 1 2 ∷ operands 7 1 18 ∷ request 3 3 2 0 1152 8 0 281474976710656 0 ∷ request 1 3 2 136 1704 16 0 0 0 ∷ request 4 3 2 16 688 8 5 0 0 ∷ request 4 3 2 24 752 8 27 0 1 ∷ operands 6 1 3 ∷ operands 7 1 23 ∷ request 0 3 2 120 1704 16 0 0 0 ∷ request 4 3 2 16 1072 8 5 0 0 ∷ request 4 3 2 24 1136 8 27 0 1 ∷ operands 6 1 4 ∷ operands 7 1 27 ∷ request 4 3 2 16 1392 8 5 0 0 ∷ request 4 3 2 24 1456 8 27 0 1 ∷ operands 6 1 0 ∷ operands 7 0 0 ∷ []) ∷ (request 1 3 3 176 40 8 0 0 0 ∷ request 4 3 3 24 128 8 5 0 1 ∷ operands 6 2 1 ∷ operands 7 2 5 ∷ request 5 3 0 40 0 8 0 0 1 ∷ []) ∷ (request 1 3 3 168 40 8 0 0 0 ∷ request 4 3 3 24 144 8 5 0 1 ∷ operands 6 3 1 ∷ operands 7 3 5 ∷ request 5 3 0 40 0 8 0 0 1 ∷ []) ∷ []) ∷ []
requests_are = refl

-- the control words: descriptors behind 104 bytes of 0, two hidden words, and the constants
words_are : map control_bytes (plans program graphs)
    ≡ (replicate 104 0 ++ ((0 ∷ 0 ∷ 0 ∷ 0 ∷ 0 ∷ 0 ∷ 0 ∷ 1 ∷ 0 ∷ 0 ∷ 0 ∷ 0 ∷ 0 ∷ 0 ∷ 0 ∷ 5 ∷ 0 ∷ 0 ∷ 0 ∷ 0 ∷ 0 ∷ 0 ∷ 0 ∷ 2 ∷ 0 ∷ 0 ∷ 0 ∷ 0 ∷ 0 ∷ 0 ∷ 0 ∷ 4 ∷ 0 ∷ 0 ∷ 0 ∷ 0 ∷ 0 ∷ 0 ∷ 0 ∷ 3 ∷ 0 ∷ 0 ∷ 0 ∷ 0 ∷ 0 ∷ 0 ∷ 0 ∷ 4 ∷ []) ++ (replicate 16 0 ++ (0 ∷ 0 ∷ 0 ∷ 0 ∷ 0 ∷ 0 ∷ 0 ∷ 0 ∷ 0 ∷ 0 ∷ 0 ∷ 0 ∷ 0 ∷ 0 ∷ 0 ∷ 1 ∷ [])))) ∷ []
unfolding spelled
words_are = refl

-- The chains of a placed image as rings of their graphs, side by side.
use Rattle.std.specs.Prelude.{◌≡◌, ℕ, ◌+◌, ◌^◌, ◌<◌, true, false, List, [], ◌∷◌, length, get_or, None}
use Rattle.redn_words.specs.declared.limits.TheConstants.{RECEIVE_BASE}
use Rattle.redn_kernel.specs.declared.types.ChainInit.{ChainInit}
use Rattle.redn_kernel.specs.declared.types.Program.{Program}
use Rattle.redn_graph.specs.declared.types.Graph.{Graph}
use Rattle.redn_graph.specs.Run.{Mail}
use Rattle.redn_graph.specs.Fits.{things_of}
use Rattle.redn_proof_window.specs.Gateways.{Gateway}
use Rattle.redn_proof_ring.specs.Plans.{is_ring}
use Rattle.redn_proof_block.specs.Laying.{Laying}
use Rattle.redn_image.specs.Rules.{Image}
use Rattle.redn_image.specs.Faithful.{start_of}
use Rattle.redn_emit.specs.Layout.{ChainPlan, TablePlan, entry_row, gate, limit_of_ring}
use Rattle.redn_emit.specs.Placed.{entries_base, plans, tables}
use Rattle.redn_proof_layout.specs.Layouts.{is_own, layout_of}
use Rattle.redn_proof_layout.specs.PlacedLaws.{written_from}
use Rattle.redn_proof_interleave.specs.Compiled.{Messages}
use Rattle.redn_proof_interleave.specs.GraphMachines.{mail_in}
use Rattle.redn_proof_interleave.specs.RingSides.{message_at}
use Rattle.redn_proof_chain.specs.Formed.{Formed, plan}
use Rattle.redn_proof_chain.specs.Laid.{formed_of}
use Rattle.redn_proof_chain.specs.Together.{Shelves, Begun, Together}

-- a chain that stands nowhere
abbrev pub no_plan : ChainPlan
no_plan =
    record {
      number = 0;
      tables = 0;
      vars = 0;
      values = [];
      args = 0;
      hidden = 0;
      entry = 0;
      first = 0;
      rings = record { number = 0; segments = [] ∷ [] } ∷ [];
      constants = [];
      code_base = 0;
      control_base = 0;
    }

abbrev pub no_chain : ChainInit
no_chain = record { serve = 1; args = 0; vars = []; body = [] }

abbrev pub no_graph : Graph
no_graph = record { hidden = 0; entry = 0; blocks = [] }

abbrev pub no_table : TablePlan
no_table = record { number = 0; bytes = []; writable = false; base = 0 }

module _ (p : Program) (graphs : List Graph) where
  -- a chain's graph in its rings, with its mail; it stores into each table that may be written
  abbrev pub laying : ChainPlan → ChainInit → Graph → Mail → Laying
  laying c init g mail =
      record {
        layout = layout_of p graphs c;
        course = record { number = c.number; mail = mail; graph = g };
        things = things_of p.tables init g;
        written = written_from 0 p.tables;
      }

  abbrev pub formed : ChainPlan → ChainInit → Graph → Mail → Formed
  formed c init g mail = formed_of (laying c init g mail)

  -- its entry waits for the message and opens the ring of its entry block
  abbrev pub entry_of : ChainPlan → Gateway
  entry_of c =
      record {
        queue = c.number;
        row = entry_row (entries_base p graphs) c;
        gates = gate 6 (RECEIVE_BASE + c.number) 1 ∷ gate 7 (c.first + c.entry) (limit_of_ring c (c.first + c.entry)) ∷ [];
      }

  -- the entry of a graph is a ring of its chain, and has a segment
  pub record HasEntry (c : ChainPlan) (init : ChainInit) (g : Graph) : Type 0 where
    pub ring_in : is_ring (plan (formed c init g (mail_in init None))) (c.first + g.entry) ≡ true
    pub segment_in : 0 < ((plan (formed c init g (mail_in init None))).ring (c.first + g.entry)).segments

  -- as it begins
  abbrev pub begun : (c : ChainPlan) (init : ChainInit) (g : Graph) → Mail → HasEntry c init g → Begun
  begun c init g mail has =
      record {
        formed = formed c init g mail;
        entry = entry_of c;
        mine = is_own (entries_base p graphs) c;
        vars = init.vars;
        ring_in = has.ring_in;
        segment_in = has.segment_in;
      }

  -- what stands at a number
  abbrev pub plan_at : ℕ → ChainPlan
  plan_at i = get_or (plans p graphs) i no_plan

  abbrev pub init_at : ℕ → ChainInit
  init_at i = get_or p.chains i no_chain

  abbrev pub graph_at : ℕ → Graph
  graph_at i = get_or graphs i no_graph

  -- where the tables lie
  abbrev pub table_at : ℕ → TablePlan
  table_at k = get_or (tables p graphs) k no_table

  abbrev pub shelves : Shelves
  shelves = record { many = length p.tables; at = λ k. (table_at k).base; len = λ k. length (table_at k).bytes }

  -- so it is for each number, with or without a chain
  abbrev pub AllHaveEntries : Type 0
  AllHaveEntries = (i : ℕ) → HasEntry (plan_at i) (init_at i) (graph_at i)

  -- all chains, when the adapter starts with these messages
  abbrev pub together : Image → AllHaveEntries → Messages → Together
  together image entries messages =
      record {
        chain = λ i. begun (plan_at i) (init_at i) (graph_at i) (mail_in (init_at i) (message_at messages i)) (entries i);
        begin = start_of image messages;
        shelves = shelves;
        most = 2 ^ 62;
      }

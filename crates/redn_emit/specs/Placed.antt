-- What an image has whose chains are placed one after the other.
use Rattle.std.specs.Prelude.{◌≡◌, ℕ, suc, ◌+◌, ◌*◌, List, [], ◌∷◌, ◌++◌, length, map, sum_by}
use Rattle.std.specs.List.{flat_map}
use Rattle.redn_words.specs.declared.types.Region.{Region}
use Rattle.redn_words.specs.declared.types.QueueRow.{QueueRow}
use Rattle.redn_kernel.specs.declared.types.TableInit.{TableInit}
use Rattle.redn_kernel.specs.declared.types.ChainInit.{ChainInit}
use Rattle.redn_kernel.specs.declared.types.Program.{Program}
use Rattle.redn_graph.specs.declared.types.Graph.{Graph}
use Rattle.redn_image.specs.Rules.{Image}
use Rattle.redn_emit.specs.Layout.{Plain, ChainPlan, TablePlan, rings_from, code_slots, numbers_read, each_once, data_len, chain_rows, entry_row, ring_rows, receive, chain_code, chain_words, entry_bytes}

-- a chain before its places are known
pub record ChainRings : Type 0 where
  pub init : ChainInit
  pub graph : Graph
  pub first : ℕ
  pub rings : List Plain

abbrev pub chain_rings : ℕ → ChainInit → Graph → ChainRings
chain_rings first c g = record { init = c; graph = g; first = first; rings = rings_from first first g.blocks }

-- the chains of a program with their graphs. Rings are numbered through all chains, behind the entry queues
abbrev pub chains_from : ℕ → List ChainInit → List Graph → List ChainRings
chains_from first [] graphs = []
chains_from first (c ∷ cs) [] = []
chains_from first (c ∷ cs) (g ∷ gs) =
    chain_rings first c g ∷ chains_from (first + length g.blocks) cs gs

abbrev pub constants_of : List Plain → List ℕ
constants_of rings = each_once [] (numbers_read rings)

-- a chain with its number and its two bases
abbrev pub plan_at : ℕ → ℕ → ℕ → ℕ → ChainRings → ChainPlan
plan_at tables number code_base control_base c =
    record {
      number = number;
      tables = tables;
      vars = length c.init.vars;
      values = c.init.vars;
      args = c.init.args;
      hidden = c.graph.hidden;
      entry = c.graph.entry;
      first = c.first;
      rings = c.rings;
      constants = constants_of c.rings;
      code_base = code_base;
      control_base = control_base;
    }

-- chain after chain
abbrev pub plans_from : ℕ → ℕ → ℕ → ℕ → List ChainRings → List ChainPlan
plans_from tables number code_base control_base [] = []
plans_from tables number code_base control_base (c ∷ cs) =
    let plan : ChainPlan = plan_at tables number code_base control_base c in
    plan ∷ plans_from tables (suc number) (code_base + 64 * code_slots c.rings) (control_base + data_len plan) cs

abbrev pub tables_from : ℕ → ℕ → List TableInit → List TablePlan
tables_from number base [] = []
tables_from number base (t ∷ ts) =
    record { number = number; bytes = t.bytes; writable = t.writable; base = base } ∷ tables_from (suc number) (base + length t.bytes) ts

module _ (p : Program) (graphs : List Graph) where
  abbrev pub chains : List ChainRings
  chains = chains_from (length p.chains) p.chains graphs

  abbrev pub all_slots : ℕ
  all_slots = sum_by (λ (c : ChainRings). code_slots c.rings) chains

  -- the entry queues lie behind all rings, then come the words of each chain, and then the tables
  abbrev pub entries_base : ℕ
  entries_base = 64 * all_slots

  abbrev pub data_base : ℕ
  data_base = entries_base + 128 * length p.chains

  abbrev pub plans : List ChainPlan
  plans = plans_from (length p.tables) 0 0 data_base chains

  abbrev pub tables_base : ℕ
  tables_base = data_base + sum_by data_len plans

  abbrev pub tables : List TablePlan
  tables = tables_from 0 tables_base p.tables

  abbrev pub regions : List Region
  regions = flat_map (λ (c : ChainPlan). chain_rows c tables) plans

  abbrev pub queues : List QueueRow
  queues = map (entry_row entries_base) plans ++ flat_map ring_rows plans

  -- the code of all chains, their entries, their words, and the tables
  abbrev pub memory : List ℕ
  memory =
      flat_map (λ (c : ChainPlan). chain_code c tables) plans ++ (flat_map entry_bytes plans ++ (flat_map chain_words plans ++ flat_map (λ (t : TableInit). t.bytes) p.tables))

  -- an image is placed so
  pub record IsPlaced (i : Image) : Type 0 where
    pub regions_are : i.regions ≡ regions
    pub queues_are : i.queues ≡ queues
    pub receives_are : i.receives ≡ map receive plans
    pub memory_is : i.memory ≡ memory

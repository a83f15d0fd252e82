-- How the rings of each placed chain are laid out.
use Rattle.std.specs.Prelude.{ℕ, ◌+◌, ◌-◌, ◌*◌, ◌^◌, Bool, List, [], ◌∷◌, length, get_or}
use Rattle.redn_words.specs.Landings.{Place}
use Rattle.redn_words.specs.Ranges.{within}
use Rattle.redn_kernel.specs.declared.types.Program.{Program}
use Rattle.redn_graph.specs.declared.types.Graph.{Graph}
use Rattle.redn_segment.specs.declared.types.Draft.{Draft}
use Rattle.redn_proof_ring.specs.Layouts.{Layout}
use Rattle.redn_emit.specs.Layout.{Plain, ChainPlan, TablePlan, code_slots, ring_start, data_len, home, has_space}
use Rattle.redn_emit.specs.Placed.{entries_base, tables, regions, memory}

-- a ring of a chain by its number
abbrev pub no_ring : Plain
no_ring = record { number = 0; segments = [] }

abbrev pub ring_named : ChainPlan → ℕ → Plain
ring_named c r = get_or c.rings (r - c.first) no_ring

abbrev pub segments_named : ChainPlan → ℕ → List (List Draft)
segments_named c r = (ring_named c r).segments

-- the bytes that a chain has for itself: its code, its entry, and its words with its message
abbrev pub range : ℕ → ℕ → Place
range at len = record { at = at; len = len }

abbrev pub own_ranges : ℕ → ChainPlan → List Place
own_ranges entries c =
    range c.code_base (64 * code_slots c.rings) ∷ range (entries + 128 * c.number) 128 ∷ range c.control_base (data_len c) ∷ []

abbrev pub is_own : ℕ → ChainPlan → ℕ → Bool
is_own entries c q = within (own_ranges entries c) q

abbrev pub table_range : TablePlan → Place
table_range t = range t.base (length t.bytes)

module _ (p : Program) (graphs : List Graph) where
  abbrev pub layout_of : ChainPlan → Layout
  layout_of c =
      record {
        regions = regions p graphs;
        domain = c.number;
        home = home c (tables p graphs);
        mine = has_space c;
        ours = is_own (entries_base p graphs) c;
        size = length (memory p graphs);
        first_queue = c.first;
        rings = length c.rings;
        segments = segments_named c;
        base = λ r. c.code_base + 64 * ring_start c r;
        most = 2 ^ 62;
      }

-- The tables of a placed image: they lie apart, no chain has a byte of one, and memory begins with them.
use Rattle.std.proofs.Common.{◌≡◌, ℕ, zero, suc, ◌+◌, ◌<◌, inl, inr, Bool, true, false, List, [], length, Some, refl, sym, ap, ◌∙◌, arith}
use Rattle.std.specs.Prelude.{slice_get}
use Rattle.std.specs.List.{list_any, range_with_len}
use Rattle.std.proofs.lemmas.Bool.{true≢false, cases_lt, ltb-true, false_from_ne_true as none_if}
use Rattle.std.proofs.lemmas.List.{length-map}
use Rattle.std.proofs.lemmas.Option.{slice_get-get_or, get_or_from_slice_get}
use Rattle.redn_words.specs.declared.types.Region.{Region}
use Rattle.redn_kernel.specs.declared.types.TableInit.{TableInit}
use Rattle.redn_kernel.specs.declared.types.ChainInit.{ChainInit}
use Rattle.redn_kernel.specs.declared.types.Program.{Program}
use Rattle.redn_graph.specs.declared.types.Graph.{Graph}
use Rattle.redn_segment.specs.declared.types.Space.TheVariants as space
use Rattle.redn_segment.specs.Homes.{base_of, room_of}
use Rattle.redn_emit.specs.Layout.{ChainPlan, TablePlan, home, has_space}
use Rattle.redn_emit.specs.Placed.{entries_base, plans, tables_base, tables, memory}
use Rattle.redn_proof_layout.specs.Layouts.{is_own}
use Rattle.redn_proof_layout.specs.PlacedLaws.{AreSound}
use Rattle.redn_proof_layout.proofs.Portions.{part_bytes}
use Rattle.redn_proof_layout.proofs.Tables.{length-tables, table_is, tables_rise, mapped_at}
use Rattle.redn_proof_layout.proofs.Lengths.{size_is}
use Rattle.redn_proof_layout.proofs.Spaces.{HasTable, has_table}
use Rattle.redn_proof_layout.proofs.Whole.{stands}
use Rattle.redn_proof_layout.proofs.Beside.{chains_lie_apart}
use Rattle.redn_proof_layout.proofs.Began.{table_parts, tables_part}
use Rattle.redn_proof_interleave.specs.RingSides.{first_tables}
use Rattle.redn_proof_chain.specs.Together.{HasTables, is_on, is_shared, LieApart}
use Rattle.redn_proof_layout.specs.Chains.{no_table, table_at, shelves}
use Rattle.redn_proof_layout.proofs.Its.{Its}

none_in : (test : ℕ → Bool) (a n : ℕ) → ((k : ℕ) → k < a + n → test k ≡ false) → list_any test (range_with_len a n) ≡ false
none_in test a zero h = refl
none_in test a (suc n) h = let here = h a (omega arith) in rw here (none_in test (a + 1) n (λ k l. h k (omega (arith, l))))

module _ (p : Program) (graphs : List Graph) where
  pub table_there : (k : ℕ) → k < length p.tables → slice_get (tables p graphs) k ≡ Some (table_at p graphs k)
  table_there k l = let many = length-tables 0 (tables_base p graphs) p.tables in slice_get-get_or (tables p graphs) k no_table (omega (arith, l, many))

  module _ (are : AreSound p graphs) where
    pub shelves_apart : LieApart (shelves p graphs) (length (memory p graphs))
    shelves_apart =
        record {
          inside = λ k l. (let t = table_is 0 (tables_base p graphs) p.tables k (table_at p graphs k) (table_there k l) in let a = t.inside in let size = size_is p graphs are in omega (arith, a, size));
          apart = λ j k l m ne. elim (cases_lt j k) [
            | inl before ↦ inl (tables_rise 0 (tables_base p graphs) p.tables j k (table_at p graphs j) (table_at p graphs k) before (table_there j l) (table_there k m))
            | inr past ↦ inr (tables_rise 0 (tables_base p graphs) p.tables k j (table_at p graphs k) (table_at p graphs j) (omega (arith, past, ne)) (table_there k m) (table_there j l))
          ];
        }

    -- no byte of a chain is one of a table
    pub own_unshared : (i : ℕ) (c : ChainPlan) → slice_get (plans p graphs) i ≡ Some c → (q : ℕ) → is_own (entries_base p graphs) c q ≡ true → is_shared (shelves p graphs) q ≡ false
    own_unshared i c there q own =
        none_in (is_on (shelves p graphs) q) 0 (length p.tables) (λ k l. none_if (is_on (shelves p graphs) q k) (λ on. true≢false (sym own ∙ (chains_lie_apart p graphs are).shared i k c (table_at p graphs k) there (table_there k (omega (arith, l))) q on)))

    -- the tables that a chain names are these
    pub tables_named : (i : ℕ) (c : ChainPlan) (init : ChainInit) (g : Graph) → Its p graphs i c init g → (k : ℕ) → has_space c (space.Table k) ≡ true → (k < length p.tables) × (base_of (home c (tables p graphs)) (space.Table k) ≡ (table_at p graphs k).base) × (room_of (home c (tables p graphs)) (space.Table k) ≡ length (table_at p graphs k).bytes)
    tables_named i c init g its k named =
        let many = its.tables in
        let below = ltb-true k c.tables named in
        let has : HasTable c (tables_base p graphs) (length (memory p graphs)) p.tables (stands p graphs are i c its.there) k = has_table c (tables_base p graphs) (length (memory p graphs)) p.tables (stands p graphs are i c its.there) k named in
        let same : has.plan ≡ table_at p graphs k = sym (get_or_from_slice_get (tables p graphs) k has.plan no_table has.there) in
        let place : (table_at p graphs k).base + 0 ≡ (table_at p graphs k).base = omega arith in
        (omega (arith, below, many), ap (λ (r : Region). r.base + 0) has.region ∙ ap (λ (t : TablePlan). t.base + 0) same ∙ place, ap (λ (r : Region). r.len) has.region ∙ ap (λ (t : TablePlan). length t.bytes) same)

    -- memory begins with the program's tables
    pub tables_first : HasTables (shelves p graphs) (first_tables p) (memory p graphs)
    tables_first =
        record {
          many = length-map p.tables (λ (t : TableInit). t.bytes);
          each = λ k l.
              let t = table_is 0 (tables_base p graphs) p.tables k (table_at p graphs k) (table_there k l) in
              part_bytes (memory p graphs) (table_at p graphs k).base (length (table_at p graphs k).bytes) (table_at p graphs k).bytes refl (table_parts (memory p graphs) 0 (tables_base p graphs) p.tables (tables_part p graphs are) k (table_at p graphs k) (table_there k l)) ∙ t.bytes_are ∙ sym (mapped_at (λ (x : TableInit). x.bytes) p.tables k t.init [] t.init_at);
        }

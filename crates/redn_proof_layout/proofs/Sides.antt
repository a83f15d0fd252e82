-- The chains of a placed image stand side by side as rings of their graphs, so the image is faithful.
use Rattle.std.proofs.Common.{◌≡◌, ℕ, ◌<◌, ◌⊎◌, inl, inr, true, List, [], length, map, Option, Some, None, refl, sym, ap, ◌∙◌, subst, arith}
use Rattle.std.specs.Prelude.{slice_get}
use Rattle.std.specs.Option.{option_map}
use Rattle.std.specs.List.{All}
use Rattle.std.proofs.lemmas.List.Elements.{All-cons, All-nil}
use Rattle.std.proofs.lemmas.Option.{slice_get-map, get_or_from_slice_get}
use Rattle.redn_words.specs.declared.types.Region.{Region}
use Rattle.redn_words.specs.declared.types.QueueRow.{QueueRow}
use Rattle.redn_words.specs.Access.{EndsBy}
use Rattle.redn_words.specs.Laws.{row_at, row_of}
use Rattle.redn_words.specs.States.{State, Queue, fresh_queue}
use Rattle.redn_kernel.specs.declared.types.ChainInit.{ChainInit}
use Rattle.redn_kernel.specs.declared.types.Program.{Program}
use Rattle.redn_graph.specs.declared.types.Graph.{Graph}
use Rattle.redn_proof_window.specs.Scripts.{IsBytes}
use Rattle.redn_proof_ring.specs.Plans.{is_ring}
use Rattle.redn_image.specs.Rules.{Image}
use Rattle.redn_image.specs.Agreement.{variables_of, places_of}
use Rattle.redn_image.specs.Faithful.{AreMessages, start_of}
use Rattle.redn_emit.specs.Layout.{ChainPlan, TablePlan, vars_row, table_row}
use Rattle.redn_emit.specs.Placed.{plans, tables_base, tables, regions, queues, IsPlaced}
use Rattle.redn_proof_layout.specs.PlacedLaws.{AreSound}
use Rattle.redn_proof_layout.specs.Beginning.{plan_for}
use Rattle.redn_proof_layout.proofs.FirstBytes.{all_bytes}
use Rattle.redn_proof_layout.proofs.Tables.{length-tables, table_is, place_inside}
use Rattle.redn_proof_layout.proofs.Beside.{chains_lie_apart}
use Rattle.redn_proof_layout.proofs.Lengths.{count}
use Rattle.redn_proof_layout.proofs.Queues.{stand}
use Rattle.redn_proof_interleave.specs.Compiled.{Messages}
use Rattle.redn_proof_interleave.specs.GraphMachines.{mail_in}
use Rattle.redn_proof_interleave.specs.RingSides.{message_at, first_tables}
use Rattle.redn_proof_interleave.proofs.GraphHeadline.{graphs_are_faithful}
use Rattle.redn_proof_chain.specs.Formed.{plan}
use Rattle.redn_proof_chain.specs.Together.{Together, HasTables}
use Rattle.redn_proof_chain.specs.Sides.{IsImage, IsChain, IsShelf, HasCells, graphed_of}
use Rattle.redn_proof_chain.proofs.Siding.{ring_side}
use Rattle.redn_proof_layout.specs.Chains.{no_plan, no_chain, no_graph, no_table, plan_at, init_at, table_at, shelves, AllHaveEntries, together}
use Rattle.redn_proof_layout.specs.ImageLaws.{HasNumbers, EmittedAreFaithful}
use Rattle.redn_proof_layout.proofs.Its.{its, all_have_entries}
use Rattle.redn_proof_layout.proofs.Shelves.{tables_first}
use Rattle.redn_proof_layout.proofs.Start.{Starts, starts}
use Rattle.redn_proof_layout.proofs.Among.{among, many}
use Rattle.redn_proof_layout.proofs.RegionRows.{variables_are, all_places}
use Rattle.redn_proof_layout.proofs.Fits.{fits}

some_is : {X : Type 0} (a b : X) → Some a ≡ Some b → a ≡ b
some_is a b e = cc

-- a queue of the first state has the row there
fresh_row : (rows : List QueueRow) (q : ℕ) (row : QueueRow) → row_at (map fresh_queue rows) q ≡ Some row → slice_get rows q ≡ Some row
fresh_row rows q row e = by_item (slice_get rows q) refl (ap row_of (sym (slice_get-map fresh_queue rows q)) ∙ e)
  where
    by_item : (o : Option QueueRow) → slice_get rows q ≡ o → row_of (option_map fresh_queue o) ≡ Some row → slice_get rows q ≡ Some row
    by_item None f g = absurd (cc)
    by_item (Some x) f g = f ∙ g

fresh_head : (rows : List QueueRow) (q : ℕ) (u : Queue) → slice_get (map fresh_queue rows) q ≡ Some u → u.head ≡ 0
fresh_head rows q u e = by_item (slice_get rows q) (sym (slice_get-map fresh_queue rows q) ∙ e)
  where
    by_item : (o : Option QueueRow) → option_map fresh_queue o ≡ Some u → u.head ≡ 0
    by_item None g = absurd (cc)
    by_item (Some x) g = sym (ap (λ (v : Queue). v.head) (some_is (fresh_queue x) u g))

module _ (p : Program) (graphs : List Graph) (are : AreSound p graphs) (numbers : HasNumbers p) (image : Image) (is : IsPlaced p graphs image) (all : AllHaveEntries p graphs) (messages : Messages) (sent : AreMessages p.chains messages) where
  abbrev T : Together
  T = together p graphs image all messages

  abbrev s : State
  s = start_of image messages

  begin : Starts p graphs messages s
  begin = starts p graphs image messages is

  chains_many : length s.chains ≡ length p.chains
  chains_many = many p graphs are numbers image is all messages sent

  chain_is : (c : ℕ) (chain : ChainInit) (g : Graph) → slice_get p.chains c ≡ Some chain → slice_get graphs c ≡ Some g → IsChain (T.chain c) c chain g (mail_in chain (message_at messages c))
  chain_is c chain g e f =
      let same : init_at p graphs c ≡ chain = get_or_from_slice_get p.chains c chain no_chain e in
      record {
        number = (its p graphs are c (place_inside p.chains c chain e)).number;
        mail_is = ap (λ (x : ChainInit). mail_in x (message_at messages c)) same;
        graph_is = get_or_from_slice_get graphs c g no_graph f;
        vars_are = ap (λ (x : ChainInit). x.vars) same;
      }

  rows : (q : ℕ) (row : QueueRow) → row_at s.queues q ≡ Some row → (row.domain < length s.chains) × ((q ≡ (T.chain row.domain).entry.queue) ⊎ (is_ring (plan (T.chain row.domain).formed) q ≡ true))
  rows q row e =
      let there = fresh_row (queues p graphs) q row (ap (λ (us : List Queue). row_at us q) (sym begin.queues_are) ∙ e) in
      let each = (stand p graphs are).each q row there in
      let same : plan_at p graphs row.domain ≡ each.0 = get_or_from_slice_get (plans p graphs) row.domain each.0 no_plan each.1 in
      let number = (chains_lie_apart p graphs are).numbered row.domain each.0 each.1 in
      let low = place_inside (plans p graphs) row.domain each.0 each.1 in
      let all_chains = count p graphs are in
      let few = chains_many in (
        omega (arith, low, all_chains, few),
        elim each.2 [
          | inl entry ↦ inl (entry ∙ sym (ap (λ (c : ChainPlan). c.number) same ∙ number))
          | inr ring ↦ inr (ap (λ (c : ChainPlan). is_ring (plan_for p graphs c) q) same ∙ ring)
        ],
      )

  on_shelf : (n k : ℕ) (c : ChainPlan) (u : TablePlan) → slice_get (tables p graphs) k ≡ Some u → u.number ≡ n → IsShelf (shelves p graphs) n (table_row c u)
  on_shelf n k c u e number =
      let at = (table_is 0 (tables_base p graphs) p.tables k u e).number_is in
      let inside = place_inside (tables p graphs) k u e in
      let all_tables = length-tables 0 (tables_base p graphs) p.tables in
      let here : n ≡ k = omega (arith, at, number) in
      let same : table_at p graphs n ≡ u = ap (table_at p graphs) here ∙ get_or_from_slice_get (tables p graphs) k u no_table e in
      record { inside = omega (arith, here, inside, all_tables); at = ap (λ (t : TablePlan). t.base) same; len = ap (λ (t : TablePlan). length t.bytes) same }

  pub stand_together : IsImage p image graphs messages T
  stand_together =
      record {
        begin = refl;
        most = refl;
        among = λ c l. among p graphs are numbers image is all messages sent c (let few = chains_many in omega (arith, l, few));
        chains = chain_is;
        rows = rows;
        heads = λ q u e. fresh_head (queues p graphs) q u (ap (λ (us : List Queue). slice_get us q) (sym begin.queues_are) ∙ e);
        ends = subst (λ (rs : List Region). EndsBy (length s.memory) rs) (sym begin.regions_are) (subst (λ (m : List ℕ). EndsBy (length m) (regions p graphs)) (sym begin.memory_is) (chains_lie_apart p graphs are).ends);
        sound = subst IsBytes (sym begin.memory_is) (all_bytes p graphs numbers.bytes);
        tables = subst (HasTables (shelves p graphs) (first_tables p)) (sym begin.memory_is) (tables_first p graphs are);
        shelves = λ n. subst (λ (rs : List Region). All (IsShelf (shelves p graphs) n) (places_of n rs)) (sym begin.regions_are) (all_places p graphs are n (IsShelf (shelves p graphs) n) (λ i k c u e f number. on_shelf n k c u f number));
        cells = λ c l.
            let few = chains_many in
            let here = its p graphs are c (omega (arith, l, few)) in
            subst (All (HasCells (T.chain c))) (sym (ap (variables_of c) begin.regions_are ∙ variables_are p graphs are c (plan_at p graphs c) here.there)) (All-cons (HasCells (T.chain c)) (vars_row (plan_at p graphs c)) [] (λ k small. refl) (All-nil (HasCells (T.chain c))));
      }

pub emitted_are_faithful : EmittedAreFaithful
emitted_are_faithful p graphs i are numbers follow is =
    let entries : AllHaveEntries p graphs = all_have_entries p graphs are in
    graphs_are_faithful p i graphs (λ messages. graphed_of (together p graphs i entries messages)) follow (fits p graphs are i is) (λ messages sent. ring_side p i graphs messages (together p graphs i entries messages) (stand_together p graphs are numbers i is entries messages sent))

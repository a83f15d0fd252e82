-- Each chain of a placed image stands among the others as its form asks.
use Rattle.std.proofs.Common.{◌≡◌, ℕ, ◌+◌, ◌*◌, ◌<◌, inl, Bool, true, false, List, [], ◌∷◌, length, get_or, Option, Some, None, refl, sym, ap, ◌∙◌, subst, arith}
use Rattle.std.specs.Prelude.{slice_get, nat_le, nat_lt}
use Rattle.std.specs.Option.{option_map}
use Rattle.std.proofs.lemmas.Bool.{and_parts, leb-true, ltb-true, true≢false, false_from_ne_true as none_if}
use Rattle.std.proofs.lemmas.List.{length-map}
use Rattle.std.proofs.lemmas.Option.{slice_get-map, slice_get-get_or}
use Rattle.redn_words.specs.declared.types.Region.{Region}
use Rattle.redn_words.specs.declared.types.Receive.{Receive}
use Rattle.redn_words.specs.declared.types.Request.{Request}
use Rattle.redn_words.specs.declared.types.QueueRow.{QueueRow}
use Rattle.redn_words.specs.declared.limits.TheConstants.{RECEIVE_BASE}
use Rattle.redn_words.specs.Words.{bytes_at}
use Rattle.redn_words.specs.Landings.{change}
use Rattle.redn_words.specs.Ranges.{domain_holds}
use Rattle.redn_words.specs.States.{State, Queue, Chain, fresh_queue, fresh_chain}
use Rattle.redn_words.specs.Bytes.{byte, covers, hits}
use Rattle.redn_words.proofs.Copies.{get_empty}
use Rattle.redn_kernel.specs.declared.types.ChainInit.{ChainInit}
use Rattle.redn_kernel.specs.declared.types.Program.{Program}
use Rattle.redn_kernel.specs.declared.types.Cell.TheVariants.{Var}
use Rattle.redn_graph.specs.declared.types.Graph.{Graph}
use Rattle.redn_graph.specs.Run.{graph_start}
use Rattle.redn_segment.specs.declared.types.Space.TheVariants as space
use Rattle.redn_proof_window.specs.Moves.{AtRest}
use Rattle.redn_proof_window.specs.Gateways.{GateQueue, gate_of}
use Rattle.redn_proof_window.specs.Scripts.{IsBytes}
use Rattle.redn_proof_ring.specs.Plans.{is_ring}
use Rattle.redn_proof_ring.specs.Turns.{Ready}
use Rattle.redn_image.specs.Rules.{Image}
use Rattle.redn_image.specs.Faithful.{IsMessageOf, AreMessages, start_of}
use Rattle.redn_segment.specs.Homes.{base_of}
use Rattle.redn_emit.specs.Layout.{ChainPlan, home, message_base, receive, entry_row, entry_bytes}
use Rattle.redn_emit.specs.Placed.{entries_base, tables, queues, memory, IsPlaced}
use Rattle.redn_proof_layout.specs.Layouts.{is_own}
use Rattle.redn_proof_layout.specs.PlacedLaws.{AreSound}
use Rattle.redn_proof_layout.proofs.FirstSeen.{begins}
use Rattle.redn_proof_layout.proofs.Beside.{chains_lie_apart}
use Rattle.redn_proof_layout.proofs.Queues.{stand, entered}
use Rattle.redn_proof_interleave.specs.Forms.{World, IsEntry, MailPlace, SameMine, message, expected, with_message, chains_of}
use Rattle.redn_proof_interleave.specs.Compiled.{Messages}
use Rattle.redn_proof_interleave.specs.GraphMachines.{mail_in}
use Rattle.redn_proof_interleave.specs.RingSides.{message_at}
use Rattle.redn_proof_chain.specs.Formed.{Formed, plan, its_meaning}
use Rattle.redn_proof_chain.specs.Together.{Together, Begun, HasVars, first_point, world_of}
use Rattle.redn_proof_chain.specs.Among.{IsAmong}
use Rattle.redn_proof_layout.specs.Chains.{plan_at, init_at, graph_at, entry_of, AllHaveEntries, together}
use Rattle.redn_proof_layout.specs.ImageLaws.{HasNumbers}
use Rattle.redn_proof_layout.proofs.Its.{Its, its}
use Rattle.redn_proof_layout.proofs.Rings.{is_formed}
use Rattle.redn_proof_layout.proofs.Shelves.{shelves_apart, own_unshared, tables_named}
use Rattle.redn_proof_layout.proofs.Start.{Starts, starts, message_is, after, after_stays, mail, mail_fits, entry_below}
use Rattle.redn_proof_layout.proofs.Prepared.{ready, value_small, variable_after, variable_first}
use Rattle.redn_proof_layout.proofs.Entries.{entry_slots, waits_for, opens_it, orderly, waits, enables, no_ring, entry_own}
use Rattle.redn_proof_interleave.proofs.GraphHeadline.{one_each}

module _ (p : Program) (graphs : List Graph) (are : AreSound p graphs) (numbers : HasNumbers p) (image : Image) (is : IsPlaced p graphs image) (all : AllHaveEntries p graphs) (messages : Messages) (sent : AreMessages p.chains messages) where
  abbrev T : Together
  T = together p graphs image all messages

  abbrev W : World
  W = world_of T

  abbrev s : State
  s = start_of image messages

  begin : Starts p graphs messages s
  begin = starts p graphs image messages is

  pub many : chains_of W ≡ length p.chains
  many = ap (λ (cs : List Chain). length cs) begin.chains_are ∙ length-map messages fresh_chain ∙ one_each p.chains messages sent

  module _ (i : ℕ) (l : i < length p.chains) where
    abbrev c : ChainPlan
    c = plan_at p graphs i

    abbrev init : ChainInit
    init = init_at p graphs i

    abbrev g : Graph
    g = graph_at p graphs i

    here : Its p graphs i c init g
    here = its p graphs are i l

    abbrev b : Begun
    b = T.chain i

    abbrev f : Formed
    f = b.formed

    abbrev mine : ℕ → Bool
    mine = is_own (entries_base p graphs) c

    abbrev m1 : List ℕ
    m1 = after p graphs are messages sent i c init g here

    pub its_message : message W i ≡ message_at messages i
    its_message = message_is p graphs messages s begin i

    receive_there : slice_get s.receives i ≡ Some (receive c)
    receive_there = ap (λ (rs : List Receive). slice_get rs i) begin.receives_are ∙ (stand p graphs are).receives i c here.there

    expected_after : expected W i true ≡ m1
    expected_after =
        ap (λ (m : List ℕ). with_message m (slice_get s.receives i) (message W i)) begin.memory_is ∙ ap (λ (r : Option Receive). with_message (memory p graphs) r (message W i)) receive_there ∙ ap (λ (o : Option (List ℕ)). with_message (memory p graphs) (Some (receive c)) o) its_message

    expected_before : expected W i false ≡ memory p graphs
    expected_before = begin.memory_is

    -- its message
    in_message : (bytes : List ℕ) → message W i ≡ Some bytes → IsMessageOf init (Some bytes)
    in_message bytes e = subst (IsMessageOf init) (sym its_message ∙ e) (mail p graphs are messages sent i c init g here)

    message_own : (bytes : List ℕ) → IsMessageOf init (Some bytes) → (q : ℕ) → covers (change (message_base c) bytes) q ≡ true → mine q ≡ true
    message_own bytes came q e =
        let parts = and_parts (nat_le (message_base c) q) (nat_lt q (message_base c + length bytes)) e in
        let low = leb-true (message_base c) q parts.0 in
        let high = ltb-true q (message_base c + length bytes) parts.1 in
        let long = came.0 in
        let args = here.args in
        (entered p graphs are i c here.there).message q low (omega (arith, high, long, args))

    one_hit : (bytes : List ℕ) (q : ℕ) → (covers (change (message_base c) bytes) q ≡ true → ⊥) → hits (change (message_base c) bytes ∷ []) q ≡ false
    one_hit bytes q none = let e = none_if (covers (change (message_base c) bytes) q) none in rw e refl

    mail_place : (bytes : List ℕ) → message W i ≡ Some bytes → MailPlace W i bytes
    mail_place bytes e =
        let came = in_message bytes e in
        let long = came.0 in
        let fits = mail_fits p graphs are messages sent i c init g here in
        let size : length s.memory ≡ length (memory p graphs) = ap length begin.memory_is in
        record {
          place = receive c;
          there = receive_there;
          fits = omega (arith, long, fits, size);
          sound = came.1;
          spares_tables = λ q shared. one_hit bytes q (λ hit. true≢false (sym shared ∙ own_unshared p graphs are i c here.there q (message_own bytes came q hit)));
          spares_others = λ d q inside ne other. one_hit bytes q (λ hit.
              let few = many in
              true≢false (sym (message_own bytes came q hit) ∙ (chains_lie_apart p graphs are).chains d i (plan_at p graphs d) c (its p graphs are d (omega (arith, inside, few))).there here.there ne q other));
        }

    prepared : (bytes m : List ℕ) → message W i ≡ Some bytes → IsBytes m → SameMine W i m (expected W i true) → Ready (plan f) (its_meaning f) (first_point b) m
    prepared bytes m e sound same =
        ready p graphs are numbers messages sent i c init g here m (same.size ∙ ap length expected_after) (λ q own. same.bytes q own ∙ ap (λ (k : List ℕ). byte k q) expected_after) bytes (sym its_message ∙ e) sound (all i)

    first_vars : (came : Bool) → HasVars b (graph_start g init.vars) (expected W i came)
    first_vars true =
        record { many = refl; each = λ x small. (ap (λ (m : List ℕ). bytes_at m (base_of (home c (tables p graphs)) (space.Cell (Var x))) 8) expected_after ∙ variable_after p graphs are numbers messages sent i c init g here x small, value_small p graphs are numbers messages sent i c init g here x small) }
    first_vars false =
        record { many = refl; each = λ x small. (ap (λ (m : List ℕ). bytes_at m (base_of (home c (tables p graphs)) (space.Cell (Var x))) 8) expected_before ∙ variable_first p graphs are numbers messages sent i c init g here x small, value_small p graphs are numbers messages sent i c init g here x small) }

    -- its entry
    entry_there : (came : Bool) → bytes_at (expected W i came) (entries_base p graphs + 128 * c.number) 128 ≡ entry_bytes c
    entry_there true =
        let below = entry_below p graphs are messages sent i c init g here in
        ap (λ (m : List ℕ). bytes_at m (entries_base p graphs + 128 * c.number) 128) expected_after ∙ after_stays p graphs are messages sent i c init g here (entries_base p graphs + 128 * c.number) 128 (inl below) ∙ (begins p graphs are i c here.there).entry
    entry_there false = ap (λ (m : List ℕ). bytes_at m (entries_base p graphs + 128 * c.number) 128) expected_before ∙ (begins p graphs are i c here.there).entry

    is_entry : IsEntry W i
    is_entry =
        record {
          orderly = orderly p graphs c are i init g here;
          two = refl;
          static = refl;
          domain = here.number;
          no_ring = no_ring p graphs c are i init g here;
          waits = waits p graphs c are i init g here;
          counter = ap (λ (r : Request). r.first) (waits_for p graphs c are i init g here) ∙ ap (λ (n : ℕ). RECEIVE_BASE + n) here.number;
          one = ap (λ (r : Request). r.second) (waits_for p graphs c are i init g here);
          enables = enables p graphs c are i init g here;
          slots_mine = λ k q small low high. entry_own p graphs c are i init g here k q small low high;
          slots = λ came k small. entry_slots p graphs c (expected W i came) (entry_there came) k small;
        }

    -- its queues
    queue_there : (q : ℕ) (row : QueueRow) → slice_get (queues p graphs) q ≡ Some row → slice_get s.queues q ≡ Some (fresh_queue row)
    queue_there q row e = ap (λ (us : List Queue). slice_get us q) begin.queues_are ∙ slice_get-map fresh_queue (queues p graphs) q ∙ ap (option_map fresh_queue) e

    entry_begins : (u : Queue) × (slice_get s.queues c.number ≡ Some u) × GateQueue (entry_of p graphs c) u 0
    entry_begins = (
      fresh_queue (entry_row (entries_base p graphs) c),
      queue_there c.number (entry_row (entries_base p graphs) c) (ap (slice_get (queues p graphs)) here.number ∙ (stand p graphs are).entries i c here.there),
      record {
        row = refl;
        runs = refl;
        head = refl;
        limit = refl;
        inside = omega arith;
        flights = refl;
        held = λ k copy e. absurd (let none = get_empty k in cc);
      },
    )

    rests : (q : ℕ) → is_ring (plan f) q ≡ true → (u : Queue) × (slice_get s.queues q ≡ Some u) × AtRest ((plan f).ring q).row 0 0 u
    rests q ring = (
      fresh_queue ((plan f).ring q).row,
      queue_there q ((plan f).ring q).row ((stand p graphs are).rings i c q here.there ring),
      record {
        row_is = refl;
        runs = refl;
        head = refl;
        limit = refl;
        flights = refl;
        held = λ k. get_empty k;
        counted = refl;
      },
    )

    chain_begins : (chain : Chain) × (slice_get s.chains i ≡ Some chain) × (chain.received ≡ 0)
    chain_begins =
        let each = one_each p.chains messages sent in
        (fresh_chain (get_or messages i None), ap (λ (cs : List Chain). slice_get cs i) begin.chains_are ∙ slice_get-map fresh_chain messages i ∙ ap (option_map fresh_chain) (slice_get-get_or messages i None (omega (arith, l, each))), refl)

    opens : ((gate_of (entry_of p graphs c) 1).first ≡ c.first + g.entry) × ((gate_of (entry_of p graphs c) 1).second ≡ ((plan f).ring (c.first + g.entry)).first 1)
    opens =
        let is_opened = opens_it p graphs c are i init g here in
        (ap (λ (r : Request). r.first) is_opened ∙ ap (λ (n : ℕ). c.first + n) here.entry, ap (λ (r : Request). r.second) is_opened ∙ (entered p graphs are i c here.there).limit ∙ ap (λ (n : ℕ). ((plan f).ring (c.first + n)).first 1) here.entry)

    pub among : IsAmong T i
    among =
        record {
          formed = is_formed p graphs are i c init g here (mail_in init (message_at messages i));
          number = here.number;
          most = omega arith;
          regions = begin.regions_are;
          ours = λ q own. own;
          private = λ q own. own_unshared p graphs are i c here.there q own;
          variables = here.has_vars;
          shelves = shelves_apart p graphs are;
          tables = λ k named. tables_named p graphs are i c init g here k named;
          apart = λ d q ne own. ap (λ (rs : List Region). domain_holds rs d q) begin.regions_are ∙ (chains_lie_apart p graphs are).private i d c here.there (λ e. ne (sym e)) q own;
          entry = is_entry;
          place = mail_place;
          prepared = prepared;
          first_vars = first_vars;
          enables = opens;
          entry_begins = entry_begins;
          rests = rests;
          chain_begins = chain_begins;
        }

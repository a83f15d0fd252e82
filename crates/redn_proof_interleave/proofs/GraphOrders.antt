-- An image whose rings run as graphs do is faithful to the graphs.
use Rattle.std.proofs.Common.{◌≡◌, ℕ, ◌+◌, ◌^◌, ◌<◌, ◌≤◌, ◌==◌, inl, inr, Bool, true, false, not, ◌&&◌, cond, List, [], ◌∷◌, Option, length, refl, sym, ap, subst, ◌∙◌, arith}
use Rattle.std.specs.Prelude.{slice_get, is_some}
use Rattle.std.specs.List.{All}
use Rattle.std.proofs.lemmas.Bool.{cases_lt, eqb-true}
use Rattle.std.proofs.lemmas.Option.{slice_get-get_or, slice_get_past}
use Rattle.redn_words.specs.declared.types.Action.{Action}
use Rattle.redn_words.specs.declared.types.Region.{Region}
use Rattle.redn_words.specs.Runs.{AllPossible, reached, shown_then}
use Rattle.redn_words.specs.States.{State}
use Rattle.redn_words.specs.Words.{bytes_at}
use Rattle.redn_kernel.specs.Source.{bytes_of}
use Rattle.redn_kernel.specs.declared.types.Program.{Program}
use Rattle.redn_graph.specs.declared.types.Graph.{Graph}
use Rattle.redn_graph.specs.Run.{Mail, GraphState, graph_step}
use Rattle.redn_image.specs.Rules.{Image}
use Rattle.redn_image.specs.Agreement.{Fits, HoldsVariables, places_of, variables_of}
use Rattle.redn_image.specs.Faithful.{AreMessages, start_of}
use Rattle.redn_image.proofs.Simulation.{AllRun, told}
use Rattle.redn_proof_interleave.specs.Machines.{Contents, Machine, Many, MachineTurn, many_running, many_step, many_tells, many_credit, many_after}
use Rattle.redn_proof_interleave.specs.Forms.{World, chains_of, awake, machine, message_in}
use Rattle.redn_proof_interleave.specs.Explains.{Begins, ExplainsAll, Runs, after_turns, costs, turns_tell}
use Rattle.redn_proof_interleave.specs.Compiled.{Messages}
use Rattle.redn_proof_interleave.proofs.Explained.{every_order}
use Rattle.redn_proof_interleave.specs.GraphMachines.{RunsGraph, mail_in}
use Rattle.redn_proof_interleave.specs.RingSides.{Graphed, RingSide, first_tables, message_at, or_none}
use Rattle.redn_proof_interleave.specs.FaithfulToGraphs.{ExplainsGraphs, FaithfulToGraphs, blocks_of, costs_from, graph_at, graphs_begin, init_at, no_blocks, no_init, woken}
use Rattle.redn_proof_interleave.proofs.GraphHeadline.{first_length, first_message, one_each}

module _ (p : Program) (i : Image) (gs : List Graph) (messages : Messages) (are : AreMessages p.chains messages) (graphed : Graphed) (r : RingSide p i gs messages graphed) (count : length gs ≡ length p.chains) where
  abbrev g : World
  g = graphed.world

  abbrev M : Type 0
  M = g.M

  abbrev S : Type 0
  S = GraphState

  abbrev blocks : ℕ → Machine S
  blocks = blocks_of p gs messages

  abbrev up : ℕ → Bool
  up = woken p gs messages

  many : chains_of g ≡ length p.chains
  many = ap (λ (s : State). length s.chains) r.begin ∙ first_length i messages ∙ one_each p.chains messages are

  awake_is : (c : ℕ) → awake g c ≡ up c
  awake_is c = ap is_some (ap (λ (s : State). message_in (slice_get s.chains c)) r.begin ∙ first_message i messages c)

  -- only a chain that is there has a message
  there : (c : ℕ) → up c ≡ true → c < length p.chains
  there c has = elim (cases_lt c (length p.chains)) [
    | inl low ↦ low
    | inr far ↦ absurd (let same = one_each p.chains messages are in let none = slice_get_past messages c (omega (arith, same, far)) in let off : up c ≡ false = ap (λ (o : Option (Option (List ℕ))). is_some (or_none o)) none in let both : true ≡ false = sym has ∙ off in cc)
  ]

  its : (c : ℕ) → c < length p.chains → RunsGraph M (machine g c) (g.form c).begin (graphed.as_graph c) c (mail_in (init_at p gs messages c) (message_at messages c)) (graph_at p gs messages c) (init_at p gs messages c).vars
  its c low = r.runs_graph c (init_at p gs messages c) (graph_at p gs messages c) (slice_get-get_or p.chains c no_init low) (slice_get-get_or gs c no_blocks (omega (arith, low, count)))

  -- the graphs are where the rings are
  record Beside (z : Many M) (y : Many S) : Type 0 where
    tables : y.tables ≡ z.tables
    at : (c : ℕ) → c < length p.chains → y.at c ≡ graphed.as_graph c (z.at c)

  module _ (z : Many M) (y : Many S) (b : Beside z y) where
    same_running : (c : ℕ) → c < length p.chains → many_running S blocks up y c ≡ many_running M (machine g) (awake g) z c
    same_running c low =
        ap (λ (v : Bool). v && not (y.at c).ended) (sym (awake_is c))
        ∙ ap (λ (x : S). awake g c && not x.ended) (b.at c low)
        ∙ ap (λ (v : Bool). awake g c && not v) (sym ((its c low).ended (z.at c)))

    module _ (c : ℕ) (low : c < length p.chains) (more : (machine g c).ended (z.at c) ≡ false) where
      abbrev turn : MachineTurn M
      turn = (machine g c).step z.tables (z.at c)

      same_turn : graph_step c (mail_in (init_at p gs messages c) (message_at messages c)) y.tables (y.at c) (graph_at p gs messages c) ≡ graph_step c (mail_in (init_at p gs messages c) (message_at messages c)) z.tables
          (graphed.as_graph c (z.at c)) (graph_at p gs messages c)
      same_turn = rw (b.tables, b.at c low) refl

      same_tells : many_tells S blocks up y c ≡ many_tells M (machine g) (awake g) z c
      same_tells = ap (λ t. t.event) same_turn ∙ sym ((its c low).event (z.at c) z.tables more)

      beside_step : Beside (many_step M (machine g) (awake g) z c) (many_step S blocks up y c)
      beside_step =
          record {
            tables = ap (λ t. t.tables) same_turn ∙ sym ((its c low).tables (z.at c) z.tables more);
            at = λ d known. by_number d known (d == c) refl;
          }
        where
          mail : Mail
          mail = mail_in (init_at p gs messages c) (message_at messages c)

          here : (graph_step c mail y.tables (y.at c) (graph_at p gs messages c)).state ≡ graphed.as_graph c turn.state
          here = ap (λ t. t.state) same_turn ∙ sym ((its c low).state (z.at c) z.tables more)

          by_number : (d : ℕ) → d < length p.chains → (v : Bool) → (d == c) ≡ v → (many_step S blocks up y c).at d ≡ graphed.as_graph d ((many_step M (machine g) (awake g) z c).at d)
          by_number d known true e = rw e (subst (λ (n : ℕ). (graph_step c mail y.tables (y.at c) (graph_at p gs messages c)).state ≡ graphed.as_graph n turn.state) (sym (eqb-true d c e)) here)
          by_number d known false e = rw e (b.at d known)

  -- the cost of a step in hand
  dearer : (z : Many M) (y : Many S) → Beside z y → (c : ℕ) → c < length p.chains → (machine g c).cost (z.at c) ≤ (blocks c).cost (y.at c)
  dearer z y b c low = subst (λ (x : S). (machine g c).cost (z.at c) ≤ (blocks c).cost x) (sym (b.at c low)) ((its c low).cost (z.at c))

  if_both : (v : Bool) (m n : ℕ) → m ≤ n → cond v m 0 ≤ cond v n 0
  if_both true m n h = h
  if_both false m n h = omega arith

  record RunsBeside (z : Many M) (y : Many S) (turns : List ℕ) : Type 0 where
    runs : AllRun (Many S) (many_running S blocks up) (many_step S blocks up) (many_tells S blocks up) (many_credit S blocks up) y turns
    tells : told (Many S) (many_running S blocks up) (many_step S blocks up) (many_tells S blocks up) (many_credit S blocks up) y turns ≡ turns_tell g z turns
    beside : Beside (after_turns g z turns) (many_after S blocks up y turns)
    cheap : (c : ℕ) → c < length p.chains → costs g c z turns + (machine g c).cost ((after_turns g z turns).at c) ≤ costs_from p gs messages c y turns

  not_ended : (v w : Bool) → (v && not w) ≡ true → (v ≡ true) × (w ≡ false)
  not_ended true false h = (refl, refl)
  not_ended true true h = cc
  not_ended false w h = cc

  along : (z : Many M) (y : Many S) → Beside z y → (turns : List ℕ) → Runs g z turns → RunsBeside z y turns
  along z y b [] h = record { runs = tt; tells = refl; beside = b; cheap = λ c low. let more = dearer z y b c low in omega (arith, more) }
  along z y b (d ∷ turns) h =
      let parts = not_ended (awake g d) ((machine g d).ended (z.at d)) h.0 in
      let low = there d (sym (awake_is d) ∙ parts.0) in
      let rest = along (many_step M (machine g) (awake g) z d) (many_step S blocks up y d) (beside_step z y b d low parts.1) turns h.1 in
      record {
        runs = (same_running z y b d low ∙ h.0, rest.runs);
        tells = (λ j. shown_then (same_tells z y b d low parts.1 j) (rest.tells j));
        beside = rest.beside;
        cheap = λ c known.
            let one = if_both (d == c) ((machine g d).cost (z.at d)) ((blocks d).cost (y.at d)) (dearer z y b d low) in
            let more = rest.cheap c known in
            omega (arith, one, more);
      }

  machines : Many M
  machines = record { tables = first_tables p; at = λ c. (g.form c).begin }

  begun : Begins g machines
  unfolding machines
  begun = record { at = λ c. refl; tables = r.has_tables }

  first_beside : Beside machines (graphs_begin p gs messages)
  unfolding machines
  first_beside = record { tables = refl; at = λ c low. sym (its c low).first }

  explained_by : (acts : List Action) (turns : List ℕ) → ExplainsAll g machines acts turns → ExplainsGraphs p gs messages (start_of i messages) acts turns
  explained_by acts turns e =
      let b = along machines (graphs_begin p gs messages) first_beside turns e.runs in
      let after = many_after S blocks up (graphs_begin p gs messages) turns in
      let few_chains = many in
      subst (λ (s : State). ExplainsGraphs p gs messages s acts turns) r.begin
      (record {
        runs = b.runs;
        shows_events = e.shows_events ∙ sym b.tells;
        tables = λ n. subst (λ (t : Contents). All (λ (x : Region). bytes_at (reached g.begin acts).memory x.base x.len ≡ bytes_of t n) (places_of n g.begin.regions)) (sym b.beside.tables) (r.tables (after_turns g machines turns).tables (reached g.begin acts).memory n e.tables);
        variables = λ c low. subst (λ (x : S). All (HoldsVariables (reached g.begin acts).memory x.cells.vars) (variables_of c g.begin.regions)) (sym (b.beside.at c low)) (r.variables c ((after_turns g machines turns).at c) (reached g.begin acts).memory (omega (arith, low, few_chains)) (e.variables c (omega (arith, low, few_chains))));
        clean = e.clean;
        few = λ c low. let all = e.few c (omega (arith, low, few_chains)) in let cheap = b.cheap c low in omega (arith, all, cheap);
        none = λ c far. e.none c (omega (arith, far, few_chains));
        goes_on = λ c more.
            let low = there c (not_ended (up c) (after.at c).ended more).0 in
            e.goes_on c (sym (same_running (after_turns g machines turns) after b.beside c low) ∙ more);
      })

  pub graphs_explain : (acts : List Action) → length acts < 2 ^ 62 → AllPossible (start_of i messages) acts → (turns : List ℕ) × ExplainsGraphs p gs messages (start_of i messages) acts turns
  graphs_explain acts short can =
      let most = r.most in
      let e = every_order g r.promises machines begun acts (omega (arith, short, most)) (subst (λ (s : State). AllPossible s acts) (sym r.begin) can) in
      (e.0, explained_by acts e.0 e.1)

pub faithful_to_graphs : (p : Program) (i : Image) (gs : List Graph) (graphed : Messages → Graphed) → length gs ≡ length p.chains → Fits p i → ((messages : Messages) → AreMessages p.chains messages → RingSide p i gs messages (graphed messages)) → FaithfulToGraphs p gs i
faithful_to_graphs p i gs graphed count fits rings =
    record { fits = fits; explained = λ messages are acts short can. graphs_explain p i gs messages are (graphed messages) (rings messages are) count acts short can }

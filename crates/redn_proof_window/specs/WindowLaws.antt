-- Laws of one open window, and of all windows of a chain, whatever the order of the adapter's actions.
use Rattle.std.specs.Prelude.{◌≡◌, ◌≢◌, ℕ, ◌*◌, ◌+◌, ◌<◌, ◌≤◌, true, false, List, [], Some, length, slice_get}
use Rattle.redn_words.specs.declared.types.Action.{Action}
use Rattle.redn_words.specs.States.{Queue, State}
use Rattle.redn_words.specs.Landings.{Change}
use Rattle.redn_words.specs.Steps.{possible, after, class_of, may_start, acts_on, enabled_in}
use Rattle.redn_words.specs.Ranges.{domain_holds}
use Rattle.redn_words.specs.Bytes.{byte}
use Rattle.redn_proof_window.specs.Windows.{By_gates, Followed, Opening, bodies_of, place_of, slots_of, gate_count, signals, landing_on}
use Rattle.redn_proof_window.specs.Stages.{Orderly, Progress, Stage, Opened, effect, in_order}
use Rattle.redn_proof_window.specs.Moves.{Moves, GoesOn, MayBegin, SameHere, budget_of}
use Rattle.redn_proof_window.specs.Gateways.{Gateway, gate_of, OrderlyGates, GateStage, MayPass, GateMoves}
use Rattle.redn_proof_window.specs.Scripts.{IsBytes, Script, IsOver, IsScript, RestsAt, Moment, window_at, AllCount, ChainAt, opened, SameChain, ChainMoves}

-- an orderly window that was just opened, with at most four useful actions for each body and two for each gate to come
abbrev pub WindowsOpen : Type 0
WindowsOpen =
    (w : Opening) (s : State) (u : Queue) → Opened w s u
    → (let t : Progress = record { queue = u; done = 0; marks = [] } in Stage w s t [] × (budget_of w t ≤ 4 * bodies_of w + 2 * gate_count w))

-- what every possible action of its queue does
abbrev pub WindowsMove : Type 0
WindowsMove = (w : Opening) → Orderly w → (s : State) (t : Progress) (event : List Change) → Stage w s t event → (a : Action)
    → acts_on a ≡ Some w.queue → possible s a ≡ true → Moves w s t event a

-- what keeps its queue and its private bytes keeps the window
abbrev pub WindowsStay : Type 0
WindowsStay = (w : Opening) → Orderly w → (s r : State) (t : Progress) (event : List Change) → Stage w s t event → SameHere w s r → Stage w r t event

-- until all its slots are done, a useful action of its queue is possible, as long as its first gate may pass or has passed
abbrev pub WindowsGoOn : Type 0
WindowsGoOn =
    (w : Opening) → Orderly w → (s : State) (t : Progress) (event : List Change) → Stage w s t event → t.done < slots_of w → MayBegin w s t.done
    → GoesOn s w.queue

-- once its bodies have completed, its private bytes are those of landing them in the order of their slots: each writes there what it wrote
pub record EndsInOrder (w : Opening) (s : State) (event : List Change) : Type 0 where
  pub bytes : (p : ℕ) → w.ours p ≡ true → byte s.memory p ≡ byte (in_order w event (bodies_of w)) p
  pub writes : (k : ℕ) → k < bodies_of w → k ≢ w.event → effect w event k ≡ (landing_on w (in_order w event k) k).writes

abbrev pub WindowsEnd : Type 0
WindowsEnd =
    (w : Opening) → Orderly w → (s : State) (t : Progress) (event : List Change) → Stage w s t event
    → place_of w (bodies_of w) ≤ t.done → EndsInOrder w s event

-- a counter that has come to all signals of the bodies tells that they have completed
abbrev pub WindowsCount : Type 0
WindowsCount =
    (w : Opening) → Orderly w → (s : State) (t : Progress) (event : List Change) → Stage w s t event → 0 < bodies_of w
    → w.counter + signals w (bodies_of w) ≤ t.queue.counter → place_of w (bodies_of w) ≤ t.done

-- what every possible action of a queue of gates does, where its next gate may pass
abbrev pub GatesMove : Type 0
GatesMove =
    (g : Gateway) → OrderlyGates g → (s : State) (u : Queue) (passed : ℕ) → GateStage g s u passed → MayPass g s passed → (a : Action)
    → acts_on a ≡ Some g.queue → possible s a ≡ true → GateMoves g s u passed a

-- until all gates have passed, a useful action of the queue is possible where the next may start
abbrev pub GatesGoOn : Type 0
GatesGoOn =
    (g : Gateway) → OrderlyGates g → (s : State) (u : Queue) (passed : ℕ) → GateStage g s u passed → passed < length g.gates
    → may_start s u (gate_of g passed) (class_of (gate_of g passed)) ≡ true → GoesOn s g.queue

-- the laws of a chain that keeps to a script: what every possible action of its rings does,
abbrev pub ChainsMove : (p : Script) → IsScript p → Type 0
ChainsMove p script =
    (s : State) (z : Moment p) (h : ChainAt p s z) → z.progress.queue.head < p.most → IsBytes s.memory → (a : Action) (q : ℕ) → acts_on a ≡ Some q
    → p.ring q ≡ true → possible s a ≡ true → ChainMoves p script s z h a

-- that what keeps its rings and its private bytes keeps the chain,
abbrev pub ChainsStay : Script → Type 0
ChainsStay p = (s r : State) (z : Moment p) → ChainAt p s z → SameChain p z s r → ChainAt p r z

-- that an action of another domain, none of whose regions has a private byte, does so,
abbrev pub ChainsLeft : Script → Type 0
ChainsLeft p =
    (s : State) (z : Moment p) → ChainAt p s z → (a : Action) (q : ℕ) (other : Queue) → acts_on a ≡ Some q → slice_get s.queues q ≡ Some other
    → other.row.domain ≢ (window_at p z).row.domain
    → ((b : ℕ) → (window_at p z).ours b ≡ true → domain_holds s.regions other.row.domain b ≡ false) → ChainAt p (after s a) z

-- that an ENABLE of a queue that is no ring opens the first window, where all rings are at rest,
abbrev pub OpensAt : (p : Script) → State → p.Point → Type 0
OpensAt p s x =
    (a : Action) (queues : List Queue) (limit : ℕ) → ((q : ℕ) → p.ring q ≡ true → slice_get queues q ≡ slice_get s.queues q)
    → after s a ≡ record s { queues = enabled_in queues (p.window x s.memory).queue limit }
    → limit ≡ p.at x (p.window x s.memory).queue + slots_of (p.window x s.memory) → (u : Queue) × ChainAt p (after s a) (opened p x s.memory u)

abbrev pub ChainsBegin : Script → Type 0
ChainsBegin p =
    (s : State) (x : p.Point) → p.Ready x s.memory → AllCount p s → ((q : ℕ) → p.ring q ≡ true → RestsAt p s x q)
    → s.regions ≡ (p.window x s.memory).regions → OpensAt p s x

-- and the one behind a window that is followed, once all bodies of that have completed,
abbrev pub ChainsFollow : (p : Script) → IsScript p → Type 0
ChainsFollow p script =
    (s : State) (z : Moment p) → ChainAt p s z → z.progress.queue.head ≤ p.most → IsBytes s.memory → (window_at p z).ending ≡ Followed
    → place_of (window_at p z) (bodies_of (window_at p z)) ≤ z.progress.done
    → (over : IsOver p z.point z.memory z.event s.memory) × OpensAt p s (script.behind z.point z.memory z.event s.memory over).0

-- and that while a window that ends by its gates is open, a useful action of the chain is possible, as long as its first gate may pass or has passed
abbrev pub ChainsGoOn : Script → Type 0
ChainsGoOn p =
    (s : State) (z : Moment p) → ChainAt p s z → (window_at p z).ending ≡ By_gates → MayBegin (window_at p z) s z.progress.done
    → GoesOn s (window_at p z).queue

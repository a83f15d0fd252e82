-- What the compiled forms of all chains promise.
use Rattle.std.specs.Prelude.{◌≡◌, ◌≢◌, ℕ, ◌+◌, ◌*◌, ◌%◌, ◌<◌, ◌≤◌, ◌⊎◌, Bool, true, false, List, [], ◌∷◌, Option, Some, None, length, slice_get, is_some}
use Rattle.redn_words.specs.declared.types.Receive.{Receive}
use Rattle.redn_words.specs.declared.types.QueueRow.{QueueRow}
use Rattle.redn_words.specs.declared.types.Class.TheVariants as ask
use Rattle.redn_words.specs.declared.types.Obs.{Obs}
use Rattle.redn_words.specs.declared.limits.TheConstants.{RECEIVE_BASE}
use Rattle.redn_words.specs.Words.{with_bytes_at}
use Rattle.redn_words.specs.Access.{EndsBy}
use Rattle.redn_words.specs.Runs.{shown_then}
use Rattle.redn_words.specs.States.{Queue, Mail, Absent, Pending, Delivered, Chain, State, slot_of}
use Rattle.redn_words.specs.Steps.{class_of}
use Rattle.redn_words.specs.Landings.{Landing, Change, change, changed}
use Rattle.redn_words.specs.Ranges.{domain_holds}
use Rattle.redn_words.specs.Laws.{row_at}
use Rattle.redn_words.specs.Bytes.{byte, hits}
use Rattle.redn_proof_window.specs.Windows.{Last, Followed, Opening, bodies_of, slots_of, gate_count, landing_on}
use Rattle.redn_proof_window.specs.Stages.{Agrees, Standing, all_written}
use Rattle.redn_proof_window.specs.Gateways.{Gateway, OrderlyGates, GateQueue, gate_copy, gate_of}
use Rattle.redn_proof_window.specs.Scripts.{IsBytes, Script, Wrote, IsOver, IsScript, RestsAt}
use Rattle.redn_image.specs.Faithful.{IsClean}
use Rattle.redn_proof_interleave.specs.Machines.{Contents, Machine, Goes}

-- the compiled form of one chain, and how its windows go with its machine
pub record Form (M : Type 0) : Type 1 where
  pub script : Script
  pub entry : Gateway
  pub first : script.Point
  pub mine : ℕ → Bool  -- its private bytes
  pub machine : Machine M
  pub begin : M
  pub state : script.Point → Option (List Change) → M  -- while a window is open: before its event's landing, and from then on
  pub failed : script.Point → M  -- after the event's fault
  pub owed : script.Point → Option (List Change) → ℕ  -- what is kept for later windows
  pub Holds : M → List ℕ → Type 0  -- memory has the variables of a state

-- all chains, and what they share
pub record World : Type 1 where
  pub M : Type 0  -- the states of their machines
  pub form : ℕ → Form M
  pub begin : State
  pub shared : ℕ → Bool  -- the bytes of tables
  pub Tables : Contents → List ℕ → Type 0  -- memory has these tables
  pub most : ℕ  -- no index comes so far

abbrev pub pending : Mail → Option (List ℕ)
pending Absent = None
pending (Pending bytes) = Some bytes
pending Delivered = None

abbrev pub message_in : Option Chain → Option (List ℕ)
message_in None = None
message_in (Some chain) = pending chain.mail

abbrev pub with_message : List ℕ → Option Receive → Option (List ℕ) → List ℕ
with_message memory (Some place) (Some bytes) = with_bytes_at memory place.base bytes
with_message memory _ _ = memory

-- useful actions of a window, at most
abbrev pub whole : Opening → ℕ
whole w = 4 * bodies_of w + 2 * gate_count w

-- what of the event is told: nothing before its body has written, and what it wrote once it has written all
abbrev pub IsTold : Opening → (ℕ → ℕ → Bool) → List Change → Option (List Change) → Type 0
IsTold w written event None = w.event < bodies_of w → (p : ℕ) → written w.event p ≡ false
IsTold w written event (Some e) = (w.event < bodies_of w) × ((p : ℕ) → written w.event p ≡ true) × (e ≡ event)

module _ (g : World) where
  abbrev pub chains_of : ℕ
  chains_of = length g.begin.chains

  abbrev pub message : ℕ → Option (List ℕ)
  message c = message_in (slice_get g.begin.chains c)

  -- a chain runs only if it gets a message
  abbrev pub awake : ℕ → Bool
  awake c = is_some (message c)

  abbrev pub machine : ℕ → Machine g.M
  machine c = (g.form c).machine

  module _ (c : ℕ) where
    abbrev pub f : Form g.M
    f = g.form c

    abbrev pub Point : Type 0
    Point = f.script.Point

    abbrev pub window : Point → List ℕ → Opening
    window x m = f.script.window x m

    -- memory before and after the message has come
    abbrev pub expected : Bool → List ℕ
    expected true = with_message g.begin.memory (slice_get g.begin.receives c) (message c)
    expected false = g.begin.memory

    -- two memories with the same private bytes
    pub record SameMine (m n : List ℕ) : Type 0 where
      pub size : length m ≡ length n
      pub bytes : (p : ℕ) → f.mine p ≡ true → byte m p ≡ byte n p

    -- its entry: a WAIT for its message, and an ENABLE, in slots that nobody writes
    pub record IsEntry : Type 0 where
      pub orderly : OrderlyGates f.entry
      pub two : length f.entry.gates ≡ 2
      pub static : f.entry.row.managed ≡ false
      pub domain : f.entry.row.domain ≡ c
      pub no_ring : f.script.ring f.entry.queue ≡ false
      pub waits : class_of (gate_of f.entry 0) ≡ ask.Passes
      pub counter : (gate_of f.entry 0).first ≡ RECEIVE_BASE + c
      pub one : (gate_of f.entry 0).second ≡ 1
      pub enables : class_of (gate_of f.entry 1) ≡ ask.Raises
      pub slots_mine : (k p : ℕ) → k < 2 → f.entry.row.base + 64 * (k % f.entry.row.slots) ≤ p
          → p < f.entry.row.base + 64 * (k % f.entry.row.slots) + 64 → f.mine p ≡ true
      pub slots : (came : Bool) (k : ℕ) → k < 2 → slot_of (expected came) f.entry.row k ≡ gate_copy f.entry k

    -- the place of its message
    pub record MailPlace (bytes : List ℕ) : Type 0 where
      pub place : Receive
      pub there : slice_get g.begin.receives c ≡ Some place
      pub fits : place.base + length bytes ≤ length g.begin.memory
      pub sound : IsBytes bytes
      pub spares_tables : (p : ℕ) → g.shared p ≡ true → hits (change place.base bytes ∷ []) p ≡ false
      pub spares_others : (d p : ℕ) → d < chains_of → d ≢ c → (g.form d).mine p ≡ true → hits (change place.base bytes ∷ []) p ≡ false

    -- the ENABLE of the entry opens the first window
    pub record Opens (m : List ℕ) : Type 0 where
      pub queue : (gate_of f.entry 1).first ≡ (window f.first m).queue
      pub limit : (gate_of f.entry 1).second ≡ f.script.at f.first (window f.first m).queue + slots_of (window f.first m)
      pub regions : g.begin.regions ≡ (window f.first m).regions

    abbrev pub MachineGoes : Contents → g.M → List Obs → Contents → g.M → ℕ → ℕ → Type 0
    MachineGoes t y events u z need have = Goes g.M f.machine t y events u z need have

    -- some silent steps until the window of y opens behind that of x
    abbrev pub KeepsUp : (x y : Point) (n : List ℕ) (told : Option (List Change)) (t : Contents) → Type 0
    KeepsUp x y n told t = MachineGoes t (f.state x told) [] t (f.state y None) (whole (window y n) + f.owed y None) (f.owed x told)

    -- the landing of a window's event
    abbrev pub event_on : Point → List ℕ → List ℕ → Landing
    event_on x m n = landing_on (window x m) n (window x m).event

    -- a memory that it may find, with the tables t
    pub record Finds (x : Point) (m n : List ℕ) (t : Contents) : Type 0 where
      pub ready : f.script.Ready x m
      pub sound : IsBytes n
      pub agrees : Agrees (window x m) n
      pub inside : (window x m).event < bodies_of (window x m)
      pub tables : g.Tables t n

    -- where it is allowed, it is some steps under t
    pub record Tells (x : Point) (m n : List ℕ) (t : Contents) : Type 0 where
      pub then_tables : Contents
      pub has : g.Tables then_tables (changed n (event_on x m n).writes)
      pub goes : MachineGoes t (f.state x None) (shown_then (event_on x m n).shown []) then_tables (f.state x (Some (event_on x m n).writes))
          (f.owed x (Some (event_on x m n).writes)) (f.owed x None)
      pub clean : IsClean (event_on x m n).shown

    -- and where it is refused, too: they end the machine
    pub record Fails (x : Point) (m n : List ℕ) (t : Contents) : Type 0 where
      pub goes : MachineGoes t (f.state x None) (shown_then (event_on x m n).shown []) t (f.failed x) 0 0
      pub clean : IsClean (event_on x m n).shown
      pub ended : f.machine.ended (f.failed x) ≡ true

    pub record Promises : Type 0 where
      -- its windows, which write in its private bytes but for the event's body. None has a first gate, and the last alone has no gates
      pub script : IsScript f.script
      pub no_first_gate : (x : Point) (m : List ℕ) → (window x m).first_gate ≡ None
      pub unfollowed : (x : Point) (m : List ℕ) → f.script.Ready x m → (window x m).ending ≢ Followed
      pub most : g.most ≤ f.script.most
      pub domain : (x : Point) (m : List ℕ) → (window x m).row.domain ≡ c
      pub ours : (x : Point) (m : List ℕ) (p : ℕ) → (window x m).ours p ≡ true → f.mine p ≡ true
      pub private : (p : ℕ) → f.mine p ≡ true → g.shared p ≡ false
      pub apart : (d p : ℕ) → d ≢ c → f.mine p ≡ true → domain_holds g.begin.regions d p ≡ false
      -- how it begins
      pub entry : IsEntry
      pub place : (bytes : List ℕ) → message c ≡ Some bytes → MailPlace bytes
      pub prepared : (bytes m : List ℕ) → message c ≡ Some bytes → IsBytes m → SameMine m (expected true) → f.script.Ready f.first m
      pub opens : (m : List ℕ) → f.script.Ready f.first m → Opens m
      pub entry_begins : (u : Queue) × (slice_get g.begin.queues f.entry.queue ≡ Some u) × GateQueue f.entry u 0
      pub rings_begin : (q : ℕ) → f.script.ring q ≡ true → RestsAt f.script g.begin f.first q
      pub chain_begins : (chain : Chain) × (slice_get g.begin.chains c ≡ Some chain) × (chain.received ≡ 0)
      -- what it does is what its machine does
      pub begins : (m : List ℕ) (t : Contents) → f.script.Ready f.first m
          → MachineGoes t f.begin [] t (f.state f.first None) (whole (window f.first m) + f.owed f.first None) (f.machine.cost f.begin)
      pub tells : (x : Point) (m n : List ℕ) (t : Contents) → Finds x m n t → (event_on x m n).allowed ≡ true → Tells x m n t
      pub fails : (x : Point) (m n : List ℕ) (t : Contents) → Finds x m n t → (event_on x m n).allowed ≡ false → Fails x m n t
      pub moves_on : (x : Point) (m : List ℕ) (event : List Change) (n : List ℕ) (told : Option (List Change)) (t : Contents)
          → (over : IsOver f.script x m event n) → IsTold (window x m) all_written event told → KeepsUp x (script.behind x m event n over).0 n told t
      pub ends : (x : Point) (m : List ℕ) → f.script.Ready x m → (window x m).ending ≡ Last
          → ((window x m).event < bodies_of (window x m))
          × ((event : List Change) → Wrote (window x m) event → f.machine.ended (f.state x (Some event)) ≡ true)
      -- its variables
      pub holds : (x : Point) (m n : List ℕ) (written : ℕ → ℕ → Bool) (event : List Change) (told : Option (List Change)) → f.script.Ready x m
          → (((p : ℕ) → written (window x m).event p ≡ true) → (window x m).event < bodies_of (window x m) → Wrote (window x m) event)
          → IsTold (window x m) written event told → Standing (window x m) n written event → f.Holds (f.state x told) n
      pub holds_failed : (x : Point) (n : List ℕ) → f.Holds (f.state x None) n → f.Holds (f.failed x) n
      pub holds_begin : (came : Bool) → f.Holds f.begin (expected came)
      pub holds_same : (y : g.M) (m n : List ℕ) → SameMine m n → f.Holds y n → f.Holds y m

  -- what all forms promise together
  pub record AllPromise : Type 0 where
    pub each : (c : ℕ) → c < chains_of → Promises c
    pub rows : (q : ℕ) (row : QueueRow) → row_at g.begin.queues q ≡ Some row
        → (row.domain < chains_of) × ((q ≡ (g.form row.domain).entry.queue) ⊎ ((g.form row.domain).script.ring q ≡ true))
    pub heads : (q : ℕ) (u : Queue) → slice_get g.begin.queues q ≡ Some u → u.head ≡ 0
    pub ends : EndsBy (length g.begin.memory) g.begin.regions
    pub sound : IsBytes g.begin.memory
    pub tables_same : (t : Contents) (m n : List ℕ) → length n ≡ length m → ((p : ℕ) → g.shared p ≡ true → byte n p ≡ byte m p) → g.Tables t m → g.Tables t n

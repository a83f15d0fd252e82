-- Where everything of a program's image lies.
use Rattle.std.specs.Prelude.{ℕ, suc, ◌+◌, ◌-◌, ◌*◌, Bool, true, false, ◌&&◌, ◌==◌, nat_lt, nat_le, if◌then◌else◌, List, [], ◌∷◌, ◌++◌, length, map, take, replicate, sum_by, get_or}
use Rattle.std.specs.List.{flat_map, list_any, position_or_len}
use Rattle.redn_words.specs.declared.types.Region.{Region}
use Rattle.redn_words.specs.declared.types.Kind.{Kind}
use Rattle.redn_words.specs.declared.types.Kind.TheVariants as kind
use Rattle.redn_words.specs.declared.types.QueueRow.{QueueRow}
use Rattle.redn_words.specs.declared.types.Receive.{Receive}
use Rattle.redn_words.specs.declared.types.Request.{Request}
use Rattle.redn_words.specs.declared.types.Opcode.{Opcode}
use Rattle.redn_words.specs.declared.types.Opcode.TheVariants as op
use Rattle.redn_words.specs.declared.limits.TheConstants.{RECEIVE_BASE}
use Rattle.redn_words.specs.declared.rights.TheConstants.{ATOMIC, LOCAL_WRITE, REMOTE_READ, REMOTE_WRITE}
use Rattle.redn_words.specs.Words.{spelled}
use Rattle.redn_words.specs.Requests.{encoded}
use Rattle.redn_kernel.specs.declared.types.Cell.{Cell}
use Rattle.redn_kernel.specs.declared.types.Cell.TheVariants.{Var, Hidden, Argument, Num}
use Rattle.redn_graph.specs.declared.types.Block.{Block}
use Rattle.redn_segment.specs.declared.types.Site.{Site}
use Rattle.redn_segment.specs.declared.types.Site.TheVariants as site
use Rattle.redn_segment.specs.declared.types.Space.{Space}
use Rattle.redn_segment.specs.declared.types.Space.TheVariants as space
use Rattle.redn_segment.specs.declared.types.Draft.{Draft}
use Rattle.redn_segment.specs.Plain.{local_space, remote_space, local_at}
use Rattle.redn_segment.specs.Primed.{number_of}
use Rattle.redn_segment.specs.Sites.{start_of}
use Rattle.redn_segment.specs.Homes.{Home}
use Rattle.redn_segment.specs.Building.{drafts_of}
use Rattle.redn_recycle.specs.Lapped.{ring_of, lapped_segments, slots_in_laps, first_of}
use Rattle.redn_block.specs.Blocks.{block_segments}

-- a ring before its laps: its number, and the drafts of its segments
pub record Plain : Type 0 where
  pub number : ℕ
  pub segments : List (List Draft)

abbrev pub rings_from : ℕ → ℕ → List Block → List Plain
rings_from first number [] = []
rings_from first number (b ∷ rest) = record { number = number; segments = block_segments first number b } ∷ rings_from first (suc number) rest

-- what requests may do with a chain's variables and control words, and with its slots
abbrev pub word_rights : ℕ
word_rights = LOCAL_WRITE + REMOTE_WRITE + ATOMIC

abbrev pub code_rights : ℕ
code_rights = REMOTE_WRITE + ATOMIC

-- a chain with its rings, and where the words of the chain lie
pub record ChainPlan : Type 0 where
  pub number : ℕ
  pub tables : ℕ  -- how many tables the program has
  pub vars : ℕ
  pub values : List ℕ  -- the first values of its variables
  pub args : ℕ
  pub hidden : ℕ
  pub entry : ℕ  -- the block at which it begins
  pub first : ℕ  -- the number of its first ring
  pub rings : List Plain
  pub constants : List ℕ
  pub code_base : ℕ
  pub control_base : ℕ

abbrev pub ring_slots : Plain → ℕ
ring_slots r = slots_in_laps r.segments

abbrev pub code_slots : List Plain → ℕ
code_slots rings = sum_by ring_slots rings

-- the numbers that drafts read
abbrev pub number_in : Cell → List ℕ
number_in (Num n) = n ∷ []
number_in _ = []

abbrev pub number_read : Site → List ℕ
number_read (site.Cell c) = number_in c
number_read _ = []

abbrev pub numbers_read : List Plain → List ℕ
numbers_read rings = flat_map (λ (r : Plain). flat_map (λ (d : Draft). number_read d.local) (drafts_of r.segments)) rings

-- each number once, where it stands first
abbrev pub with_new : List ℕ → ℕ → List ℕ
with_new seen n = if list_any (λ (m : ℕ). n == m) seen then seen else seen ++ n ∷ []

abbrev pub each_once : List ℕ → List ℕ → List ℕ
each_once seen [] = seen
each_once seen (n ∷ rest) = each_once (with_new seen n) rest

-- the control words of a chain: four scratch words, the key word, eight reply words, a descriptor for each ring, hidden words, constants
abbrev pub KEY_AT : ℕ
KEY_AT = 32

abbrev pub REPLY_AT : ℕ
REPLY_AT = 40

abbrev pub DESCRIPTORS_AT : ℕ
DESCRIPTORS_AT = 104

module _ (c : ChainPlan) where
  abbrev pub hidden_at : ℕ
  hidden_at = DESCRIPTORS_AT + 16 * length c.rings

  abbrev pub constants_at : ℕ
  constants_at = hidden_at + 8 * c.hidden

  abbrev pub control_len : ℕ
  control_len = constants_at + 8 * length c.constants

  abbrev pub vars_base : ℕ
  vars_base = c.control_base + control_len

  abbrev pub message_base : ℕ
  message_base = vars_base + 8 * c.vars

  abbrev pub data_len : ℕ
  data_len = control_len + (8 * c.vars + 8 * c.args)

  -- keys count from 1: variables, code, control words, the message, and then the tables
  abbrev pub first_key : ℕ
  first_key = 1 + c.number * (4 + c.tables)

  abbrev pub row : ℕ → Kind → ℕ → ℕ → ℕ → Region
  row key its_kind rights base len =
      record { key = key; domain = c.number; kind = its_kind; rights = rights; base = base; len = len }

  abbrev pub vars_row : Region
  vars_row = row first_key kind.Vars word_rights vars_base (8 * c.vars)

  abbrev pub code_row : Region
  code_row = row (first_key + 1) kind.Code code_rights c.code_base (64 * code_slots c.rings)

  abbrev pub control_row : Region
  control_row = row (first_key + 2) kind.Control word_rights c.control_base control_len

  abbrev pub message_row : Region
  message_row = row (first_key + 3) kind.Message 0 message_base (8 * c.args)

  -- the slot where a ring begins, counted from the chain's first one
  abbrev pub ring_start : ℕ → ℕ
  ring_start number = code_slots (take (number - c.first) c.rings)

  abbrev pub constant_index : ℕ → ℕ
  constant_index n = position_or_len (λ (m : ℕ). n == m) c.constants

-- a table of a program, and where it lies
pub record TablePlan : Type 0 where
  pub number : ℕ
  pub bytes : List ℕ
  pub writable : Bool
  pub base : ℕ

abbrev pub table_rights : Bool → ℕ
table_rights writable = if writable then REMOTE_READ + REMOTE_WRITE else REMOTE_READ

abbrev pub table_row : ChainPlan → TablePlan → Region
table_row c t = row c (first_key c + (4 + t.number)) (kind.Table t.number) (table_rights t.writable) t.base (length t.bytes)

-- the region of a table, and where there is none an empty one
abbrev pub table_region : ChainPlan → List TablePlan → ℕ → Region
table_region c tables t = get_or (map (table_row c) tables) t (row c 0 (kind.Table t) 0 0 0)

abbrev pub at_home : Region → ℕ → Home
at_home region offset = record { region = region; offset = offset }

abbrev pub cell_home : ChainPlan → Cell → Home
cell_home c (Var i) = at_home (vars_row c) (8 * i)
cell_home c (Hidden k) = at_home (control_row c) (hidden_at c + 8 * k)
cell_home c (Argument i) = at_home (message_row c) (8 * i)
cell_home c (Num n) = at_home (control_row c) (constants_at c + 8 * constant_index c n)

-- where each space of a chain lies
abbrev pub home : ChainPlan → List TablePlan → Space → Home
home c tables (space.Cell x) = cell_home c x
home c tables space.Reply = at_home (control_row c) REPLY_AT
home c tables space.Key = at_home (control_row c) KEY_AT
home c tables (space.Scratch i) = at_home (control_row c) (8 * i)
home c tables (space.Descriptor ring) = at_home (control_row c) (DESCRIPTORS_AT + 16 * (ring - c.first))
home c tables (space.Slot q) = at_home (code_row c) (64 * (ring_start c q.ring + q.slot))
home c tables (space.Table t) = at_home (table_region c tables t) 0

-- which spaces the chain has
abbrev pub has_cell : ChainPlan → Cell → Bool
has_cell c (Var i) = nat_lt i c.vars
has_cell c (Hidden k) = nat_lt k c.hidden
has_cell c (Argument i) = nat_lt i c.args
has_cell c (Num n) = list_any (λ (m : ℕ). n == m) c.constants

abbrev pub has_ring : ChainPlan → ℕ → Bool
has_ring c number = nat_le c.first number && nat_lt number (c.first + length c.rings)

abbrev pub slots_of_ring : ChainPlan → ℕ → ℕ
slots_of_ring c number = get_or (map ring_slots c.rings) (number - c.first) 0

abbrev pub has_space : ChainPlan → Space → Bool
has_space c (space.Cell x) = has_cell c x
has_space c space.Reply = true
has_space c space.Key = true
has_space c (space.Scratch i) = nat_lt i 4
has_space c (space.Descriptor ring) = has_ring c ring
has_space c (space.Slot q) = has_ring c q.ring && nat_lt q.slot (slots_of_ring c q.ring)
has_space c (space.Table t) = nat_lt t c.tables

abbrev pub is_gate : Opcode → Bool
is_gate op.Wait = true
is_gate op.Enable = true
is_gate _ = false

-- a request with operands alone
abbrev pub operands : ℕ → ℕ → ℕ → Request
operands number first second =
    record { op = number; id = 0; lkey = 0; rkey = 0; local = 0; remote = 0; length = 0; first = first; second = second; flags = 0 }

-- the request of a draft. A WAIT and an ENABLE have their operands alone, and a SEND no remote side
abbrev pub gate_request : Draft → Request
gate_request d = operands (number_of d.op) d.first d.second

module _ (at : Space → Home) where
  abbrev pub remote_key : Draft → Opcode → ℕ
  remote_key d op.Send = 0
  remote_key d _ = (at (remote_space d)).region.key

  abbrev pub remote_offset : Draft → Opcode → ℕ
  remote_offset d op.Send = 0
  remote_offset d _ = (at (remote_space d)).offset + (start_of d.remote + d.remote_byte)

  abbrev pub side_request : Draft → ℕ → Request
  side_request d flags =
      record {
        op = number_of d.op;
        id = 0;
        lkey = (at (local_space d)).region.key;
        rkey = remote_key d d.op;
        local = (at (local_space d)).offset + local_at d;
        remote = remote_offset d d.op;
        length = d.length;
        first = d.first;
        second = d.second;
        flags = flags;
      }

  abbrev pub request_by : Draft → ℕ → Opcode → Request
  request_by d flags op.Wait = gate_request d
  request_by d flags op.Enable = gate_request d
  request_by d flags _ = side_request d flags

  -- the requests of a segment. The last one that goes into flight is signalled
  abbrev pub segment_requests : List Draft → List Request
  segment_requests [] = []
  segment_requests (d ∷ []) = request_by d 1 d.op ∷ []
  segment_requests (d ∷ e ∷ rest) = request_by d (if is_gate e.op then 1 else 0) d.op ∷ segment_requests (e ∷ rest)

  abbrev pub segment_bytes : List Draft → List ℕ
  segment_bytes ds = flat_map encoded (segment_requests ds)

  abbrev pub ring_bytes : List (List Draft) → List ℕ
  ring_bytes segments = flat_map segment_bytes segments

-- the segments of a ring with its laps
abbrev pub with_its_laps : Plain → List (List Draft)
with_its_laps r = lapped_segments r.number (ring_of r.segments r.number 0 0)

abbrev pub chain_code : ChainPlan → List TablePlan → List ℕ
chain_code c tables = flat_map (λ (r : Plain). ring_bytes (home c tables) (with_its_laps r)) c.rings

-- the limit that opens the first segment of a ring
abbrev pub first_limit : Plain → ℕ
first_limit r = first_of r.segments 1

abbrev pub descriptor : Plain → List ℕ
descriptor r = spelled 8 r.number ++ spelled 8 (first_limit r)

abbrev pub control_bytes : ChainPlan → List ℕ
control_bytes c = replicate DESCRIPTORS_AT 0 ++ (flat_map descriptor c.rings ++ (replicate (8 * c.hidden) 0 ++ flat_map (spelled 8) c.constants))

abbrev pub words_bytes : List ℕ → List ℕ
words_bytes words = flat_map (spelled 8) words

-- the entry of a chain: a WAIT for its message, and an ENABLE that opens its entry block's ring
abbrev pub gate : ℕ → ℕ → ℕ → List ℕ
gate number first second = encoded (operands number first second)

abbrev pub limit_of_ring : ChainPlan → ℕ → ℕ
limit_of_ring c number = get_or (map first_limit c.rings) (number - c.first) 0

-- a chain's entry waits for its message and opens the ring of its entry block
abbrev pub entry_bytes : ChainPlan → List ℕ
entry_bytes c =
    let ring : ℕ = c.first + c.entry in gate 6 (RECEIVE_BASE + c.number) 1 ++ gate 7 ring (limit_of_ring c ring)

-- the words of a chain: control words, variables, and room for the message
abbrev pub chain_words : ChainPlan → List ℕ
chain_words c = control_bytes c ++ (words_bytes c.values ++ replicate (8 * c.args) 0)

-- the rows of a chain: its regions, its entry queue behind the rings of all chains, and its rings one behind the other
abbrev pub chain_rows : ChainPlan → List TablePlan → List Region
chain_rows c tables = vars_row c ∷ code_row c ∷ control_row c ∷ message_row c ∷ map (table_row c) tables

abbrev pub entry_row : ℕ → ChainPlan → QueueRow
entry_row base c = record { domain = c.number; managed = false; base = base + 128 * c.number; slots = 2; limit = 2 }

abbrev pub ring_rows_from : ℕ → ℕ → List Plain → List QueueRow
ring_rows_from domain base [] = []
ring_rows_from domain base (r ∷ rest) =
    record { domain = domain; managed = true; base = base; slots = ring_slots r; limit = 0 } ∷ ring_rows_from domain (base + 64 * ring_slots r) rest

abbrev pub ring_rows : ChainPlan → List QueueRow
ring_rows c = ring_rows_from c.number c.code_base c.rings

abbrev pub receive : ChainPlan → Receive
receive c = record { base = message_base c; len = 8 * c.args }

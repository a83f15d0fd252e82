-- What the chains of a program do, one item after the other.
use Rattle.std.specs.Prelude.{◌≡◌, ℕ, zero, suc, ◌+◌, ◌-◌, ◌*◌, ◌%◌, ◌^◌, Bool, true, false, not, ◌&&◌, ◌==◌, nat_le, if◌then◌else◌, List, [], ◌∷◌, ◌++◌, length, map, take, replicate, Option, Some, None, is_some, slice_get, slice_index, slice_index_or, slice_set, count_by}
use Rattle.redn_words.specs.declared.types.Obs.{Obs}
use Rattle.redn_words.specs.declared.types.Obs.TheVariants as shows
use Rattle.redn_words.specs.Runs.{shown_then}
use Rattle.redn_words.specs.Words.{word, with_bytes_at, spelled, low_48}
use Rattle.redn_words.specs.Arguments.{argument_words}
use Rattle.redn_kernel.specs.declared.types.Word.{Word}
use Rattle.redn_kernel.specs.declared.types.Word.TheVariants.{Var, Num}
use Rattle.redn_kernel.specs.declared.types.Kernel.{Kernel, out-Kernel}
use Rattle.redn_kernel.specs.declared.types.Kernel.TheOpen.{Kernel-F}
use Rattle.redn_kernel.specs.declared.types.TableInit.{TableInit}
use Rattle.redn_kernel.specs.declared.types.ChainInit.{ChainInit}
use Rattle.redn_kernel.specs.declared.types.Program.{Program}

-- what a chain has to do. Offsets are in bytes, and a key is a word of the chain
pub data Item : Type 0 where
  TakeArgument : (argument : ℕ) → Item  -- out of the message
  Do : (statement : Kernel) → Item
  AgainLoop : (body : List Kernel) → Item
  AgainRepeat : (count : ℕ) (body : List Kernel) → Item  -- so many times more
  Find : (to table offset : ℕ) (key : Word) (probes : ℕ) → Item  -- the key of this bucket is looked at,
  Take : (to table offset : ℕ) → Item  -- a value was found here,
  Visit : (to table offset : ℕ) (key : Word) (nodes : ℕ) → Item  -- the key of this node is looked at,
  Left : (to table offset : ℕ) (key : Word) (nodes : ℕ) → Item  -- it was another, and so many nodes are left,
  Next : (to table offset : ℕ) (key : Word) (nodes : ℕ) → Item  -- the offset of the next one stands here,
  Here : (to table offset : ℕ) (key : Word) (nodes : ℕ) → Item  -- the next one stands here

pub record ChainState : Type 0 where
  pub vars : List ℕ
  pub message : Option (List ℕ)  -- the words of the arguments
  pub items : List Item  -- the first one first
  pub ended : Bool

pub record Source : Type 0 where
  pub tables : List (List ℕ)  -- their bytes
  pub chains : List ChainState

-- what a step of one chain leaves and shows
pub record Turn : Type 0 where
  pub tables : List (List ℕ)
  pub chain : ChainState
  pub event : Obs

abbrev pub wrapped : ℕ → ℕ
wrapped n = n % 2 ^ 64

abbrev pub value_of : List ℕ → Word → ℕ
value_of vars (Var x) = slice_index vars x
value_of vars (Num n) = n

-- `~`
abbrev pub same_low : ℕ → ℕ → Bool
same_low a b = low_48 a == low_48 b

-- `==`, or else `~`
abbrev pub same : Bool → ℕ → ℕ → Bool
same wide a b = if wide then a == b else same_low a b

-- the bytes of a table
abbrev pub bytes_of : List (List ℕ) → ℕ → List ℕ
bytes_of tables table = slice_index_or tables table []

-- whether a whole word lies at an offset, without wrapping
abbrev pub has_word : List (List ℕ) → ℕ → ℕ → Bool
has_word tables table o = nat_le (o + 8) (length (bytes_of tables table))

abbrev pub word_in : List (List ℕ) → ℕ → ℕ → ℕ
word_in tables table o = word (bytes_of tables table) o

abbrev pub with_word_in : List (List ℕ) → ℕ → ℕ → ℕ → List (List ℕ)
with_word_in tables table o v = slice_set tables table (with_bytes_at (bytes_of tables table) o (spelled 8 v))

abbrev pub do_all : List Kernel → List Item
do_all body = map Do body

abbrev pub again : List Kernel → List Item → List Item
again body rest = do_all body ++ AgainLoop body ∷ rest

-- a body so many times
abbrev pub repeated : ℕ → List Kernel → List Item → List Item
repeated n body rest = if n == 0 then rest else do_all body ++ AgainRepeat (n - 1) body ∷ rest

-- the items behind the first that is done again
abbrev pub past_again : List Item → List Item
past_again [] = []
past_again (AgainLoop body ∷ rest) = rest
past_again (AgainRepeat count body ∷ rest) = rest
past_again (item ∷ rest) = past_again rest

-- the eight words of a reply, 0 past its own
abbrev pub eight : List ℕ → List ℕ
eight words = take 8 (words ++ replicate 8 0)

-- what follows a look at a bucket, by whether its key is the one looked for
abbrev pub found_or : Bool → ℕ → ℕ → ℕ → Word → ℕ → List Item → List Item
found_or true x table o key n rest = Take x table (wrapped (o + 8)) ∷ rest
found_or false x table o key n rest = if n == 1 then rest else Find x table (wrapped (o + 16)) key (n - 1) ∷ rest

-- what follows a look at a node's key
abbrev pub visited : Bool → ℕ → ℕ → ℕ → Word → ℕ → List Item → List Item
visited true x table o key n rest = Take x table (wrapped (o + 8)) ∷ rest
visited false x table o key n rest = Left x table o key (n - 1) ∷ rest

abbrev pub left : ℕ → ℕ → ℕ → Word → ℕ → List Item → List Item
left x table o key n rest = if n == 0 then rest else Next x table (wrapped (o + 16)) key n ∷ rest

-- an offset of 0 ends the list
abbrev pub here : ℕ → ℕ → ℕ → Word → ℕ → List Item → List Item
here x table o key n rest = if o == 0 then rest else Visit x table o key n ∷ rest

abbrev pub argument_of : Option (List ℕ) → ℕ → ℕ
argument_of None i = 0
argument_of (Some words) i = slice_index words i

-- chain c, the tables, and what the chain is
module _ (c : ℕ) (tables : List (List ℕ)) (t : ChainState) where
  abbrev pub value : Word → ℕ
  value w = value_of t.vars w

  -- on with these items
  abbrev pub goes_on : List Item → Obs → Turn
  goes_on rest event = record { tables = tables; chain = record t { items = rest }; event = event }

  abbrev pub silent : List Item → Turn
  silent rest = goes_on rest shows.Nothing

  -- a variable gets a value
  abbrev pub gets : ℕ → ℕ → List Item → Obs → Turn
  gets x v rest event = record { tables = tables; chain = record t { vars = slice_set t.vars x v; items = rest }; event = event }

  abbrev pub sets : ℕ → ℕ → List Item → Turn
  sets x v rest = gets x v rest (shows.Set c x v)

  -- the chain has ended
  abbrev pub ends : Obs → Turn
  ends event = record { tables = tables; chain = record t { ended = true }; event = event }

  -- a fault where no whole word lies there
  abbrev pub within : ℕ → ℕ → Turn → Turn
  within table o turn = if has_word tables table o then turn else ends (shows.Fault c table o)

  abbrev pub loads : ℕ → ℕ → ℕ → List Item → Turn
  loads x table o rest =
      within table o (gets x (word_in tables table o) rest (shows.Load c x table o (word_in tables table o)))

  abbrev pub stores : ℕ → ℕ → ℕ → List Item → Turn
  stores table o v rest =
      within table o (record {
        tables = with_word_in tables table o v;
        chain = record t { items = rest };
        event = shows.Store c table o v;
      })

  -- a word is looked at, and these items follow from it
  abbrev pub looks : ℕ → ℕ → (ℕ → List Item) → Turn
  looks table o next = within table o (goes_on (next (word_in tables table o)) (shows.Look c table o (word_in tables table o)))

  abbrev pub replies : List ℕ → Turn
  replies words = ends (shows.Reply c (length words) (eight words))

  -- a statement is done, with the items behind it
  unfoldable pub statement_does : Kernel-F Kernel → List Item → Turn
  statement_does (Kernel-F.Move x a) rest = sets x (value a) rest
  statement_does (Kernel-F.Add x a) rest = sets x (wrapped (value (Var x) + value a)) rest
  statement_does (Kernel-F.Load x table a) rest = loads x table (value a) rest
  statement_does (Kernel-F.Store table a b) rest = stores table (value a) (value b) rest
  statement_does (Kernel-F.If wide a b met unmet) rest = silent (do_all (if same wide (value a) (value b) then met else unmet) ++ rest)
  statement_does (Kernel-F.Loop body) rest = silent (again body rest)
  statement_does (Kernel-F.Repeat n body) rest = silent (repeated n body rest)
  statement_does Kernel-F.Break rest = silent (past_again rest)
  statement_does (Kernel-F.Lookup x table a key n) rest = silent (Find x table (value a) key n ∷ rest)
  statement_does (Kernel-F.Walk x table a key n) rest = silent (Visit x table (value a) key n ∷ rest)
  statement_does (Kernel-F.Reply words) rest = replies (map value words)

  -- an item is done, with the items behind it
  unfoldable pub item_does : Item → List Item → Turn
  item_does (TakeArgument i) rest = sets i (argument_of t.message i) rest
  item_does (Do statement) rest = statement_does (out-Kernel statement) rest
  item_does (AgainLoop body) rest = silent (again body rest)
  item_does (AgainRepeat n body) rest = silent (repeated n body rest)
  item_does (Find x table o key n) rest = looks table o (λ v. found_or (same_low v (value key)) x table o key n rest)
  item_does (Take x table o) rest = loads x table o rest
  item_does (Visit x table o key n) rest = looks table o (λ v. visited (same_low v (value key)) x table o key n rest)
  item_does (Left x table o key n) rest = silent (left x table o key n rest)
  item_does (Next x table o key n) rest = looks table o (λ v. Here x table v key n ∷ rest)
  item_does (Here x table o key n) rest = silent (here x table o key n rest)

  -- the first item is done. Where there is none nothing happens
  abbrev pub first_does : List Item → Turn
  first_does [] = silent []
  first_does (item ∷ rest) = item_does item rest

-- a chain runs where it has a message and hasn't ended
abbrev pub chain_runs : ChainState → Bool
chain_runs t = is_some t.message && not t.ended

abbrev pub runs_there : Option ChainState → Bool
runs_there None = false
runs_there (Some t) = chain_runs t

abbrev pub is_running : Source → ℕ → Bool
is_running s c = runs_there (slice_get s.chains c)

abbrev pub after_turn : Source → ℕ → Turn → Source × Obs
after_turn s c turn = (record { tables = turn.tables; chains = slice_set s.chains c turn.chain }, turn.event)

abbrev pub chain_step : Source → ℕ → Option ChainState → Source × Obs
chain_step s c None = (s, shows.Nothing)
chain_step s c (Some t) = if chain_runs t then after_turn s c (first_does c s.tables t t.items) else (s, shows.Nothing)

-- a step of a chain, and what it shows. A chain that isn't running changes nothing
unfoldable pub source_step : Source → ℕ → Source × Obs
source_step s c = chain_step s c (slice_get s.chains c)

-- arguments i, i + 1 and so on, n of them
abbrev pub take_arguments : ℕ → ℕ → List Item
take_arguments i zero = []
take_arguments i (suc n) = TakeArgument i ∷ take_arguments (i + 1) n

-- and their words in a message
abbrev pub message_words : ℕ → Option (List ℕ) → Option (List ℕ)
message_words n None = None
message_words n (Some bytes) = Some (argument_words bytes 0 n)

abbrev pub fresh_chain : ChainInit → Option (List ℕ) → ChainState
fresh_chain c message =
    record { vars = c.vars; message = message_words c.args message; items = take_arguments 0 c.args ++ do_all c.body; ended = false }

-- a chain past the messages has none
abbrev pub fresh_chains : List ChainInit → List (Option (List ℕ)) → List ChainState
fresh_chains [] messages = []
fresh_chains (c ∷ cs) [] = fresh_chain c None ∷ fresh_chains cs []
fresh_chains (c ∷ cs) (m ∷ messages) = fresh_chain c m ∷ fresh_chains cs messages

-- the first state
unfoldable pub source_start : Program → List (Option (List ℕ)) → Source
source_start p messages = record { tables = map (λ (t : TableInit). t.bytes) p.tables; chains = fresh_chains p.chains messages }

-- each chain is running at its turn
abbrev pub EachRuns : Source → List ℕ → Type 0
EachRuns s [] = Unit {0}
EachRuns s (c ∷ cs) = (is_running s c ≡ true) × EachRuns (source_step s c).0 cs

-- the state that they reach
abbrev pub source_after : Source → List ℕ → Source
source_after s [] = s
source_after s (c ∷ cs) = source_after (source_step s c).0 cs

-- their events in order, Nothing left out
abbrev pub events : Source → List ℕ → List Obs
events s [] = []
events s (c ∷ cs) = shown_then (source_step s c).1 (events (source_step s c).0 cs)

-- how many of the steps are the chain's
abbrev pub steps_of : ℕ → List ℕ → ℕ
steps_of c cs = count_by (λ (d : ℕ). d == c) cs

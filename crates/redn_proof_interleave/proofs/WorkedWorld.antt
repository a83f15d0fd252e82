-- The two chains with their machines: all that is promised holds of them, so the theorem speaks of their runs.
use Rattle.std.proofs.Common.{◌≡◌, ◌≢◌, ◌⊎◌, ℕ, zero, suc, ◌+◌, ◌*◌, ◌%◌, ◌^◌, ◌<◌, ◌≤◌, inl, inr, Bool, true, false, ◌==◌, List, [], ◌∷◌, ◌++◌, Option, Some, None, length, replicate, drop, length-take, length-drop, append-nil, refl, sym, ap, subst, ◌∙◌, arith}
use Rattle.std.specs.Prelude.{slice_get, slice_index_or, nat_le, nat_lt, ◌&&◌, ◌||◌}
use Rattle.std.proofs.lemmas.Bool.{eq-eqb, eqb-true, false_from_ne_true, false≢true, true≢false, or_cases}
use Rattle.std.proofs.lemmas.Bool.Decides.{nat_tests}
use Rattle.redn_words.specs.Steps.{class_of}
use Rattle.redn_words.specs.declared.types.QueueRow.{QueueRow}
use Rattle.redn_words.specs.declared.types.Receive.{Receive}
use Rattle.redn_words.specs.declared.types.Request.{Request}
use Rattle.redn_words.specs.declared.types.Obs.TheVariants as shows
use Rattle.redn_words.specs.Words.{bytes_at, with_bytes_at, number, spelled, word}
use Rattle.redn_words.specs.Requests.{encoded, opcode_named}
use Rattle.redn_words.specs.Landings.{Change, change, changed, reply_words, Landing}
use Rattle.redn_words.specs.Runs.{shown_then}
use Rattle.redn_words.specs.States.{Queue, State, fresh_queue, fresh_chain, mail_of, slot_of}
use Rattle.redn_words.proofs.Bytes.{same_range}
use Rattle.redn_words.specs.Bytes.{byte, hits}
use Rattle.redn_words.proofs.Places.{bytes_at-same}
use Rattle.redn_words.proofs.Numbers.{length-spelled}
use Rattle.redn_words.specs.Ranges.{within, holds, domain_holds}
use Rattle.redn_words.specs.Access.{EndsBy}
use Rattle.redn_words.specs.Laws.{row_at}
use Rattle.redn_words.proofs.Slots.{decoded-encoded}
use Rattle.redn_words.specs.Slots.{IsNarrow}
use Rattle.redn_words.proofs.Copies.{get_empty}
use Rattle.redn_proof_window.specs.Windows.{Last, Followed, landing_on, bodies_of, slots_of}
use Rattle.redn_proof_window.specs.Stages.{Agrees, all_written}
use Rattle.redn_proof_window.specs.Gateways.{Gateway, GateQueue, gate_of, gate_copy}
use Rattle.redn_proof_window.specs.Scripts.{IsBytes, Wrote, RestsAt}
use Rattle.redn_proof_window.proofs.Sound.{spelled_bytes, encoded_bytes, joined_bytes, zero_bytes}
use Rattle.redn_kernel.specs.Source.{has_word, with_word_in, eight}
use Rattle.std.proofs.lemmas.List.{drop_all}
use Rattle.redn_image.specs.Faithful.{IsClean}
use Rattle.redn_proof_window.proofs.Below.{below_two, below_four}
use Rattle.redn_proof_interleave.specs.Machines.{Contents, Machine, MachineTurn, Many, Goes}
use Rattle.redn_proof_interleave.specs.Forms.{Form, World, IsTold, message, whole, MailPlace, IsEntry, Promises, AllPromise, Tells, Fails, expected, with_message, pending}
use Rattle.redn_proof_interleave.specs.Explains.{Begins}
use Rattle.redn_proof_interleave.proofs.WorkedChains.{plan, regions_end, Turn, Stores, Replies, window, Ready, is_ring, place_at, counted_at, next, private, regions, ring_row, script, store_lands, reply_lands, ready_same, event_ready, store, wait, enable, reply, wait_message, request, not_table}
use Rattle.redn_words.proofs.Ranges.{holds_bounds, bounds_hold, one_within}

-- first the store, then the reply, then nothing; and nothing after a fault
abbrev pub step_store : ℕ → Contents → Bool → MachineTurn ℕ
step_store c t true = record { tables = with_word_in t 0 0 (7 + c); state = 1; event = shows.Store c 0 0 (7 + c) }
step_store c t false = record { tables = t; state = 3; event = shows.Fault c 0 0 }

unfoldable pub step : ℕ → Contents → ℕ → MachineTurn ℕ
step c t zero = step_store c t (has_word t 0 0)
step c t (suc zero) = record { tables = t; state = 2; event = shows.Reply c 1 (eight ((7 + c) ∷ [])) }
step c t (suc (suc x)) = record { tables = t; state = 2; event = shows.Nothing }

unfoldable pub cost : ℕ → ℕ
cost zero = 8
cost (suc zero) = 4
cost (suc (suc x)) = 0

abbrev pub both : ℕ → Machine ℕ
both c = record { step = step c; ended = λ x. nat_le 2 x; cost = cost }

unfoldable pub state_at : Turn → Option (List Change) → ℕ
state_at Stores None = 0
state_at Stores (Some e) = 1
state_at Replies None = 1
state_at Replies (Some e) = 2

unfoldable pub owed_at : Turn → Option (List Change) → ℕ
owed_at Stores (Some e) = 4
owed_at Stores None = 0
owed_at Replies e = 0

unfoldable pub entry_row : ℕ → QueueRow
entry_row c = record { domain = c; managed = false; base = 392 * c + 256; slots = 2; limit = 2 }

unfoldable pub entry : ℕ → Gateway
entry c = record { queue = 2 * c; row = entry_row c; gates = encoded (wait_message c) ∷ encoded (enable c 3) ∷ [] }

abbrev pub form : ℕ → Form ℕ
form c =
    record {
      script = plan c;
      entry = entry c;
      first = Stores;
      mine = λ p. within (private c) p;
      machine = both c;
      begin = 0;
      state = state_at;
      failed = λ x. 2;
      owed = owed_at;
      Holds = λ y m. Unit {0};
    }

unfoldable pub part : ℕ → List ℕ
part c = encoded (store c) ++ (encoded (wait c) ++ (encoded (enable c 4) ++ (encoded (reply c) ++ (encoded (wait_message c) ++ (encoded (enable c 3) ++ spelled 8 (7 + c))))))

-- the messages are those of the two chains
abbrev pub Messages : Type 0
Messages = List (Option (List ℕ))

abbrev pub pick : Messages → ℕ → Option (List ℕ)
pick messages c = slice_index_or messages c None

abbrev pub memory : List ℕ
memory = part 0 ++ (part 1 ++ replicate 8 0)

unfoldable pub first_state : Messages → State
first_state messages =
    record {
      regions = regions;
      receives = record { base = 0; len = 0 } ∷ record { base = 0; len = 0 } ∷ [];
      memory = part 0 ++ (part 1 ++ replicate 8 0);
      queues = fresh_queue (entry_row 0) ∷ fresh_queue (ring_row 0) ∷ fresh_queue (entry_row 1) ∷ fresh_queue (ring_row 1) ∷ [];
      chains = fresh_chain (pick messages 0) ∷ fresh_chain (pick messages 1) ∷ [];
    }

abbrev pub has_table : Contents → List ℕ → Type 0
has_table t m = t ≡ bytes_at m 784 8 ∷ []

abbrev pub world : Messages → World
world messages = record { M = ℕ; form = form; begin = first_state messages; shared = λ p. within (record { at = 784; len = 8 } ∷ []) p; Tables = has_table; most = 2 ^ 62 }

part_is_bytes : (c : ℕ) → IsBytes (part c)
unfolding part
part_is_bytes c =
    joined_bytes _ _ (encoded_bytes (store c)) (joined_bytes _ _ (encoded_bytes (wait c)) (joined_bytes _ _ (encoded_bytes (enable c 4)) (joined_bytes _ _ (encoded_bytes (reply c)) (joined_bytes _ _ (encoded_bytes (wait_message c)) (joined_bytes _ _ (encoded_bytes (enable c 3)) (spelled_bytes 8 (7 + c)))))))

first_bytes : IsBytes (part 0 ++ (part 1 ++ replicate 8 0))
first_bytes = joined_bytes _ _ (part_is_bytes 0) (joined_bytes (part 1) (replicate 8 0) (part_is_bytes 1) (zero_bytes 8))

first_ready : (messages : Messages) (c : ℕ) → c < 2 → Ready c (first_state messages).memory
unfolding first_state part number spelled encoded
first_ready messages =
    below_two (λ c. Ready c (part 0 ++ (part 1 ++ replicate 8 0))) record { chain = omega arith; size = refl; stand = below_four _ refl refl refl refl; value = refl } record { chain = omega arith; size = refl; stand = below_four _ refl refl refl refl; value = refl }

narrow : (c opcode first second : ℕ) → opcode < 10 → first < 2 ^ 20 → second < 2 ^ 20 → IsNarrow (request opcode 0 0 0 0 first second 0)
narrow c opcode first second a b d =
    record { op = omega arith; id = omega arith; lkey = omega arith; rkey = omega arith; local = omega arith; remote = omega arith; len = omega arith; first = omega arith; second = omega arith; flags = omega arith }

waits_is : (c : ℕ) → c < 2 → gate_of (entry c) 0 ≡ wait_message c
unfolding entry
waits_is c l = decoded-encoded (wait_message c) (narrow c 6 (65536 + c) 1 (omega arith) (omega arith) (omega arith))

enables_is : (c : ℕ) → c < 2 → gate_of (entry c) 1 ≡ enable c 3
unfolding entry
enables_is c l = decoded-encoded (enable c 3) (narrow c 7 (2 * c + 1) 3 (omega arith) (omega arith) (omega arith))

some_same : {A : Type 0} (x y : A) → Some x ≡ Some y → x ≡ y
some_same x y e = cc

-- the regions of one chain have no private byte of the other
not_second : (a b x y u v e f : Bool) → a ≡ false → x ≡ false → y ≡ false → f ≡ false → ((a && u) || ((a && v) || ((b && x) || ((b && y) || ((a && e) || ((b && f) || false)))))) ≡ false
not_second a true x y u v e f none first second third = rw (none, first, second, third) refl
not_second a false x y u v e f none first second third = rw none refl

not_first : (a b x y u v e f : Bool) → b ≡ false → x ≡ false → y ≡ false → e ≡ false → ((a && x) || ((a && y) || ((b && u) || ((b && v) || ((a && e) || ((b && f) || false)))))) ≡ false
not_first true b x y u v e f none first second third = rw (none, first, second, third) refl
not_first false b x y u v e f none first second third = rw none refl

nowhere : (p : ℕ) → holds (record { at = 0; len = 0 }) p ≡ false
nowhere p = false_from_ne_true (holds (record { at = 0; len = 0 }) p) (λ h. let b = holds_bounds (record { at = 0; len = 0 }) p h in let high = b.1 in omega arith)

bounds_of : (c p : ℕ) → within (private c) p ≡ true → (392 * c ≤ p) × (p < 392 * c + 392)
unfolding private
bounds_of c p own =
    elim (or_cases (holds (record { at = 392 * c; len = 392 }) p) false own) [
      | inl here ↦ holds_bounds (record { at = 392 * c; len = 392 }) p here
      | inr never ↦ absurd (false≢true never)
    ]

past : (at p : ℕ) → p < at → holds (record { at = at; len = 8 }) p ≡ false
past at p l = let t : nat_le at p ≡ false = grind (arith, nat_tests) in rw t refl

before : (at p : ℕ) → at + 8 ≤ p → holds (record { at = at; len = 8 }) p ≡ false
before at p l = false_from_ne_true (holds (record { at = at; len = 8 }) p) (λ h. let b = holds_bounds (record { at = at; len = 8 }) p h in let high = b.1 in omega arith)

both_apart : (c : ℕ) → c < 2 → (d p : ℕ) → d ≢ c → (392 * c ≤ p) × (p < 392 * c + 392) → domain_holds regions d p ≡ false
unfolding regions
both_apart zero l d p ne own =
    let high = own.1 in
    let other : (0 == d) ≡ false = grind (arith, nat_tests) in
    not_second (0 == d) (1 == d) (holds (record { at = 776; len = 8 }) p) (holds (record { at = 784; len = 8 }) p) (holds (record { at = 384; len = 8 }) p) (holds (record { at = 784; len = 8 }) p) (holds (record { at = 0; len = 0 }) p) (holds (record { at = 0; len = 0 }) p) other (past 776 p (omega arith)) (past 784 p (omega arith)) (nowhere p)
both_apart (suc zero) l d p ne own =
    let low = own.0 in
    let high = own.1 in
    let other : (1 == d) ≡ false = grind (arith, nat_tests) in
    not_first (0 == d) (1 == d) (holds (record { at = 384; len = 8 }) p) (holds (record { at = 784; len = 8 }) p) (holds (record { at = 776; len = 8 }) p) (holds (record { at = 784; len = 8 }) p) (holds (record { at = 0; len = 0 }) p) (holds (record { at = 0; len = 0 }) p) other (before 384 p (omega arith)) (past 784 p (omega arith)) (nowhere p)
both_apart (suc (suc c)) l d p ne own = absurd (omega arith)

-- a table after its word was written
table_after : (c : ℕ) (n moved : List ℕ) → length n ≡ 792 → moved ≡ spelled 8 (7 + c) → has_table (spelled 8 (7 + c) ∷ []) (with_bytes_at n 784 moved)
table_after c n moved size is =
    let long : length moved ≡ 8 = ap length is ∙ length-spelled 8 (7 + c) in
    let room : 784 + length moved ≤ length n = omega (arith, long, size) in
    ap (λ (w : List ℕ). w ∷ []) (sym is ∙ sym (ap (λ (k : ℕ). bytes_at (with_bytes_at n 784 moved) 784 k) (sym long) ∙ bytes_at-same n moved 784 room))

row_domain : (c : ℕ) (x : Turn) (m : List ℕ) → (window c x m).row.domain ≡ c
unfolding window ring_row
row_domain c Stores m = refl
row_domain c Replies m = refl

row_bytes : (c : ℕ) (x : Turn) (m : List ℕ) (p : ℕ) → (window c x m).ours p ≡ true → within (private c) p ≡ true
unfolding window
row_bytes c Stores m p h = h
row_bytes c Replies m p h = h

stores_queue : (c : ℕ) (m : List ℕ) → (window c Stores m).queue ≡ 2 * c + 1
unfolding window
stores_queue c m = refl

stores_limit : (c : ℕ) (m : List ℕ) → 3 ≡ place_at c Stores (window c Stores m).queue + slots_of (window c Stores m)
unfolding window place_at
stores_limit c m = let own : (2 * c + 1 == 2 * c + 1) ≡ true = eq-eqb (2 * c + 1) (2 * c + 1) refl in rw own refl

stores_regions : (c : ℕ) (m : List ℕ) → regions ≡ (window c Stores m).regions
unfolding window
stores_regions c m = refl

step_first : (c : ℕ) (m : List ℕ) (t : Contents) → Goes ℕ (both c) t 0 [] t (state_at Stores None) (whole (window c Stores m) + owed_at Stores None) (cost 0)
unfolding window state_at owed_at cost
step_first c m t = record { steps = 0; go = tt; telling = refl; tables = refl; state = refl; enough = omega arith }

fresh_entry : (c : ℕ) → c < 2 → GateQueue (entry c) (fresh_queue (entry_row c)) 0
unfolding entry entry_row
fresh_entry c l =
    record { row = refl; runs = refl; head = refl; limit = refl; inside = omega arith; flights = refl; held = λ i copy e. let none = get_empty i in absurd (cc (none, e)) }

-- what the machine's steps are on a table of one word
store_on : (c : ℕ) (t : Contents) (w : List ℕ) → t ≡ w ∷ [] → length w ≡ 8 → step_store c t (has_word t 0 0) ≡ record { tables = spelled 8 (7 + c) ∷ []; state = 1; event = shows.Store c 0 0 (7 + c) }
store_on c t w is long =
    let there : has_word (w ∷ []) 0 0 ≡ true = grind (arith, nat_tests) in
    let over : with_bytes_at w 0 (spelled 8 (7 + c)) ≡ spelled 8 (7 + c) = ap (λ (k : ℕ). spelled 8 (7 + c) ++ drop k w) (let all : 0 + length (spelled 8 (7 + c)) ≡ length (spelled 8 (7 + c)) = omega arith in all) ∙ ap (λ (l : List ℕ). spelled 8 (7 + c) ++ l) (drop_all (length (spelled 8 (7 + c))) w (omega (arith, long, length-spelled 8 (7 + c)))) ∙ append-nil (spelled 8 (7 + c)) in
    ap (λ (u : Contents). step_store c u (has_word u 0 0)) is ∙ ap (step_store c (w ∷ [])) there ∙ ap (λ (b : List ℕ). record { tables = b ∷ []; state = 1; event = shows.Store c 0 0 (7 + c) }) over

table_length : (n : List ℕ) → length n ≡ 792 → length (bytes_at n 784 8) ≡ 8
table_length n size = length-take 8 (drop 784 n) ∙ (let left = length-drop 784 n in omega (arith, left, size))

word_is : (c : ℕ) → c < 2 → word (spelled 8 (7 + c)) 0 ≡ 7 + c
unfolding number spelled
word_is = below_two (λ c. word (spelled 8 (7 + c)) 0 ≡ 7 + c) refl refl

reply_is : (c : ℕ) → c < 2 → reply_words 1 (spelled 8 (7 + c)) ≡ eight ((7 + c) ∷ [])
unfolding number spelled
reply_is = below_two (λ c. reply_words 1 (spelled 8 (7 + c)) ≡ eight ((7 + c) ∷ [])) refl refl

pending_mail : (m : Option (List ℕ)) → pending (mail_of m) ≡ m
pending_mail None = refl
pending_mail (Some bytes) = refl

module _ (messages : Messages) (short : (c : ℕ) (bytes : List ℕ) → c < 2 → pick messages c ≡ Some bytes → bytes ≡ []) where
  entry_slots : (c : ℕ) → c < 2 → (k : ℕ) → k < 2 → slot_of (first_state messages).memory (entry_row c) k ≡ gate_copy (entry c) k
  unfolding first_state part number spelled encoded entry entry_row
  entry_slots = below_two (λ c. (k : ℕ) → k < 2 → slot_of (first_state messages).memory (entry_row c) k ≡ gate_copy (entry c) k) (below_two _ refl refl) (below_two _ refl refl)

  pub message_is : (d : ℕ) → d < 2 → message (world messages) d ≡ pick messages d
  unfolding first_state
  message_is = below_two (λ d. message (world messages) d ≡ pick messages d) (pending_mail (pick messages 0)) (pending_mail (pick messages 1))

  receive_is : (d : ℕ) → d < 2 → slice_get (first_state messages).receives d ≡ Some (record { base = 0; len = 0 })
  unfolding first_state
  receive_is = below_two (λ d. slice_get (first_state messages).receives d ≡ Some (record { base = 0; len = 0 })) refl refl

  -- memory before and after the message, which is empty
  both_expected : (came : Bool) (c : ℕ) → c < 2 → expected (world messages) c came ≡ (first_state messages).memory
  both_expected true c l = ap (λ (o : Option Receive). with_message (first_state messages).memory o (message (world messages) c)) (receive_is c l) ∙ by_message (message (world messages) c) refl
    where
      by_message : (o : Option (List ℕ)) → message (world messages) c ≡ o → with_message (first_state messages).memory (Some (record { base = 0; len = 0 })) o ≡ (first_state messages).memory
      by_message None e = refl
      by_message (Some bytes) e = ap (with_bytes_at (first_state messages).memory 0) (short c bytes l (sym (message_is c l) ∙ e))
  both_expected false c l = refl

  is_entry : (c : ℕ) → c < 2 → IsEntry (world messages) c
  unfolding entry entry_row is_ring private opcode_named
  is_entry c l =
      record {
        orderly = record { room = omega arith; each = below_two _ (inl (ap class_of (waits_is c l))) (inr (ap class_of (enables_is c l))) };
        two = refl;
        static = refl;
        domain = refl;
        no_ring = let t : (2 * c == 2 * c + 1) ≡ false = grind (arith, nat_tests) in t;
        waits = ap class_of (waits_is c l);
        counter = ap (λ (r : Request). r.first) (waits_is c l);
        one = ap (λ (r : Request). r.second) (waits_is c l);
        enables = ap class_of (enables_is c l);
        slots_mine = λ k p i low high. inside k p i low high;
        slots = λ came k i. ap (λ (m : List ℕ). slot_of m (entry_row c) k) (both_expected came c l) ∙ entry_slots c l k i;
      }
    where
      inside : (k p : ℕ) → k < 2 → (392 * c + 256) + 64 * (k % 2) ≤ p → p < (392 * c + 256) + 64 * (k % 2) + 64 → within (record { at = 392 * c; len = 392 } ∷ []) p ≡ true
      inside k p i low high = one_within (record { at = 392 * c; len = 392 }) p (bounds_hold (record { at = 392 * c; len = 392 }) p (omega arith) (omega arith))

  queues_there : (d : ℕ) → d < 2 → slice_get (first_state messages).queues (2 * d + 1) ≡ Some (fresh_queue (ring_row d))
  unfolding first_state
  queues_there = below_two (λ d. slice_get (first_state messages).queues (2 * d + 1) ≡ Some (fresh_queue (ring_row d))) refl refl

  entries_there : (d : ℕ) → d < 2 → slice_get (first_state messages).queues (2 * d) ≡ Some (fresh_queue (entry_row d))
  unfolding first_state
  entries_there = below_two (λ d. slice_get (first_state messages).queues (2 * d) ≡ Some (fresh_queue (entry_row d))) refl refl

  chain_is : (d : ℕ) → d < 2 → slice_get (first_state messages).chains d ≡ Some (fresh_chain (pick messages d))
  unfolding first_state
  chain_is = below_two (λ d. slice_get (first_state messages).chains d ≡ Some (fresh_chain (pick messages d))) refl refl

  rows_known : (q : ℕ) (row : QueueRow) → row_at (first_state messages).queues q ≡ Some row → (row.domain < 2) × ((q ≡ 2 * row.domain) ⊎ (is_ring row.domain q ≡ true))
  unfolding first_state entry_row ring_row is_ring
  rows_known zero row e = let is = some_same _ row e in subst (λ (r : QueueRow). (r.domain < 2) × ((0 ≡ 2 * r.domain) ⊎ ((0 == 2 * r.domain + 1) ≡ true))) is (omega arith, inl refl)
  rows_known (suc zero) row e = let is = some_same _ row e in subst (λ (r : QueueRow). (r.domain < 2) × ((1 ≡ 2 * r.domain) ⊎ ((1 == 2 * r.domain + 1) ≡ true))) is (omega arith, inr refl)
  rows_known (suc (suc zero)) row e = let is = some_same _ row e in subst (λ (r : QueueRow). (r.domain < 2) × ((2 ≡ 2 * r.domain) ⊎ ((2 == 2 * r.domain + 1) ≡ true))) is (omega arith, inl refl)
  rows_known (suc (suc (suc zero))) row e = let is = some_same _ row e in subst (λ (r : QueueRow). (r.domain < 2) × ((3 ≡ 2 * r.domain) ⊎ ((3 == 2 * r.domain + 1) ≡ true))) is (omega arith, inr refl)
  rows_known (suc (suc (suc (suc q)))) row e = absurd (cc)

  first_heads : (q : ℕ) (u : Queue) → slice_get (first_state messages).queues q ≡ Some u → u.head ≡ 0
  unfolding first_state
  first_heads zero u e = sym (ap (λ (v : Queue). v.head) (some_same _ u e))
  first_heads (suc zero) u e = sym (ap (λ (v : Queue). v.head) (some_same _ u e))
  first_heads (suc (suc zero)) u e = sym (ap (λ (v : Queue). v.head) (some_same _ u e))
  first_heads (suc (suc (suc zero))) u e = sym (ap (λ (v : Queue). v.head) (some_same _ u e))
  first_heads (suc (suc (suc (suc q)))) u e = absurd (cc)

  first_ends : EndsBy (length (first_state messages).memory) (first_state messages).regions
  unfolding first_state part number spelled encoded
  first_ends = regions_end _ (omega arith)

  module _ (c : ℕ) (l : c < 2) where
    value_there : (x : Turn) (m n : List ℕ) → Ready c m → Agrees (window c x m) n → bytes_at n (392 * c + 384) 8 ≡ spelled 8 (7 + c)
    value_there x m n h agrees = (event_ready c l x m n h agrees).value

    -- the landings are the steps
    store_tells : (m n : List ℕ) (t : Contents) → Ready c m → Agrees (window c Stores m) n → has_table t n → Tells (world messages) c Stores m n t
    unfolding window state_at owed_at step cost
    store_tells m n t h agrees tables =
        let is = store_lands m n c l in
        let value = value_there Stores m n h agrees in
        let size = (event_ready c l Stores m n h agrees).size in
        let turn = store_on c t (bytes_at n 784 8) tables (table_length n size) in
        record {
          then_tables = spelled 8 (7 + c) ∷ [];
          has = subst (λ (o : Landing). has_table (spelled 8 (7 + c) ∷ []) (changed n o.writes)) (sym is) (table_after c n (bytes_at n (392 * c + 384) 8) size value);
          goes = record {
            steps = 1;
            go = (refl, tt);
            telling = ap (λ (r : MachineTurn ℕ). shown_then r.event []) turn ∙ ap (λ (v : ℕ). shows.Store c 0 0 v ∷ []) (sym (word_is c l)) ∙ ap (λ (b : List ℕ). shows.Store c 0 0 (word b 0) ∷ []) (sym value) ∙ sym (ap (λ (o : Landing). shown_then o.shown []) is);
            tables = ap (λ (r : MachineTurn ℕ). r.tables) turn;
            state = ap (λ (r : MachineTurn ℕ). r.state) turn;
            enough = let paid = ap (λ (r : MachineTurn ℕ). cost r.state) turn in omega (arith, paid);
          };
          clean = subst (λ (o : Landing). IsClean o.shown) (sym is) tt;
        }

    reply_tells : (m n : List ℕ) (t : Contents) → Ready c m → Agrees (window c Replies m) n → has_table t n → Tells (world messages) c Replies m n t
    unfolding window state_at owed_at step cost
    reply_tells m n t h agrees tables =
        let is = reply_lands m n c l in
        let value = value_there Replies m n h agrees in
        record {
          then_tables = t;
          has = subst (λ (o : Landing). has_table t (changed n o.writes)) (sym is) tables;
          goes = record { steps = 1; go = (refl, tt); telling = ap (λ (b : List ℕ). shows.Reply c 1 b ∷ []) (sym (reply_is c l)) ∙ ap (λ (b : List ℕ). shows.Reply c 1 (reply_words 1 b) ∷ []) (sym value) ∙ sym (ap (λ (o : Landing). shown_then o.shown []) is); tables = refl; state = refl; enough = omega arith };
          clean = subst (λ (o : Landing). IsClean o.shown) (sym is) tt;
        }

    tells : (x : Turn) (m n : List ℕ) (t : Contents) → Ready c m → Agrees (window c x m) n → has_table t n → Tells (world messages) c x m n t
    tells Stores m n t h agrees tables = store_tells m n t h agrees tables
    tells Replies m n t h agrees tables = reply_tells m n t h agrees tables

    -- none is refused
    allowed : (x : Turn) (m n : List ℕ) → (landing_on (window c x m) n (window c x m).event).allowed ≡ true
    unfolding window
    allowed Stores m n = ap (λ (o : Landing). o.allowed) (store_lands m n c l)
    allowed Replies m n = ap (λ (o : Landing). o.allowed) (reply_lands m n c l)

    fails : (x : Turn) (m n : List ℕ) (t : Contents) → (landing_on (window c x m) n (window c x m).event).allowed ≡ false → Fails (world messages) c x m n t
    fails x m n t refused = absurd (true≢false (sym (allowed x m n) ∙ refused))

    moves_on : (x : Turn) (m : List ℕ) (event : List Change) (n : List ℕ) (told : Option (List Change)) (t : Contents) → (window c x m).ending ≢ Last → IsTold (window c x m) all_written event told
        → Goes ℕ (both c) t (state_at x told) [] t (state_at (next x event) None) (whole (window c (next x event) n) + owed_at (next x event) None) (owed_at x told)
    unfolding window next state_at owed_at step cost
    moves_on Stores m event n None t on told = absurd (true≢false (told (omega arith) 0))
    moves_on Stores m event n (Some e) t on told = record { steps = 0; go = tt; telling = refl; tables = refl; state = refl; enough = omega arith }
    moves_on Replies m event n told t on is = absurd (on refl)

    ends : (x : Turn) (m : List ℕ) → (window c x m).ending ≡ Last → ((window c x m).event < bodies_of (window c x m)) × ((event : List Change) → Wrote (window c x m) event → nat_le 2 (state_at x (Some event)) ≡ true)
    unfolding window state_at
    ends Stores m last = absurd (cc)
    ends Replies m last = (omega arith, λ event wrote. refl)

    unfollowed : (x : Turn) (m : List ℕ) → (window c x m).ending ≢ Followed
    unfolding window
    unfollowed Stores m = λ e. absurd (cc)
    unfollowed Replies m = λ e. absurd (cc)

    no_first_gate : (x : Turn) (m : List ℕ) → (window c x m).first_gate ≡ None
    unfolding window
    no_first_gate Stores m = refl
    no_first_gate Replies m = refl

    rings_begin : (q : ℕ) → is_ring c q ≡ true → RestsAt (plan c) (first_state messages) Stores q
    unfolding is_ring place_at counted_at ring_row
    rings_begin q ring =
        let at : q ≡ 2 * c + 1 = eqb-true q (2 * c + 1) ring in
        record {
          u = fresh_queue (ring_row c);
          there = ap (slice_get (first_state messages).queues) at ∙ ring_there c l;
          rest = record {
            row_is = refl;
            runs = refl;
            head = rw ring refl;
            limit = rw ring refl;
            flights = refl;
            held = λ i. get_empty i;
            counted = rw ring refl;
          };
        }
      where
        ring_there : (d : ℕ) → d < 2 → slice_get (first_state messages).queues (2 * d + 1) ≡ Some (fresh_queue (ring_row d))
        ring_there = queues_there

    begin_place : (bytes : List ℕ) → message (world messages) c ≡ Some bytes → MailPlace (world messages) c bytes
    unfolding first_state
    begin_place bytes e =
        let empty : bytes ≡ [] = short c bytes l (sym (message_is c l) ∙ e) in
        subst (λ (b : List ℕ). MailPlace (world messages) c b) (sym empty) record {
          place = record { base = 0; len = 0 };
          there = receive_is c l;
          fits = omega arith;
          sound = λ k d l. absurd (omega arith);
          spares_tables = λ p common. no_byte p;
          spares_others = λ d p inside ne own. no_byte p;
        }
      where
        no_byte : (p : ℕ) → hits (change 0 [] ∷ []) p ≡ false
        no_byte p = let t : nat_lt p 0 ≡ false = grind (arith, nat_tests) in let s : nat_le 0 p ≡ true = grind (arith, nat_tests) in rw (s, t) refl

    regions_apart : (d p : ℕ) → d ≢ c → within (private c) p ≡ true → domain_holds regions d p ≡ false
    regions_apart d p ne own = both_apart c l d p ne (bounds_of c p own)

    promises : Promises (world messages) c
    unfolding entry first_state ring_row script
    promises =
        record {
          script = script c l;
          no_first_gate = no_first_gate;
          unfollowed = λ x m ready. unfollowed x m;
          most = omega arith;
          domain = domains;
          ours = own_bytes;
          private = λ p own. not_table c l p own;
          apart = regions_apart;
          entry = is_entry c l;
          place = begin_place;
          prepared = λ bytes m e sound same. ready_same c l (first_state messages).memory m (first_ready messages c l) (same.size ∙ ap length (both_expected true c l)) (λ p own. same.bytes p own ∙ ap (λ (w : List ℕ). byte w p) (both_expected true c l));
          opens = λ m ready. record { queue = first_queue m; limit = first_limit m; regions = first_regions m };
          entry_begins = (fresh_queue (entry_row c), entries_there c l, fresh_entry c l);
          rings_begin = rings_begin;
          chain_begins = (fresh_chain (pick messages c), chain_is c l, refl);
          begins = λ m t ready. first_step m t;
          tells = λ x m n t found may. tells x m n t found.ready found.agrees found.tables;
          fails = λ x m n t found refused. fails x m n t refused;
          moves_on = λ x m event n told t over is. moves_on x m event n told t over.goes_on is;
          ends = λ x m ready last. ends x m last;
          holds = λ x m n marks event told ready wrote is last. tt;
          holds_failed = λ x n h. tt;
          holds_begin = λ came. tt;
          holds_same = λ y m n same h. tt;
        }
      where
        domains : (x : Turn) (m : List ℕ) → (window c x m).row.domain ≡ c
        domains = row_domain c

        own_bytes : (x : Turn) (m : List ℕ) (p : ℕ) → (window c x m).ours p ≡ true → within (private c) p ≡ true
        own_bytes = row_bytes c

        first_queue : (m : List ℕ) → (gate_of (entry c) 1).first ≡ (window c Stores m).queue
        first_queue m = ap (λ (r : Request). r.first) (enables_is c l) ∙ sym (stores_queue c m)

        first_limit : (m : List ℕ) → (gate_of (entry c) 1).second ≡ place_at c Stores (window c Stores m).queue + slots_of (window c Stores m)
        first_limit m = ap (λ (r : Request). r.second) (enables_is c l) ∙ stores_limit c m

        first_regions : (m : List ℕ) → regions ≡ (window c Stores m).regions
        first_regions = stores_regions c

        first_step : (m : List ℕ) (t : Contents) → Goes ℕ (both c) t 0 [] t (state_at Stores None) (whole (window c Stores m) + owed_at Stores None) (cost 0)
        first_step = step_first c

  pub two_chains : AllPromise (world messages)
  unfolding entry first_state
  two_chains =
      record {
        each = λ c inside. promises c inside;
        rows = λ q row e. its_rows q row e;
        heads = λ q u e. first_heads q u e;
        ends = first_ends;
        sound = first_bytes;
        tables_same = λ t m n size same has. has ∙ ap (λ (w : List ℕ). w ∷ []) (sym (same_range n m 784 8 size (λ p low high. same p (one_within (record { at = 784; len = 8 }) p (bounds_hold (record { at = 784; len = 8 }) p low high)))));
      }
    where
      its_rows : (q : ℕ) (row : QueueRow) → row_at (first_state messages).queues q ≡ Some row → (row.domain < 2) × ((q ≡ (entry row.domain).queue) ⊎ (is_ring row.domain q ≡ true))
      its_rows = rows_known

  -- the machines begin
  unfoldable pub machines : Many ℕ
  machines = record { tables = replicate 8 0 ∷ []; at = λ c. 0 }

  pub machines_begin : Begins (world messages) machines
  unfolding machines first_state part number spelled encoded
  machines_begin = record { at = λ c. refl; tables = refl }

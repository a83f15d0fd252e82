-- Two chains that store their number into the same word of a table, and then reply: an example of the promises, so that they aren't void.
use Rattle.std.proofs.Common.{◌≡◌, ◌≢◌, ℕ, zero, suc, ◌+◌, ◌*◌, ◌%◌, ◌^◌, ◌<◌, ◌≤◌, Bool, true, false, ◌==◌, List, [], ◌∷◌, Some, None, length, refl, sym, ap, subst, ◌∙◌, arith}
use Rattle.std.specs.Prelude.{if◌then◌else◌, slice_index_or}
use Rattle.std.proofs.lemmas.Bool.{eq-eqb, eqb-true, false_from_ne_true}
use Rattle.redn_words.specs.declared.types.Class.TheVariants as ask
use Rattle.redn_words.specs.Steps.{class_of}
use Rattle.redn_words.specs.declared.types.Region.{Region}
use Rattle.redn_words.specs.declared.types.Request.{Request}
use Rattle.redn_words.specs.declared.types.QueueRow.{QueueRow}
use Rattle.redn_words.specs.declared.types.Kind.TheVariants.{Vars, Table, Control}
use Rattle.redn_words.specs.declared.types.Obs.TheVariants as shows
use Rattle.redn_words.specs.Words.{bytes_at, number, spelled, word}
use Rattle.redn_words.specs.Requests.{decoded, encoded, opcode_named}
use Rattle.redn_words.specs.Access.{access, EndsBy}
use Rattle.redn_words.specs.Landings.{lands, done, Place, Change, change, reply_words}
use Rattle.redn_words.specs.Ranges.{within, all_apart, all_inside}
use Rattle.redn_words.proofs.Ranges.{within_apart, within_inside, one_within, bounds_hold}
use Rattle.redn_words.proofs.Bytes.{same_range}
use Rattle.redn_words.specs.Bytes.{byte}
use Rattle.redn_words.specs.Others.{row_may_raise}
use Rattle.redn_proof_window.proofs.Ends.{byte_kept}
use Rattle.redn_words.proofs.Slots.{decoded-encoded}
use Rattle.redn_words.specs.Slots.{IsNarrow}
use Rattle.redn_proof_window.specs.Windows.{By_gates, Last, Opening, landing_on, request_of, slot_at, copy_of, wait_of, enable_of}
use Rattle.redn_proof_window.specs.Stages.{Orderly, Gated, Agrees, Standing, all_written}
use Rattle.redn_proof_window.proofs.Placed.{Placed, placed_is_orderly, writes_of}
use Rattle.redn_proof_window.proofs.Raised.{range}
use Rattle.redn_proof_window.specs.Scripts.{Script, IsOver, Behind, IsScript}
use Rattle.redn_proof_window.proofs.Below.{below_one, below_two, below_three, below_four}

abbrev pub request : ℕ → ℕ → ℕ → ℕ → ℕ → ℕ → ℕ → ℕ → Request
request op lkey rkey local len first second flags =
    record { op = op; id = 0; lkey = lkey; rkey = rkey; local = local; remote = 0; length = len; first = first; second = second; flags = flags }

-- the requests of chain c: its ring's four, and its entry's two
abbrev pub store : ℕ → Request
store c = request 1 (2 * c + 1) (2 * c + 2) 0 8 0 0 1

abbrev pub wait : ℕ → Request
wait c = request 6 0 0 0 0 (2 * c + 1) 1 0

abbrev pub enable : ℕ → ℕ → Request
enable c limit = request 7 0 0 0 0 (2 * c + 1) limit 0

abbrev pub reply : ℕ → Request
reply c = request 5 (2 * c + 1) 0 0 8 0 0 1

abbrev pub wait_message : ℕ → Request
wait_message c = request 6 0 0 0 0 (65536 + c) 1 0

abbrev pub slot : ℕ → ℕ → Request
slot c zero = store c
slot c (suc zero) = wait c
slot c (suc (suc zero)) = enable c 4
slot c (suc (suc (suc k))) = reply c

-- a chain's part of memory: four slots, two slots, and the word that it stores. The table's word is the last
abbrev base : ℕ → ℕ
base c = 392 * c

unfoldable pub regions : List Region
regions =
    record { key = 1; domain = 0; kind = Control; rights = 0; base = 384; len = 8 }
    ∷ record { key = 2; domain = 0; kind = Table 0; rights = 4; base = 784; len = 8 }
    ∷ record { key = 3; domain = 1; kind = Control; rights = 0; base = 776; len = 8 }
    ∷ record { key = 4; domain = 1; kind = Table 0; rights = 4; base = 784; len = 8 }
    ∷ record { key = 5; domain = 0; kind = Vars; rights = 0; base = 0; len = 0 }
    ∷ record { key = 6; domain = 1; kind = Vars; rights = 0; base = 0; len = 0 }
    ∷ []

pub regions_end : (size : ℕ) → 792 ≤ size → EndsBy size regions
unfolding regions
regions_end size h k d l = each k d l
  where
    each : (k : ℕ) (d : Region) → k < 6 → (slice_index_or regions k d).base + (slice_index_or regions k d).len ≤ size
    each zero d l = omega arith
    each (suc zero) d l = omega arith
    each (suc (suc zero)) d l = omega arith
    each (suc (suc (suc zero))) d l = omega arith
    each (suc (suc (suc (suc zero)))) d l = omega arith
    each (suc (suc (suc (suc (suc zero))))) d l = omega arith
    each (suc (suc (suc (suc (suc (suc k)))))) d l = absurd (omega arith)

unfoldable pub ring_row : ℕ → QueueRow
ring_row c = record { domain = c; managed = true; base = 392 * c; slots = 4; limit = 0 }

unfoldable pub private : ℕ → List Place
private c = record { at = 392 * c; len = 392 } ∷ []

pub data Turn : Type 0 where
  Stores : Turn
  Replies : Turn

unfoldable pub window : ℕ → Turn → List ℕ → Opening
window c Stores m =
    record {
      regions = regions;
      queue = 2 * c + 1;
      row = ring_row c;
      from = 0;
      first_gate = None;
      bodies = encoded (store c) ∷ [];
      gates = encoded (wait c) ∷ encoded (enable c 4) ∷ [];
      ending = By_gates;
      counter = 0;
      memory = m;
      event = 0;
      ours = λ p. within (private c) p;
    }
window c Replies m =
    record {
      regions = regions;
      queue = 2 * c + 1;
      row = ring_row c;
      from = 3;
      first_gate = None;
      bodies = encoded (reply c) ∷ [];
      gates = [];
      ending = Last;
      counter = 1;
      memory = m;
      event = 0;
      ours = λ p. within (private c) p;
    }

abbrev value : ℕ → List ℕ
value c = spelled 8 (7 + c)

pub record Ready (c : ℕ) (m : List ℕ) : Type 0 where
  pub chain : c < 2
  pub size : length m ≡ 792
  pub stand : (k : ℕ) → k < 4 → bytes_at m (392 * c + 64 * k) 64 ≡ encoded (slot c k)
  pub value : bytes_at m (392 * c + 384) 8 ≡ spelled 8 (7 + c)

narrow_wait : (c : ℕ) → c < 2 → IsNarrow (wait c)
narrow_wait c h =
    record { op = omega arith; id = omega arith; lkey = omega arith; rkey = omega arith; local = omega arith; remote = omega arith; len = omega arith; first = omega arith; second = omega arith; flags = omega arith }

pub narrow_enable : (c : ℕ) → c < 2 → IsNarrow (enable c 4)
narrow_enable c h =
    record { op = omega arith; id = omega arith; lkey = omega arith; rkey = omega arith; local = omega arith; remote = omega arith; len = omega arith; first = omega arith; second = omega arith; flags = omega arith }

-- what the two landings are
pub store_lands : (m n : List ℕ) (c : ℕ) → c < 2 → landing_on (window c Stores m) n 0 ≡ done (392 * c + 384) 8 (change 784 (bytes_at n (392 * c + 384) 8) ∷ []) (shows.Store c 0 0 (word (bytes_at n (392 * c + 384) 8) 0))
unfolding window regions ring_row number spelled decoded encoded opcode_named access lands
store_lands m n = below_two (λ c. landing_on (window c Stores m) n 0 ≡ done (392 * c + 384) 8 (change 784 (bytes_at n (392 * c + 384) 8) ∷ []) (shows.Store c 0 0 (word (bytes_at n (392 * c + 384) 8) 0))) refl refl

pub reply_lands : (m n : List ℕ) (c : ℕ) → c < 2 → landing_on (window c Replies m) n 0 ≡ done (392 * c + 384) 8 [] (shows.Reply c 1 (reply_words 1 (bytes_at n (392 * c + 384) 8)))
unfolding window regions ring_row number spelled decoded encoded opcode_named access lands
reply_lands m n = below_two (λ c. landing_on (window c Replies m) n 0 ≡ done (392 * c + 384) 8 [] (shows.Reply c 1 (reply_words 1 (bytes_at n (392 * c + 384) 8)))) refl refl

-- what they may write
store_writes : (m : List ℕ) (c : ℕ) → c < 2 → writes_of (window c Stores m) (private c) 0 ≡ range 784 8
unfolding window regions ring_row number spelled decoded encoded opcode_named access
store_writes m = below_two (λ c. writes_of (window c Stores m) (private c) 0 ≡ range 784 8) refl refl

reply_writes : (m : List ℕ) (c : ℕ) → c < 2 → writes_of (window c Replies m) (private c) 0 ≡ []
unfolding window regions ring_row number spelled decoded encoded opcode_named access
reply_writes m = below_two (λ c. writes_of (window c Replies m) (private c) 0 ≡ []) refl refl

pub stores_gated : (c : ℕ) (m : List ℕ) → c < 2 → Gated (window c Stores m)
unfolding window number spelled decoded encoded opcode_named
stores_gated c m l =
    let waits : wait_of (window c Stores m) ≡ wait c = decoded-encoded (wait c) (narrow_wait c l) in
    let enables : enable_of (window c Stores m) ≡ enable c 4 = decoded-encoded (enable c 4) (narrow_enable c l) in
    record {
      two = refl;
      waits = ap class_of waits;
      own = ap (λ (r : Request). r.first) waits;
      count = ap (λ (r : Request). r.second) waits ∙ signals_one c l;
      enables = ap class_of enables;
    }
  where
    signals_one : (c : ℕ) → c < 2 → 1 ≡ 0 + (0 + (decoded (encoded (store c))).flags % 2)
    signals_one = below_two (λ c. 1 ≡ 0 + (0 + (decoded (encoded (store c))).flags % 2)) refl refl

stores_slot : (c : ℕ) (m : List ℕ) (k : ℕ) → k < 3 → slot_at (window c Stores m) k ≡ 392 * c + 64 * k
unfolding window ring_row
stores_slot c m = below_three (λ k. slot_at (window c Stores m) k ≡ 392 * c + 64 * k) refl refl refl

replies_slot : (c : ℕ) (m : List ℕ) (k : ℕ) → k < 1 → slot_at (window c Replies m) k ≡ 392 * c + 64 * (k + 3)
unfolding window ring_row
replies_slot c m = below_one (λ k. slot_at (window c Replies m) k ≡ 392 * c + 64 * (k + 3)) refl

slot_inside : (k : ℕ) → k < 4 → (c : ℕ) → c < 2 → all_inside (range (392 * c + 64 * k) 64) (private c) ≡ true
unfolding private
slot_inside = below_four (λ k. (c : ℕ) → c < 2 → all_inside (range (392 * c + 64 * k) 64) (private c) ≡ true) (below_two _ refl refl) (below_two _ refl refl) (below_two _ refl refl) (below_two _ refl refl)

slot_below : (k : ℕ) → k < 4 → (c : ℕ) → c < 2 → all_apart (range (392 * c + 64 * k) 64) (range 784 8) ≡ true
slot_below = below_four (λ k. (c : ℕ) → c < 2 → all_apart (range (392 * c + 64 * k) 64) (range 784 8) ≡ true) (below_two _ refl refl) (below_two _ refl refl) (below_two _ refl refl) (below_two _ refl refl)

none_apart : (at : ℕ) → all_apart (range at 64) [] ≡ true
none_apart at = refl

stores_placed : (c : ℕ) (m : List ℕ) → Ready c m → Placed (window c Stores m) (private c)
unfolding window regions ring_row number spelled decoded encoded opcode_named
stores_placed c m h =
    let l = h.chain in
    let size = h.size in
    record {
      private_is = λ p. refl;
      numbered = omega arith;
      room = omega arith;
      first = λ copy e. absurd (cc);
      flying = below_one _ (flies c l);
      last = λ k e. let at : k ≡ 0 = omega arith in subst (λ (v : ℕ). (request_of (window c Stores m) v).flags % 2 ≡ 1) (sym at) (flags c l);
      gates = stores_gated c m l;
      slots_stand = λ k i. ap (λ (at : ℕ). bytes_at m at 64) (stores_slot c m k i) ∙ h.stand k (omega arith) ∙ below_three (λ v. encoded (slot c v) ≡ copy_of (window c Stores m) v) refl refl refl k i;
      slots_inside = λ k i. ap (λ (at : ℕ). all_inside (range at 64) (private c)) (stores_slot c m k i) ∙ slot_inside k (omega arith) c l;
      slots_apart = λ k j i one. below_one (λ v. all_apart (range (slot_at (window c Stores m) k) 64) (writes_of (window c Stores m) (private c) v) ≡ true) (ap (λ (at : ℕ). all_apart (range at 64) (writes_of (window c Stores m) (private c) 0)) (stores_slot c m k i) ∙ ap (all_apart (range (392 * c + 64 * k) 64)) (store_writes m c l) ∙ slot_below k (omega arith) c l) j one;
      plain = λ k i ne. absurd (ne (omega arith));
      apart = λ j k i one ne. absurd (ne (omega arith));
      ends = regions_end (length m) (omega arith);
    }
  where
    flies : (c : ℕ) → c < 2 → class_of (decoded (encoded (store c))) ≡ ask.Flies
    flies = below_two (λ c. class_of (decoded (encoded (store c))) ≡ ask.Flies) refl refl

    flags : (c : ℕ) → c < 2 → (decoded (encoded (store c))).flags % 2 ≡ 1
    flags = below_two (λ c. (decoded (encoded (store c))).flags % 2 ≡ 1) refl refl

replies_placed : (c : ℕ) (m : List ℕ) → Ready c m → Placed (window c Replies m) (private c)
unfolding window regions ring_row number spelled decoded encoded opcode_named
replies_placed c m h =
    let l = h.chain in
    let size = h.size in
    record {
      private_is = λ p. refl;
      numbered = omega arith;
      room = omega arith;
      first = λ copy e. absurd (cc);
      flying = below_one _ (flies c l);
      last = λ k e. let at : k ≡ 0 = omega arith in subst (λ (v : ℕ). (request_of (window c Replies m) v).flags % 2 ≡ 1) (sym at) (flags c l);
      gates = refl;
      slots_stand = λ k i. ap (λ (at : ℕ). bytes_at m at 64) (replies_slot c m k i) ∙ h.stand (k + 3) (omega arith) ∙ below_one (λ v. encoded (slot c (v + 3)) ≡ copy_of (window c Replies m) v) refl k i;
      slots_inside = λ k i. ap (λ (at : ℕ). all_inside (range at 64) (private c)) (replies_slot c m k i) ∙ slot_inside (k + 3) (omega arith) c l;
      slots_apart = λ k j i one. below_one (λ v. all_apart (range (slot_at (window c Replies m) k) 64) (writes_of (window c Replies m) (private c) v) ≡ true) (ap (all_apart (range (slot_at (window c Replies m) k) 64)) (reply_writes m c l)) j one;
      plain = λ k i ne. absurd (ne (omega arith));
      apart = λ j k i one ne. absurd (ne (omega arith));
      ends = regions_end (length m) (omega arith);
    }
  where
    flies : (c : ℕ) → c < 2 → class_of (decoded (encoded (reply c))) ≡ ask.Flies
    flies = below_two (λ c. class_of (decoded (encoded (reply c))) ≡ ask.Flies) refl refl

    flags : (c : ℕ) → c < 2 → (decoded (encoded (reply c))).flags % 2 ≡ 1
    flags = below_two (λ c. (decoded (encoded (reply c))).flags % 2 ≡ 1) refl refl

unfoldable pub is_ring : ℕ → ℕ → Bool
is_ring c q = q == 2 * c + 1

unfoldable pub next : Turn → List Change → Turn
next x event = Replies

-- the ring stands behind its first three slots, or at its first
abbrev stands : Turn → ℕ → ℕ
stands Stores n = 0
stands Replies n = n

unfoldable pub place_at : ℕ → Turn → ℕ → ℕ
place_at c x q = if q == 2 * c + 1 then stands x 3 else 0

unfoldable pub counted_at : ℕ → Turn → ℕ → ℕ
counted_at c x q = if q == 2 * c + 1 then stands x 1 else 0

abbrev pub plan : ℕ → Script
plan c =
    record { Point = Turn; window = window c; Ready = λ x m. Ready c m; ring = is_ring c; row = λ q. ring_row c; at = place_at c; counted = counted_at c; most = 2 ^ 62 }

private_apart : (d : ℕ) → d < 2 → all_apart (private d) (range 784 8) ≡ true
unfolding private
private_apart = below_two (λ d. all_apart (private d) (range 784 8) ≡ true) refl refl

value_inside : (d : ℕ) → d < 2 → all_inside (range (392 * d + 384) 8) (private d) ≡ true
unfolding private
value_inside = below_two (λ d. all_inside (range (392 * d + 384) 8) (private d) ≡ true) refl refl

store_signals : (d : ℕ) → d < 2 → 1 ≡ 0 + (0 + (decoded (encoded (store d))).flags % 2)
unfolding number spelled decoded encoded
store_signals = below_two (λ d. 1 ≡ 0 + (0 + (decoded (encoded (store d))).flags % 2)) refl refl

module _ (c : ℕ) (l : c < 2) where
  pub own : (2 * c + 1 == 2 * c + 1) ≡ true
  own = eq-eqb (2 * c + 1) (2 * c + 1) refl

  other : (q : ℕ) → q ≢ 2 * c + 1 → (q == 2 * c + 1) ≡ false
  other q ne = false_from_ne_true (q == 2 * c + 1) (λ t. ne (eqb-true q (2 * c + 1) t))

  -- a private byte isn't in the table
  pub not_table : (p : ℕ) → within (private c) p ≡ true → within (range 784 8) p ≡ false
  not_table p h = within_apart (private c) (range 784 8) p (private_apart c l) h

  in_private : (at len p : ℕ) → all_inside (range at len) (private c) ≡ true → at ≤ p → p < at + len → within (private c) p ≡ true
  in_private at len p inside low high = within_inside (range at len) (private c) p inside (one_within (record { at = at; len = len }) p (bounds_hold (record { at = at; len = len }) p low high))

  -- memories with the same private bytes are ready alike
  pub ready_same : (m n : List ℕ) → Ready c m → length n ≡ length m → ((p : ℕ) → within (private c) p ≡ true → byte n p ≡ byte m p) → Ready c n
  ready_same m n h size same =
      record {
        chain = l;
        size = size ∙ h.size;
        stand = λ k i. same_range n m (392 * c + 64 * k) 64 size (λ p low high. same p (in_private (392 * c + 64 * k) 64 p (slot_inside k i c l) low high)) ∙ h.stand k i;
        value = same_range n m (392 * c + 384) 8 size (λ p low high. same p (in_private (392 * c + 384) 8 p (value_inside c l) low high)) ∙ h.value;
      }

  pub orderly : (x : Turn) (m : List ℕ) → Ready c m → Orderly (window c x m)
  orderly Stores m h = placed_is_orderly (window c Stores m) (private c) (stores_placed c m h)
  orderly Replies m h = placed_is_orderly (window c Replies m) (private c) (replies_placed c m h)

  stores_end : (m : List ℕ) (h : Ready c m) (event : List Change) (t : List ℕ) → Standing (window c Stores m) t all_written event → Ready c t
  unfolding window
  stores_end m h event t last =
      ready_same m t h last.size (λ p own. byte_kept (window c Stores m) (orderly Stores m h) t event last p own (below_one (λ j. within (writes_of (window c Stores m) (private c) j) p ≡ false) (ap (λ (places : List Place). within places p) (store_writes m c l) ∙ not_table p own)))

  -- what the event finds: no other body writes
  pub event_ready : (x : Turn) (m n : List ℕ) → Ready c m → Agrees (window c x m) n → Ready c n
  unfolding window
  event_ready Stores m n h agrees = ready_same m n h agrees.size (λ p own. agrees.bytes p own (λ j one ne. absurd (ne (omega arith))))
  event_ready Replies m n h agrees = ready_same m n h agrees.size (λ p own. agrees.bytes p own (λ j one ne. absurd (ne (omega arith))))

  pub behind : (x : Turn) (m : List ℕ) (event : List Change) (t : List ℕ) → IsOver (plan c) x m event t → Behind (plan c) x (next x event) m t
  unfolding window place_at counted_at next
  behind Stores m event t o =
      let opens : enable_of (window c Stores m) ≡ enable c 4 = decoded-encoded (enable c 4) (narrow_enable c l) in
      record {
        ready = stores_end m o.ready event t o.standing;
        queue = λ by. sym (ap (λ (r : Request). r.first) opens);
        limit = λ by. ap (λ (r : Request). r.second) opens ∙ (rw own refl);
        regions = refl;
        own_at = rw own refl;
        own_counted = rw own (signal c l);
        others_at = λ q ne. let t = other q ne in rw t refl;
        others_counted = λ q ne. let t = other q ne in rw t refl;
      }
    where
      signal : (d : ℕ) → d < 2 → 1 ≡ 0 + (0 + (decoded (encoded (store d))).flags % 2)
      signal = store_signals
  behind Replies m event t o = absurd (o.goes_on refl)

  unfoldable pub script : IsScript (plan c)
  unfolding window place_at counted_at next is_ring ring_row
  script =
      record {
        orderly = orderly;
        memory = memory_at;
        ring_is = ring_at;
        row_is = row_at;
        from = from_at;
        counter = counter_at;
        target = target_at;
        managed = managed_at;
        behind = λ x m event t o. (next x event, behind x m event t o);
      }
    where
      memory_at : (x : Turn) (m : List ℕ) → (window c x m).memory ≡ m
      memory_at Stores m = refl
      memory_at Replies m = refl

      ring_at : (x : Turn) (m : List ℕ) → is_ring c (window c x m).queue ≡ true
      ring_at Stores m = own
      ring_at Replies m = own

      row_at : (x : Turn) (m : List ℕ) → (window c x m).row ≡ ring_row c
      row_at Stores m = refl
      row_at Replies m = refl

      from_at : (x : Turn) (m : List ℕ) → (window c x m).from ≡ place_at c x (window c x m).queue
      from_at Stores m = rw own refl
      from_at Replies m = rw own refl

      counter_at : (x : Turn) (m : List ℕ) → (window c x m).counter ≡ counted_at c x (window c x m).queue
      counter_at Stores m = rw own refl
      counter_at Replies m = rw own refl

      target_at : (x : Turn) (m : List ℕ) → Ready c m → (window c x m).ending ≡ By_gates → is_ring c (enable_of (window c x m)).first ≡ true
      target_at Stores m h by = ap (λ (r : Request). is_ring c r.first) (decoded-encoded (enable c 4) (narrow_enable c l)) ∙ own
      target_at Replies m h by = absurd (cc)

      managed_at : (x : Turn) (m : List ℕ) (q : ℕ) → is_ring c q ≡ true → row_may_raise (window c x m).row.domain (Some (ring_row c)) ≡ true
      managed_at Stores m q r = eq-eqb c c refl
      managed_at Replies m q r = eq-eqb c c refl

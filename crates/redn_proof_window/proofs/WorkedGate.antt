-- The first segment of the small ring behind a WAIT for the chain's message: all its regions lie one slot further.
use Rattle.std.proofs.Common.{◌≡◌, ◌≢◌, ℕ, zero, suc, ◌<◌, true, false, Some, List, [], ◌∷◌, ◌++◌, ◌%◌, refl, sym, subst, arith}
use Rattle.std.specs.FinMap as finite
use Rattle.redn_words.specs.declared.types.Region.{Region}
use Rattle.redn_words.specs.declared.types.QueueRow.{QueueRow}
use Rattle.redn_words.specs.declared.types.Class.TheVariants as ask
use Rattle.redn_words.specs.declared.types.Kind.TheVariants.{Vars, Code, Control}
use Rattle.redn_words.specs.Words.{number, spelled}
use Rattle.redn_words.specs.Requests.{decoded, encoded, opcode_named}
use Rattle.redn_words.specs.Access.{access, EndsBy}
use Rattle.redn_words.specs.Landings.{lands, Place}
use Rattle.redn_words.specs.States.{Queue, Delivered, Absent, State}
use Rattle.redn_words.specs.Steps.{class_of, may_start, counter_of}
use Rattle.redn_words.specs.Ranges.{within, all_apart}
use Rattle.redn_words.proofs.Copies.{get_empty}
use Rattle.redn_proof_window.specs.Windows.{By_gates, Opening, place_of, slots_of, gate_count, request_of, body_of, wait_of}
use Rattle.redn_proof_window.specs.Stages.{HasCounter, Orderly, Gated, Stage}
use Rattle.redn_proof_window.proofs.Below.{below_three, below_six}
use Rattle.redn_proof_window.proofs.Ends.{opens}
use Rattle.redn_proof_window.proofs.Placed.{Placed, PlacedPlain, placed_is_orderly, slot_of, writes_of, reads_of}
use Rattle.redn_proof_window.proofs.WorkedWindow.{slot, bodies, gates, memory as ring_memory, window}

-- a WAIT until the counter of the chain's message is 1
message : List ℕ
message = slot 6 0 0 0 0 0 65536 1 0

memory : List ℕ
memory = message ++ ring_memory

regions : List Region
regions =
    record { key = 1; domain = 0; kind = Vars; rights = 13; base = 696; len = 8 }
    ∷ record { key = 2; domain = 0; kind = Code; rights = 12; base = 64; len = 576 }
    ∷ record { key = 3; domain = 0; kind = Control; rights = 13; base = 640; len = 56 }
    ∷ []

ring : QueueRow
ring = record { domain = 0; managed = true; base = 0; slots = 10; limit = 0 }

private : List Place
private = record { at = 0; len = 704 } ∷ []

waiting : Opening
waiting =
    record {
      regions = regions;
      queue = 0;
      row = ring;
      from = 0;
      first_gate = Some message;
      bodies = bodies;
      gates = gates;
      ending = By_gates;
      counter = 0;
      memory = memory;
      event = 0;
      ours = λ p. within private p;
    }

some_same : (a b : List ℕ) → Some a ≡ Some b → a ≡ b
some_same a b e = cc

-- the bodies stand at places 1 to 3, and the WAIT behind them at place 4
places : (place_of waiting 0 ≡ 1) × ((place_of waiting 3 ≡ 4) × (slots_of waiting ≡ 6))
unfolding bodies gates waiting
places = (refl, (refl, refl))

same_bodies : (k : ℕ) → k < 3 → body_of waiting k ≡ body_of window k
unfolding slot bodies gates window waiting number spelled decoded encoded
same_bodies = below_three (λ k. body_of waiting k ≡ body_of window k) refl refl refl

same_wait : wait_of waiting ≡ wait_of window
unfolding slot bodies gates window waiting number spelled decoded encoded
same_wait = refl

three_gates : gate_count waiting ≡ 3
unfolding gates waiting
three_gates = refl

gated : Gated waiting
unfolding slot bodies gates message memory regions ring private waiting number spelled decoded encoded opcode_named
gated = record { two = refl; waits = refl; own = refl; count = refl; enables = refl }

regions_end : EndsBy 704 regions
unfolding regions
regions_end zero d l = omega arith
regions_end (suc zero) d l = omega arith
regions_end (suc (suc zero)) d l = omega arith
regions_end (suc (suc (suc k))) d l = absurd (omega arith)

placed : Placed waiting private
unfolding slot bodies gates ring_memory message memory regions ring private waiting number spelled decoded encoded opcode_named access lands
placed =
    record {
      private_is = λ p. refl;
      numbered = omega arith;
      room = omega arith;
      first = λ copy e. subst (λ (o : List ℕ). class_of (decoded o) ≡ ask.Passes) (some_same message copy e) refl;
      flying = below_three _ refl refl refl;
      last = λ k e. let at : k ≡ 2 = omega arith in subst (λ (n : ℕ). (body_of waiting n).flags % 2 ≡ 1) (sym at) refl;
      gates = gated;
      slots_stand = below_six _ refl refl refl refl refl refl;
      slots_inside = below_six _ refl refl refl refl refl refl;
      slots_apart = λ k j l m. below_six (λ n. apart_from n j) (alone 0 refl refl refl j m) (alone 1 refl refl refl j m) (alone 2 refl refl refl j m) (alone 3 refl refl refl j m) (alone 4 refl refl refl j m)
          (alone 5 refl refl refl j m) k l;
      plain = below_three (λ k. k ≢ 0 → PlacedPlain waiting private k) (λ ne. absurd (ne refl)) (λ ne.
          record {
            allowed = refl;
            silent = refl;
            writes_inside = refl;
            reads_inside = refl;
            reads_apart = below_three (reads_free 1) (λ apart. refl) (λ apart. absurd (apart refl)) (λ apart. refl);
          }) (λ ne.
          record {
            allowed = refl;
            silent = refl;
            writes_inside = refl;
            reads_inside = refl;
            reads_apart = below_three (reads_free 2) (λ apart. refl) (λ apart. refl) (λ apart. absurd (apart refl));
          });
      apart = λ j k l m ne. below_three (λ n. n ≢ k → writes_apart n k) (below_three (other 0) (λ e. absurd (e refl)) (λ e. refl) (λ e. refl) k m) (below_three (other 1) (λ e. refl) (λ e. absurd (e refl)) (λ e. refl) k m)
          (below_three (other 2) (λ e. refl) (λ e. refl) (λ e. absurd (e refl)) k m) j l ne;
      ends = regions_end;
    }
  where
    apart_from : ℕ → ℕ → Type 0
    apart_from k j = all_apart (slot_of waiting private k) (writes_of waiting private j) ≡ true

    alone : (k : ℕ) → apart_from k 0 → apart_from k 1 → apart_from k 2 → (j : ℕ) → j < 3 → apart_from k j
    alone k a b c j m = below_three (apart_from k) a b c j m

    reads_free : ℕ → ℕ → Type 0
    reads_free k j = j ≢ k → all_apart (reads_of waiting private k) (writes_of waiting private j) ≡ true

    writes_apart : ℕ → ℕ → Type 0
    writes_apart n k = all_apart (writes_of waiting private n) (writes_of waiting private k) ≡ true

    other : ℕ → ℕ → Type 0
    other n k = n ≢ k → writes_apart n k

-- so the window lemma speaks of it
orderly : Orderly waiting
orderly = placed_is_orderly waiting private placed

queue : Queue
queue = record { row = ring; head = 0; limit = 6; held = finite.empty; flights = []; counter = 0; stopped = false }

-- before and after the message has come
before : State
before = record { regions = regions; receives = []; memory = memory; queues = queue ∷ []; chains = record { mail = Absent; received = 0 } ∷ [] }

behind : State
behind = record before { chains = record { mail = Delivered; received = 1 } ∷ [] }

first_stage : Stage waiting before (record { queue = queue; done = 0; marks = [] }) []
unfolding slot bodies gates ring_memory message memory regions ring private waiting queue before number spelled decoded encoded counter_of
first_stage =
    opens waiting before queue record {
      there = refl;
      row = refl;
      runs = refl;
      head = refl;
      limit = refl;
      held = λ i. get_empty i;
      flights = refl;
      counter = refl;
      regions = refl;
      memory = refl;
      waits = λ copy e. subst (λ (o : List ℕ). HasCounter before 0 (decoded o).first) (some_same message copy e) (0, refl);
      target = λ by. refl;
    }

-- its first gate doesn't start before the message has come, and starts then
held_back : may_start before queue (request_of waiting 0) ask.Passes ≡ false
unfolding slot bodies gates message ring waiting queue before number spelled decoded encoded may_start counter_of
held_back = refl

goes_on : may_start behind queue (request_of waiting 0) ask.Passes ≡ true
unfolding slot bodies gates message ring waiting queue before behind number spelled decoded encoded may_start counter_of
goes_on = refl

-- The first segment of a small ring, by hand: it sets a variable, raises the count of a later WAIT and the limit of its own ring, and opens the segment behind it.
use Rattle.std.proofs.Common.{◌≡◌, ◌≢◌, ℕ, zero, suc, true, false, None, List, [], ◌∷◌, ◌++◌, ◌%◌, replicate, refl, sym, subst, arith}
use Rattle.std.specs.FinMap as finite
use Rattle.redn_words.specs.declared.types.Region.{Region}
use Rattle.redn_words.specs.declared.types.QueueRow.{QueueRow}
use Rattle.redn_words.specs.declared.types.Kind.TheVariants.{Vars, Code, Control}
use Rattle.redn_words.specs.declared.types.Obs.TheVariants as shows
use Rattle.redn_words.specs.Words.{number, spelled}
use Rattle.redn_words.specs.Requests.{decoded, encoded, opcode_named}
use Rattle.redn_words.specs.Access.{access, EndsBy}
use Rattle.redn_words.specs.Landings.{lands, Place}
use Rattle.redn_words.specs.States.{Queue, State}
use Rattle.redn_words.specs.Ranges.{within, all_apart}
use Rattle.redn_words.proofs.Copies.{get_empty}
use Rattle.redn_proof_window.proofs.Below.{below_three, below_five}
use Rattle.redn_proof_window.specs.Windows.{By_gates, Opening, request_of, landing_on}
use Rattle.redn_proof_window.specs.Stages.{Orderly, Gated, Stage}
use Rattle.redn_proof_window.proofs.Placed.{Placed, PlacedPlain, placed_is_orderly, slot_of, writes_of, reads_of}
use Rattle.redn_proof_window.proofs.Ends.{opens}

unfoldable pub slot : ℕ → ℕ → ℕ → ℕ → ℕ → ℕ → ℕ → ℕ → ℕ → List ℕ
slot op lkey rkey local remote len first second flags =
    encoded (record { op = op; id = 0; lkey = lkey; rkey = rkey; local = local; remote = remote; length = len; first = first; second = second; flags = flags })

unfoldable pub bodies : List (List ℕ)
bodies = slot 1 3 1 48 0 8 0 0 0 ∷ slot 4 3 2 16 496 0 2 0 0 ∷ slot 4 3 3 24 40 0 9 0 1 ∷ []

unfoldable pub gates : List (List ℕ)
gates = slot 6 0 0 0 0 0 0 1 0 ∷ slot 7 0 0 0 0 0 0 9 0 ∷ []

-- nine slots, four scratch words, a descriptor, the constant 7 and a variable
unfoldable pub memory : List ℕ
memory =
    slot 1 3 1 48 0 8 0 0 0 ++ slot 4 3 2 16 496 0 2 0 0 ++ slot 4 3 3 24 40 0 9 0 1 ++ slot 6 0 0 0 0 0 0 1 0 ++ slot 7 0 0 0 0 0 0 9 0
    ++ slot 4 3 2 16 240 0 2 0 0 ++ slot 4 3 2 24 304 0 9 0 1 ++ slot 6 0 0 0 0 0 0 2 0 ++ slot 7 0 0 0 0 0 0 14 0
    ++ replicate 32 0 ++ spelled 8 0 ++ spelled 8 5 ++ spelled 8 7 ++ spelled 8 0

unfoldable pub regions : List Region
regions =
    record { key = 1; domain = 0; kind = Vars; rights = 13; base = 632; len = 8 }
    ∷ record { key = 2; domain = 0; kind = Code; rights = 12; base = 0; len = 576 }
    ∷ record { key = 3; domain = 0; kind = Control; rights = 13; base = 576; len = 56 }
    ∷ []

unfoldable pub ring : QueueRow
ring = record { domain = 0; managed = true; base = 0; slots = 9; limit = 0 }

-- all of memory is the chain's
unfoldable pub private : List Place
private = record { at = 0; len = 640 } ∷ []

unfoldable pub window : Opening
window =
    record { regions = regions; queue = 0; row = ring; from = 0; first_gate = None; bodies = bodies; gates = gates; ending = By_gates; counter = 0; memory = memory; event = 0; ours = λ p. within private p }

gated : Gated window
unfolding slot bodies gates memory regions ring private window number spelled decoded encoded opcode_named
gated = record { two = refl; waits = refl; own = refl; count = refl; enables = refl }

pub regions_end : EndsBy 640 regions
unfolding regions
regions_end zero d l = omega arith
regions_end (suc zero) d l = omega arith
regions_end (suc (suc zero)) d l = omega arith
regions_end (suc (suc (suc k))) d l = absurd (omega arith)

placed : Placed window private
unfolding slot bodies gates memory regions ring private window number spelled decoded encoded opcode_named access lands
placed =
    record {
      private_is = λ p. refl;
      numbered = omega arith;
      room = omega arith;
      first = λ copy e. absurd (cc);
      flying = below_three _ refl refl refl;
      last = λ k e. let at : k ≡ 2 = omega arith in subst (λ (n : ℕ). (request_of window n).flags % 2 ≡ 1) (sym at) refl;
      gates = gated;
      slots_stand = below_five _ refl refl refl refl refl;
      slots_inside = below_five _ refl refl refl refl refl;
      slots_apart = λ k j l m. below_five (λ n. all_apart (slot_of window private n) (writes_of window private j) ≡ true) (below_three (λ i. all_apart (slot_of window private 0) (writes_of window private i) ≡ true) refl refl refl j m)
          (below_three (λ i. all_apart (slot_of window private 1) (writes_of window private i) ≡ true) refl refl refl j m) (below_three (λ i. all_apart (slot_of window private 2) (writes_of window private i) ≡ true) refl refl refl j m)
          (below_three (λ i. all_apart (slot_of window private 3) (writes_of window private i) ≡ true) refl refl refl j m) (below_three (λ i. all_apart (slot_of window private 4) (writes_of window private i) ≡ true) refl refl refl j m) k l;
      plain = below_three (λ k. k ≢ 0 → PlacedPlain window private k) (λ ne. absurd (ne refl)) (λ ne.
          record {
            allowed = refl;
            silent = refl;
            writes_inside = refl;
            reads_inside = refl;
            reads_apart = below_three (λ j. j ≢ 1 → all_apart (reads_of window private 1) (writes_of window private j) ≡ true) (λ apart. refl) (λ apart. absurd (apart refl)) (λ apart. refl);
          }) (λ ne.
          record {
            allowed = refl;
            silent = refl;
            writes_inside = refl;
            reads_inside = refl;
            reads_apart = below_three (λ j. j ≢ 2 → all_apart (reads_of window private 2) (writes_of window private j) ≡ true) (λ apart. refl) (λ apart. refl) (λ apart. absurd (apart refl));
          });
      apart = λ j k l m ne. below_three (λ n. n ≢ k → all_apart (writes_of window private n) (writes_of window private k) ≡ true)
          (below_three (λ i. 0 ≢ i → all_apart (writes_of window private 0) (writes_of window private i) ≡ true) (λ e. absurd (e refl)) (λ e. refl) (λ e. refl) k m)
          (below_three (λ i. 1 ≢ i → all_apart (writes_of window private 1) (writes_of window private i) ≡ true) (λ e. refl) (λ e. absurd (e refl)) (λ e. refl) k m)
          (below_three (λ i. 2 ≢ i → all_apart (writes_of window private 2) (writes_of window private i) ≡ true) (λ e. refl) (λ e. refl) (λ e. absurd (e refl)) k m) j l ne;
      ends = regions_end;
    }

-- so the window lemma speaks of it
orderly : Orderly window
orderly = placed_is_orderly window private placed

queue : Queue
queue = record { row = ring; head = 0; limit = 5; held = finite.empty; flights = []; counter = 0; stopped = false }

state : State
state = record { regions = regions; receives = []; memory = memory; queues = queue ∷ []; chains = [] }

first_stage : Stage window state (record { queue = queue; done = 0; marks = [] }) []
unfolding slot bodies gates memory regions ring private window queue state number spelled decoded encoded
first_stage =
    opens window state queue record {
      there = refl;
      row = refl;
      runs = refl;
      head = refl;
      limit = refl;
      held = λ i. get_empty i;
      flights = refl;
      counter = refl;
      regions = refl;
      memory = refl;
      waits = λ copy e. absurd (cc);
      target = λ two. refl;
    }

-- the event's body shows what it should, and the others nothing
the_event_sets : (landing_on window memory 0).shown ≡ shows.Set 0 0 7
unfolding slot bodies gates memory regions ring private window number spelled decoded encoded opcode_named access lands
the_event_sets = refl

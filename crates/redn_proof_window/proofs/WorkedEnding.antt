-- The bodies of the small ring's first segment, where another queue opens what is behind them: a window of nothing, with which the chain ends.
use Rattle.std.proofs.Common.{◌≡◌, ◌≢◌, ℕ, ◌<◌, true, false, ◌==◌, List, [], ◌%◌, length, refl, sym, ap, subst, ◌∙◌, arith}
use Rattle.std.specs.Prelude.{if◌then◌else◌}
use Rattle.std.proofs.lemmas.Bool.{ne_eqb}
use Rattle.redn_words.specs.Words.{number, spelled}
use Rattle.redn_words.specs.Requests.{decoded, encoded, opcode_named}
use Rattle.redn_words.specs.Access.{access, EndsBy}
use Rattle.redn_words.specs.Landings.{Change, lands}
use Rattle.redn_words.specs.Ranges.{all_apart}
use Rattle.redn_proof_window.specs.Windows.{Last, Followed, Opening, slots_of, signals, request_of}
use Rattle.redn_proof_window.specs.Stages.{Orderly}
use Rattle.redn_proof_window.specs.Scripts.{Script, IsOver, Behind, IsScript}
use Rattle.redn_proof_window.proofs.Below.{below_three}
use Rattle.redn_proof_window.proofs.Placed.{Placed, PlacedPlain, placed_is_orderly, slot_of, writes_of, reads_of}
use Rattle.redn_proof_window.proofs.WorkedWindow.{slot, bodies, gates, memory, regions, ring, private, window, regions_end}

followed : Opening
followed = record window { gates = []; ending = Followed }

-- it has three slots, and the other queue waits until its counter has come to 1
three : slots_of followed ≡ 3
unfolding window bodies followed
three = refl

one_signal : signals followed 3 ≡ 1
unfolding slot bodies window followed number spelled decoded encoded
one_signal = refl

placed : Placed followed private
unfolding slot bodies gates memory regions ring private window followed number spelled decoded encoded opcode_named access lands
placed =
    record {
      private_is = λ p. refl;
      numbered = omega arith;
      room = omega arith;
      first = λ copy e. absurd (cc);
      flying = below_three _ refl refl refl;
      last = λ k e. let at : k ≡ 2 = omega arith in subst (λ (n : ℕ). (request_of followed n).flags % 2 ≡ 1) (sym at) refl;
      gates = refl;
      slots_stand = below_three _ refl refl refl;
      slots_inside = below_three _ refl refl refl;
      slots_apart = λ k j l m. below_three (λ n. apart_from n j) (alone 0 refl refl refl j m) (alone 1 refl refl refl j m) (alone 2 refl refl refl j m) k l;
      plain = below_three (λ k. k ≢ 0 → PlacedPlain followed private k) (λ ne. absurd (ne refl)) (λ ne.
          record {
            allowed = refl;
            silent = refl;
            writes_inside = refl;
            reads_inside = refl;
            reads_apart = below_three (λ j. j ≢ 1 → all_apart (reads_of followed private 1) (writes_of followed private j) ≡ true) (λ apart. refl) (λ apart. absurd (apart refl)) (λ apart. refl);
          }) (λ ne.
          record {
            allowed = refl;
            silent = refl;
            writes_inside = refl;
            reads_inside = refl;
            reads_apart = below_three (λ j. j ≢ 2 → all_apart (reads_of followed private 2) (writes_of followed private j) ≡ true) (λ apart. refl) (λ apart. refl) (λ apart. absurd (apart refl));
          });
      apart = λ j k l m ne. below_three (λ n. n ≢ k → all_apart (writes_of followed private n) (writes_of followed private k) ≡ true)
          (below_three (λ i. 0 ≢ i → all_apart (writes_of followed private 0) (writes_of followed private i) ≡ true) (λ e. absurd (e refl)) (λ e. refl) (λ e. refl) k m)
          (below_three (λ i. 1 ≢ i → all_apart (writes_of followed private 1) (writes_of followed private i) ≡ true) (λ e. refl) (λ e. absurd (e refl)) (λ e. refl) k m)
          (below_three (λ i. 2 ≢ i → all_apart (writes_of followed private 2) (writes_of followed private i) ≡ true) (λ e. refl) (λ e. refl) (λ e. absurd (e refl)) k m) j l ne;
      ends = regions_end;
    }
  where
    apart_from : ℕ → ℕ → Type 0
    apart_from k j = all_apart (slot_of followed private k) (writes_of followed private j) ≡ true

    alone : (k : ℕ) → apart_from k 0 → apart_from k 1 → apart_from k 2 → (j : ℕ) → j < 3 → apart_from k j
    alone k a b c j m = below_three (apart_from k) a b c j m

-- so the window lemma speaks of it
orderly : Orderly followed
orderly = placed_is_orderly followed private placed

-- the chain's windows: the bodies, on the memory of the ring, and what is behind them, on any memory of its length
data Turn : Type 0 where
  Bodies : Turn
  Nothing : Turn

windows : Turn → List ℕ → Opening
windows Bodies m = record followed { memory = m }
windows Nothing m = record followed { from = 3; bodies = []; ending = Last; counter = 1; memory = m }

ready : Turn → List ℕ → Type 0
ready Bodies m = memory ≡ m
ready Nothing m = length m ≡ 640

place_at : Turn → ℕ → ℕ
place_at Bodies q = 0
place_at Nothing q = if q == 0 then 3 else 0

counted_at : Turn → ℕ → ℕ
counted_at Bodies q = 0
counted_at Nothing q = if q == 0 then 1 else 0

abbrev two_windows : Script
two_windows =
    record { Point = Turn; window = windows; Ready = ready; ring = λ q. q == 0; row = λ q. ring; at = place_at; counted = counted_at; most = 100 }

memory_size : length memory ≡ 640
unfolding slot memory spelled encoded
memory_size = refl

windows_orderly : (x : Turn) (m : List ℕ) → ready x m → Orderly (windows x m)
unfolding windows ready followed window regions
windows_orderly Bodies m r = subst (λ (n : List ℕ). Orderly (record followed { memory = n })) r orderly
windows_orderly Nothing m r =
    record {
      numbered = omega arith;
      room = omega arith;
      first = λ copy e. absurd (cc);
      flying = λ k l. absurd (omega arith);
      last = λ k e. absurd (omega arith);
      gates = refl;
      slots_stand = λ k l. absurd (omega arith);
      slots_ours = λ k p l low high. absurd (omega arith);
      slots_spared = λ k j p l m low high. absurd (omega arith);
      plain = λ k l ne. absurd (omega arith);
      apart = λ j k p l m ne h. absurd (omega arith);
      ends = subst (λ (n : ℕ). EndsBy n regions) (sym r) regions_end;
    }

-- behind the bodies is nothing
behind_bodies : (m : List ℕ) (event : List Change) (n : List ℕ) → IsOver two_windows Bodies m event n → Behind two_windows Bodies Nothing m n
unfolding slot bodies windows ready place_at counted_at followed window number spelled decoded encoded
behind_bodies m event n over =
    record {
      ready = over.standing.size ∙ ap length (sym over.ready) ∙ memory_size;
      queue = λ by. absurd (cc);
      limit = λ by. absurd (cc);
      regions = refl;
      own_at = refl;
      own_counted = refl;
      others_at = λ q ne. let t : (q == 0) ≡ false = ne_eqb q 0 ne in rw t refl;
      others_counted = λ q ne. let t : (q == 0) ≡ false = ne_eqb q 0 ne in rw t refl;
    }

script : IsScript two_windows
unfolding windows ready place_at counted_at followed window ring
script =
    record {
      orderly = windows_orderly;
      memory = by_turn _ (λ m. refl) (λ m. refl);
      ring_is = by_turn _ (λ m. refl) (λ m. refl);
      row_is = by_turn _ (λ m. refl) (λ m. refl);
      from = by_turn _ (λ m. refl) (λ m. refl);
      counter = by_turn _ (λ m. refl) (λ m. refl);
      target = by_turn _ (λ m r by. absurd (cc)) (λ m r by. absurd (cc));
      managed = by_turn _ (λ m q r. refl) (λ m q r. refl);
      behind = by_turn _ (λ m event n over. (Nothing, behind_bodies m event n over)) (λ m event n over. absurd (over.goes_on refl));
    }
  where
    by_turn : (P : Turn → List ℕ → Type 0) → ((m : List ℕ) → P Bodies m) → ((m : List ℕ) → P Nothing m) → (x : Turn) (m : List ℕ) → P x m
    by_turn P a b Bodies m = a m
    by_turn P a b Nothing m = b m

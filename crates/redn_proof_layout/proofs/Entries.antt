-- The entry of each chain: a WAIT for its message and an ENABLE, in slots that nothing writes.
use Rattle.std.proofs.Common.{◌≡◌, ℕ, zero, suc, ◌+◌, ◌-◌, ◌*◌, ◌%◌, ◌^◌, ◌<◌, ◌≤◌, ◌⊎◌, inl, inr, true, false, List, [], ◌++◌, length, refl, sym, ap, ◌∙◌, arith, append-nil, None}
use Rattle.std.specs.Prelude.{nat_le, nat_lt}
use Rattle.std.proofs.lemmas.Bool.{and_parts, ltb-true, false_from_ne_true as none_if}
use Rattle.redn_words.specs.declared.types.Class.TheVariants as ask
use Rattle.redn_words.specs.declared.limits.TheConstants.{RECEIVE_BASE}
use Rattle.redn_words.specs.Words.{bytes_at}
use Rattle.redn_words.specs.Requests.{opcode_named}
use Rattle.redn_words.specs.States.{slot_of}
use Rattle.redn_words.specs.Steps.{class_of}
use Rattle.redn_words.proofs.Slots.{length-encoded, decoded-encoded, bytes_at_append}
use Rattle.redn_words.specs.Slots.{IsNarrow}
use Rattle.redn_kernel.specs.declared.types.ChainInit.{ChainInit}
use Rattle.redn_kernel.specs.declared.types.Program.{Program}
use Rattle.redn_graph.specs.declared.types.Graph.{Graph}
use Rattle.redn_proof_landing.proofs.Sided.{bytes_at-within}
use Rattle.redn_proof_window.specs.Gateways.{Gateway, OrderlyGates, gate_copy, gate_of}
use Rattle.redn_proof_ring.specs.Plans.{IsLaid, is_ring}
use Rattle.redn_proof_ring.proofs.LapWindows.{first_inside}
use Rattle.redn_emit.specs.Layout.{ChainPlan, operands, gate, limit_of_ring, entry_bytes, entry_row}
use Rattle.redn_emit.specs.Placed.{entries_base}
use Rattle.redn_proof_interleave.specs.GraphMachines.{mail_in}
use Rattle.redn_proof_layout.specs.Layouts.{is_own}
use Rattle.redn_proof_layout.specs.PlacedLaws.{AreSound}
use Rattle.redn_proof_layout.specs.Beginning.{plan_for}
use Rattle.redn_proof_layout.specs.Rows.{IsEntered}
use Rattle.redn_proof_layout.proofs.Lengths.{count}
use Rattle.redn_proof_layout.proofs.Queues.{stand, entered}
use Rattle.redn_proof_layout.proofs.Whole.{placed}
use Rattle.redn_proof_layout.specs.Chains.{entry_of}
use Rattle.redn_proof_layout.proofs.Its.{Its}
use Rattle.redn_proof_layout.proofs.Rings.{is_formed}

-- small operands are read back
narrow : (number first second : ℕ) → number < 8 → first < 256 ^ 8 → second < 256 ^ 8 → IsNarrow (operands number first second)
narrow number first second a b c =
    record { op = omega (arith, a); id = omega arith; lkey = omega arith; rkey = omega arith; local = omega arith; remote = omega arith; len = omega arith; first = b; second = c; flags = omega arith }

wait_passes : (first second : ℕ) → class_of (operands 6 first second) ≡ ask.Passes
unfolding opcode_named
wait_passes first second = refl

enable_raises : (first second : ℕ) → class_of (operands 7 first second) ≡ ask.Raises
unfolding opcode_named
enable_raises first second = refl

-- the two slots
first_half : (a b : List ℕ) → length a ≡ 64 → bytes_at (a ++ b) 0 64 ≡ a
first_half a b e = bytes_at_append [] a b 0 64 refl e

second_half : (a b : List ℕ) → length a ≡ 64 → length b ≡ 64 → bytes_at (a ++ b) 64 64 ≡ b
second_half a b e f = ap (λ (l : List ℕ). bytes_at (a ++ l) 64 64) (sym (append-nil b)) ∙ bytes_at_append a b [] 64 64 e f

module _ (p : Program) (graphs : List Graph) (c : ChainPlan) where
  abbrev entry : Gateway
  entry = entry_of p graphs c

  abbrev at : ℕ
  at = entries_base p graphs + 128 * c.number

  pub entry_slots : (m : List ℕ) → bytes_at m at 128 ≡ entry_bytes c → (k : ℕ) → k < 2 → slot_of m (entry_row (entries_base p graphs) c) k ≡ gate_copy entry k
  entry_slots m e zero l =
      sym (bytes_at-within m at 128 0 64 (omega arith)) ∙ ap (λ (b : List ℕ). bytes_at b 0 64) e ∙ first_half (gate 6 (RECEIVE_BASE + c.number) 1) (gate 7 (c.first + c.entry) (limit_of_ring c (c.first + c.entry))) (length-encoded _)
  entry_slots m e (suc zero) l =
      sym (bytes_at-within m at 128 64 64 (omega arith)) ∙ ap (λ (b : List ℕ). bytes_at b 64 64) e ∙ second_half (gate 6 (RECEIVE_BASE + c.number) 1) (gate 7 (c.first + c.entry) (limit_of_ring c (c.first + c.entry))) (length-encoded _) (length-encoded _)
  entry_slots m e (suc (suc k)) l = absurd (omega (arith, l))

  module _ (are : AreSound p graphs) (i : ℕ) (init : ChainInit) (g : Graph) (its : Its p graphs i c init g) where
    abbrev its_entry : IsEntered p graphs c
    its_entry = entered p graphs are i c its.there

    laid : IsLaid (plan_for p graphs c)
    laid = (is_formed p graphs are i c init g its (mail_in init None)).laid

    pub waits_for : gate_of entry 0 ≡ operands 6 (RECEIVE_BASE + c.number) 1
    waits_for =
        let few = are.sound.few_chains in
        let number = (placed p graphs are i c its.there).number in
        decoded-encoded (operands 6 (RECEIVE_BASE + c.number) 1) (narrow 6 (RECEIVE_BASE + c.number) 1 (omega arith) (omega (arith, few, number)) (omega arith))

    pub opens_it : gate_of entry 1 ≡ operands 7 (c.first + c.entry) (limit_of_ring c (c.first + c.entry))
    opens_it =
        let ring = its_entry.ring in
        let below = ltb-true (c.first + c.entry) (c.first + length c.rings) (and_parts (nat_le c.first (c.first + c.entry)) (nat_lt (c.first + c.entry) (c.first + length c.rings)) ring).1 in
        let numbered = laid.numbered in
        let made = laid.rings (c.first + c.entry) ring in
        let some = made.some in
        let inside = first_inside (c.first + c.entry) ((plan_for p graphs c).ring (c.first + c.entry)) made (((plan_for p graphs c).ring (c.first + c.entry)).segments - 1) 1 (omega (arith, some)) in
        let bound = (laid.bound (c.first + c.entry) ring).0 in
        let limit = its_entry.limit in
        decoded-encoded (operands 7 (c.first + c.entry) (limit_of_ring c (c.first + c.entry))) (narrow 7 (c.first + c.entry) (limit_of_ring c (c.first + c.entry)) (omega arith) (omega (arith, below, numbered)) (omega (arith, inside, bound, limit)))

    pub orderly : OrderlyGates entry
    orderly = record { room = omega arith; each = each }
      where
        each : (k : ℕ) → k < 2 → (class_of (gate_of entry k) ≡ ask.Passes) ⊎ (class_of (gate_of entry k) ≡ ask.Raises)
        each zero l = inl (ap class_of waits_for ∙ wait_passes (RECEIVE_BASE + c.number) 1)
        each (suc zero) l = inr (ap class_of opens_it ∙ enable_raises (c.first + c.entry) (limit_of_ring c (c.first + c.entry)))
        each (suc (suc k)) l = absurd (omega (arith, l))

    pub waits : class_of (gate_of entry 0) ≡ ask.Passes
    waits = ap class_of waits_for ∙ wait_passes (RECEIVE_BASE + c.number) 1

    pub enables : class_of (gate_of entry 1) ≡ ask.Raises
    enables = ap class_of opens_it ∙ enable_raises (c.first + c.entry) (limit_of_ring c (c.first + c.entry))

    -- the queue of an entry is no ring
    pub no_ring : is_ring (plan_for p graphs c) c.number ≡ false
    no_ring =
        none_if (is_ring (plan_for p graphs c) c.number) (λ ring.
        let low = (stand p graphs are).no_entry i c c.number its.there ring in
        let many = count p graphs are in
        let number = (placed p graphs are i c its.there).number in
        omega (arith, low, many, number))

    pub entry_own : (k q : ℕ) → k < 2 → at + 64 * (k % 2) ≤ q → q < at + 64 * (k % 2) + 64 → is_own (entries_base p graphs) c q ≡ true
    entry_own k q l low high = its_entry.slots q (omega (arith, low)) (omega (arith, high, l))

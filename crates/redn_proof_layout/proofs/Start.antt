-- The first state of a placed image with its messages, and what memory holds there for each chain.
use Rattle.std.proofs.Common.{◌≡◌, ◌≢◌, ℕ, suc, ◌+◌, ◌-◌, ◌*◌, ◌≤◌, ◌⊎◌, inl, inr, true, false, List, length, map, Some, refl, ap, ◌∙◌, arith}
use Rattle.std.specs.Prelude.{slice_get}
use Rattle.std.proofs.lemmas.Bool.{cases_lt}
use Rattle.std.proofs.lemmas.Option.{slice_get-map}
use Rattle.redn_words.specs.Words.{bytes_at}
use Rattle.redn_words.specs.States.{State, Chain, start, fresh_queue, fresh_chain}
use Rattle.redn_words.proofs.Bytes.{same_range}
use Rattle.redn_words.specs.Bytes.{byte}
use Rattle.redn_kernel.specs.declared.types.ChainInit.{ChainInit}
use Rattle.redn_kernel.specs.declared.types.Program.{Program}
use Rattle.redn_graph.specs.declared.types.Graph.{Graph}
use Rattle.redn_segment.specs.declared.types.Space.{Space}
use Rattle.redn_segment.specs.Homes.{base_of, room_of}
use Rattle.redn_proof_landing.specs.Homes.{seen_in}
use Rattle.redn_proof_landing.specs.Segments.{is_table_space}
use Rattle.redn_image.specs.Rules.{Image}
use Rattle.redn_image.specs.Faithful.{IsMessageOf, AreMessages, start_of}
use Rattle.redn_emit.specs.Layout.{ChainPlan, has_space, home, message_base, receive}
use Rattle.redn_emit.specs.Placed.{entries_base, plans, tables_base, tables, regions, queues, memory, IsPlaced}
use Rattle.redn_proof_layout.specs.Layouts.{is_own}
use Rattle.redn_proof_layout.specs.PlacedLaws.{AreSound}
use Rattle.redn_proof_layout.specs.Beginning.{at_first}
use Rattle.redn_proof_layout.proofs.Places.{rises_at}
use Rattle.redn_proof_layout.proofs.Spaces.{zone, zone_small, low, begins, they_rise, lies}
use Rattle.redn_proof_layout.proofs.Homes.{own_byte}
use Rattle.redn_proof_layout.proofs.Lengths.{size_is}
use Rattle.redn_proof_layout.proofs.Whole.{placed, stands, above}
use Rattle.redn_proof_interleave.specs.Forms.{message_in, with_message}
use Rattle.redn_proof_interleave.specs.Compiled.{Messages}
use Rattle.redn_proof_interleave.specs.RingSides.{message_at}
use Rattle.redn_proof_layout.proofs.Its.{Its}
use Rattle.redn_proof_layout.proofs.Mail.{message_of, mail_size, range_stays}
use Rattle.redn_proof_interleave.proofs.GraphHeadline.{message_first}

-- the parts of the first state
pub record Starts (p : Program) (graphs : List Graph) (messages : Messages) (s : State) : Type 0 where
  pub regions_are : s.regions ≡ regions p graphs
  pub receives_are : s.receives ≡ map receive (plans p graphs)
  pub memory_is : s.memory ≡ memory p graphs
  pub queues_are : s.queues ≡ map fresh_queue (queues p graphs)
  pub chains_are : s.chains ≡ map fresh_chain messages

pub starts : (p : Program) (graphs : List Graph) (image : Image) (messages : Messages) → IsPlaced p graphs image → Starts p graphs messages (start_of image messages)
unfolding start
starts p graphs image messages h =
    record { regions_are = h.regions_are; receives_are = h.receives_are; memory_is = h.memory_is; queues_are = ap (map fresh_queue) h.queues_are; chains_are = refl }

pub message_is : (p : Program) (graphs : List Graph) (messages : Messages) (s : State) → Starts p graphs messages s → (i : ℕ) → message_in (slice_get s.chains i) ≡ message_at messages i
message_is p graphs messages s h i =
    ap (λ (cs : List Chain). message_in (slice_get cs i)) h.chains_are ∙ ap message_in (slice_get-map fresh_chain messages i) ∙ message_first (slice_get messages i)

module _ (p : Program) (graphs : List Graph) (are : AreSound p graphs) (messages : Messages) (sent : AreMessages p.chains messages) (i : ℕ) (c : ChainPlan) (init : ChainInit) (g : Graph) (its : Its p graphs i c init g) where
  abbrev m0 : List ℕ
  m0 = memory p graphs

  pub mail : IsMessageOf init (message_at messages i)
  mail = message_of p.chains messages sent i init its.init_there

  pub mail_fits : message_base c + 8 * init.args ≤ length m0
  mail_fits =
      let control = (placed p graphs are i c its.there).control_in in
      let size = size_is p graphs are in
      let args = its.args in
      omega (arith, control, size, args)

  -- memory with the message
  abbrev pub after : List ℕ
  after = with_message m0 (Some (receive c)) (message_at messages i)

  pub after_size : length after ≡ length m0
  after_size = mail_size m0 (receive c) init mail_fits (message_at messages i) mail

  pub after_stays : (at len : ℕ) → (at + len ≤ message_base c) ⊎ (message_base c + 8 * init.args ≤ at) → bytes_at after at len ≡ bytes_at m0 at len
  after_stays at len out = range_stays m0 (receive c) init mail_fits (message_at messages i) mail at len out

  -- all spaces but the message's lie apart from it
  pub elsewhere : (x : Space) → has_space c x ≡ true → zone x ≢ 8 → (base_of (home c (tables p graphs)) x + room_of (home c (tables p graphs)) x ≤ message_base c) ⊎ (message_base c + 8 * init.args ≤ base_of (home c (tables p graphs)) x)
  elsewhere x has other =
      let it = lies c (tables_base p graphs) (length m0) p.tables (stands p graphs are i c its.there) x has in
      let rise = they_rise c (tables_base p graphs) (length m0) p.tables (stands p graphs are i c its.there) in
      let a = it.above in
      let b = it.below in
      let small = zone_small x in
      let args = its.args in
      elim (cases_lt (zone x) 8) [
        | inl before ↦
            let up : low c (tables_base p graphs) (length m0) p.tables (stands p graphs are i c its.there) (suc (zone x)) ≤ low c (tables_base p graphs) (length m0) p.tables (stands p graphs are i c its.there) 8 = rises_at (begins c (tables_base p graphs) (length m0) p.tables (stands p graphs are i c its.there)) rise (suc (zone x)) 8 (omega (arith, before)) (omega arith) in
            inl (omega (arith, b, up))
        | inr past ↦
            let up : low c (tables_base p graphs) (length m0) p.tables (stands p graphs are i c its.there) 9 ≤ low c (tables_base p graphs) (length m0) p.tables (stands p graphs are i c its.there) (zone x) = rises_at (begins c (tables_base p graphs) (length m0) p.tables (stands p graphs are i c its.there)) rise 9 (zone x) (omega (arith, past, other)) (omega (arith, small)) in
            inr (omega (arith, a, up, args))
      ]

  pub after_space : (x : Space) → has_space c x ≡ true → zone x ≢ 8 → seen_in (home c (tables p graphs)) after x ≡ at_first p graphs c x
  after_space x has other = after_stays (base_of (home c (tables p graphs)) x) (room_of (home c (tables p graphs)) x) (elsewhere x has other)

  -- the entry lies below the message
  pub entry_below : entries_base p graphs + 128 * c.number + 128 ≤ message_base c
  entry_below =
      let control = (above p graphs are i c its.there).control_base in
      let number = (placed p graphs are i c its.there).number in
      omega (arith, control, number)

  -- another memory with the same private bytes
  module _ (m : List ℕ) (size : length m ≡ length after) (same : (q : ℕ) → is_own (entries_base p graphs) c q ≡ true → byte m q ≡ byte after q) where
    pub seen_after : (x : Space) → has_space c x ≡ true → is_table_space x ≡ false → seen_in (home c (tables p graphs)) m x ≡ seen_in (home c (tables p graphs)) after x
    seen_after x has plain =
        same_range m after (base_of (home c (tables p graphs)) x) (room_of (home c (tables p graphs)) x) size (λ q low high.
        let k : q ≡ base_of (home c (tables p graphs)) x + (q - base_of (home c (tables p graphs)) x) = omega (arith, low) in
        same q (ap (is_own (entries_base p graphs) c) k ∙ own_byte c (tables_base p graphs) (length m0) p.tables (stands p graphs are i c its.there) (entries_base p graphs) x (q - base_of (home c (tables p graphs)) x) has plain (omega (arith, low, high))))

    pub seen_first : (x : Space) → has_space c x ≡ true → is_table_space x ≡ false → zone x ≢ 8 → seen_in (home c (tables p graphs)) m x ≡ at_first p graphs c x
    seen_first x has plain other = seen_after x has plain ∙ after_space x has other

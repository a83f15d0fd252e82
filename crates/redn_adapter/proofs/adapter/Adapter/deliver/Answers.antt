use Rattle.std.proofs.Common.{◌≡◌, ◌+◌, List, ℕ, Some, true, set, refl, sym, ap, ◌∙◌}
use Rattle.std.specs.Option.{option_map}
use Rattle.std.specs.Borrow.{Bor}
use Rattle.std.specs.Vec.{with_items}
use Rattle.std.proofs.lemmas.List.{with_items_is, get_or_read}
use Rattle.redn_words.specs.States.{State, Chain}
use Rattle.redn_words.specs.Words.{with_bytes_at}
use Rattle.redn_adapter.specs.Mails.{pending_bytes, after_delivery}
use Rattle.redn_adapter.proofs.Delivery.{read_at, delivered_is, mail_is}
use Rattle.redn_adapter.proofs.Taken.{taken_after}
use Rattle.redn_words.specs.declared.types.Action.TheVariants.{Deliver}
use Rattle.redn_words.specs.Steps.{possible}
use Rattle.redn_adapter.specs.AdapterView.{adapter_view}
use Rattle.redn_adapter.proofs.adapter.Adapter.deliver.Goals as goal

pub returns-clause-after : goal.returns-clause-after
unfolding possible
returns-clause-after c =
    let a = c.self.inside in
    let s : State = record { regions = a.regions; receives = a.receives.items; memory = a.memory.items; queues = a.queues.items; chains = a.chains.items } in
    let n = c.args.chain in
    let place = c.in_ok-base.field-0.now in
    let chain = c.in_ok-get.field-0.now in
    let bytes = c.in_ok-bytes.bytes.now in
    let h = rw c.deref.ensures.value at c.in_ok-base.ensures.lookup in
    let g = rw c.deref-2.ensures.value at c.in_ok-get.ensures.lookup in
    let place_there = read_at s.receives n place h.3.0 h.1 in
    let chain_there = read_at s.chains n chain g.3.0 g.1 in
    let memory : (with_items a.memory c.write_at.new.memory).items ≡ with_bytes_at s.memory place.base bytes =
    with_items_is a.memory c.write_at.new.memory (c.write_at.auto.memory ∙ c.deref_mut.ensures.len) ∙ c.write_at.ensures ∙ ap (λ (m : List ℕ). with_bytes_at m place.base bytes) c.deref_mut.ensures.value in
    let same : c.index_mut.result.now ≡ chain = get_or_read a.chains.items n c.index_mut.result.now g.3.0 c.index_mut.ensures.value chain ∙ sym g.1 in
    let taken : c.mark_delivered.new.self ≡ after_delivery chain = c.mark_delivered.ensures ∙ ap after_delivery same in
    let mail : Some bytes ≡ pending_bytes chain.mail = sym (ap (option_map (λ (b : Bor (List ℕ)). b.now)) c.in_ok-bytes.was) ∙ c.pending.ensures in
    let is = delivered_is s n place chain bytes place_there chain_there mail in
    let pending = mail_is chain.mail bytes mail in
    let here : possible s (Deliver n) ≡ true = rw (place_there, chain_there, pending) refl in
    rw (← c.self.view_is)
    (taken_after (adapter_view a) (Deliver n) _ here
    (ap (λ (x : State). record { state = x; steps = a.steps + 1 })
    (ap (λ (m : List ℕ). record s { memory = m; chains = set s.chains n c.mark_delivered.new.self }) memory
    ∙ ap (λ (d : Chain). record s { memory = with_bytes_at s.memory place.base bytes; chains = set s.chains n d }) taken
    ∙ sym is)))

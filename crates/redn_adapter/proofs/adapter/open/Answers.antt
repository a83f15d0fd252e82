use Rattle.std.proofs.Common.{◌≡◌, ◌≤◌, ◌+◌, ◌-◌, ◌^◌, ◌<◌, List, ℕ, Option, Vec, Global, [], length, map, refl, sym, ap, subst, ◌∙◌, arith}
use Rattle.std.specs.Option.{option_map}
use Rattle.std.proofs.lemmas.List.Elements.{All-map, All-weaker}
use Rattle.redn_words.specs.declared.types.Region.{Region}
use Rattle.redn_words.specs.declared.types.QueueRow.{QueueRow}
use Rattle.redn_words.specs.States.{Chain, Queue, start, fresh_chain, fresh_queue}
use Rattle.redn_image.specs.Rules.{Image as Parts}
use Rattle.std.proofs.lemmas.List.{length-map}
use Rattle.redn_image.specs.View.{image_view}
use Rattle.redn_adapter.specs.AdapterView.{IsRing, IsQueueAt}
use Rattle.redn_adapter.specs.Busy.{KeepsBusy}
use Rattle.redn_adapter.specs.Opening.{misfits}
use Rattle.redn_adapter.proofs.Images.{image_inside, keys_differ, mails_fit}
use Rattle.redn_words.proofs.Misfits.{none_first}
use Rattle.redn_adapter.proofs.adapter.open.Goals as goal
use Rattle.redn_adapter.proofs.adapter.open.Goals.{After-i, In_default, In_ok-chains}

pub first_misfit-requires-clause-few : goal.first_misfit-requires-clause-few
first_misfit-requires-clause-few c =
    let inside = image_inside (image_view c.i.inside) c.i.invariant.obeys in
    omega (arith, inside.few, ap length c.deref.ensures.value)

pub registered-requires-clause-few : goal.registered-requires-clause-few
registered-requires-clause-few c =
    let inside = image_inside (image_view c.i.inside) c.i.invariant.obeys in
    omega (arith, inside.few_regions)

pub registered-requires-clause-ends : goal.registered-requires-clause-ends
registered-requires-clause-ends c =
    let inside = image_inside (image_view c.i.inside) c.i.invariant.obeys in
    let size = length c.i.inside.memory.items in
    All-weaker (λ (r : Region). r.base + r.len ≤ size) (λ (r : Region). r.base + r.len ≤ 2 ^ 64 - 1) (λ r h. omega (arith, inside.size)) c.i.inside.regions.items inside.regions

pub registered-requires-clause-distinct : goal.registered-requires-clause-distinct
registered-requires-clause-distinct c = keys_differ (image_view c.i.inside) c.i.invariant.obeys

messages_of : List (Option (Vec ℕ Global)) → List (Option (List ℕ))
messages_of kept = map (option_map (λ (v : Vec ℕ Global). v.items)) kept

no_misfit : (c : In_default) → misfits 0 c.i.inside.receives.items (messages_of c.ms.inside.list.items) ≡ []
unfolding messages_of
no_misfit c =
    let e = sym c.in_default.is ∙ c.first_misfit.ensures in
    none_first _ (rw (c.deref.ensures.value, c.deref-2.ensures.value) at e)

pub invariant_of-result : goal.invariant_of-result
unfolding messages_of
invariant_of-result c =
    let at = (goal.at.invariant_of-result c).In_default in
    let a = c.i.inside in
    let size = length a.memory.items in
    let inside = image_inside (image_view a) c.i.invariant.obeys in
    let messages = messages_of c.ms.inside.list.items in
    let rows = rw c.deref-3.ensures.value at c.in_ok-queues.ensures in
    let chains_length : length c.in_ok-chains.chains.items ≡ length a.receives.items = ap length c.in_ok-chains.ensures ∙ length-map messages fresh_chain ∙ ap length c.ms.view_is ∙ c.requires ∙ sym (ap (λ (i : Parts). length i.receives) c.i.view_is) in
    let ring = λ (row : QueueRow) (h : IsRing size row). let first : IsQueueAt size 0 (fresh_queue row) = record { ring = h; head = omega arith; counter = omega arith } in first in
    record {
      size = inside.size;
      regions = rw c.in_ok-regions.ensures.rows inside.regions;
      chains = rw c.in_ok-chains.ensures (All-map (λ (d : Chain). d.received ≤ 0) fresh_chain messages (λ k d l. omega arith));
      receives = inside.receives;
      counts =
          rw (chains_length, rows) record {
            chains_few = omega (arith, inside.few);
            queues_few = omega (arith, inside.few_queues, length-map a.queues.items fresh_queue);
            domains = All-map (λ (u : Queue). u.row.domain < length a.receives.items) fresh_queue a.queues.items inside.domains;
          };
      places = chains_length;
      busy = subst (λ (n : ℕ). KeepsBusy c.in_ok-busy.busy n c.in_ok-queues.queues.items) (omega (arith, c.len.ensures, c.in_ok-chains.chains.ok)) (rw c.deref-4.ensures.value at c.in_ok-busy.ensures);
      mails = λ k l. rw c.in_ok-chains.ensures (mails_fit 0 a.receives.items messages (no_misfit at) k);
      queues = rw rows (All-map (IsQueueAt size 0) fresh_queue a.queues.items (All-weaker (IsRing size) (λ (row : QueueRow). IsQueueAt size 0 (fresh_queue row)) ring a.queues.items inside.queues));
    }

pub returns-clause-state : goal.returns-clause-state
unfolding start
returns-clause-state c =
    let rows = rw c.deref-3.ensures.value at c.in_ok-queues.ensures in
    rw (← c.i.view_is, ← c.ms.view_is, c.in_ok-regions.ensures.rows, rows, c.in_ok-chains.ensures) refl

pub returns-clause-fits : goal.returns-clause-fits
unfolding messages_of
returns-clause-fits c = rw (← c.i.view_is, ← c.ms.view_is) (no_misfit (goal.at.returns-clause-fits c).In_default)

-- as many chains as places
many_chains : (c : In_ok-chains) → length c.in_ok-chains.chains.items ≡ length c.i.inside.receives.items
unfolding messages_of
many_chains c =
    let messages = messages_of c.ms.inside.list.items in
    ap length c.in_ok-chains.ensures ∙ length-map messages fresh_chain ∙ ap length c.ms.view_is ∙ c.requires ∙ sym (ap (λ (i : Parts). length i.receives) c.i.view_is)

pub overflow_cast-len : goal.overflow_cast-len
overflow_cast-len c =
    let inside = image_inside (image_view c.i.inside) c.i.invariant.obeys in
    omega (arith, inside.few, many_chains (goal.at.overflow_cast-len c).In_ok-chains, c.len.ensures, c.in_ok-chains.chains.ok)

pub first_busy-requires-clause-few : goal.first_busy-requires-clause-few
first_busy-requires-clause-few c =
    let inside = image_inside (image_view c.i.inside) c.i.invariant.obeys in
    omega (arith, inside.few_queues, length-map c.i.inside.queues.items fresh_queue, ap length c.deref-4.ensures.value, ap length c.in_ok-queues.ensures, ap (λ (rows : List QueueRow). length (map fresh_queue rows)) c.deref-3.ensures.value)

pub first_busy-requires-clause-domains : goal.first_busy-requires-clause-domains
first_busy-requires-clause-domains c =
    let inside = image_inside (image_view c.i.inside) c.i.invariant.obeys in
    let many = many_chains (goal.at.first_busy-requires-clause-domains c).In_ok-chains in
    let n : c.len.result ≡ length c.i.inside.receives.items = omega (arith, c.len.ensures, c.in_ok-chains.chains.ok, many) in
    let rows = rw c.deref-3.ensures.value at c.in_ok-queues.ensures in
    rw (c.deref-4.ensures.value, rows, n) (All-map (λ (u : Queue). u.row.domain < length c.i.inside.receives.items) fresh_queue c.i.inside.queues.items inside.domains)

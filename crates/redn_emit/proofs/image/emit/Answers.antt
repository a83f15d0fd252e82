use Rattle.std.proofs.Common.{rules, ◌≡◌, ℕ, ◌+◌, ◌*◌, ◌≤◌, ◌++◌, List, map, length, sym, ap, ◌∙◌, subst, arith}
use Rattle.std.specs.Prelude.{sum_by}
use Rattle.std.specs.List.{flat_map}
use Rattle.redn_kernel.specs.declared.types.ChainInit.{ChainInit}
use Rattle.redn_kernel.specs.declared.types.TableInit.{TableInit}
use Rattle.redn_emit.specs.Layout.{ChainPlan, code_slots, data_len, chain_rows, entry_row, ring_rows, receive, chain_code, entry_bytes, chain_words}
use Rattle.redn_emit.specs.Placed as placed
use Rattle.redn_emit.specs.Kept.{CanAllBePlaced}
use Rattle.redn_image.specs.Rules.{Image, parts_of}
use Rattle.redn_emit.proofs.Obeys.{placed_obeys}
use Rattle.redn_emit.proofs.Programs.{all_can_be_placed, length-chains, length-plans}
use Rattle.redn_emit.proofs.image.emit.Goals as goal

pub chains_of-requires-clause-fit : goal.chains_of-requires-clause-fit
chains_of-requires-clause-fit c =
    let p = c.args.p.now in
    let sound = c.requires.sound in
    let few = sound.few_chains in
    subst (λ (l : List ChainInit). CanAllBePlaced (length l) l c.args.graphs.now) (sym c.as_slice.ensures) (all_can_be_placed p.tables (length p.chains) p.chains c.args.graphs.now (omega (arith, few)) sound.sound_chains sound.light c.requires.graphs.count c.requires.graphs.each)

pub slots_of-entries_base-requires : goal.slots_of-entries_base-requires
slots_of-entries_base-requires c =
    let p = c.args.p.now in
    let few = c.requires.sound.few_chains in
    let chains : c.in_ok-chains.chains.items ≡ placed.chains p c.args.graphs.now = c.in_ok-chains.ensures ∙ ap (λ (l : List ChainInit). placed.chains_from (length l) l c.args.graphs.now) c.as_slice.ensures in
    let count = ap length (c.deref.ensures.value ∙ chains) ∙ length-chains (length p.chains) p.chains c.args.graphs.now c.requires.graphs.count in
    omega (arith, few, count)

pub overflow_mul-data_base-2 : goal.overflow_mul-data_base-2
overflow_mul-data_base-2 c =
    let p = c.args.p.now in
    let few = c.requires.sound.few_chains in
    let chains : c.in_ok-chains.chains.items ≡ placed.chains p c.args.graphs.now = c.in_ok-chains.ensures ∙ ap (λ (l : List ChainInit). placed.chains_from (length l) l c.args.graphs.now) c.as_slice.ensures in
    let len : c.len.result ≡ length c.in_ok-chains.chains.items = search rules in
    let count = len ∙ ap length chains ∙ length-chains (length p.chains) p.chains c.args.graphs.now c.requires.graphs.count in
    omega (arith, few, count)

pub overflow_add-data_base : goal.overflow_add-data_base
overflow_add-data_base c =
    let p = c.args.p.now in
    let few = c.requires.sound.few_chains in
    let chains : c.in_ok-chains.chains.items ≡ placed.chains p c.args.graphs.now = c.in_ok-chains.ensures ∙ ap (λ (l : List ChainInit). placed.chains_from (length l) l c.args.graphs.now) c.as_slice.ensures in
    let len : c.len.result ≡ length c.in_ok-chains.chains.items = search rules in
    let count = len ∙ ap length chains ∙ length-chains (length p.chains) p.chains c.args.graphs.now c.requires.graphs.count in
    let slots : c.slots_of-entries_base.result ≤ 16 * 262144 = c.slots_of-entries_base.ensures.few in
    omega (arith, few, count, slots)

pub plans_of-requires-clause-few : goal.plans_of-requires-clause-few
plans_of-requires-clause-few c =
    let p = c.args.p.now in
    let few = c.requires.sound.few_chains in
    let chains : c.in_ok-chains.chains.items ≡ placed.chains p c.args.graphs.now = c.in_ok-chains.ensures ∙ ap (λ (l : List ChainInit). placed.chains_from (length l) l c.args.graphs.now) c.as_slice.ensures in
    let count = ap length chains ∙ length-chains (length p.chains) p.chains c.args.graphs.now c.requires.graphs.count in
    omega (arith, few, count)

pub plans_of-requires-clause-base : goal.plans_of-requires-clause-base
plans_of-requires-clause-base c =
    let p = c.args.p.now in
    let few = c.requires.sound.few_chains in
    let chains : c.in_ok-chains.chains.items ≡ placed.chains p c.args.graphs.now = c.in_ok-chains.ensures ∙ ap (λ (l : List ChainInit). placed.chains_from (length l) l c.args.graphs.now) c.as_slice.ensures in
    let len : c.len.result ≡ length c.in_ok-chains.chains.items = search rules in
    let count = len ∙ ap length chains ∙ length-chains (length p.chains) p.chains c.args.graphs.now c.requires.graphs.count in
    let slots : c.slots_of-entries_base.result ≤ 16 * 262144 = c.slots_of-entries_base.ensures.few in
    omega (arith, few, count, slots)

pub words_len-requires : goal.words_len-requires
words_len-requires c =
    let p = c.args.p.now in
    let few = c.requires.sound.few_chains in
    let chains : c.in_ok-chains.chains.items ≡ placed.chains p c.args.graphs.now = c.in_ok-chains.ensures ∙ ap (λ (l : List ChainInit). placed.chains_from (length l) l c.args.graphs.now) c.as_slice.ensures in
    let count = ap length (c.deref-2.ensures.value ∙ c.in_ok-plans.ensures) ∙ length-plans _ _ _ _ c.in_ok-chains.chains.items ∙ ap length chains ∙ length-chains (length p.chains) p.chains c.args.graphs.now c.requires.graphs.count in
    omega (arith, few, count)

pub overflow_add-tables_base : goal.overflow_add-tables_base
overflow_add-tables_base c =
    let p = c.args.p.now in
    let few = c.requires.sound.few_chains in
    let chains : c.in_ok-chains.chains.items ≡ placed.chains p c.args.graphs.now = c.in_ok-chains.ensures ∙ ap (λ (l : List ChainInit). placed.chains_from (length l) l c.args.graphs.now) c.as_slice.ensures in
    let len : c.len.result ≡ length c.in_ok-chains.chains.items = search rules in
    let count = len ∙ ap length chains ∙ length-chains (length p.chains) p.chains c.args.graphs.now c.requires.graphs.count in
    let slots : c.slots_of-entries_base.result ≤ 16 * 262144 = c.slots_of-entries_base.ensures.few in
    let words = c.words_len.ensures.few in
    omega (arith, few, count, slots, words)

pub tables_of-requires-clause-room : goal.tables_of-requires-clause-room
tables_of-requires-clause-room c =
    let p = c.args.p.now in
    let few = c.requires.sound.few_chains in
    let chains : c.in_ok-chains.chains.items ≡ placed.chains p c.args.graphs.now = c.in_ok-chains.ensures ∙ ap (λ (l : List ChainInit). placed.chains_from (length l) l c.args.graphs.now) c.as_slice.ensures in
    let len : c.len.result ≡ length c.in_ok-chains.chains.items = search rules in
    let count = len ∙ ap length chains ∙ length-chains (length p.chains) p.chains c.args.graphs.now c.requires.graphs.count in
    let slots : c.slots_of-entries_base.result ≤ 16 * 262144 = c.slots_of-entries_base.ensures.few in
    let words = c.words_len.ensures.few in
    let bytes : sum_by (λ (t : TableInit). length t.bytes) c.as_slice-2.result.now ≡ sum_by (λ (t : TableInit). length t.bytes) p.tables = ap (sum_by (λ (t : TableInit). length t.bytes)) c.as_slice-2.ensures in
    let small = c.requires.sound.few_bytes in
    omega (arith, few, count, slots, words, bytes, small)

pub image_of_kept-requires : goal.image_of_kept-requires
image_of_kept-requires c =
    let p = c.args.p.now in
    let graphs = c.args.graphs.now in
    let chains : c.in_ok-chains.chains.items ≡ placed.chains p graphs = c.in_ok-chains.ensures ∙ ap (λ (l : List ChainInit). placed.chains_from (length l) l graphs) c.as_slice.ensures in
    let len : c.len.result ≡ length c.in_ok-chains.chains.items = search rules in
    let count : c.len.result ≡ length p.chains = len ∙ ap length chains ∙ length-chains (length p.chains) p.chains graphs c.requires.graphs.count in
    let slots : c.slots_of-entries_base.result ≡ placed.all_slots p graphs = c.slots_of-entries_base.ensures.slots ∙ ap (sum_by (λ (x : placed.ChainRings). code_slots x.rings)) (c.deref.ensures.value ∙ chains) in
    let entries : 64 * c.slots_of-entries_base.result ≡ placed.entries_base p graphs = ap (λ (n : ℕ). 64 * n) slots in
    let data_at : 64 * c.slots_of-entries_base.result + 128 * c.len.result ≡ placed.data_base p graphs = (λ i. 64 * slots i + 128 * count i) in
    let plans : c.in_ok-plans.plans.items ≡ placed.plans p graphs = c.in_ok-plans.ensures ∙ (λ i. placed.plans_from (c.len-2.ensures i) 0 0 (data_at i) (chains i)) in
    let words : c.words_len.result ≡ sum_by data_len (placed.plans p graphs) = c.words_len.ensures.len ∙ ap (sum_by data_len) (c.deref-2.ensures.value ∙ plans) in
    let tables_at : 64 * c.slots_of-entries_base.result + 128 * c.len.result + c.words_len.result ≡ placed.tables_base p graphs = (λ i. data_at i + words i) in
    let tables : c.in_ok-tables.tables.items ≡ placed.tables p graphs = c.in_ok-tables.ensures ∙ (λ i. placed.tables_from 0 (tables_at i) (c.as_slice-2.ensures i)) in
    let regions : c.in_ok-regions.regions.items ≡ placed.regions p graphs = c.in_ok-regions.ensures ∙ (λ i. flat_map (λ (x : ChainPlan). chain_rows x ((c.deref-4.ensures.value ∙ tables) i)) ((c.deref-3.ensures.value ∙ plans) i)) in
    let queues : c.in_ok-queues.queues.items ≡ placed.queues p graphs = c.in_ok-queues.ensures ∙ (λ i. map (entry_row (entries i)) ((c.deref-5.ensures.value ∙ plans) i) ++ flat_map ring_rows ((c.deref-5.ensures.value ∙ plans) i)) in
    let receives : c.in_ok-receives.receives.items ≡ map receive (placed.plans p graphs) = c.in_ok-receives.ensures ∙ ap (map receive) (c.deref-6.ensures.value ∙ plans) in
    let memory : c.in_ok-memory.memory.items ≡ placed.memory p graphs = c.in_ok-memory.ensures ∙ (λ i. flat_map (λ (x : ChainPlan). chain_code x ((c.deref-8.ensures.value ∙ tables) i)) ((c.deref-7.ensures.value ∙ plans) i) ++ (flat_map entry_bytes ((c.deref-7.ensures.value ∙ plans) i) ++ (flat_map chain_words ((c.deref-7.ensures.value ∙ plans) i) ++ flat_map (λ (t : TableInit). t.bytes) (c.as_slice-3.ensures i)))) in
    let hidden : sum_by (λ (x : ChainPlan). x.hidden) (placed.plans p graphs) ≤ 65535 * length (placed.plans p graphs) = subst (λ (l : List ChainPlan). sum_by (λ (x : ChainPlan). x.hidden) l ≤ 65535 * length l) (c.deref-2.ensures.value ∙ plans) c.words_len.ensures.hidden in
    let all : Image = parts_of c.in_ok-regions.regions.items c.in_ok-queues.queues.items c.in_ok-receives.receives.items c.in_ok-memory.memory.items in
    placed_obeys p graphs c.requires.sound c.requires.graphs hidden all (record { regions_are = regions; queues_are = queues; receives_are = receives; memory_is = memory })

pub returns : goal.returns
returns c =
    let p = c.args.p.now in
    let graphs = c.args.graphs.now in
    let chains : c.in_ok-chains.chains.items ≡ placed.chains p graphs = c.in_ok-chains.ensures ∙ ap (λ (l : List ChainInit). placed.chains_from (length l) l graphs) c.as_slice.ensures in
    let len : c.len.result ≡ length c.in_ok-chains.chains.items = search rules in
    let count : c.len.result ≡ length p.chains = len ∙ ap length chains ∙ length-chains (length p.chains) p.chains graphs c.requires.graphs.count in
    let slots : c.slots_of-entries_base.result ≡ placed.all_slots p graphs = c.slots_of-entries_base.ensures.slots ∙ ap (sum_by (λ (x : placed.ChainRings). code_slots x.rings)) (c.deref.ensures.value ∙ chains) in
    let entries : 64 * c.slots_of-entries_base.result ≡ placed.entries_base p graphs = ap (λ (n : ℕ). 64 * n) slots in
    let data_at : 64 * c.slots_of-entries_base.result + 128 * c.len.result ≡ placed.data_base p graphs = (λ i. 64 * slots i + 128 * count i) in
    let plans : c.in_ok-plans.plans.items ≡ placed.plans p graphs = c.in_ok-plans.ensures ∙ (λ i. placed.plans_from (c.len-2.ensures i) 0 0 (data_at i) (chains i)) in
    let words : c.words_len.result ≡ sum_by data_len (placed.plans p graphs) = c.words_len.ensures.len ∙ ap (sum_by data_len) (c.deref-2.ensures.value ∙ plans) in
    let tables_at : 64 * c.slots_of-entries_base.result + 128 * c.len.result + c.words_len.result ≡ placed.tables_base p graphs = (λ i. data_at i + words i) in
    let tables : c.in_ok-tables.tables.items ≡ placed.tables p graphs = c.in_ok-tables.ensures ∙ (λ i. placed.tables_from 0 (tables_at i) (c.as_slice-2.ensures i)) in
    let regions : c.in_ok-regions.regions.items ≡ placed.regions p graphs = c.in_ok-regions.ensures ∙ (λ i. flat_map (λ (x : ChainPlan). chain_rows x ((c.deref-4.ensures.value ∙ tables) i)) ((c.deref-3.ensures.value ∙ plans) i)) in
    let queues : c.in_ok-queues.queues.items ≡ placed.queues p graphs = c.in_ok-queues.ensures ∙ (λ i. map (entry_row (entries i)) ((c.deref-5.ensures.value ∙ plans) i) ++ flat_map ring_rows ((c.deref-5.ensures.value ∙ plans) i)) in
    let receives : c.in_ok-receives.receives.items ≡ map receive (placed.plans p graphs) = c.in_ok-receives.ensures ∙ ap (map receive) (c.deref-6.ensures.value ∙ plans) in
    let memory : c.in_ok-memory.memory.items ≡ placed.memory p graphs = c.in_ok-memory.ensures ∙ (λ i. flat_map (λ (x : ChainPlan). chain_code x ((c.deref-8.ensures.value ∙ tables) i)) ((c.deref-7.ensures.value ∙ plans) i) ++ (flat_map entry_bytes ((c.deref-7.ensures.value ∙ plans) i) ++ (flat_map chain_words ((c.deref-7.ensures.value ∙ plans) i) ++ flat_map (λ (t : TableInit). t.bytes) (c.as_slice-3.ensures i)))) in
    let all : placed.IsPlaced p graphs (parts_of c.in_ok-regions.regions.items c.in_ok-queues.queues.items c.in_ok-receives.receives.items c.in_ok-memory.memory.items) = record { regions_are = regions; queues_are = queues; receives_are = receives; memory_is = memory } in
    record { placed = subst (λ (i : Image). placed.IsPlaced p graphs i) (sym c.image_of_kept.ensures) all; words = c.graphs_words.ensures }

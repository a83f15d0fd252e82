use Rattle.std.proofs.Common.{◌≤◌, List, length, sym, ap, subst, arith}
use Rattle.redn_kernel.specs.declared.types.Core.{Core}
use Rattle.redn_graph.specs.Cores.{AllPlain}
use Rattle.redn_graph.specs.CoreSizes.{Made, blocks_in, taken_of_all}
use Rattle.redn_graph.specs.declared.build.Tail.TheVariants.{To}
use Rattle.redn_graph.proofs.Statements.{ok_still}
use Rattle.redn_graph.proofs.Lists.{listed_one}
use Rattle.redn_graph.proofs.Repeats.{searches_repeat}
use Rattle.redn_graph.proofs.Slots.{to_slots, to_size}
use Rattle.redn_graph.proofs.Fits.{fitted_then}
use Rattle.redn_graph.proofs.Stopping.{added_then}
use Rattle.redn_graph.proofs.LeadingOn.{onward_works}
use Rattle.redn_graph.proofs.CoreCode.{compiles_search}
use Rattle.redn_graph.proofs.build.Builder.search.Goals as goal

pub cores-requires : goal.cores-requires
cores-requires c =
    let s = c.in_ok-body.ensures in
    record { room = omega (arith, c.requires.room, s.blocks, c.in_ok-next.ensures.blocks, ap (λ (list : List Core). blocks_in (taken_of_all list)) c.as_slice.ensures); plain = subst AllPlain (sym c.as_slice.ensures) s.plain }

pub returns : goal.returns
returns c =
    let a = c.args in
    let st = a.statement.now in
    let s = c.in_ok-body.ensures in
    let next = c.in_ok-next.next in
    let l = c.in_ok-next.ensures in
    ok_still c.cores.result _ _
    (λ after made exit.
    let m = subst (λ (list : List Core). Made c.label.new.self c.cores.new.self next (To next) list after) c.as_slice.ensures made in
    listed_one st
    (compiles_search a.self.now.hidden exit st c.in_ok-body.body a.tail after next s.composes m.works l.labels m.compiles)
    (omega (arith, m.slots, s.slots, to_slots next, l.slots))
    (record { more = omega (arith, m.hidden, l.hidden); cells = omega (arith, m.hidden, l.hidden); longer = omega (arith, m.longer, l.more); blocks = omega (arith, m.blocks, l.blocks, s.blocks) })
    (λ sound. omega (arith, m.hidden, l.hidden, searches_repeat st c.requires.looks))
    (λ n within there well tail.
    let few : length c.label.new.self.blocks ≤ n.blocks = omega (arith, within.few_blocks, m.longer) in
    let x = l.fits n few tail in
    let y = m.fits n within x.1 (s.fits n within.searches well) x.1 in
    (fitted_then n x.0 y.0, y.1))
    (λ size most some fits room small.
    let x = l.small most (omega (arith, fits, room)) small in
    let y = m.size size most some (omega (arith, some, to_size next)) (omega (arith, room, s.instrs)) x in
    (y.0, omega (arith, y.1, s.instrs)))
    (λ sound there all among.
    let x = l.leads exit all among in
    let y = m.leads x.among x.added.all_stop x.among in
    onward_works a.self.now.blocks c.cores.new.self.blocks exit a.tail after _ _ (added_then x.added y.added) (m.works s.composes.begins)))
    c.cores.ensures

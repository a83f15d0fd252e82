use Rattle.std.proofs.Common.{◌≡◌, ◌+◌, ◌<◌, ◌≤◌, List, [], ◌∷◌, length, length-append, refl, sym, ap, ◌∙◌, subst, arith}
use Rattle.std.proofs.lemmas.List.Elements.{All-head, All-tail}
use Rattle.redn_kernel.specs.declared.types.Core.{Core, out-Core, every-Core}
use Rattle.redn_kernel.specs.declared.types.Core.TheVariants as core
use Rattle.redn_graph.specs.declared.types.Block.{Block}
use Rattle.redn_graph.specs.declared.build.Tail.TheVariants.{To}
use Rattle.redn_graph.specs.Code.{IsOpen}
use Rattle.redn_graph.specs.Cores.{IsPlainCore, AllPlain}
use Rattle.redn_graph.specs.CoreSizes.{Taken, blocks_in, statements_in, taken_of_all, Made, ForkMade, RoundMade}
use Rattle.redn_graph.specs.Fits.{Fitted}
use Rattle.redn_graph.proofs.Statements.{empty_list}
use Rattle.redn_graph.proofs.Slots.{to_slots, to_size}
use Rattle.redn_graph.proofs.Fits.{fitted_then, fitted_bound, within_before}
use Rattle.redn_graph.proofs.Stopping.{added_one, added_then, stops_works}
use Rattle.redn_graph.proofs.LeadingOn.{among_more, works_among, works_never, works_idle, loop_added}
use Rattle.redn_graph.proofs.CoreCode.{forks_made}
use Rattle.redn_graph.proofs.CoreMade.{ok_six, blocks_every, statements_some, if_taken, look_taken, loop_taken, made_none, made_move, made_add, made_load, made_leave, made_if, made_look, made_loop}
use Rattle.redn_graph.proofs.build.Builder.+cores.Goals as goal

pub cores-returns-in_default : goal.cores-returns-in_default
cores-returns-in_default t c =
    let a = c.args in
    subst (λ (list : List Core). Made a.self.now a.self.now a.exit a.tail list a.tail) (sym (empty_list a.body.now (omega (arith, c.in_default.ensures.cases)))) (made_none a.self.now a.exit a.tail)

pub cores-cores-requires : goal.cores-cores-requires
cores-cores-requires t c =
    let is = c.in-Some.ensures.cases.0 in
    let plain = All-tail (every-Core IsPlainCore) c.in-Some.first.now c.in-Some.rest.now (subst AllPlain is c.requires.plain) in
    (omega (arith, statements_some c.in-Some.first.now, ap (λ (list : List Core). statements_in (taken_of_all list)) is), (omega (arith, c.requires.room, ap (λ (list : List Core). blocks_in (taken_of_all list)) is), plain))

pub cores-fork-requires : goal.cores-fork-requires
cores-fork-requires t c =
    let is = c.in-Some.ensures.cases.0 in
    let first = c.in-Some.first.now in
    let i = c.in-If in
    let out = ap out-Core i.is ∙ core.outs-If i.wide i.left i.right i.yes i.no in
    let taken = if_taken first i.wide i.left i.right i.yes i.no out in
    let plain = blocks_every IsPlainCore first _ (All-head (every-Core IsPlainCore) first c.in-Some.rest.now (subst AllPlain is c.requires.plain)) out in
    let yes = c.as_slice.ensures in
    let no = c.as_slice-in-If.ensures in (
      omega (arith, ap (λ (list : List Core). statements_in (taken_of_all list)) is, ap (λ (u : Taken). u.statements) taken, ap (λ (list : List Core). statements_in (taken_of_all list)) yes, ap (λ (list : List Core). statements_in (taken_of_all list)) no),
      (
        omega (arith, c.requires.room, c.in_ok-behind.ensures.blocks, ap (λ (list : List Core). blocks_in (taken_of_all list)) is, ap (λ (u : Taken). u.blocks) taken, ap (λ (list : List Core). blocks_in (taken_of_all list)) yes, ap (λ (list : List Core). blocks_in (taken_of_all list)) no),
        (subst AllPlain (sym yes) plain.0, subst AllPlain (sym no) plain.1),
      ),
    )

pub cores-fork-requires-in-Probe : goal.cores-fork-requires-in-Probe
cores-fork-requires-in-Probe t c =
    let is = c.in-Some.ensures.cases.0 in
    let first = c.in-Some.first.now in
    let i = c.in-Probe in
    let out = ap out-Core i.is ∙ core.outs-Probe i.to i.table i.offset i.key i.hit i.miss in
    let taken = look_taken first i.to i.table i.offset i.key i.hit i.miss out in
    let plain = blocks_every IsPlainCore first _ (All-head (every-Core IsPlainCore) first c.in-Some.rest.now (subst AllPlain is c.requires.plain)) out in
    let yes = c.as_slice-in-Probe.ensures in
    let no = c.as_slice-in-Probe-2.ensures in (
      omega (arith, ap (λ (list : List Core). statements_in (taken_of_all list)) is, ap (λ (u : Taken). u.statements) taken, ap (λ (list : List Core). statements_in (taken_of_all list)) yes, ap (λ (list : List Core). statements_in (taken_of_all list)) no),
      (
        omega (arith, c.requires.room, c.in_ok-behind.ensures.blocks, ap (λ (list : List Core). blocks_in (taken_of_all list)) is, ap (λ (u : Taken). u.blocks) taken, ap (λ (list : List Core). blocks_in (taken_of_all list)) yes, ap (λ (list : List Core). blocks_in (taken_of_all list)) no),
        (subst AllPlain (sym yes) plain.0, subst AllPlain (sym no) plain.1),
      ),
    )

pub cores-round-requires : goal.cores-round-requires
cores-round-requires t c =
    let is = c.in-Some.ensures.cases.0 in
    let first = c.in-Some.first.now in
    let i = c.in-Loop in
    let out = ap out-Core i.is ∙ core.outs-Loop i.body in
    let taken = loop_taken first i.body out in
    let plain = blocks_every IsPlainCore first _ (All-head (every-Core IsPlainCore) first c.in-Some.rest.now (subst AllPlain is c.requires.plain)) out in
    let inner = c.as_slice-in-Loop.ensures in (
      omega (arith, ap (λ (list : List Core). statements_in (taken_of_all list)) is, ap (λ (u : Taken). u.statements) taken, ap (λ (list : List Core). statements_in (taken_of_all list)) inner),
      (
        omega (arith, c.requires.room, c.in_ok-behind.ensures.blocks, ap (λ (list : List Core). blocks_in (taken_of_all list)) is, ap (λ (u : Taken). u.blocks) taken, ap (λ (list : List Core). blocks_in (taken_of_all list)) inner),
        subst AllPlain (sym inner) plain.0,
      ),
    )

pub cores-returns-in-Move : goal.cores-returns-in-Move
cores-returns-in-Move t c =
    let a = c.args in
    let is = c.in-Some.ensures.cases.0 in
    let first = c.in-Some.first.now in
    let rest = c.in-Some.rest.now in
    let i = c.in-Move in
    let out = ap out-Core i.is ∙ core.outs-Move i.to i.from in
    let plain = All-head (every-Core IsPlainCore) first rest (subst AllPlain is c.requires.plain) in
    let e = c.before-in-Move.ensures in
    ok_six c.before-in-Move.result _ _ _ _ _ _
    (λ after works continues exact larger fits. subst (λ (list : List Core). Made a.self.now c.cores.new.self a.exit a.tail list after) (sym is) (made_move first rest a.tail c.in_ok-behind.behind c.in_ok-behind.ensures plain after c.move_cell.result works continues exact larger fits i.to i.from out c.move_cell.ensures))
    e.works e.continues e.exact e.size e.fits

pub cores-returns-in-Add : goal.cores-returns-in-Add
cores-returns-in-Add t c =
    let a = c.args in
    let is = c.in-Some.ensures.cases.0 in
    let first = c.in-Some.first.now in
    let rest = c.in-Some.rest.now in
    let i = c.in-Add in
    let out = ap out-Core i.is ∙ core.outs-Add i.to i.by in
    let plain = All-head (every-Core IsPlainCore) first rest (subst AllPlain is c.requires.plain) in
    let e = c.before-in-Add.ensures in
    ok_six c.before-in-Add.result _ _ _ _ _ _
    (λ after works continues exact larger fits. subst (λ (list : List Core). Made a.self.now c.cores.new.self a.exit a.tail list after) (sym is) (made_add first rest a.tail c.in_ok-behind.behind c.in_ok-behind.ensures plain after _ works continues exact larger fits i.to i.by out refl))
    e.works e.continues e.exact e.size e.fits

pub cores-returns-in-Load : goal.cores-returns-in-Load
cores-returns-in-Load t c =
    let a = c.args in
    let is = c.in-Some.ensures.cases.0 in
    let first = c.in-Some.first.now in
    let rest = c.in-Some.rest.now in
    let i = c.in-Load in
    let out = ap out-Core i.is ∙ core.outs-Load i.to i.table i.offset in
    let plain = All-head (every-Core IsPlainCore) first rest (subst AllPlain is c.requires.plain) in
    let e = c.before-in-Load.ensures in
    ok_six c.before-in-Load.result _ _ _ _ _ _
    (λ after works continues exact larger fits. subst (λ (list : List Core). Made a.self.now c.cores.new.self a.exit a.tail list after) (sym is) (made_load first rest a.tail c.in_ok-behind.behind c.in_ok-behind.ensures plain after _ works continues exact larger fits i.to i.offset i.table out refl))
    e.works e.continues e.exact e.size e.fits

pub cores-returns-in-Leave : goal.cores-returns-in-Leave
cores-returns-in-Leave t c =
    let a = c.args in
    let is = c.in-Some.ensures.cases.0 in
    let first = c.in-Some.first.now in
    let rest = c.in-Some.rest.now in
    let plain = All-head (every-Core IsPlainCore) first rest (subst AllPlain is c.requires.plain) in
    subst (λ (list : List Core). Made a.self.now c.cores.new.self a.exit a.tail list (To a.exit)) (sym is) (made_leave first rest a.tail c.in_ok-behind.behind c.in_ok-behind.ensures plain (ap out-Core c.in-Leave.is ∙ core.outs-Leave))

pub cores-returns-in_ok-yes-in-If : goal.cores-returns-in_ok-yes-in-If
cores-returns-in_ok-yes-in-If t c =
    let a = c.args in
    let is = c.in-Some.ensures.cases.0 in
    let first = c.in-Some.first.now in
    let rest = c.in-Some.rest.now in
    let i = c.in-If in
    let out = ap out-Core i.is ∙ core.outs-If i.wide i.left i.right i.yes i.no in
    let plain = All-head (every-Core IsPlainCore) first rest (subst AllPlain is c.requires.plain) in
    let yes = c.in_ok-yes-in-If.yes in
    let no = c.in_ok-yes-in-If.no in
    let f = subst (λ (list : List Core). ForkMade c.cores.new.self c.fork.new.self a.exit c.in_ok-behind.behind list i.no yes no) c.as_slice.ensures (subst (λ (list : List Core). ForkMade c.cores.new.self c.fork.new.self a.exit c.in_ok-behind.behind c.as_slice.result.now list yes no) c.as_slice-in-If.ensures c.in_ok-yes-in-If.ensures) in
    let opened = subst (IsOpen c.open.result []) c.test.ensures c.open.ensures in
    subst (λ (list : List Core). Made a.self.now c.fork.new.self a.exit a.tail list c.open.result) (sym is) (made_if first rest a.tail c.in_ok-behind.behind c.in_ok-behind.ensures plain i.wide i.left i.right i.yes i.no yes no c.open.result out f opened)

pub cores-returns-in_ok-hit-in-Probe : goal.cores-returns-in_ok-hit-in-Probe
cores-returns-in_ok-hit-in-Probe t c =
    let a = c.args in
    let is = c.in-Some.ensures.cases.0 in
    let first = c.in-Some.first.now in
    let rest = c.in-Some.rest.now in
    let i = c.in-Probe in
    let out = ap out-Core i.is ∙ core.outs-Probe i.to i.table i.offset i.key i.hit i.miss in
    let plain = All-head (every-Core IsPlainCore) first rest (subst AllPlain is c.requires.plain) in
    let hit = c.in_ok-hit-in-Probe.hit in
    let miss = c.in_ok-hit-in-Probe.miss in
    let new = c.fork-in-Probe.new.self in
    let f = subst (λ (list : List Core). ForkMade c.cores.new.self new a.exit c.in_ok-behind.behind list i.miss hit miss) c.as_slice-in-Probe.ensures (subst (λ (list : List Core). ForkMade c.cores.new.self new a.exit c.in_ok-behind.behind c.as_slice-in-Probe.result.now list hit miss) c.as_slice-in-Probe-2.ensures c.in_ok-hit-in-Probe.ensures) in
    let after = c.open-in-Probe.result in
    subst (λ (list : List Core). Made a.self.now new a.exit a.tail list after) (sym is) (made_look first rest a.tail c.in_ok-behind.behind c.in_ok-behind.ensures plain i.to i.table i.offset i.key i.hit i.miss hit miss after out f c.open-in-Probe.ensures)

pub cores-returns-in_ok-head-in-Loop : goal.cores-returns-in_ok-head-in-Loop
cores-returns-in_ok-head-in-Loop t c =
    let a = c.args in
    let is = c.in-Some.ensures.cases.0 in
    let first = c.in-Some.first.now in
    let rest = c.in-Some.rest.now in
    let i = c.in-Loop in
    let out = ap out-Core i.is ∙ core.outs-Loop i.body in
    let plain = All-head (every-Core IsPlainCore) first rest (subst AllPlain is c.requires.plain) in
    let head = c.in_ok-head-in-Loop.head in
    let r = subst (λ (list : List Core). RoundMade c.cores.new.self c.round.new.self c.in_ok-behind.behind list head) c.as_slice-in-Loop.ensures c.in_ok-head-in-Loop.ensures in
    subst (λ (list : List Core). Made a.self.now c.round.new.self a.exit a.tail list (To head)) (sym is) (made_loop first rest a.tail c.in_ok-behind.behind c.in_ok-behind.ensures plain i.body head out r)

pub fork-cores-requires-2 : goal.fork-cores-requires-2
fork-cores-requires-2 t c = (omega arith, (omega (arith, c.requires.room, c.in_ok-next.ensures.blocks, c.in_ok-met.ensures.blocks), c.requires.plain_too))

pub fork-returns : goal.fork-returns
fork-returns t c =
    let a = c.args in
    let l1 = c.in_ok-next.ensures in
    let m1 = c.in_ok-met.ensures in
    let m2 = c.in_ok-unmet.ensures in
    let l2 = c.in_ok-yes.ensures in
    let l3 = c.in_ok-no.ensures in
    let next = c.in_ok-next.next in
    let to = to_size next in
    record {
      forks = forks_made a.exit a.yes.now a.no.now a.tail next c.in_ok-met.met c.in_ok-unmet.unmet c.in_ok-yes.yes c.in_ok-no.no l1.labels m1.compiles m2.compiles l2.labels l3.labels;
      slots = omega (arith, to_slots next, l1.slots, m1.slots, m2.slots, l2.slots, l3.slots);
      longer = omega (arith, l1.more, m1.longer, m2.longer, l2.more, l3.more);
      blocks = omega (arith, l1.blocks, m1.blocks, m2.blocks, l2.blocks, l3.blocks);
      hidden = omega (arith, l1.hidden, m1.hidden, m2.hidden, l2.hidden, l3.hidden);
      fits = λ n within exit met unmet tail.
          let few1 : length c.label.new.self.blocks ≤ n.blocks = omega (arith, within.few_blocks, m1.longer, m2.longer, l2.more, l3.more) in
          let w2 = within_before n c.cores.new.self c.label-3.new.self (omega (arith, m2.longer, l2.more, l3.more)) (omega (arith, m2.hidden, l2.hidden, l3.hidden)) within in
          let w3 = within_before n c.cores-2.new.self c.label-3.new.self (omega (arith, l2.more, l3.more)) (omega (arith, l2.hidden, l3.hidden)) within in
          let few4 : length c.label-2.new.self.blocks ≤ n.blocks = omega (arith, within.few_blocks, l3.more) in
          let x1 = l1.fits n few1 tail in
          let x2 = m1.fits n w2 exit met x1.1 in
          let x3 = m2.fits n w3 exit unmet x1.1 in
          let x4 = l2.fits n few4 x2.1 in
          let x5 = l3.fits n within.few_blocks x3.1 in
          (fitted_then n x1.0 (fitted_then n x2.0 (fitted_then n x3.0 (fitted_then n x4.0 x5.0))), x4.1, x5.1);
      small = λ size most some fits room small.
          let s1 = l1.small most (omega (arith, fits, room)) small in
          let s2 = m1.size size most some (omega (arith, some, to)) (omega (arith, room)) s1 in
          let s3 = m2.size size most some (omega (arith, some, to)) (omega (arith, room)) s2.0 in
          let s4 = l2.small most (omega (arith, room, s2.1)) s3.0 in
          l3.small most (omega (arith, room, s3.1)) s4;
      added = λ there all among.
          let x1 = l1.leads a.exit all among in
          let x2 = m1.leads (omega (arith, there, x1.added.longer)) x1.added.all_stop x1.among in
          let x3 = m2.leads (omega (arith, there, x1.added.longer, x2.added.longer)) x2.added.all_stop (omega (arith, x1.among, x2.added.longer)) in
          let x4 = l2.leads a.exit x3.added.all_stop (among_more _ _ c.in_ok-met.met x3.added.longer x2.among) in
          let x5 = l3.leads a.exit x4.added.all_stop (among_more _ _ c.in_ok-unmet.unmet x4.added.longer x3.among) in
          added_then x1.added (added_then x2.added (added_then x3.added (added_then x4.added x5.added)));
    }

pub round-returns : goal.round-returns
round-returns t c =
    let a = c.args in
    let l1 = c.in_ok-out.ensures in
    let reserved = c.in_ok-head.ensures in
    let m = c.in_ok-first.ensures in
    let b = c.in_ok-bind.ensures in
    let b1 = c.label.new.self.blocks in
    let b2 = c.reserve.new.self.blocks in
    let b3 = c.cores.new.self.blocks in
    let b4 = c.bind.new.self.blocks in
    let head = c.in_ok-head.head in
    let spare : Block = reserved.blocks.0 in
    let more = length-append b1 (spare ∷ []) in
    let size_is : length b2 ≡ length b1 + 1 = omega (arith, ap length reserved.blocks.1, more) in
    let to = to_size head in
    record {
      out_block = c.in_ok-out.out;
      labelled = b1;
      reserved = b2;
      inner = b3;
      spare = spare;
      begin = c.in_ok-first.first;
      labels = l1.labels;
      is_reserved = reserved.blocks.1;
      at = reserved.number;
      compiles = m.compiles;
      works = m.works;
      bound = b.bound;
      slots = omega (arith, to_slots head, l1.slots, reserved.slots, m.slots, b.slots);
      longer = omega (arith, l1.more, size_is, m.longer, b.bound.same_count);
      blocks = omega (arith, l1.blocks, size_is, m.blocks, b.bound.same_count);
      hidden = omega (arith, l1.hidden, reserved.hidden, m.hidden, b.hidden);
      fits = λ n within all tail.
          let few1 : length b1 ≤ n.blocks = omega (arith, within.few_blocks, b.bound.same_count, m.longer, size_is) in
          let w3 = within_before n c.cores.new.self c.bind.new.self (omega (arith, b.bound.same_count)) (omega (arith, b.hidden)) within in
          let x1 = l1.fits n few1 tail in
          let at_head : head < n.blocks = omega (arith, reserved.number, within.few_blocks, b.bound.same_count, m.longer, size_is) in
          let x3 = m.fits n w3 x1.1 all at_head in
          let some_hidden : 1 ≤ n.hidden = omega (arith, within.searches) in
          let here = b.fits n some_hidden x3.1 in
          let y = subst (λ (old : List Block). Fitted n old b3) reserved.blocks.1 x3.0 in
          (fitted_then n x1.0 (fitted_bound n spare head reserved.number y b.bound.same_count b.bound.others here), at_head);
      small = λ size most some fits room small.
          let s1 = l1.small most (omega (arith, fits, room)) small in
          let s2 = reserved.small most (omega (arith, some, room)) s1 in
          let s3 = m.size size most some (omega (arith, some, to)) (omega (arith, room)) s2 in
          b.small most (omega (arith, some, room)) (omega (arith, room, s3.1)) s3.0;
      leads = λ exit begins all among.
          let works = m.works begins in
          let x = l1.leads exit all among in
          let y = added_one b1 b2 spare reserved.blocks.1 reserved.works x.added.all_stop in
          let f = m.leads (omega (arith, x.among, y.longer)) y.all_stop (omega (arith, reserved.number, size_is)) in
          let added = added_then x.added (loop_added b1 b2 b3 b4 head spare c.in_ok-first.first reserved.blocks.1 reserved.number reserved.works f.added (works_among (length b3) c.in_ok-first.first works) b.bound b.idle (λ r stops e. works_never b3 c.in_ok-first.first r works stops)) in
          record {
            added = added;
            among = omega (arith, reserved.number, size_is, m.longer, b.bound.same_count);
            leads = λ r lt stops.
                let own : r ≡ head = stops_works b4 head r (b.idle ∙ works_idle c.in_ok-first.first works) stops in
                absurd (omega (arith, own, lt, reserved.number, l1.more));
          };
    }

use Rattle.std.proofs.Common.{ℕ, drop, ◌≤◌, List, [], ◌∷◌, length, length-append, map, sym, ap, ◌∙◌, subst, arith}
use Rattle.redn_kernel.specs.declared.types.Kernel.{Kernel}
use Rattle.redn_kernel.specs.declared.types.Kernel.TheVariants as k
use Rattle.redn_kernel.specs.Program.{weight_of, weight_of_all}
use Rattle.redn_kernel.proofs.Cases.{weight_of_if, weight_of_loop, weight_of_repeat}
use Rattle.redn_graph.specs.declared.types.End.TheVariants as end
use Rattle.redn_graph.specs.declared.build.Tail.TheVariants.{To}
use Rattle.redn_kernel.specs.CoreRun.{cell_of}
use Rattle.redn_graph.specs.Words.{test_end}
use Rattle.redn_graph.specs.Code.{Compiles}
use Rattle.redn_graph.proofs.Ends.{reply_runs}
use Rattle.redn_graph.proofs.Building.{compiles_instr, compiles_break, compiles_endless}
use Rattle.redn_graph.proofs.Counting.{compiles_counted, compiles_never}
use Rattle.redn_graph.proofs.Statements.{ok_still, compiles_alone, compiles_test, grown_none, weight_positive, met_sound, unmet_sound, loop_sound, repeat_sound}
use Rattle.redn_graph.specs.Slots.{end_slots}
use Rattle.redn_graph.proofs.Slots.{to_slots, open_slots, test_slots}
use Rattle.std.proofs.Common.{◌<◌, refl}
use Rattle.std.proofs.lemmas.List.Elements.{All-nil}
use Rattle.redn_graph.specs.declared.types.Block.{Block}
use Rattle.redn_graph.specs.Words.{counts, counted}
use Rattle.redn_graph.specs.Fits.{FitsInstr, FitsCode, Fitted}
use Rattle.redn_graph.proofs.Fits.{fitted_none, fitted_then, fitted_bound, within_before, open_fits, alone_fits, test_fits, if_fits, loop_fits, repeat_fits, reply_fits}
use Rattle.redn_graph.proofs.Slots.{to_size, open_size}
use Rattle.std.proofs.Common.{◌≡◌}
use Rattle.std.proofs.Math.Seq.{drop-length}
use Rattle.redn_graph.specs.Growth.{IsSoundOne}
use Rattle.redn_graph.specs.Listed.{Listed}
use Rattle.redn_graph.proofs.Lists.{listed_none, listed_one, listed_as, listed_more, last_and_more, weight_at, sound_at}
use Rattle.redn_graph.proofs.CoreMade.{ok_six}
use Rattle.std.proofs.Common.{◌+◌}
use Rattle.redn_kernel.specs.Program.{Idles, idles_of, is_idle_body, breaks_idly}
use Rattle.redn_kernel.proofs.Cases.{idles_of_loop, idles_of_break}
use Rattle.redn_graph.proofs.Statements.{loop_not_idle, repeat_some}
use Rattle.redn_graph.proofs.Stopping.{added_none, added_one, added_then}
use Rattle.redn_graph.proofs.LeadingOn.{works_open, works_among, works_never, among_more, onward_works, onward_as, break_leads, endless_leads, round_added, false_true}
use Rattle.redn_graph.specs.Hidden.{repeats_in}
use Rattle.redn_graph.proofs.Repeats.{repeats_in_if, repeats_in_loop, repeats_in_repeat, no_repeats, none_in_break, none_in_reply}
use Rattle.redn_graph.proofs.build.Builder.+code.Goals as goal

pub branch-list-requires-2 : goal.branch-list-requires-2
branch-list-requires-2 t c =
    let grown = c.in_ok-met.ensures.grown in
    let more = c.in_ok-next.ensures in
    (omega arith, (record { searches = omega arith; cells = omega arith; blocks = omega arith }, c.requires.sound_too))

pub counted-bind-requires : goal.counted-bind-requires
counted-bind-requires t c =
    let grown = c.in_ok-first.ensures.grown in
    let reserved = c.in_ok-head.ensures in
    omega (arith, ap length reserved.blocks.1, length-append c.label.new.self.blocks (reserved.blocks.0 ∷ []))

pub endless-bind-requires : goal.endless-bind-requires
endless-bind-requires t c =
    let grown = c.in_ok-first.ensures.grown in
    let reserved = c.in_ok-head.ensures in
    omega (arith, ap length reserved.blocks.1, length-append c.label.new.self.blocks (reserved.blocks.0 ∷ []))

pub statement-branch-self-requires : goal.statement-branch-self-requires
statement-branch-self-requires t c =
    let whole = ap weight_of c.in-If.is ∙ weight_of_if _ _ _ _ _ in
    let met = ap weight_of_all c.as_slice.ensures in
    let unmet = ap weight_of_all c.as_slice-in-If.ensures in
    (omega arith, (record { searches = omega arith; cells = omega arith; blocks = omega arith }, (met_sound _ _ _ _ _ _ _ c.in-If.is c.as_slice.ensures c.requires.sound, unmet_sound _ _ _ _ _ _ _ c.in-If.is c.as_slice-in-If.ensures c.requires.sound)))

pub statement-endless-requires : goal.statement-endless-requires
statement-endless-requires t c =
    let whole = ap weight_of c.in-Loop.is ∙ weight_of_loop _ in
    let inner = ap weight_of_all c.as_slice-in-Loop.ensures in
    (omega arith, (record { searches = omega arith; cells = omega arith; blocks = omega arith }, loop_sound _ _ _ c.in-Loop.is c.as_slice-in-Loop.ensures c.requires.sound))

pub statement-counted-requires : goal.statement-counted-requires
statement-counted-requires t c =
    let whole = ap weight_of c.in-Repeat.is ∙ weight_of_repeat _ _ in
    let inner = ap weight_of_all c.as_slice-in-Repeat.ensures in
    (omega arith, (record { searches = omega arith; cells = omega arith; blocks = omega arith }, repeat_sound _ _ _ _ c.in-Repeat.is c.as_slice-in-Repeat.ensures c.requires.sound))

pub list-statement-requires : goal.list-statement-requires
list-statement-requires t c =
    let body = c.args.body.now in
    let loop = c.loop-i in
    let weight = weight_at body loop.i c.index-body-i.result c.loop-i-test.true loop.auto.i in
    let same = ap weight_of c.index-body-i.is in
    let grown = loop.invariant.grown in
    (omega (arith, weight, same), (record { searches = omega arith; cells = omega (arith, grown, weight, same); blocks = omega (arith, grown, weight, same) }, subst IsSoundOne (sym c.index-body-i.is) (sound_at body loop.i c.index-body-i.result c.loop-i-test.true loop.auto.i c.requires.sound)))

pub list-loop-i-init : goal.list-loop-i-init
list-loop-i-init t c =
    let a = c.args in
    subst (λ (list : List Kernel). Listed a.self.now a.self.now a.exit a.tail list a.tail) (sym (drop-length a.body.now)) (listed_none a.self.now a.exit a.tail)

pub list-loop-i-preserved : goal.list-loop-i-preserved
list-loop-i-preserved t c =
    let a = c.args in
    let loop = c.loop-i in
    let body = a.body.now in
    let all = listed_more c.index-body-i.result (drop loop.i body) loop.invariant c.in_ok-after.ensures in
    let same = ap (λ (first : Kernel). first ∷ drop loop.i body) c.index-body-i.is ∙ sym (last_and_more body loop.i c.index-body-i.result c.loop-i-test.true loop.auto.i) in
    subst (λ (list : List Kernel). Listed a.self.now c.statement.new.self a.exit a.tail list c.in_ok-after.after) same all

pub list-returns : goal.list-returns
list-returns t c =
    let a = c.args in
    let loop = c.loop-i in
    let first : loop.i ≡ 0 = omega (arith, c.loop-i-test.false) in
    subst (λ (i : ℕ). Listed a.self.now loop.self a.exit a.tail (drop i a.body.now) loop.after) first loop.invariant

pub statement-returns-in-If : goal.statement-returns-in-If
statement-returns-in-If t c =
    let a = c.args in
    let i = c.in-If in
    let is = i.is ∙ ap (λ (list : List Kernel). k.If i.wide i.left i.right list i.no) (sym c.as_slice.ensures) ∙ ap (k.If i.wide i.left i.right c.as_slice.result.now) (sym c.as_slice-in-If.ensures) in
    listed_as c.branch-self.result a.self.now c.branch-self.new.self a.exit a.tail a.statement.now _ is c.branch-self.ensures

pub statement-returns-in-Loop : goal.statement-returns-in-Loop
statement-returns-in-Loop t c =
    let a = c.args in
    listed_as c.endless.result a.self.now c.endless.new.self a.exit a.tail a.statement.now _ (c.in-Loop.is ∙ ap k.Loop (sym c.as_slice-in-Loop.ensures)) (ok_still c.endless.result _ _ (λ after listed. listed a.exit) c.endless.ensures)

pub statement-returns-in-Repeat : goal.statement-returns-in-Repeat
statement-returns-in-Repeat t c =
    let a = c.args in
    let i = c.in-Repeat in
    listed_as c.counted.result a.self.now c.counted.new.self a.exit a.tail a.statement.now _ (i.is ∙ ap (k.Repeat i.count) (sym c.as_slice-in-Repeat.ensures)) (ok_still c.counted.result _ _ (λ after listed. listed a.exit) c.counted.ensures)

pub statement-returns-in-Lookup : goal.statement-returns-in-Lookup
statement-returns-in-Lookup t c = ok_still c.search.result _ _ (λ after listed. listed c.args.exit) c.search.ensures

pub statement-returns-in-Walk : goal.statement-returns-in-Walk
statement-returns-in-Walk t c = ok_still c.search-in-Walk.result _ _ (λ after listed. listed c.args.exit) c.search-in-Walk.ensures

pub statement-returns-in-Break : goal.statement-returns-in-Break
statement-returns-in-Break t c =
    let a = c.args in
    let st = a.statement.now in
    let is = c.in-Break.is in
    let told = ap idles_of is ∙ idles_of_break in
    let none = ap repeats_in is ∙ none_in_break in
    listed_one st
    (subst (λ (u : Kernel). Compiles a.self.now.blocks a.self.now.blocks a.self.now.hidden a.exit (u ∷ []) a.tail (To a.exit)) (sym is) (compiles_break a.self.now.blocks a.self.now.hidden a.exit a.tail))
    (omega (arith, to_slots a.exit))
    (grown_none a.self.now (weight_of st))
    (λ sound. omega (arith, none))
    (λ n within there well tail. (fitted_none n a.self.now.blocks, there))
    (λ size most some fits room small. (small, omega (arith, some, to_size a.exit)))
    (λ sound. break_leads a.self.now.blocks a.exit a.tail (idles_of st).is_idle (idles_of st).is_break (ap (λ (x : Idles). x.is_break) told))

pub statement-returns-in_ok-words-in-Reply : goal.statement-returns-in_ok-words-in-Reply
statement-returns-in_ok-words-in-Reply t c =
    let a = c.args in
    let i = c.in-Reply in
    let st = a.statement.now in
    let made = ap end.Reply (c.in_ok-words-in-Reply.ensures ∙ ap (map cell_of) c.as_slice-in-Reply.ensures) in
    let none = ap repeats_in i.is ∙ none_in_reply _ in
    listed_one st
    (compiles_alone a.self.now.blocks a.self.now.hidden a.exit st _ _ _ a.tail c.open.result i.is made refl (λ all m. reply_runs all i.words m) c.open.ensures)
    (omega (arith, open_slots c.open.result _ _ c.open.ensures, weight_positive st))
    (grown_none a.self.now (weight_of st))
    (λ sound. omega (arith, none))
    (λ n within there well tail.
    let code = subst (FitsCode n []) (sym made) (record { instrs_fit = All-nil (FitsInstr n); end_fits = reply_fits n st i.words i.is well; full = tt }) in
    (fitted_none n a.self.now.blocks, open_fits n c.open.result [] _ c.open.ensures code))
    (λ size most some fits room small. (small, omega (arith, some, open_size c.open.result _ _ c.open.ensures)))
    (λ sound there all among. onward_works a.self.now.blocks a.self.now.blocks a.exit a.tail c.open.result _ _ (added_none a.self.now.blocks all) (works_open c.open.result [] _ c.open.ensures refl))

pub statement-returns-in_default : goal.statement-returns-in_default
statement-returns-in_default t c =
    let a = c.args in
    let d = c.in_default in
    let st = a.statement.now in
    let e = c.before-in_default.ensures in
    let none = no_repeats st d.not-If d.not-Loop d.not-Repeat in
    ok_six c.before-in_default.result _ _ _ _ _ _
    (λ after code few fits larger works. listed_one st
    (compiles_instr a.self.now.blocks a.self.now.hidden a.exit st c.plain.result a.tail after c.plain.ensures.does code)
    (omega (arith, few, weight_positive st))
    (grown_none a.self.now (weight_of st))
    (λ sound. omega (arith, none))
    (λ n within there well tail. (fitted_none n a.self.now.blocks, fits n (c.plain.ensures.fits n well) tail))
    (λ size most some least room small. (small, omega (arith, larger, least, weight_positive st)))
    (λ sound there all among. onward_works a.self.now.blocks a.self.now.blocks a.exit a.tail after _ _ (added_none a.self.now.blocks all) (works c.plain.ensures.works)))
    e.code e.slots e.fits e.size e.works

pub branch-returns : goal.branch-returns
branch-returns t c =
    let a = c.args in
    let st : Kernel = k.If a.wide a.left a.right a.yes.now a.no.now in
    let whole = weight_of_if a.wide a.left a.right a.yes.now a.no.now in
    let made = c.test.ensures ∙ ap (λ x. test_end a.wide x c.cell_for-2.result c.in_ok-yes.yes c.in_ok-no.no) c.cell_for.ensures ∙ ap (λ x. test_end a.wide (cell_of a.left) x c.in_ok-yes.yes c.in_ok-no.no) c.cell_for-2.ensures in
    let next = c.in_ok-next.ensures in
    let met = c.in_ok-met.ensures in
    let unmet = c.in_ok-unmet.ensures in
    let third = c.in_ok-yes.ensures in
    let fourth = c.in_ok-no.ensures in
    let first_grown = met.grown in
    let second_grown = unmet.grown in
    let to = to_slots c.in_ok-next.next in
    let opened = open_slots c.open.result _ _ c.open.ensures in
    let few = test_slots a.wide c.cell_for.result c.cell_for-2.result c.in_ok-yes.yes c.in_ok-no.no in
    listed_one st
    (compiles_test a.exit a.wide a.left a.right a.yes.now a.no.now a.tail c.in_ok-next.next c.in_ok-met.met c.in_ok-unmet.unmet c.in_ok-yes.yes c.in_ok-no.no c.test.result c.open.result
    (omega (arith, next.hidden)) (omega (arith, next.hidden, first_grown)) made c.open.ensures next.labels met.compiles unmet.compiles third.labels fourth.labels)
    (omega (arith, whole, to, opened, ap end_slots c.test.ensures, few, next.slots, met.slots, unmet.slots, third.slots, fourth.slots))
    (record {
      more = omega (arith, next.hidden, first_grown, second_grown, third.hidden, fourth.hidden);
      cells = omega (arith, whole, next.hidden, first_grown, second_grown, third.hidden, fourth.hidden);
      longer = omega (arith, next.more, first_grown, second_grown, third.more, fourth.more);
      blocks = omega (arith, whole, next.blocks, first_grown, second_grown, third.blocks, fourth.blocks);
    })
    (λ sound. omega (arith, repeats_in_if a.wide a.left a.right a.yes.now a.no.now, next.hidden, met.hidden c.requires.sound, unmet.hidden c.requires.sound_too, third.hidden, fourth.hidden))
    (λ n within there well tail.
    let h = if_fits n st a.wide a.left a.right a.yes.now a.no.now refl well in
    let few1 : length c.label.new.self.blocks ≤ n.blocks = omega (arith, within.few_blocks, first_grown, second_grown, third.more, fourth.more) in
    let w2 = within_before n c.list.new.self c.label-3.new.self (omega (arith, second_grown, third.more, fourth.more)) (omega (arith, second_grown, third.hidden, fourth.hidden)) within in
    let w3 = within_before n c.list-2.new.self c.label-3.new.self (omega (arith, third.more, fourth.more)) (omega (arith, third.hidden, fourth.hidden)) within in
    let few4 : length c.label-2.new.self.blocks ≤ n.blocks = omega (arith, within.few_blocks, fourth.more) in
    let x1 = next.fits n few1 tail in
    let x2 = met.fits n w2 there h.2 x1.1 in
    let x3 = unmet.fits n w3 there h.3 x1.1 in
    let x4 = third.fits n few4 x2.1 in
    let x5 = fourth.fits n within.few_blocks x3.1 in (
      fitted_then n x1.0 (fitted_then n x2.0 (fitted_then n x3.0 (fitted_then n x4.0 x5.0))),
      open_fits n c.open.result [] c.test.result c.open.ensures (test_fits n a.wide a.left a.right c.in_ok-yes.yes c.in_ok-no.no c.test.result made h.0 h.1 x4.1 x5.1),
    ))
    (λ size most some fits room small.
    let to = to_size c.in_ok-next.next in
    let s1 = next.small most (omega (arith, fits, room)) small in
    let s2 = met.size size most some (omega (arith, some, to)) (omega (arith, whole, room)) s1 in
    let s3 = unmet.size size most some (omega (arith, some, to)) (omega (arith, whole, room)) s2.0 in
    let s4 = third.small most (omega (arith, whole, room, s2.1)) s3.0 in
    let s5 = fourth.small most (omega (arith, whole, room, s3.1)) s4 in
    (s5, omega (arith, some, open_size c.open.result _ _ c.open.ensures, ap end_slots c.test.ensures, few)))
    (λ sound there all among.
    let x1 = next.leads a.exit all among in
    let x2 = met.leads c.requires.sound (omega (arith, there, x1.added.longer)) x1.added.all_stop x1.among in
    let x3 = unmet.leads c.requires.sound_too (omega (arith, there, x1.added.longer, x2.added.longer)) x2.added.all_stop (omega (arith, x1.among, x2.added.longer)) in
    let x4 = third.leads a.exit x3.added.all_stop (among_more _ _ c.in_ok-met.met x3.added.longer x2.among) in
    let x5 = fourth.leads a.exit x4.added.all_stop (among_more _ _ c.in_ok-unmet.unmet x4.added.longer x3.among) in
    onward_works a.self.now.blocks c.label-3.new.self.blocks a.exit a.tail c.open.result _ _ (added_then x1.added (added_then x2.added (added_then x3.added (added_then x4.added x5.added))))
    (works_open c.open.result [] c.test.result c.open.ensures refl))

pub endless-returns : goal.endless-returns
endless-returns t c exit =
    let a = c.args in
    let st : Kernel = k.Loop a.body.now in
    let whole = weight_of_loop a.body.now in
    let out = c.in_ok-out.ensures in
    let reserved = c.in_ok-head.ensures in
    let code = c.in_ok-first.ensures in
    let grown = code.grown in
    let bound = c.in_ok-bind.ensures.bound in
    let more = length-append c.label.new.self.blocks (reserved.blocks.0 ∷ []) in
    let size : length c.reserve.new.self.blocks ≡ length c.label.new.self.blocks + 1 = omega (arith, ap length reserved.blocks.1, more) in
    listed_one st
    (compiles_endless exit a.body.now a.tail c.in_ok-out.out c.in_ok-head.head reserved.blocks.0 c.in_ok-first.first (omega (arith, out.hidden, reserved.hidden)) reserved.blocks.1 reserved.number out.labels code.compiles bound)
    (omega (arith, whole, to_slots c.in_ok-head.head, out.slots, reserved.slots, code.slots, c.in_ok-bind.ensures.slots))
    (record {
      more = omega (arith, out.hidden, reserved.hidden, grown, c.in_ok-bind.ensures.hidden);
      cells = omega (arith, whole, out.hidden, reserved.hidden, grown, c.in_ok-bind.ensures.hidden);
      longer = omega (arith, out.more, size, grown, bound.same_count);
      blocks = omega (arith, whole, out.blocks, size, grown, bound.same_count);
    })
    (λ sound. omega (arith, repeats_in_loop a.body.now, out.hidden, reserved.hidden, code.hidden c.requires.sound, c.in_ok-bind.ensures.hidden))
    (λ n within there well tail.
    let few1 : length c.label.new.self.blocks ≤ n.blocks = omega (arith, within.few_blocks, bound.same_count, grown, size) in
    let w3 = within_before n c.list.new.self c.bind.new.self (omega (arith, bound.same_count)) (omega (arith, c.in_ok-bind.ensures.hidden)) within in
    let x1 = out.fits n few1 tail in
    let at_head : c.in_ok-head.head < n.blocks = omega (arith, reserved.number, within.few_blocks, bound.same_count, grown, size) in
    let x3 = code.fits n w3 x1.1 (loop_fits n st a.body.now refl well) at_head in
    let some_hidden : 1 ≤ n.hidden = omega (arith, within.searches) in
    let here = c.in_ok-bind.ensures.fits n some_hidden x3.1 in
    let y = subst (λ (old : List Block). Fitted n old c.list.new.self.blocks) reserved.blocks.1 x3.0 in
    (fitted_then n x1.0 (fitted_bound n reserved.blocks.0 c.in_ok-head.head reserved.number y bound.same_count bound.others here), at_head))
    (λ size most some fits room small.
    let to = to_size c.in_ok-head.head in
    let s1 = out.small most (omega (arith, fits, room)) small in
    let s2 = reserved.small most (omega (arith, some, room)) s1 in
    let s3 = code.size size most some (omega (arith, some, to)) (omega (arith, whole, room)) s2 in
    let s4 = c.in_ok-bind.ensures.small most (omega (arith, some, room)) (omega (arith, whole, room, s3.1)) s3.0 in
    (s4, omega (arith, some, to)))
    (λ sound there all among.
    let not_idle = loop_not_idle st a.body.now a.body.now refl refl sound in
    let x = out.leads exit all among in
    let y = added_one c.label.new.self.blocks c.reserve.new.self.blocks reserved.blocks.0 reserved.blocks.1 reserved.works x.added.all_stop in
    let f = code.leads c.requires.sound (omega (arith, x.among, y.longer)) y.all_stop (omega (arith, reserved.number, size)) in
    onward_as (λ e. ap (λ (x : Idles). x.is_idle) (idles_of_loop a.body.now) ∙ e) (λ e. false_true e)
    (endless_leads a.self.now.blocks c.label.new.self.blocks c.reserve.new.self.blocks c.list.new.self.blocks c.bind.new.self.blocks exit c.in_ok-out.out c.in_ok-head.head reserved.blocks.0 a.tail (To c.in_ok-head.head) c.in_ok-first.first (is_idle_body a.body.now) (breaks_idly a.body.now) x reserved.blocks.1 reserved.number reserved.works f (λ idle r stops. false_true (sym not_idle ∙ idle)) bound c.in_ok-bind.ensures.idle (omega (arith, reserved.number, size, f.added.longer, bound.same_count))))

pub counted-returns-then-count-eq0 : goal.counted-returns-then-count-eq0
counted-returns-then-count-eq0 t c exit =
    let a = c.args in
    let st : Kernel = k.Repeat a.count a.body.now in
    let whole = weight_of_repeat a.count a.body.now in
    let none = c.if-count-eq0.true in
    let out = c.in_ok-out.ensures in
    listed_one st
    (subst (λ (n : ℕ). Compiles a.self.now.blocks c.label.new.self.blocks a.self.now.hidden exit (k.Repeat n a.body.now ∷ []) a.tail (To c.in_ok-out.out)) (sym none)
    (compiles_never a.self.now.hidden exit a.body.now a.tail c.in_ok-out.out out.labels))
    (omega (arith, whole, to_slots c.in_ok-out.out, out.slots))
    (record { more = omega (arith, out.hidden); cells = omega (arith, out.hidden); longer = omega (arith, out.more); blocks = omega (arith, whole, out.blocks) })
    (λ sound. absurd (omega (arith, repeat_some st a.count a.body.now refl sound, none)))
    (λ n within there well tail. out.fits n within.few_blocks tail)
    (λ size most some fits room small. (out.small most (omega (arith, fits, room)) small, omega (arith, some, to_size c.in_ok-out.out)))
    (λ sound. absurd (omega (arith, repeat_some st a.count a.body.now refl sound, none)))

pub counted-returns : goal.counted-returns
counted-returns t c =
    let a = c.args in
    let st : Kernel = k.Repeat a.count a.body.now in
    let whole = weight_of_repeat a.count a.body.now in
    let out = c.in_ok-out.ensures in
    let reserved = c.in_ok-head.ensures in
    let code = c.in_ok-first.ensures in
    let grown = code.grown in
    let bound = c.in_ok-bind.ensures.bound in
    let more = length-append c.label.new.self.blocks (reserved.blocks.0 ∷ []) in
    let size : length c.reserve.new.self.blocks ≡ length c.label.new.self.blocks + 1 = omega (arith, ap length reserved.blocks.1, more) in
    let again = works_open c.in_ok-end.end _ _ c.in_ok-end.ensures refl in
    let e = c.before-2.ensures in
    ok_six c.before-2.result _ _ _ _ _ _
    (λ after precedes few before larger works exit. listed_one st
    (compiles_counted exit c.label.new.self.hidden a.count a.body.now a.tail c.in_ok-end.end after c.in_ok-out.out c.in_ok-head.head reserved.blocks.0 c.in_ok-first.first (omega arith) (omega arith) (omega arith) (omega arith)
    (omega arith) c.in_ok-head.ensures.blocks.1 c.in_ok-head.ensures.number
    c.in_ok-end.ensures out.labels code.compiles bound precedes)
    (omega (arith, whole, few, to_slots c.in_ok-head.head, open_slots c.in_ok-end.end _ _ c.in_ok-end.ensures, out.slots, reserved.slots, code.slots, c.in_ok-bind.ensures.slots))
    (record {
      more = omega (arith, out.hidden, reserved.hidden, grown, c.in_ok-bind.ensures.hidden);
      cells = omega (arith, whole, out.hidden, reserved.hidden, grown, c.in_ok-bind.ensures.hidden);
      longer = omega (arith, out.more, size, grown, bound.same_count);
      blocks = omega (arith, whole, out.blocks, size, grown, bound.same_count);
    })
    (λ sound. omega (arith, repeats_in_repeat a.count a.body.now, out.hidden, reserved.hidden, code.hidden c.requires.sound, c.in_ok-bind.ensures.hidden))
    (λ n within there well tail.
    let few1 : length c.label.new.self.blocks ≤ n.blocks = omega (arith, within.few_blocks, bound.same_count, grown, size) in
    let w3 = within_before n c.list.new.self c.bind.new.self (omega (arith, bound.same_count)) (omega (arith, c.in_ok-bind.ensures.hidden)) within in
    let x1 = out.fits n few1 tail in
    let at_head : c.in_ok-head.head < n.blocks = omega (arith, reserved.number, within.few_blocks, bound.same_count, grown, size) in
    let counter : c.label.new.self.hidden < n.hidden = omega (arith, within.few_hidden, grown, reserved.hidden, c.in_ok-bind.ensures.hidden) in
    let turn = counts c.label.new.self.hidden in
    let last = counted c.label.new.self.hidden a.count c.in_ok-out.out c.in_ok-head.head in
    let again = open_fits n c.in_ok-end.end (turn ∷ []) last c.in_ok-end.ensures (alone_fits n (turn ∷ []) turn last refl (counter, tt) (counter, tt, x1.1, at_head)) in
    let x3 = code.fits n w3 x1.1 (repeat_fits n st a.count a.body.now refl well) again in
    let some_hidden : 1 ≤ n.hidden = omega (arith, within.searches) in
    let here = c.in_ok-bind.ensures.fits n some_hidden x3.1 in
    let y = subst (λ (old : List Block). Fitted n old c.list.new.self.blocks) reserved.blocks.1 x3.0 in
    (fitted_then n x1.0 (fitted_bound n reserved.blocks.0 c.in_ok-head.head reserved.number y bound.same_count bound.others here), before n counter at_head))
    (λ size most some fits room small.
    let s1 = out.small most (omega (arith, fits, room)) small in
    let s2 = reserved.small most (omega (arith, some, room)) s1 in
    let s3 = code.size size most some (omega (arith, some, open_size c.in_ok-end.end _ _ c.in_ok-end.ensures)) (omega (arith, whole, room)) s2 in
    let s4 = c.in_ok-bind.ensures.small most (omega (arith, some, room)) (omega (arith, whole, room, s3.1)) s3.0 in
    (s4, omega (arith, some, larger, to_size c.in_ok-head.head)))
    (λ sound there all among.
    let x = out.leads exit all among in
    let y = added_one c.label.new.self.blocks c.reserve.new.self.blocks reserved.blocks.0 reserved.blocks.1 reserved.works x.added.all_stop in
    let f = code.leads c.requires.sound (omega (arith, x.among, y.longer)) y.all_stop (works_among _ c.in_ok-end.end again) in
    let added = round_added a.self.now.blocks c.label.new.self.blocks c.reserve.new.self.blocks c.list.new.self.blocks c.bind.new.self.blocks exit c.in_ok-out.out c.in_ok-head.head reserved.blocks.0 a.tail c.in_ok-end.end c.in_ok-first.first (is_idle_body a.body.now) (breaks_idly a.body.now) x reserved.blocks.1 reserved.number reserved.works f (λ idle r stops. works_never c.reserve.new.self.blocks c.in_ok-end.end r again stops) c.in_ok-bind.ensures.bound c.in_ok-bind.ensures.idle in
    onward_works a.self.now.blocks c.bind.new.self.blocks exit a.tail after _ _ added (works refl)))
    e.code e.slots e.fits e.size e.works

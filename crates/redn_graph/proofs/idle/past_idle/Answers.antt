use Rattle.std.proofs.Common.{◌≡◌, length, refl, sym, ap, ◌∙◌}
use Rattle.std.proofs.lemmas.Option.{slice_get_read}
use Rattle.std.proofs.Common.{Some, None}
use Rattle.redn_graph.specs.Idle.{idle_at, idle_block}
use Rattle.redn_graph.proofs.Jumping.{idle_there, jumps_more, jumps_done}
use Rattle.redn_graph.proofs.idle.past_idle.Goals as goal

pub returns-in-None : goal.returns-in-None
returns-in-None c =
    let blocks = c.args.blocks.now in
    let loop = c.loop-i in
    let there = slice_get_read blocks (length blocks) loop.at c.index-blocks-at.result refl loop.invariant.there c.index-blocks-at.is in
    let none : idle_at blocks loop.at ≡ None = ap idle_block there ∙ sym c.idle_target.ensures ∙ c.in-None.is in
    jumps_done blocks loop._i c.args.from loop.at loop.auto._i-end loop.invariant.is none

pub loop-i-preserved : goal.loop-i-preserved
loop-i-preserved c =
    let blocks = c.args.blocks.now in
    let loop = c.loop-i in
    let there = slice_get_read blocks (length blocks) loop.at c.index-blocks-at.result refl loop.invariant.there c.index-blocks-at.is in
    let leads : idle_at blocks loop.at ≡ Some c.in-Some.to = ap idle_block there ∙ sym c.idle_target.ensures ∙ c.in-Some.is in
    record { there = idle_there blocks loop.at c.in-Some.to c.requires.each leads; is = jumps_more blocks loop._i c.args.from loop.at c.in-Some.to loop.invariant.is leads }

use Rattle.std.proofs.Common.{◌≡◌, List, [], ◌+◌, map, ap, subst, ◌∙◌, arith}
use Rattle.std.proofs.lemmas.List.{drop_all}
use Rattle.redn_words.specs.declared.types.QueueRow.{QueueRow}
use Rattle.redn_image.specs.Rules.{queue_numbers}
use Rattle.redn_disasm.specs.Assembly.{Filled, Place, all_places}
use Rattle.redn_disasm.specs.Going.{GoesOn}
use Rattle.redn_disasm.proofs.Words.{places_left, ring_goes, ring_refuses}
use Rattle.redn_disasm.proofs.filling.read_slots.Goals as goal

pub returns-in-Err-clause-refused : goal.returns-in-Err-clause-refused
returns-in-Err-clause-refused c = λ n. ring_refuses c.args.first _ c.args.text.now c.loop-k.left.line c.args.rows.now c.loop-k.k _ n c.loop-k.memory c.loop-k.left.text.now c.in-Err.fault c.loop-k-test.true (c.loop-k.invariant.goes n) (c.in-Err.ensures.refused n (places_left c.args.rows.now (c.loop-k.k + 1)))

pub loop-k-preserved : goal.loop-k-preserved
loop-k-preserved c = record {
  low = let a = c.in-Ok.ensures.low in let b = c.loop-k.invariant.low in omega arith;
  size = let a = c.read_ring.auto.memory in a ∙ c.loop-k.invariant.size;
  goes = λ n. ring_goes c.args.first _ c.args.text.now c.loop-k.left.line c.args.rows.now c.loop-k.k _ n c.loop-k.memory c.loop-k.left.text.now _ _ _ c.loop-k-test.true (c.loop-k.invariant.goes n) (c.in-Ok.ensures.read n (places_left c.args.rows.now (c.loop-k.k + 1)));
}

pub returns-clause-read : goal.returns-clause-read
returns-clause-read c = λ n.
    let none : places_left c.args.rows.now c.loop-k.k ≡ [] = ap (λ (l : List QueueRow). all_places c.loop-k.k (map queue_numbers l)) (drop_all c.loop-k.k c.args.rows.now c.loop-k-test.false) in
    subst (λ (l : List Place). GoesOn c.args.first (Filled n (places_left c.args.rows.now 0) c.args.memory.now) c.args.text.now c.loop-k.left.line (Filled n l c.loop-k.memory) c.loop-k.left.text.now) none (c.loop-k.invariant.goes n)

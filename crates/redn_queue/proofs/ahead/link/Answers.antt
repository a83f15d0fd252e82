use Rattle.std.proofs.Common.{◌≡◌, ℕ, ◌∷◌, [], length, max, arith, ◌∙◌, ap, subst}
use Rattle.std.proofs.lemmas.List.{length-append}
use Rattle.redn_queue.specs.Covers.{Covers}
use Rattle.redn_queue.proofs.Covers.{covers_push}
use Rattle.redn_queue.proofs.ahead.link.Goals as goal

pub push_back_reserved-requires : goal.push_back_reserved-requires
push_back_reserved-requires c = omega (arith, c.loop-index.invariant.long, c.loop-index.invariant.capacity, c.requires, c.loop-index.gaps.ok)

pub loop-index-preserved : goal.loop-index-preserved
loop-index-preserved c =
    let inv = c.loop-index.invariant in
    record {
      covers = λ test low le h. rw c.push_back_reserved.ensures.items (covers_push test low c.loop-index.index c.loop-index.gaps.items (inv.covers test low le h) (omega (arith, le)));
      long = omega (arith, inv.long, ap length c.push_back_reserved.ensures.items, length-append c.loop-index.gaps.items (c.loop-index.index ∷ []));
      within = omega (arith, inv.within);
      capacity = c.push_back_reserved.ensures.capacity ∙ inv.capacity;
    }

pub returns-clause-covers : goal.returns-clause-covers
returns-clause-covers c = λ test low le h.
    let end : c.loop-index.index ≡ max c.args.from c.args.to = omega (arith, c.loop-index.auto.index, c.loop-index.invariant.within) in
    subst (λ (n : ℕ). Covers test low n c.loop-index.gaps.items) end (c.loop-index.invariant.covers test low le h)

use Rattle.std.proofs.Common.{◌≡◌, ◌≤◌, ℕ, length, set, sym, ap, subst, arith}
use Rattle.std.specs.Prelude.{slice_index}
use Rattle.std.proofs.lemmas.Grind.{get_or_default_zero}
use Rattle.std.specs.Vec.{with_item}
use Rattle.redn_graph.specs.declared.reach.Found.{Found}
use Rattle.redn_graph.specs.Finding.{Numbered}
use Rattle.redn_graph.proofs.Finding.{found_new, numbered_new}
use Rattle.redn_graph.proofs.reach.Found.number.Goals as goal

pub returns-clause-found : goal.returns-clause-found
returns-clause-found c =
    let f = c.args.self.now in
    let fresh : length f.numbers.items ≤ slice_index f.numbers.items c.args.block = omega (arith, c.if-known-len.false, c.index-known.ensures, c.len.ensures, get_or_default_zero f.numbers.items c.args.block c.index-known.result.now c.requires.there) in
    let next : c.len-number.result ≡ length f.order.items = omega (arith, c.len-number.ensures) in
    found_new f _ c.args.block 0 c.requires.found c.requires.there fresh (ap (λ (v : ℕ). set f.numbers.items c.args.block v) next) c.in_ok-push.ensures.items

pub returns-clause-numbered : goal.returns-clause-numbered
returns-clause-numbered c =
    let f = c.args.self.now in
    let fresh : length f.numbers.items ≤ slice_index f.numbers.items c.args.block = omega (arith, c.if-known-len.false, c.index-known.ensures, c.len.ensures, get_or_default_zero f.numbers.items c.args.block c.index-known.result.now c.requires.there) in
    let next : c.len-number.result ≡ length f.order.items = omega (arith, c.len-number.ensures) in
    let g : Found = record { numbers = with_item f.numbers c.args.block c.len-number.result; order = c.push.new.self } in
    subst (λ (l : ℕ). Numbered f g c.args.block l) (sym next)
    (numbered_new f g c.args.block 0 c.requires.found c.requires.there fresh (ap (λ (v : ℕ). set f.numbers.items c.args.block v) next) c.in_ok-push.ensures.items)

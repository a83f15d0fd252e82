use Rattle.std.proofs.Common.{◌^◌, ◌<◌, decimal, arith}
use Rattle.redn_text.proofs.Fields.{pair_split, same_split}
use Rattle.redn_sched.proofs.line.read_pair.Goals as goal

pub returns-in_default-clause-none : goal.returns-in_default-clause-none
returns-in_default-clause-none c =
    λ q i small fits e. let wide : q < 2 ^ 64 = omega arith in c.in_default.ensures.none (decimal q) (decimal i) (pair_split q i c.args.text.now wide e)

pub returns-in_default-read_small-clause-none : goal.returns-in_default-read_small-clause-none
returns-in_default-read_small-clause-none c =
    λ q i small fits e.
    let wide : q < 2 ^ 64 = omega arith in
    let same = same_split 32 c.args.text.now c.in-Some.queue.now c.in-Some.index.now (decimal q) (decimal i) c.in-Some.ensures.found (pair_split q i c.args.text.now wide e) in
    c.in_default-read_small.ensures.none q small same.0

pub returns-in_default-read_number-clause-none : goal.returns-in_default-read_number-clause-none
returns-in_default-read_number-clause-none c =
    λ q i small fits e.
    let wide : q < 2 ^ 64 = omega arith in
    let same = same_split 32 c.args.text.now c.in-Some.queue.now c.in-Some.index.now (decimal q) (decimal i) c.in-Some.ensures.found (pair_split q i c.args.text.now wide e) in
    c.in_default-read_number.ensures.none i fits same.1

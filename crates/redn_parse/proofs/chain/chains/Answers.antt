use Rattle.std.proofs.Common.{arith, subst, sym, refl, inr}
use Rattle.redn_syntax.specs.Grammar as g
use Rattle.redn_syntax.specs.Grammar.{SamePlace}
use Rattle.redn_parse.specs.Reads as reads
use Rattle.redn_parse.proofs.Braces as braces
use Rattle.redn_parse.proofs.Fronts as fronts
use Rattle.redn_parse.proofs.Passed.{read, blames, unread_deep}
use Rattle.redn_parse.proofs.Lists.{each_more}
use Rattle.redn_parse.proofs.Chains.{chains_failed, chains_goes, more_near, some_read, empty_list}
use Rattle.redn_parse.proofs.chain.chains.Goals as goal

pub returns-in_err-chain : goal.returns-in_err-chain
returns-in_err-chain c =
    let xs = c.loop-chains.chains in
    unread_deep reads.some_chains (g.chain_within SamePlace) 64 64 _ _ c.from_residual.ensures.1 c.in_err-chain.ensures.reads
    (read (fronts.each (g.chain_within SamePlace 64) (fronts.chain 64) xs) c.loop-chains.invariant.reads)
    (chains_goes xs)
    (blames (λ b m near h none. chains_failed xs b m h (more_near _ m near.0 c.loop-chains.invariant.more) none))
    (braces.chains xs)

pub returns-then-left-eq0 : goal.returns-then-left-eq0
returns-then-left-eq0 c =
    let all = each_more (g.chain_within SamePlace 64) _ _ _ _ _ c.loop-chains.invariant.reads c.in_ok-chain.ensures.reads in
    let none = empty_list c.chain.new.reader (omega arith) in
    subst (λ cs. reads.chains 64 cs c.args.reader.now c.chain.new.reader) (sym c.in_ok-add.ensures.ok) (_, some_read 64 c.loop-chains.chains c.in_ok-chain.chain _ _ all, (refl, none))

pub loop-chains-preserved : goal.loop-chains-preserved
loop-chains-preserved c = record {
  reads = subst (λ cs. g.each (g.chain_within SamePlace 64) cs c.args.reader.now c.chain.new.reader) (sym c.in_ok-add.ensures.ok) (each_more (g.chain_within SamePlace 64) _ _ _ _ _ c.loop-chains.invariant.reads c.in_ok-chain.ensures.reads);
  more = inr (omega arith);
}

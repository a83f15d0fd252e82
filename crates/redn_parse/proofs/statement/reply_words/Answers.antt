use Rattle.std.proofs.Common.{arith, ◌≡◌, true, false, refl, subst, sym}
use Rattle.redn_syntax.specs.declared.token.TokenKind.TheVariants as k
use Rattle.redn_syntax.specs.Grammar as g
use Rattle.redn_syntax.specs.Grammar.{SamePlace, ◌>>◌}
use Rattle.redn_parse.specs.Reads.{with_mark, more_or}
use Rattle.redn_parse.proofs.Samples as a
use Rattle.redn_parse.proofs.Fronts as fronts
use Rattle.redn_parse.proofs.Passed.{unread, read, blames}
use Rattle.redn_parse.proofs.Lists.{commas, each_more, ended_listed, listed_blocked, listed_goes, one_word}
use Rattle.redn_parse.proofs.statement.reply_words.Goals as goal

pub returns-in_err-word-clause-reads : goal.returns-in_err-word-clause-reads
returns-in_err-word-clause-reads c =
    let words = c.loop-words.words in
    unread _ _ c.from_residual.ensures.1 c.in_err-word.ensures.reads (read (fronts.commas (g.value SamePlace) fronts.valued words) c.loop-words.invariant.reads)
    (listed_goes (g.value SamePlace) k.Semicolon a.a_value a.number (λ tail. (0, refl, refl)) words)
    (blames (λ b m near h none. listed_blocked (g.value SamePlace) k.Semicolon one_word words b m h none))

pub returns-then-not-more-clause-reads : goal.returns-then-not-more-clause-reads
returns-then-not-more-clause-reads c =
    let h = c.in_ok-word.ensures.reads in
    let last : c.in_ok-word.more ≡ false = cc in
    let close = subst (λ more. more_or k.Semicolon more h.0 c.reply_word.new.reader) last h.2 in
    subst (λ xs. with_mark (g.listed (g.value SamePlace)) k.Semicolon xs c.args.reader.now c.reply_word.new.reader) (sym c.in_ok-add.ensures.ok) (h.0, ended_listed (g.value SamePlace) _ _ _ _ _ c.loop-words.invariant.reads h.1, close)

pub loop-words-preserved : goal.loop-words-preserved
loop-words-preserved c =
    let h = c.in_ok-word.ensures.reads in
    let goes_on : c.in_ok-word.more ≡ true = cc in
    let comma = subst (λ more. more_or k.Semicolon more h.0 c.reply_word.new.reader) goes_on h.2 in
    record {
      reads = subst (λ xs. commas (g.value SamePlace) xs c.args.reader.now c.reply_word.new.reader) (sym c.in_ok-add.ensures.ok) (each_more (λ x. g.value SamePlace x >> g.mark k.Comma) _ _ _ _ _ c.loop-words.invariant.reads (h.0, h.1, comma));
      fewer = omega (arith, c.in_ok-word.ensures.moves);
    }

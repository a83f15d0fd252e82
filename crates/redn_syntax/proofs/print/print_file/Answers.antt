use Rattle.std.proofs.Common.{◌≡◌, length, subst, ◌∙◌, sym, rules}
use Rattle.redn_syntax.specs.Canonical.{spaced, file, ReadsBack}
use Rattle.redn_syntax.proofs.ReadBack.{finished, reads_back}
use Rattle.redn_syntax.proofs.print.print_file.Goals as goal

-- a newline takes the place of the last space
pub returns-clause-text : goal.returns-clause-text
returns-clause-text c =
    let written : c.into_bytes-text.result.items ≡ spaced (file c.args.f.now) = search (rules, c.in_ok-put_file.ensures, c.new-out.ensures.bytes, c.into_bytes-text.ensures.value) in
    let whole : c.len-last.result ≡ length c.into_bytes-text.result.items = c.len-last.ensures ∙ c.into_bytes-text.result.ok.0 in
    finished c.args.f.now c.requires.0 _ _ c.requires.1 written whole

pub returns-clause-read_back : goal.returns-clause-read_back
returns-clause-read_back c = subst (ReadsBack c.args.f.now) (sym (returns-clause-text c)) (reads_back c.requires.0 c.args.f.now c.requires.1)

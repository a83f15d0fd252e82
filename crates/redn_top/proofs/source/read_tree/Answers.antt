-- What the parser says of the text's only tokens.
use Rattle.std.proofs.Common.{◌≡◌, ℕ, List, Err, sym, ap, subst, ◌∙◌}
use Rattle.redn_syntax.specs.declared.tree.File.{File}
use Rattle.redn_syntax.specs.Grammar.{HasTreeWithin, IsWritable}
use Rattle.redn_top.specs.Sources.{token_place}
use Rattle.redn_parse.specs.Answers.{IsUnexpected, IsTooDeep}
use Rattle.redn_top.proofs.SourceFaults.{no_file, too_deep, is_writable, the_tree, deep_is_no_want}
use Rattle.redn_top.proofs.source.read_tree.Goals as goal

pub returns-in-Ok-clause-writable : goal.returns-in-Ok-clause-writable
returns-in-Ok-clause-writable c =
    let t = c.in_ok-tokens.ensures in
    let tree = subst (λ (text : List ℕ). HasTreeWithin 64 text c.in_ok-tokens.tokens.list.items c.in-Ok.f) t.text c.in-Ok.ensures.tree in
    let w : IsWritable c.in-Ok.f = is_writable c.args.text.now c.in_ok-tokens.tokens.list.items t.tokens t.only c.in-Ok.f tree in
    w

pub returns-in-Ok-clause-only : goal.returns-in-Ok-clause-only
returns-in-Ok-clause-only c =
    let t = c.in_ok-tokens.ensures in
    let same : (g : File) → HasTreeWithin 64 c.args.text.now c.in_ok-tokens.tokens.list.items g → c.in-Ok.f ≡ g = λ g h. c.in-Ok.ensures.has_tree g (subst (λ (text : List ℕ). HasTreeWithin 64 text c.in_ok-tokens.tokens.list.items g) (sym t.text) h) in
    the_tree c.args.text.now c.in_ok-tokens.tokens.list.items t.tokens t.only c.in-Ok.f same

pub returns-in-Err-Unexpected-clause-refused : goal.returns-in-Err-Unexpected-clause-refused
returns-in-Err-Unexpected-clause-refused c =
    let t = c.in_ok-tokens.ensures in
    let tokens = c.in_ok-tokens.tokens.list.items in
    let h = c.in-Err-Unexpected.ensures.unexpected c.in-Err-Unexpected.token (ap Err c.in-Err-Unexpected.field-0-is) in
    let here = subst (λ (text : List ℕ). IsUnexpected text tokens c.in-Err-Unexpected.token) t.text h in
    let place = c.place_of.ensures ∙ ap (λ (text : List ℕ). token_place text tokens c.in-Err-Unexpected.token) t.text in
    no_file c.args.text.now tokens t.tokens t.only c.in-Err-Unexpected.token c.place_of.result place here

pub returns-in-Err-Deep-clause-refused : goal.returns-in-Err-Deep-clause-refused
returns-in-Err-Deep-clause-refused c =
    let t = c.in_ok-tokens.ensures in
    let tokens = c.in_ok-tokens.tokens.list.items in
    let h = c.in-Err-Deep.ensures.deep c.in-Err-Deep.at (ap Err c.in-Err-Deep.field-0-is) in
    let none : (f : File) → ¬ HasTreeWithin 64 c.args.text.now tokens f = λ f tree.
    deep_is_no_want c.in-Err-Deep.at (sym c.in-Err-Deep.field-0-is ∙ c.in-Err-Deep.ensures.has_tree f (subst (λ (text : List ℕ). HasTreeWithin 64 text tokens f) (sym t.text) tree)) in
    let deep = subst (λ (text : List ℕ). IsTooDeep text tokens c.in-Err-Deep.at) t.text h in
    too_deep c.args.text.now tokens t.tokens t.only c.in-Err-Deep.at c.from.result c.from.ensures deep none

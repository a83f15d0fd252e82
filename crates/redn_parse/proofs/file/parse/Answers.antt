use Rattle.std.proofs.Common.{arith, ◌≡◌, ◌-◌, ℕ, length, inl, sym, refl, subst, ap}
use Rattle.redn_syntax.specs.declared.tree.File.{File}
use Rattle.redn_syntax.specs.Lexemes.{lexemes_of}
use Rattle.redn_syntax.specs.Grammar as g
use Rattle.redn_syntax.specs.Grammar.{SamePlace, ◌>>◌}
use Rattle.redn_syntax.proofs.Aside.{writable_within}
use Rattle.redn_parse.specs.declared.fault.ParseFault.TheVariants.{Unexpected, Deep}
use Rattle.redn_parse.specs.Reads as reads
use Rattle.redn_parse.specs.Reads.{IsStuckWithin, IsBlocked}
use Rattle.redn_parse.specs.Places.{IsSameAside}
use Rattle.redn_parse.specs.Answers.{IsUnexpected, IsTooDeep}
use Rattle.redn_parse.proofs.Braces.{shallow}
use Rattle.redn_parse.proofs.Parsed.{opens_same, tree_of, same_tree, canonical_tree}
use Rattle.redn_parse.proofs.Viable.{unexpected, number_of, too_deep, one_unexpected, not_both}
use Rattle.redn_parse.proofs.file.parse.Goals as goal

-- ---- a tree

pub returns-in-Ok-clause-writable : goal.returns-in-Ok-clause-writable
returns-in-Ok-clause-writable c =
    let text = c.args.tokens.now.text.items in
    let list = c.args.tokens.now.list.items in
    let tree = tree_of text list c.in-Ok.f c.file.new.reader (subst (λ l. reads.file 64 c.in-Ok.f l c.file.new.reader) c.new-reader.ensures c.in-Ok.ensures) in
    writable_within 64 text list c.in-Ok.f c.requires tree

pub returns-in-Ok-clause-has_tree : goal.returns-in-Ok-clause-has_tree
returns-in-Ok-clause-has_tree c =
    let text = c.args.tokens.now.text.items in
    let list = c.args.tokens.now.list.items in
    let tree = tree_of text list c.in-Ok.f c.file.new.reader (subst (λ l. reads.file 64 c.in-Ok.f l c.file.new.reader) c.new-reader.ensures c.in-Ok.ensures) in
    λ f h. same_tree text list c.in-Ok.f f tree (64, h)

pub returns-in-Ok-clause-has_unexpected : goal.returns-in-Ok-clause-has_unexpected
returns-in-Ok-clause-has_unexpected c =
    let text = c.args.tokens.now.text.items in
    let list = c.args.tokens.now.list.items in
    let tree = tree_of text list c.in-Ok.f c.file.new.reader (subst (λ l. reads.file 64 c.in-Ok.f l c.file.new.reader) c.new-reader.ensures c.in-Ok.ensures) in
    λ token u. u.none c.in-Ok.f (64, tree)

pub returns-in-Ok-clause-has_deep : goal.returns-in-Ok-clause-has_deep
returns-in-Ok-clause-has_deep c =
    let text = c.args.tokens.now.text.items in
    let list = c.args.tokens.now.list.items in
    let tree = tree_of text list c.in-Ok.f c.file.new.reader (subst (λ l. reads.file 64 c.in-Ok.f l c.file.new.reader) c.new-reader.ensures c.in-Ok.ensures) in
    λ at deep. shallow c.in-Ok.f (lexemes_of text list) at tree deep.opens

pub returns-in-Ok-clause-canonical : goal.returns-in-Ok-clause-canonical
returns-in-Ok-clause-canonical c =
    let text = c.args.tokens.now.text.items in
    let list = c.args.tokens.now.list.items in
    let tree = tree_of text list c.in-Ok.f c.file.new.reader (subst (λ l. reads.file 64 c.in-Ok.f l c.file.new.reader) c.new-reader.ensures c.in-Ok.ensures) in
    λ f writable e.
    let own = canonical_tree text list f c.requires writable e in
    subst (λ y. IsSameAside y f) (sym (same_tree text list c.in-Ok.f own.0 tree (64, own.1))) own.2

-- ---- no tree

pub returns-in-Err-Unexpected-clause-unexpected : goal.returns-in-Err-Unexpected-clause-unexpected
returns-in-Err-Unexpected-clause-unexpected c =
    let text = c.args.tokens.now.text.items in
    let list = c.args.tokens.now.list.items in
    let stuck = subst (λ l. IsStuckWithin (g.file_within SamePlace) (λ (p : ℕ × File). reads.file p.0 p.1 >> g.nothing) 64 0 l c.file.new.reader) c.new-reader.ensures (c.in-Err-Unexpected.ensures.none c.in-Err-Unexpected.field-0-is) in
    let token = length list - length c.file.new.reader in
    let there = unexpected text list c.file.new.reader token stuck (number_of text list c.file.new.reader token stuck refl) in
    λ number e.
    let same : c.saturating_sub-read.result ≡ number = cc in
    let is : token ≡ number = omega (arith, c.args.tokens.now.list.ok.0, same) in
    subst (IsUnexpected text list) is there

pub returns-in-Err-Unexpected-clause-has_unexpected : goal.returns-in-Err-Unexpected-clause-has_unexpected
returns-in-Err-Unexpected-clause-has_unexpected c =
    let text = c.args.tokens.now.text.items in
    let list = c.args.tokens.now.list.items in
    let stuck = subst (λ l. IsStuckWithin (g.file_within SamePlace) (λ (p : ℕ × File). reads.file p.0 p.1 >> g.nothing) 64 0 l c.file.new.reader) c.new-reader.ensures (c.in-Err-Unexpected.ensures.none c.in-Err-Unexpected.field-0-is) in
    let token = length list - length c.file.new.reader in
    let there = unexpected text list c.file.new.reader token stuck (number_of text list c.file.new.reader token stuck refl) in
    λ number u.
    let is : c.saturating_sub-read.result ≡ number = omega (arith, c.args.tokens.now.list.ok.0, one_unexpected text list token number there u) in
    inl (ap (λ n. Unexpected n) is)

pub returns-in-Err-Unexpected-clause-has_deep : goal.returns-in-Err-Unexpected-clause-has_deep
returns-in-Err-Unexpected-clause-has_deep c =
    let text = c.args.tokens.now.text.items in
    let list = c.args.tokens.now.list.items in
    let stuck = subst (λ l. IsStuckWithin (g.file_within SamePlace) (λ (p : ℕ × File). reads.file p.0 p.1 >> g.nothing) 64 0 l c.file.new.reader) c.new-reader.ensures (c.in-Err-Unexpected.ensures.none c.in-Err-Unexpected.field-0-is) in
    let token = length list - length c.file.new.reader in
    let there = unexpected text list c.file.new.reader token stuck (number_of text list c.file.new.reader token stuck refl) in
    λ at deep. absurd (not_both text list token at there deep)

pub returns-in-Err-Unexpected-clause-has_tree : goal.returns-in-Err-Unexpected-clause-has_tree
returns-in-Err-Unexpected-clause-has_tree c =
    let text = c.args.tokens.now.text.items in
    let list = c.args.tokens.now.list.items in
    let stuck = subst (λ l. IsStuckWithin (g.file_within SamePlace) (λ (p : ℕ × File). reads.file p.0 p.1 >> g.nothing) 64 0 l c.file.new.reader) c.new-reader.ensures (c.in-Err-Unexpected.ensures.none c.in-Err-Unexpected.field-0-is) in
    let token = length list - length c.file.new.reader in
    let there = unexpected text list c.file.new.reader token stuck (number_of text list c.file.new.reader token stuck refl) in
    λ f h. absurd (there.none f (64, h))

pub returns-in-Err-Unexpected-clause-canonical : goal.returns-in-Err-Unexpected-clause-canonical
returns-in-Err-Unexpected-clause-canonical c =
    let text = c.args.tokens.now.text.items in
    let list = c.args.tokens.now.list.items in
    let stuck = subst (λ l. IsStuckWithin (g.file_within SamePlace) (λ (p : ℕ × File). reads.file p.0 p.1 >> g.nothing) 64 0 l c.file.new.reader) c.new-reader.ensures (c.in-Err-Unexpected.ensures.none c.in-Err-Unexpected.field-0-is) in
    let token = length list - length c.file.new.reader in
    let there = unexpected text list c.file.new.reader token stuck (number_of text list c.file.new.reader token stuck refl) in
    λ f writable e.
    let own = canonical_tree text list f c.requires writable e in
    absurd (there.none own.0 (64, own.1))

-- ---- a block too deep

pub returns-in-Err-Deep-clause-deep : goal.returns-in-Err-Deep-clause-deep
returns-in-Err-Deep-clause-deep c =
    let text = c.args.tokens.now.text.items in
    let list = c.args.tokens.now.list.items in
    let blocked = subst (λ l. IsBlocked (g.file_within SamePlace) 64 0 l c.in-Err-Deep.at) c.new-reader.ensures (c.in-Err-Deep.ensures.deep c.in-Err-Deep.at c.in-Err-Deep.field-0-is) in
    let deep = too_deep text list c.in-Err-Deep.at c.requires blocked in
    λ at e.
    let same : c.in-Err-Deep.at ≡ at = cc in
    subst (IsTooDeep text list) same deep

pub returns-in-Err-Deep-clause-has_deep : goal.returns-in-Err-Deep-clause-has_deep
returns-in-Err-Deep-clause-has_deep c =
    let text = c.args.tokens.now.text.items in
    let list = c.args.tokens.now.list.items in
    let blocked = subst (λ l. IsBlocked (g.file_within SamePlace) 64 0 l c.in-Err-Deep.at) c.new-reader.ensures (c.in-Err-Deep.ensures.deep c.in-Err-Deep.at c.in-Err-Deep.field-0-is) in
    let deep = too_deep text list c.in-Err-Deep.at c.requires blocked in
    λ at other. inl (ap (λ p. Deep p) (opens_same 0 c.in-Err-Deep.at at (lexemes_of text list) deep.opens other.opens))

pub returns-in-Err-Deep-clause-has_unexpected : goal.returns-in-Err-Deep-clause-has_unexpected
returns-in-Err-Deep-clause-has_unexpected c =
    let text = c.args.tokens.now.text.items in
    let list = c.args.tokens.now.list.items in
    let blocked = subst (λ l. IsBlocked (g.file_within SamePlace) 64 0 l c.in-Err-Deep.at) c.new-reader.ensures (c.in-Err-Deep.ensures.deep c.in-Err-Deep.at c.in-Err-Deep.field-0-is) in
    let deep = too_deep text list c.in-Err-Deep.at c.requires blocked in
    λ token u. absurd (not_both text list token c.in-Err-Deep.at u deep)

pub returns-in-Err-Deep-clause-has_tree : goal.returns-in-Err-Deep-clause-has_tree
returns-in-Err-Deep-clause-has_tree c =
    let text = c.args.tokens.now.text.items in
    let list = c.args.tokens.now.list.items in
    let blocked = subst (λ l. IsBlocked (g.file_within SamePlace) 64 0 l c.in-Err-Deep.at) c.new-reader.ensures (c.in-Err-Deep.ensures.deep c.in-Err-Deep.at c.in-Err-Deep.field-0-is) in
    let deep = too_deep text list c.in-Err-Deep.at c.requires blocked in
    λ f h. absurd (shallow f (lexemes_of text list) c.in-Err-Deep.at h deep.opens)

pub returns-in-Err-Deep-clause-canonical : goal.returns-in-Err-Deep-clause-canonical
returns-in-Err-Deep-clause-canonical c =
    let text = c.args.tokens.now.text.items in
    let list = c.args.tokens.now.list.items in
    let blocked = subst (λ l. IsBlocked (g.file_within SamePlace) 64 0 l c.in-Err-Deep.at) c.new-reader.ensures (c.in-Err-Deep.ensures.deep c.in-Err-Deep.at c.in-Err-Deep.field-0-is) in
    let deep = too_deep text list c.in-Err-Deep.at c.requires blocked in
    λ f writable e.
    let own = canonical_tree text list f c.requires writable e in
    absurd (shallow own.0 (lexemes_of text list) c.in-Err-Deep.at own.1 deep.opens)

-- Statements that have no block.
use Rattle.std.proofs.Common.{◌≡◌, ◌≢◌, ℕ, inl, inr, List, [], ◌∷◌, take, Some, sym, refl, ap, ◌∙◌, subst}
use Rattle.redn_syntax.specs.declared.token.TokenKind.{TokenKind}
use Rattle.redn_syntax.specs.declared.token.TokenKind.TheVariants as k
use Rattle.redn_syntax.specs.declared.tree.Name.{Name}
use Rattle.redn_syntax.specs.declared.tree.Num.{Num}
use Rattle.redn_syntax.specs.declared.tree.Operand.{Operand}
use Rattle.redn_syntax.specs.declared.tree.Operand.TheVariants as operand
use Rattle.redn_syntax.specs.declared.tree.StmtKind.{StmtKind, out-StmtKind}
use Rattle.redn_syntax.specs.declared.tree.StmtKind.TheVariants as s
use Rattle.redn_syntax.specs.declared.tree.StmtKind.TheVariants.{outs-Move, outs-Add, outs-Load, outs-Store, outs-Break, outs-Lookup, outs-Walk, outs-Reply}
use Rattle.redn_syntax.specs.declared.tree.StmtKind.TheOpen.{StmtKind-F}
use Rattle.redn_syntax.specs.Lexemes.{Lexeme, Fixed, Named}
use Rattle.redn_syntax.specs.Grammar as g
use Rattle.redn_syntax.specs.Grammar.{Phrase, ◌>>◌, SamePlace}
use Rattle.redn_parse.specs.Lookahead.{kind_at, IsSlot}
use Rattle.redn_parse.specs.Reads.{HasNone, plain_form, with_mark, slot, key_and_bound}
use Rattle.redn_parse.proofs.Samples as a
use Rattle.redn_parse.proofs.Trees.{Layer}
use Rattle.redn_parse.proofs.Forms.{NoForm, no_form, read_at, no_load, no_move, no_read}
use Rattle.redn_parse.proofs.Passed.{Near}

is_form : (kind : StmtKind) (layer : Layer) (b after : List Lexeme) → out-StmtKind kind ≡ layer → ((room : ℕ) → read_at room layer b after) → plain_form kind b after
is_form kind layer b after e h room = subst (λ l. read_at room l b after) (sym e) (h room)

pub a_move : (to : Name) (from : Operand) (b after : List Lexeme) → (g.name SamePlace to >> (g.mark k.Equals >> (g.value SamePlace from >> g.mark k.Semicolon))) b after → plain_form (s.Move to from) b after
unfolding g.form
a_move to from b after h = is_form (s.Move to from) (StmtKind-F.Move to from) b after (outs-Move _ _) (λ room. h)

pub a_sum : (to : Name) (by : Operand) (b after : List Lexeme) → (g.name SamePlace to >> (g.mark k.PlusEquals >> (g.value SamePlace by >> g.mark k.Semicolon))) b after → plain_form (s.Add to by) b after
unfolding g.form
a_sum to by b after h = is_form (s.Add to by) (StmtKind-F.Add to by) b after (outs-Add _ _) (λ room. h)

pub a_load : (to t : Name) (offset : Operand) (b after : List Lexeme) → (g.name SamePlace to >> (g.mark k.Equals >> (g.slot SamePlace t offset >> g.mark k.Semicolon))) b after → plain_form (s.Load to t offset) b after
unfolding g.form
a_load to t offset b after h = is_form (s.Load to t offset) (StmtKind-F.Load to t offset) b after (outs-Load _ _ _) (λ room. h)

pub a_store : (t : Name) (offset from : Operand) (b after : List Lexeme) → (g.slot SamePlace t offset >> (g.mark k.Equals >> (g.value SamePlace from >> g.mark k.Semicolon))) b after → plain_form (s.Store t offset from) b after
unfolding g.form
a_store t offset from b after h = is_form (s.Store t offset from) (StmtKind-F.Store t offset from) b after (outs-Store _ _ _) (λ room. h)

pub a_break : (b after : List Lexeme) → (g.mark k.Break >> g.mark k.Semicolon) b after → plain_form s.Break b after
unfolding g.form
a_break b after h = is_form s.Break StmtKind-F.Break b after (outs-Break) (λ room. h)

-- behind its first word
abbrev pub search : TokenKind → Name → Name → Operand → Operand → Num → Phrase
search kind to t offset key bound = g.name SamePlace to >> (g.mark k.Equals >> (g.slot SamePlace t offset >> (g.mark k.Key >> key_and_bound kind (key, bound))))

pub a_lookup : (to t : Name) (offset key : Operand) (bound : Num) (b after : List Lexeme) → (g.mark k.Lookup >> search k.Probes to t offset key bound) b after → plain_form (s.Lookup to t offset key bound) b after
unfolding g.form
a_lookup to t offset key bound b after h = is_form (s.Lookup to t offset key bound) (StmtKind-F.Lookup to t offset key bound) b after (outs-Lookup _ _ _ _ _) (λ room. h)

pub a_walk : (to t : Name) (offset key : Operand) (bound : Num) (b after : List Lexeme) → (g.mark k.Walk >> search k.Nodes to t offset key bound) b after → plain_form (s.Walk to t offset key bound) b after
unfolding g.form
a_walk to t offset key bound b after h = is_form (s.Walk to t offset key bound) (StmtKind-F.Walk to t offset key bound) b after (outs-Walk _ _ _ _ _) (λ room. h)

pub a_reply : (words : List Operand) (b after : List Lexeme) → (g.mark k.Reply >> with_mark (g.listed (g.value SamePlace)) k.Semicolon words) b after → plain_form (s.Reply words) b after
unfolding g.form
a_reply words b after h = is_form (s.Reply words) (StmtKind-F.Reply words) b after (outs-Reply _) (λ room. h)

-- a mark that is read comes next
pub near_mark : (kind : TokenKind) (b m : List Lexeme) → g.mark kind b m → kind_at 0 b ≡ Some kind
near_mark kind b m h = ap (kind_at 0) h.1

-- ---- what begins with a name

-- where a name would come next, but none does
no_named : (b : List Lexeme) → kind_at 0 b ≡ Some k.Name → ((n : Name) (r : List Lexeme) → g.name SamePlace n b r → ⊥) → NoForm b
unfolding g.form
no_named b first other = no_form b cases
  where
    cases : (d : ℕ) (layer : Layer) (after : List Lexeme) → read_at d layer b after → ⊥
    cases d (StmtKind-F.Move to from) after h = other to h.0 h.1
    cases d (StmtKind-F.Load to t offset) after h = other to h.0 h.1
    cases d (StmtKind-F.Add to by) after h = other to h.0 h.1
    cases d (StmtKind-F.Store t offset from) after h = other t h.1.0 h.1.1
    cases d (StmtKind-F.If wide left right yes_body no_body) after (m, (p, e), _) = let kind = ap (kind_at 0) e in cc
    cases d (StmtKind-F.Loop body) after (m, (p, e), _) = let kind = ap (kind_at 0) e in cc
    cases d (StmtKind-F.Repeat count body) after (m, (p, e), _) = let kind = ap (kind_at 0) e in cc
    cases d StmtKind-F.Break after (m, (p, e), _) = let kind = ap (kind_at 0) e in cc
    cases d (StmtKind-F.Lookup to t offset key bound) after (m, (p, e), _) = let kind = ap (kind_at 0) e in cc
    cases d (StmtKind-F.Walk to t offset key bound) after (m, (p, e), _) = let kind = ap (kind_at 0) e in cc
    cases d (StmtKind-F.Reply words) after (m, (p, e), _) = let kind = ap (kind_at 0) e in cc

-- none that begins with the next lexeme
abbrev pub NoneAtOnce : {W : Type 0} → (W → Phrase) → List Lexeme → Type 0
NoneAtOnce part b = (l : List Lexeme) → take 1 l ≡ take 1 b → HasNone part l

abbrev pub Unnamed : List Lexeme → Type 0
Unnamed b = (n : Name) (r : List Lexeme) → g.name SamePlace n b r → ⊥

pub name_begins : (kind : TokenKind) (b : List Lexeme) → NoneAtOnce (with_mark (g.name SamePlace) kind) b → Unnamed b
name_begins kind b none n r h = (none (Named n.text h.0 ∷ a.mark kind ∷ []) (ap (λ l. take 1 l) (sym h.2))).rejects n [] (_, (h.0, h.1, refl), (0, refl))

pub value_begins : (kind : TokenKind) (b : List Lexeme) → NoneAtOnce (with_mark (g.value SamePlace) kind) b → Unnamed b
value_begins kind b none n r h = (none (Named n.text h.0 ∷ a.mark kind ∷ []) (ap (λ l. take 1 l) (sym h.2))).rejects (operand.Name n) [] (_, (h.0, h.1, refl), (0, refl))

pub slot_begins : (kind : TokenKind) (b : List Lexeme) → NoneAtOnce (with_mark slot kind) b → Unnamed b
slot_begins kind b none n r h =
    (none (Named n.text h.0 ∷ a.mark k.OpenBracket ∷ a.number ∷ a.mark k.CloseBracket ∷ a.mark kind ∷ []) (ap (λ l. take 1 l) (sym h.2))).rejects (n, a.a_value) []
    (_, (_, (h.0, h.1, refl), (_, (0, refl), (_, (0, refl, refl), (0, refl)))), (0, refl))

-- the second lexeme decides
pub by_second : {W : Type 0} (part : W → Phrase) (m b : List Lexeme) → kind_at 0 m ≡ Some k.Name → Near part m b → (NoneAtOnce part b → Unnamed b) → (kind_at 1 b ≡ kind_at 1 m → NoForm b) → NoForm b
by_second part m b first (same, inl none) begins f = no_named b (same ∙ first) (begins none)
by_second part m b first (same, inr same') begins f = f same'

pub name_kinds : (kind : TokenKind) (n : Name) (b m : List Lexeme) → with_mark (g.name SamePlace) kind n b m → (kind_at 0 b ≡ Some k.Name) × (kind_at 1 b ≡ Some kind)
name_kinds kind n b m h = let e : b ≡ Named n.text h.1.0 ∷ Fixed kind h.2.0 ∷ m = cc (h.1.2, h.2.1) in (ap (kind_at 0) e, ap (kind_at 1) e)

unnamed_value : (b : List Lexeme) → kind_at 0 b ≡ Some k.Name → Unnamed b → (o : Operand) (r : List Lexeme) → g.value SamePlace o b r → ⊥
unnamed_value b first other (operand.Name n) r h = other n r h
unnamed_value b first other (operand.Num n) r h = let kind = ap (kind_at 0) h.2 in cc

-- ---- behind `x =`

module _ (to : Name) (b m : List Lexeme) (h : with_mark (g.name SamePlace) k.Equals to b m) where
  first : kind_at 0 b ≡ Some k.Name
  first = (name_kinds k.Equals to b m h).0

  not_sum : kind_at 1 b ≢ Some k.PlusEquals
  not_sum = λ e. let kind = (name_kinds k.Equals to b m h).1 in cc

  not_store : kind_at 1 b ≢ Some k.OpenBracket
  not_store = λ e. let kind = (name_kinds k.Equals to b m h).1 in cc

  pub load_near : (l : List Lexeme) → IsSlot l → Near (with_mark slot k.Semicolon) l m → HasNone (with_mark slot k.Semicolon) m → NoForm b
  load_near l ahead (same, inl none) none' =
      no_read b m first not_sum not_store to h
      (λ from after d. unnamed_value m (same ∙ ahead.0) (slot_begins k.Semicolon m none) from d.0 d.1)
      (λ t offset after d. slot_begins k.Semicolon m none t d.1.0 d.1.1)
  load_near l ahead (same, inr same') none' = no_load b m first not_sum not_store to h (same ∙ ahead.0, same' ∙ ahead.1) none'

  pub move_near : (l : List Lexeme) → (IsSlot l → ⊥) → Near (with_mark (g.value SamePlace) k.Semicolon) l m → HasNone (with_mark (g.value SamePlace) k.Semicolon) m → NoForm b
  move_near l ahead (same, inl none) none' =
      no_read b m first not_sum not_store to h (λ from after d. none'.rejects from after d) (λ t offset after d. value_begins k.Semicolon m none t d.1.0 d.1.1)
  move_near l ahead (same, inr same') none' = no_move b m first not_sum not_store to h (λ e. ahead (sym same ∙ e.0, sym same' ∙ e.1)) none'

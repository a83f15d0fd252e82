-- Why a text has no tree, or no program.
use Rattle.std.proofs.Common.{◌≡◌, ℕ, List, sym, ap, subst, ◌∙◌}
use Rattle.redn_syntax.specs.declared.token.Token.{Token}
use Rattle.redn_syntax.specs.declared.tree.File.{File}
use Rattle.redn_syntax.specs.Tokens.{Tokenizes}
use Rattle.redn_syntax.specs.Grammar.{HasTreeWithin, IsWritable}
use Rattle.redn_syntax.proofs.Aside.{writable}
use Rattle.redn_lex.specs.Faults.{IsBadByte, IsTooWide}
use Rattle.redn_parse.specs.Answers.{IsUnexpected, IsTooDeep}
use Rattle.redn_parse.specs.declared.fault.ParseFault.TheVariants.{Deep, Memory as NoMemory}
use Rattle.redn_kernel.specs.declared.types.Program.{Program}
use Rattle.redn_check.specs.Faults.{fault, IsFirst}
use Rattle.redn_check.specs.Rules.{Accepts, faults}
use Rattle.redn_check.specs.Numbering.{program_of}
use Rattle.redn_top.specs.declared.status.TextFault.TheVariants.{Byte, Nesting}
use Rattle.redn_top.specs.declared.status.Status.{Status}
use Rattle.redn_top.specs.declared.status.Status.TheVariants.{Done, Words, Schedule as BadSchedule, ReadFailed, Missing, WriteFailed, Long, Text, Program as ProgramRefused, Memory, Step, Image as ImageRefused, Message}
use Rattle.redn_top.specs.Refusals.{SourceRefused}
use Rattle.redn_top.specs.Refusals.{TreeRefused, RulesRefused}
use Rattle.redn_top.specs.Sources.{IsTextOf, Means, NoToken, WideNumber, NoFile, TooDeep, TextRefused, RuleBroken, token_place}

pub deep_is_no_want : (at : ℕ) → Deep at ≡ NoMemory → ⊥
deep_is_no_want at e = absurd (cc)

module _ (text : List ℕ) where
  pub bad_byte : (at place : ℕ) → place ≡ at → IsBadByte text at → ((tokens : List Token) → ¬ Tokenizes text tokens) → TextRefused text (Byte place)
  bad_byte at place e bad none = subst (λ (n : ℕ). TextRefused text (Byte n)) (sym e) (record { why = NoToken at bad; none = λ f r. none r.tokens r.tokenized })

  pub too_wide : (at place : ℕ) → place ≡ at → IsTooWide text at → ((tokens : List Token) → ¬ Tokenizes text tokens) → TextRefused text (Byte place)
  too_wide at place e wide none = subst (λ (n : ℕ). TextRefused text (Byte n)) (sym e) (record { why = WideNumber at wide; none = λ f r. none r.tokens r.tokenized })

  module _ (tokens : List Token) (tokenized : Tokenizes text tokens) (only : (others : List Token) → Tokenizes text others → tokens ≡ others) where
    its_tree : (f : File) → IsTextOf text f → HasTreeWithin 64 text tokens f
    its_tree f r = subst (λ (l : List Token). HasTreeWithin 64 text l f) (sym (only r.tokens r.tokenized)) r.tree

    pub no_file : (n place : ℕ) → place ≡ token_place text tokens n → IsUnexpected text tokens n → TextRefused text (Byte place)
    no_file n place e h =
        subst (λ (m : ℕ). TextRefused text (Byte m)) (sym e) (record { why = NoFile tokens n tokenized h; none = λ f r. h.none f (64, its_tree f r) })

    pub too_deep : (at place : ℕ) → place ≡ at → IsTooDeep text tokens at → ((f : File) → ¬ HasTreeWithin 64 text tokens f) → TextRefused text (Nesting place)
    too_deep at place e deep none =
        subst (λ (m : ℕ). TextRefused text (Nesting m)) (sym e) (record { why = TooDeep tokens at tokenized deep; none = λ f r. none f (its_tree f r) })

    pub is_writable : (f : File) → HasTreeWithin 64 text tokens f → IsWritable f
    is_writable f tree = writable text tokens f tokenized (64, tree)

    pub the_tree : (f : File) → ((g : File) → HasTreeWithin 64 text tokens g → f ≡ g) → (g : File) → IsTextOf text g → f ≡ g
    the_tree f same g r = same g (its_tree g r)

  -- the one tree of a text, and its rules
  module _ (f : File) (read : IsTextOf text f) (only : (g : File) → IsTextOf text g → f ≡ g) where
    pub the_program : (p : Program) → p ≡ program_of f → (q : Program) → Means text q → p ≡ q
    the_program p e q m = e ∙ ap program_of (only m.file m.read) ∙ sym m.is

    pub broken : (rule at seen : ℕ) → IsFirst (fault rule at seen) (faults f) → (Accepts f → ⊥) → RuleBroken text rule at seen
    broken rule at seen first not =
        record { file = f; read = read; first = first; none = λ p m. not (subst Accepts (sym (only m.file m.read)) m.accepted) }

    pub rules_refused : (s : Status) → RulesRefused f s → SourceRefused text s
    rules_refused (ProgramRefused rule at seen) h = broken rule at seen h.0 h.1
    rules_refused Memory h = tt
    rules_refused Done h = absurd h
    rules_refused ReadFailed h = absurd h
    rules_refused Missing h = absurd h
    rules_refused WriteFailed h = absurd h
    rules_refused Words h = absurd h
    rules_refused (BadSchedule number) h = absurd h
    rules_refused (ImageRefused fault) h = absurd h
    rules_refused (Message fault) h = absurd h
    rules_refused (Long seen limit) h = absurd h
    rules_refused (Text fault) h = absurd h
    rules_refused (Step line) h = absurd h

-- The reasons of a header, one after the other, and the header's own spelling.
use Rattle.std.proofs.Common.{◌≡◌, ℕ, ◌<◌, ◌≤◌, ◌%◌, Bool, true, false, not, ◌==◌, ◌&&◌, List, [], ◌∷◌, ◌++◌, Option, Some, None, length, refl, sym, ap, ◌∙◌, lit≤, arith}
use Rattle.std.specs.Prelude.{nat_le, nat_lt, nat_eq, if◌then◌else◌}
use Rattle.std.specs.Cmp.Lexicographic.{bytes_decides, pointwise}
use Rattle.std.proofs.lemmas.Bool.{eqb-true}
use Rattle.redn_words.proofs.Digits.{AreBytes}
use Rattle.redn_image.specs.Answers.{HasHeader}
use Rattle.redn_image.proofs.Bounds.{none_before, none_behind, unless_none}
use Rattle.redn_image.proofs.Firsts.{none_first}
use Rattle.redn_image.proofs.Reading.{read_on}
use Rattle.std.proofs.lemmas.Bool.Decides.{nat_tests}
use Rattle.redn_words.specs.Words.{bytes_at, number}
use Rattle.redn_image.specs.Rules.{Fault, first_of, header_faults, unless}
use Rattle.redn_image.specs.Spelling.{Broken, NotMagic, OtherVersion, Refused, TooShort, first_fault, magic, refused, refused_rows, spelled_header}

-- what is refused of bytes, by its three tests
abbrev pub begins : List ℕ → Bool
begins b = pointwise nat_eq (bytes_at b 0 4) magic

abbrev pub header_of : List ℕ → List Fault
header_of b = header_faults (number 4 b 8) (number 4 b 12) (number 4 b 16) (number 4 b 20) (number 8 b 24)

abbrev pub behind : List ℕ → Option Refused
behind b = refused_rows b (number 4 b 8) (number 4 b 12) (number 4 b 16) (number 8 b 24)

by_tests : (b : List ℕ) → refused b ≡ (if nat_lt (length b) 32 then Some (TooShort 32) else (if not (begins b) then Some NotMagic else (if not (number 4 b 4 == 1) then Some (OtherVersion (number 4 b 4)) else first_fault (header_of b) (behind b))))
unfolding refused
by_tests b = refl

choose_first : {X : Type 0} (t : Bool) (x y : X) → t ≡ true → (if t then x else y) ≡ x
choose_first t x y e = rw e refl

pub choose_second : {X : Type 0} (t : Bool) (x y : X) → t ≡ false → (if t then x else y) ≡ y
choose_second t x y e = rw e refl

pub refused_short : (b : List ℕ) → length b < 32 → refused b ≡ Some (TooShort 32)
refused_short b low = let test : nat_lt (length b) 32 ≡ true = grind (arith, nat_tests) in by_tests b ∙ choose_first _ _ _ test

pub refused_magic : (b : List ℕ) → 32 ≤ length b → begins b ≡ false → refused b ≡ Some NotMagic
refused_magic b long other =
    let test : nat_lt (length b) 32 ≡ false = grind (arith, nat_tests) in
    by_tests b ∙ choose_second _ _ _ test ∙ choose_first _ _ _ (ap not other)

pub refused_version : (b : List ℕ) → 32 ≤ length b → begins b ≡ true → (number 4 b 4 ≡ 1 → ⊥) → refused b ≡ Some (OtherVersion (number 4 b 4))
refused_version b long is other =
    let test : nat_lt (length b) 32 ≡ false = grind (arith, nat_tests) in
    let old : not (number 4 b 4 == 1) ≡ true = grind (arith, nat_tests) in
    by_tests b ∙ choose_second _ _ _ test ∙ choose_second _ _ _ (ap not is) ∙ choose_first _ _ _ old

pub refused_behind : (b : List ℕ) → 32 ≤ length b → begins b ≡ true → number 4 b 4 ≡ 1 → refused b ≡ first_fault (header_of b) (behind b)
refused_behind b long is one =
    let test : nat_lt (length b) 32 ≡ false = grind (arith, nat_tests) in
    let new : not (number 4 b 4 == 1) ≡ false = grind (arith, nat_tests) in
    by_tests b ∙ choose_second _ _ _ test ∙ choose_second _ _ _ (ap not is) ∙ choose_second _ _ _ new

pub first_is : (fs : List Fault) (f : Fault) (o : Option Refused) → Some f ≡ first_of fs → first_fault fs o ≡ Some (Broken f)
first_is [] f o e = absurd (cc)
first_is (g ∷ fs) f o e = let same : f ≡ g = cc in ap (λ (x : Fault). Some (Broken x)) (sym same)

pub first_none : (fs : List Fault) (o : Option Refused) → None ≡ first_of fs → first_fault fs o ≡ o
first_none [] o e = refl
first_none (g ∷ fs) o e = absurd (cc)

zero_is : (r q c z m : ℕ) → header_faults r q c z m ≡ [] → z ≡ 0
zero_is r q c z m e =
    let before : unless (nat_le r 4096) 1 ++ unless (nat_le q 65535) 2 ++ unless (nat_lt 0 c && nat_le c 16) 3 ++ unless (z == 0) 4 ≡ [] = none_before _ (unless (m % 8 == 0 && nat_le m 33554432) 5) e in
    eqb-true z 0 (unless_none (z == 0) 4 (none_behind (unless (nat_le r 4096) 1 ++ unless (nat_le q 65535) 2 ++ unless (nat_lt 0 c && nat_le c 16) 3) _ before))

-- the counts that stand in a header
pub record Counted (b : List ℕ) (r q c m : ℕ) : Type 0 where
  pub regions : r ≡ number 4 b 8
  pub queues : q ≡ number 4 b 12
  pub receives : c ≡ number 4 b 16
  pub size : m ≡ number 8 b 24

pub counted_faults : (b : List ℕ) (r q c z m : ℕ) → Counted b r q c m → z ≡ number 4 b 20 → header_faults r q c z m ≡ header_of b
counted_faults b r q c z m k e =
    ap (λ (x : ℕ). header_faults x q c z m) k.regions ∙ ap (λ (x : ℕ). header_faults (number 4 b 8) x c z m) k.queues ∙ ap (λ (x : ℕ). header_faults (number 4 b 8) (number 4 b 12) x z m) k.receives
    ∙ ap (λ (x : ℕ). header_faults (number 4 b 8) (number 4 b 12) (number 4 b 16) x m) e ∙ ap (header_faults (number 4 b 8) (number 4 b 12) (number 4 b 16) (number 4 b 20)) k.size

counted_rows : (b : List ℕ) (r q c m : ℕ) → Counted b r q c m → refused_rows b r q c m ≡ behind b
counted_rows b r q c m k =
    ap (λ (x : ℕ). refused_rows b x q c m) k.regions ∙ ap (λ (x : ℕ). refused_rows b (number 4 b 8) x c m) k.queues ∙ ap (λ (x : ℕ). refused_rows b (number 4 b 8) (number 4 b 12) x m) k.receives
    ∙ ap (refused_rows b (number 4 b 8) (number 4 b 12) (number 4 b 16)) k.size

pub refused_header : (b : List ℕ) (r q c z m : ℕ) (f : Fault) → 32 ≤ length b → begins b ≡ true → number 4 b 4 ≡ 1 → Counted b r q c m → z ≡ number 4 b 20 → Some f ≡ first_of (header_faults r q c z m) → refused b ≡ Some (Broken f)
refused_header b r q c z m f long is one k e first = refused_behind b long is one ∙ first_is (header_of b) f (behind b) (first ∙ ap first_of (counted_faults b r q c z m k e))

spelled_as : (b : List ℕ) (r q c m : ℕ) → AreBytes b → 32 ≤ length b → begins b ≡ true → number 4 b 4 ≡ 1 → number 4 b 20 ≡ 0 → Counted b r q c m → bytes_at b 0 32 ≡ spelled_header r q c m
spelled_as b r q c m h long is one zero_field k =
    let word : bytes_at b 0 4 ≡ magic = (bytes_decides (bytes_at b 0 4) magic).0 is in
    let within : (n : ℕ) → n ≤ 32 → n ≤ length b = λ n l. omega arith in
    let at4 = read_on b 0 4 4 4 1 _ h (sym word) refl (within 8 (lit≤ tt)) (sym one) in
    let at8 = read_on b 0 8 4 8 r _ h at4 refl (within 12 (lit≤ tt)) k.regions in
    let at12 = read_on b 0 12 4 12 q _ h at8 refl (within 16 (lit≤ tt)) k.queues in
    let at16 = read_on b 0 16 4 16 c _ h at12 refl (within 20 (lit≤ tt)) k.receives in
    let at20 = read_on b 0 20 4 20 0 _ h at16 refl (within 24 (lit≤ tt)) (sym zero_field) in
    sym (read_on b 0 24 8 24 m _ h at20 refl (within 32 (lit≤ tt)) k.size)

pub header_told : (b : List ℕ) (r q c z m : ℕ) → 32 ≤ length b → begins b ≡ true → number 4 b 4 ≡ 1 → Counted b r q c m → z ≡ number 4 b 20 → None ≡ first_of (header_faults r q c z m) → header_faults r q c 0 m ≡ [] → bytes_at b 0 32 ≡ spelled_header r q c m → HasHeader b r q c m
header_told b r q c z m long is one k e none keeps header =
    record {
      long = long;
      spelled = header;
      keeps = keeps;
      refusal = refused_behind b long is one ∙ first_none (header_of b) (behind b) (none ∙ ap first_of (counted_faults b r q c z m k e)) ∙ sym (counted_rows b r q c m k);
    }

pub has_header : (b : List ℕ) (r q c z m : ℕ) → AreBytes b → 32 ≤ length b → begins b ≡ true → number 4 b 4 ≡ 1 → Counted b r q c m → z ≡ number 4 b 20 → None ≡ first_of (header_faults r q c z m) → HasHeader b r q c m
has_header b r q c z m h long is one k e none =
    let all : header_faults r q c z m ≡ [] = none_first (header_faults r q c z m) none in
    let no_z : z ≡ 0 = zero_is r q c z m all in
    header_told b r q c z m long is one k e none (ap (λ (x : ℕ). header_faults r q c x m) (sym no_z) ∙ all) (spelled_as b r q c m h long is one (sym e ∙ no_z) k)

-- A slot is spelled again by its request, and written field by field.
use Rattle.std.proofs.Common.{◌≡◌, ℕ, ◌+◌, ◌<◌, ◌≤◌, List, ◌++◌, length, take, drop, refl, sym, ap, subst, ◌∙◌, lit≤, arith, append_assoc, length-append, length-take, length-drop}
use Rattle.std.proofs.Math.Seq.{take-add}
use Rattle.std.proofs.lemmas.List.{take_all, take_at}
use borrow.Rule.Slice.PartMut.{put_mid, post_of}
use Rattle.redn_words.specs.Words.{bytes_at, number, spelled}
use Rattle.redn_words.specs.Requests.{decoded, encoded}
use Rattle.redn_words.proofs.Digits.{AreBytes, spelled-number}

-- one more field of a slot
read_on : (s front : List ℕ) (o n : ℕ) → front ≡ take o s → o + n ≤ length s → AreBytes s → front ++ spelled n (number n s o) ≡ take (o + n) s
read_on s front o n e fits h = ap (λ (l : List ℕ). l ++ spelled n (number n s o)) e ∙ ap (λ (l : List ℕ). take o s ++ l) (spelled-number n s o fits h) ∙ sym (take-add o n s)

pub encoded-decoded : (s : List ℕ) → length s ≡ 64 → AreBytes s → encoded (decoded s) ≡ s
unfolding encoded decoded
encoded-decoded s size h =
    let within : (n : ℕ) → n ≤ 64 → n ≤ length s = λ n l. omega arith in
    let op = spelled-number 2 s 0 (within 2 (lit≤ tt)) h in
    let id = read_on s _ 2 6 op (within 8 (lit≤ tt)) h in
    let lkey = read_on s _ 8 4 id (within 12 (lit≤ tt)) h in
    let rkey = read_on s _ 12 4 lkey (within 16 (lit≤ tt)) h in
    let local = read_on s _ 16 8 rkey (within 24 (lit≤ tt)) h in
    let remote = read_on s _ 24 8 local (within 32 (lit≤ tt)) h in
    let len = read_on s _ 32 8 remote (within 40 (lit≤ tt)) h in
    let first = read_on s _ 40 8 len (within 48 (lit≤ tt)) h in
    let second = read_on s _ 48 8 first (within 56 (lit≤ tt)) h in
    read_on s _ 56 8 second (within 64 (lit≤ tt)) h ∙ take_all 64 s (omega arith)

-- a slot whose first bytes are written
pub record Begins (slot front : List ℕ) (o : ℕ) : Type 0 where
  pub size : length slot ≡ 64
  pub upto : length front ≡ o
  pub is : take o slot ≡ front

-- the next bytes are written behind them
pub writes_on : (slot front part new tail : List ℕ) (o k n : ℕ) → Begins slot front o → o + k ≡ 64 → part ≡ new ++ tail → length part ≡ length (take k (drop o slot)) → length new ≡ n → Begins (put_mid o k slot part) (front ++ new) (o + n)
writes_on slot front part new tail o k n b room e long width =
    let rest : List ℕ = post_of o k slot in
    let all : length part ≡ k = omega (arith, long, length-take k (drop o slot), length-drop o slot, b.size) in
    let whole : put_mid o k slot part ≡ (front ++ new) ++ (tail ++ rest) =
    ap (λ (l : List ℕ). l ++ (part ++ rest)) b.is ∙ ap (λ (l : List ℕ). front ++ (l ++ rest)) e ∙ ap (λ (l : List ℕ). front ++ l) (append_assoc new tail rest) ∙ sym (append_assoc front new (tail ++ rest)) in
    let behind : length rest ≡ 0 = omega (arith, length-drop k (drop o slot), length-drop o slot, b.size) in
    let upto : length (front ++ new) ≡ o + n = omega (arith, length-append front new, b.upto, width) in
    let parts : length part ≡ length new + length tail = ap length e ∙ length-append new tail in
    record {
      size = ap length whole ∙ length-append (front ++ new) (tail ++ rest) ∙ omega (arith, length-append tail rest, behind, upto, parts, all, width);
      upto = upto;
      is = ap (take (o + n)) whole ∙ take_at (front ++ new) (tail ++ rest) (o + n) upto;
    }

pub all_written : (slot front : List ℕ) → Begins slot front 64 → slot ≡ front
all_written slot front b = sym (take_all 64 slot (omega (arith, b.size))) ∙ b.is

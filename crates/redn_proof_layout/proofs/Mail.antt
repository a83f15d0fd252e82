-- A message in memory: its words, and that all other bytes stay.
use Rattle.std.proofs.Common.{◌≡◌, ℕ, zero, suc, ◌+◌, ◌*◌, ◌<◌, ◌≤◌, ◌⊎◌, inl, inr, false, List, [], ◌∷◌, length, Option, Some, None, refl, sym, ap, ◌∙◌, subst, arith}
use Rattle.std.specs.Prelude.{slice_get, slice_index, nat_le, nat_lt}
use Rattle.std.proofs.lemmas.Bool.{and_parts, leb-true, ltb-true, false_from_ne_true as none_if}
use Rattle.redn_words.specs.declared.types.Receive.{Receive}
use Rattle.redn_words.specs.Words.{bytes_at, word, with_bytes_at}
use Rattle.redn_words.specs.Landings.{change}
use Rattle.redn_words.specs.Arguments.{argument_words}
use Rattle.redn_words.proofs.Bytes.{byte_put, same_range}
use Rattle.redn_words.specs.Bytes.{byte, covers}
use Rattle.redn_words.proofs.Numbers.{number-bytes_at}
use Rattle.redn_words.proofs.Places.{length-with_bytes_at, bytes_at-same}
use Rattle.redn_proof_landing.proofs.Sided.{bytes_at-within}
use Rattle.redn_kernel.specs.declared.types.ChainInit.{ChainInit}
use Rattle.redn_image.specs.Faithful.{IsMessageOf, AreMessages}
use Rattle.redn_proof_interleave.specs.Forms.{with_message}
use Rattle.redn_proof_interleave.specs.Compiled.{Messages}
use Rattle.redn_proof_interleave.specs.RingSides.{message_at}

-- the message of each chain is one of its length
pub message_of : (cs : List ChainInit) (messages : Messages) → AreMessages cs messages → (i : ℕ) (c : ChainInit) → slice_get cs i ≡ Some c → IsMessageOf c (message_at messages i)
message_of [] messages are i c e = absurd (cc)
message_of (x ∷ cs) [] are i c e = absurd are
message_of (x ∷ cs) (m ∷ messages) are zero c e = let same : x ≡ c = cc in subst (λ (y : ChainInit). IsMessageOf y m) same are.0
message_of (x ∷ cs) (m ∷ messages) are (suc i) c e = message_of cs messages are.1 i c e

-- a byte outside of a range is not hit by a change there
pub missed : (at q : ℕ) (bytes : List ℕ) → (q < at) ⊎ (at + length bytes ≤ q) → covers (change at bytes) q ≡ false
missed at q bytes out =
    none_if (covers (change at bytes) q) (λ e.
    let parts = and_parts (nat_le at q) (nat_lt q (at + length bytes)) e in
    let low = leb-true at q parts.0 in
    let high = ltb-true q (at + length bytes) parts.1 in
    elim out [ inl below ↦ omega (arith, below, low) | inr above ↦ omega (arith, above, high) ])

module _ (m : List ℕ) (r : Receive) (init : ChainInit) (fits : r.base + 8 * init.args ≤ length m) where
  pub mail_size : (o : Option (List ℕ)) → IsMessageOf init o → length (with_message m (Some r) o) ≡ length m
  mail_size None is = refl
  mail_size (Some bytes) is = let long = is.0 in length-with_bytes_at m bytes r.base (omega (arith, long, fits))

  pub mail_stays : (o : Option (List ℕ)) → IsMessageOf init o → (q : ℕ) → (q < r.base) ⊎ (r.base + 8 * init.args ≤ q) → byte (with_message m (Some r) o) q ≡ byte m q
  mail_stays None is q out = refl
  mail_stays (Some bytes) is q out =
      let long = is.0 in
      let none : covers (change r.base bytes) q ≡ false = missed r.base q bytes (elim out [ inl below ↦ inl below | inr above ↦ inr (omega (arith, above, long)) ]) in
      byte_put m (change r.base bytes) q (omega (arith, long, fits)) ∙ rw none refl

  -- a range that lies apart from the message stays
  pub range_stays : (o : Option (List ℕ)) → IsMessageOf init o → (at len : ℕ) → (at + len ≤ r.base) ⊎ (r.base + 8 * init.args ≤ at) → bytes_at (with_message m (Some r) o) at len ≡ bytes_at m at len
  range_stays o is at len out =
      same_range (with_message m (Some r) o) m at len (mail_size o is) (λ q low high. mail_stays o is q (elim out [ inl below ↦ inl (omega (arith, below, high)) | inr above ↦ inr (omega (arith, above, low)) ]))

  -- its words
  pub mail_word : (bytes : List ℕ) → IsMessageOf init (Some bytes) → (k : ℕ) → k < init.args → bytes_at (with_bytes_at m r.base bytes) (r.base + 8 * k) 8 ≡ bytes_at bytes (8 * k) 8
  mail_word bytes is k l =
      let long = is.0 in
      sym (bytes_at-within (with_bytes_at m r.base bytes) r.base (length bytes) (8 * k) 8 (omega (arith, long, l))) ∙ ap (λ (b : List ℕ). bytes_at b (8 * k) 8) (bytes_at-same m bytes r.base (omega (arith, long, fits)))

argument_at : (bytes : List ℕ) (i n k : ℕ) → k < n → slice_index (argument_words bytes i n) k ≡ word bytes (8 * (i + k))
argument_at bytes i zero k l = absurd (omega arith)
argument_at bytes i (suc n) zero l = ap (λ (j : ℕ). word bytes (8 * j)) (omega arith)
argument_at bytes i (suc n) (suc k) l = argument_at bytes (i + 1) n k (omega (arith, l)) ∙ ap (λ (j : ℕ). word bytes (8 * j)) (omega arith)

pub argument_word : (bytes : List ℕ) (n k : ℕ) → k < n → word (bytes_at bytes (8 * k) 8) 0 ≡ slice_index (argument_words bytes 0 n) k
argument_word bytes n k l = sym (number-bytes_at 8 bytes (8 * k)) ∙ sym (argument_at bytes 0 n k l ∙ ap (λ (j : ℕ). word bytes (8 * j)) (omega arith))

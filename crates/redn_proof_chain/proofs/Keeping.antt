-- What a chain puts into its private spaces leaves the tables alone.
use Rattle.std.proofs.Common.{◌≡◌, ℕ, ◌+◌, ◌-◌, Bool, true, false, ◌||◌, List, [], ◌∷◌, map, length, refl, sym, ap, ◌∙◌, subst, arith}
use Rattle.std.specs.Prelude.{nat_le, nat_lt}
use Rattle.std.proofs.lemmas.Bool.{false≢true, and_parts, leb-true, ltb-true, false_from_ne_true}
use Rattle.redn_words.specs.declared.types.Obs.{Obs}
use Rattle.redn_words.specs.declared.types.Obs.TheVariants as shows
use Rattle.redn_words.specs.Words.{word}
use Rattle.redn_words.specs.Landings.{changed}
use Rattle.redn_words.specs.Ranges.{Fits}
use Rattle.redn_words.proofs.Bytes.{over_missed, byte-changed, length-changed}
use Rattle.redn_words.specs.Bytes.{byte, covers, hits}
use Rattle.redn_kernel.specs.Source.{bytes_of}
use Rattle.redn_segment.specs.declared.types.Space.{Space}
use Rattle.redn_segment.specs.declared.types.Space.TheVariants as space
use Rattle.redn_segment.specs.Plain.{Put}
use Rattle.redn_segment.specs.Homes.{base_of}
use Rattle.redn_proof_landing.specs.Homes.{change_of, Inside}
use Rattle.redn_block.specs.Plays.{IsTrueOf, stored}
use Rattle.redn_proof_ring.specs.Plans.{Plan, IsPrivate, IsLaid}
use Rattle.redn_proof_interleave.specs.Machines.{Contents}
use Rattle.redn_proof_block.specs.Truth.{IsTrueBy}
use Rattle.redn_proof_chain.specs.Together.{Shelves, HasTables, is_shared}
use Rattle.redn_proof_chain.specs.FormLaws.{TablesStay}
use Rattle.redn_proof_chain.proofs.Shelved.{shelves_hold}
use Rattle.redn_proof_chain.proofs.Tabling.{AllFlat, OfSpace}

-- what is true of the tables that a draft saw is true of those that memory has
pub truth_of : (see : ℕ → List ℕ) (t : Contents) (p : Space) (o : Obs) → OfSpace p o → ((k : ℕ) → p ≡ space.Table k → see k ≡ bytes_of t k) → IsTrueBy see o → IsTrueOf t o
truth_of see t p (shows.Load c v k o w) h same is_true =
    let e = same k h in (ap (λ (l : List ℕ). nat_le (o + 8) (length l)) (sym e) ∙ is_true.0, ap (λ (l : List ℕ). word l o) (sym e) ∙ is_true.1)
truth_of see t p (shows.Look c k o w) h same is_true =
    let e = same k h in (ap (λ (l : List ℕ). nat_le (o + 8) (length l)) (sym e) ∙ is_true.0, ap (λ (l : List ℕ). word l o) (sym e) ∙ is_true.1)
truth_of see t p (shows.Store c k o w) h same is_true = absurd h
truth_of see t p (shows.Fault c k o) h same is_true = ap (λ (l : List ℕ). nat_le (o + 8) (length l)) (sym (same k h)) ∙ is_true
truth_of see t p _ h same is_true = tt

pub stored_none : (t : Contents) (p : Space) (o : Obs) → OfSpace p o → stored t o ≡ t
stored_none t p (shows.Store c k o w) h = absurd h
stored_none t p _ h = refl

module _ (c : Plan) (laid : IsLaid c) (shelves : Shelves) (private : (p : ℕ) → c.ours p ≡ true → is_shared shelves p ≡ false) where
  misses : (us : List Put) → AllFlat us → Inside c.home c.mine us → (p : ℕ) → is_shared shelves p ≡ true → hits (map (change_of c.home) us) p ≡ false
  misses [] flat inside p e = refl
  misses (u ∷ us) flat inside p e =
      let room = inside.0.1 in
      let one : covers (change_of c.home u) p ≡ false = false_from_ne_true (covers (change_of c.home u) p) (λ hit.
      let parts = and_parts (nat_le (base_of c.home u.space + u.at) p) (nat_lt p ((base_of c.home u.space + u.at) + length u.bytes)) hit in
      let low = leb-true (base_of c.home u.space + u.at) p parts.0 in
      let high = ltb-true p ((base_of c.home u.space + u.at) + length u.bytes) parts.1 in
      let its : IsPrivate c u.space = record { its = inside.0.0; plain = flat.0 } in
      let at : base_of c.home u.space + (p - base_of c.home u.space) ≡ p = omega (arith, low) in
      let mine = laid.private u.space (p - base_of c.home u.space) its (omega (arith, low, high, room)) in
      false≢true (sym (private p (subst (λ (q : ℕ). c.ours q ≡ true) at mine)) ∙ e)) in
      ap (λ (b : Bool). b || hits (map (change_of c.home) us) p) one ∙ misses us flat.1 inside.1 p e

  fits : (us : List Put) (size : ℕ) → size ≡ c.size → Inside c.home c.mine us → Fits size (map (change_of c.home) us)
  fits [] size e inside = tt
  fits (u ∷ us) size e inside =
      let room = inside.0.1 in
      let all = laid.spaces.inside u.space inside.0.0 in
      (omega (arith, room, all, e), fits us size e inside.1)

  pub flat_keeps : (t : Contents) (n : List ℕ) (us : List Put) → length n ≡ c.size → AllFlat us → Inside c.home c.mine us → HasTables shelves t n → HasTables shelves t (changed n (map (change_of c.home) us))
  flat_keeps t n us size flat inside has =
      let fit = fits us (length n) size inside in
      let stay : TablesStay shelves t n = shelves_hold shelves t n has in
      stay.same (changed n (map (change_of c.home) us)) (length-changed n (map (change_of c.home) us) fit) (λ p e. byte-changed n (map (change_of c.home) us) p fit ∙ over_missed (map (change_of c.home) us) p (byte n p) (misses us flat inside p e))

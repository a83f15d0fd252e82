-- Memory holds bytes, whatever acts.
use Rattle.std.proofs.Common.{◌≡◌, ℕ, zero, suc, ◌+◌, ◌/◌, ◌%◌, ◌^◌, ◌<◌, Bool, true, false, cond, ◌==◌, List, [], ◌∷◌, ◌++◌, take, drop, replicate, Option, Some, None, length, sym, ap, subst, arith}
use Rattle.std.specs.Prelude.{slice_get}
use Rattle.std.specs.Int.{byte_at, bytes_high_first}
use Rattle.std.specs.FinMap.{get}
use Rattle.std.proofs.lemmas.List.Elements.{All-take, All-drop, All-append, All-cons, All-replicate}
use Rattle.redn_words.specs.declared.types.Region.{Region}
use Rattle.redn_words.specs.declared.types.Request.{Request}
use Rattle.redn_words.specs.declared.types.Origin.{Origin}
use Rattle.redn_words.specs.declared.types.Flight.{Flight}
use Rattle.redn_words.specs.declared.types.Action.{Action}
use Rattle.redn_words.specs.declared.types.Action.TheVariants.{Deliver, Fetch, Start, Land, Complete}
use Rattle.redn_words.specs.Words.{bytes_at, with_bytes_at, word, spelled}
use Rattle.redn_words.specs.Requests.{decoded, encoded}
use Rattle.redn_words.specs.States.{Queue, State}
use Rattle.redn_words.specs.Landings.{Change, change, changed, landing, sum_of}
use Rattle.redn_words.specs.Steps.{after, land_after, flying, acts_on}
use Rattle.redn_words.proofs.Footprints.{by_landing}
use Rattle.redn_words.proofs.Others.{start_after_leaves}
use Rattle.redn_words.specs.Laws.{Delivers}
use Rattle.redn_words.proofs.Deliveries.{delivered_is}
use Rattle.redn_proof_window.specs.Scripts.{IsBytes}

byte_small : (i n : ℕ) → byte_at i n < 256
byte_small zero n = omega arith
byte_small (suc i) n = mod_small (n / 256 ^ suc i)
  where
    mod_small : (k : ℕ) → k % 256 < 256
    mod_small k = omega arith

-- the bytes that spell a number are bytes
pub spelled_bytes : (n x : ℕ) → IsBytes (spelled n x)
unfolding spelled
spelled_bytes zero x = λ k d l. absurd (omega arith)
spelled_bytes (suc n) x = All-cons (λ (b : ℕ). b < 256) _ (bytes_high_first n x) (byte_small n x) (spelled_bytes n x)

pub joined_bytes : (a b : List ℕ) → IsBytes a → IsBytes b → IsBytes (a ++ b)
joined_bytes a b h k = All-append (λ (x : ℕ). x < 256) a b h k

pub zero_bytes : (n : ℕ) → IsBytes (replicate n 0)
zero_bytes n = All-replicate (λ (x : ℕ). x < 256) n 0 (omega arith)

-- and so are those of a request
pub encoded_bytes : (r : Request) → IsBytes (encoded r)
unfolding encoded
encoded_bytes r =
    joined_bytes _ _ (joined_bytes _ _ (joined_bytes _ _ (joined_bytes _ _ (joined_bytes _ _ (joined_bytes _ _ (joined_bytes _ _ (joined_bytes _ _ (joined_bytes _ _ (spelled_bytes 2 r.op) (spelled_bytes 6 r.id)) (spelled_bytes 4 r.lkey)) (spelled_bytes 4 r.rkey)) (spelled_bytes 8 r.local)) (spelled_bytes 8 r.remote)) (spelled_bytes 8 r.length)) (spelled_bytes 8 r.first)) (spelled_bytes 8 r.second)) (spelled_bytes 8 r.flags)

pub part_bytes : (m : List ℕ) (at n : ℕ) → IsBytes m → IsBytes (bytes_at m at n)
part_bytes m at n h = All-take (λ (b : ℕ). b < 256) n (drop at m) (All-drop (λ (b : ℕ). b < 256) at m h)

pub put_bytes : (m new : List ℕ) (at : ℕ) → IsBytes m → IsBytes new → IsBytes (with_bytes_at m at new)
put_bytes m new at h k =
    All-append (λ (b : ℕ). b < 256) (take at m) (new ++ drop (at + length new) m) (All-take (λ (b : ℕ). b < 256) at m h) (All-append (λ (b : ℕ). b < 256) new (drop (at + length new) m) k (All-drop (λ (b : ℕ). b < 256) (at + length new) m h))

abbrev pub AreBytes : List Change → Type 0
AreBytes [] = Unit {0}
AreBytes (c ∷ rest) = IsBytes c.bytes × AreBytes rest

pub changed_bytes : (changes : List Change) (m : List ℕ) → IsBytes m → AreBytes changes → IsBytes (changed m changes)
changed_bytes [] m h k = h
changed_bytes (c ∷ rest) m h k = changed_bytes rest (with_bytes_at m c.at c.bytes) (put_bytes m c.bytes c.at h k.0) k.1

pub landing_bytes : (regions : List Region) (o : Origin) (r : Request) (m : List ℕ) → IsBytes m → AreBytes (landing regions o m r).writes
landing_bytes regions o r m h =
    by_landing regions o r (λ op l. AreBytes l.writes) m record {
      refuse = λ op shown. tt;
      noop = λ shown. tt;
      write = λ l d a b. (part_bytes m l.at r.length h, tt);
      read = λ l d a b. (part_bytes m d.at r.length h, tt);
      cas = λ l d a b. swapped (word (bytes_at m d.at 8) 0 == r.first) d.at (change l.at (spelled 8 (word (bytes_at m d.at 8) 0)) ∷ []) (spelled_bytes 8 (word (bytes_at m d.at 8) 0), tt);
      add = λ l d a b. (spelled_bytes 8 (sum_of r (word (bytes_at m d.at 8) 0)), (spelled_bytes 8 (word (bytes_at m d.at 8) 0), tt));
      send = λ l a. tt;
    }
  where
    swapped : (b : Bool) (at : ℕ) (rest : List Change) → AreBytes rest → AreBytes (cond b (change at (spelled 8 r.second) ∷ rest) rest)
    swapped true at rest h = (spelled_bytes 8 r.second, h)
    swapped false at rest h = h

module _ (s : State) (h : IsBytes s.memory) where
  module _ (q : ℕ) (u : Queue) (there : slice_get s.queues q ≡ Some u) where
    land_bytes : (i : ℕ) (o : Option Flight) → IsBytes (land_after s q i u o).memory
    land_bytes i None = h
    land_bytes i (Some f) = changed_bytes _ s.memory h (landing_bytes s.regions _ (decoded f.copy) s.memory h)

    -- an action of a queue leaves bytes
    pub bytes_stay : (a : Action) → acts_on a ≡ Some q → IsBytes (after s a).memory
    unfolding after
    bytes_stay (Deliver c) its = absurd (cc)
    bytes_stay (Fetch n i) its = let same : n ≡ q = cc in rw (same, there) h
    bytes_stay (Start n) its = let same : n ≡ q = cc in rw (same, there) (start_after_leaves s q u there (λ t. IsBytes t.memory) h (λ v r. h) (λ v t l r may. h) (get u.held u.head))
    bytes_stay (Land n i) its = let same : n ≡ q = cc in rw (same, there) (land_bytes i (flying u i))
    bytes_stay (Complete n) its = let same : n ≡ q = cc in rw (same, there) h

  -- and so does a message of bytes
  pub delivery_bytes : (c : ℕ) (d : Delivers s c) → IsBytes d.bytes → IsBytes (after s (Deliver c)).memory
  delivery_bytes c d bytes = subst (λ (m : List ℕ). IsBytes m) (sym (ap (λ (t : State). t.memory) (delivered_is s c d))) (put_bytes s.memory d.bytes d.place.base h bytes)

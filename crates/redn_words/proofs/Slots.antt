-- A request is read back from its slot, and a slot from a ring.
use Rattle.std.proofs.Common.{◌≡◌, ℕ, ◌*◌, ◌^◌, ◌<◌, List, [], ◌∷◌, ◌++◌, length, take, refl, ap, ◌∙◌, arith, append_assoc, append-nil, length-append}
use Rattle.std.specs.List.{flat_map}
use Rattle.std.proofs.lemmas.List.{drop_at, take_at}
use Rattle.redn_words.specs.declared.types.Request.{Request}
use Rattle.redn_words.specs.Words.{bytes_at, number, spelled}
use Rattle.redn_words.specs.Requests.{decoded, encoded}
use Rattle.redn_words.proofs.Numbers.{number-bytes_at, number-spelled, length-spelled}
use Rattle.redn_words.specs.Slots.{IsNarrow}

pub bytes_at_append : (a b c : List ℕ) (o n : ℕ) → length a ≡ o → length b ≡ n → bytes_at (a ++ (b ++ c)) o n ≡ b
bytes_at_append a b c o n e f = ap (take n) (drop_at a (b ++ c) o e) ∙ take_at b c n f

-- a number is read where it was spelled
number_at : (n x o : ℕ) (b front rest : List ℕ) → b ≡ front ++ (spelled n x ++ rest) → length front ≡ o → x < 256 ^ n → number n b o ≡ x
number_at n x o b front rest e f h =
    number-bytes_at n b o ∙ ap (λ (l : List ℕ). number n l 0) (ap (λ (l : List ℕ). bytes_at l o n) e ∙ bytes_at_append front (spelled n x) rest o n f (length-spelled n x)) ∙ number-spelled n x h

pub length-encoded : (r : Request) → length (encoded r) ≡ 64
unfolding encoded
length-encoded r = simp (length-append, length-spelled) refl

abbrev made_of : ℕ → ℕ → ℕ → ℕ → ℕ → ℕ → ℕ → ℕ → ℕ → ℕ → Request
made_of a b c d e f g h i j = record { op = a; id = b; lkey = c; rkey = d; local = e; remote = f; length = g; first = h; second = i; flags = j }

same_request : (q r : Request) → q.op ≡ r.op → q.id ≡ r.id → q.lkey ≡ r.lkey → q.rkey ≡ r.rkey → q.local ≡ r.local → q.remote ≡ r.remote → q.length ≡ r.length → q.first ≡ r.first → q.second ≡ r.second → q.flags ≡ r.flags → q ≡ r
same_request q r a b c d e f g h i j =
    let same : made_of q.op q.id q.lkey q.rkey q.local q.remote q.length q.first q.second q.flags ≡ made_of r.op r.id r.lkey r.rkey r.local r.remote r.length r.first r.second r.flags = cc in same

pub decoded-encoded : (r : Request) → IsNarrow r → decoded (encoded r) ≡ r
unfolding encoded decoded
decoded-encoded r h =
    let is_op : number 2 (encoded r) 0 ≡ r.op = number_at 2 r.op 0 (encoded r) [] (spelled 6 r.id ++ (spelled 4 r.lkey ++ (spelled 4 r.rkey ++ (spelled 8 r.local ++ (spelled 8 r.remote ++ (spelled 8 r.length ++ (spelled 8 r.first ++ (spelled 8 r.second ++ (spelled 8 r.flags))))))))) (simp append_assoc refl) (refl) h.op in
    let is_id : number 6 (encoded r) 2 ≡ r.id = number_at 6 r.id 2 (encoded r) (spelled 2 r.op) (spelled 4 r.lkey ++ (spelled 4 r.rkey ++ (spelled 8 r.local ++ (spelled 8 r.remote ++ (spelled 8 r.length ++ (spelled 8 r.first ++ (spelled 8 r.second ++ (spelled 8 r.flags)))))))) (simp append_assoc refl) (length-spelled 2 r.op) h.id in
    let is_lkey : number 4 (encoded r) 8 ≡ r.lkey = number_at 4 r.lkey 8 (encoded r) (spelled 2 r.op ++ spelled 6 r.id) (spelled 4 r.rkey ++ (spelled 8 r.local ++ (spelled 8 r.remote ++ (spelled 8 r.length ++ (spelled 8 r.first ++ (spelled 8 r.second ++ (spelled 8 r.flags))))))) (simp append_assoc refl) (simp (length-append, length-spelled) refl) h.lkey in
    let is_rkey : number 4 (encoded r) 12 ≡ r.rkey = number_at 4 r.rkey 12 (encoded r) (spelled 2 r.op ++ spelled 6 r.id ++ spelled 4 r.lkey) (spelled 8 r.local ++ (spelled 8 r.remote ++ (spelled 8 r.length ++ (spelled 8 r.first ++ (spelled 8 r.second ++ (spelled 8 r.flags)))))) (simp append_assoc refl) (simp (length-append, length-spelled) refl) h.rkey in
    let is_local : number 8 (encoded r) 16 ≡ r.local = number_at 8 r.local 16 (encoded r) (spelled 2 r.op ++ spelled 6 r.id ++ spelled 4 r.lkey ++ spelled 4 r.rkey) (spelled 8 r.remote ++ (spelled 8 r.length ++ (spelled 8 r.first ++ (spelled 8 r.second ++ (spelled 8 r.flags))))) (simp append_assoc refl) (simp (length-append, length-spelled) refl) h.local in
    let is_remote : number 8 (encoded r) 24 ≡ r.remote = number_at 8 r.remote 24 (encoded r) (spelled 2 r.op ++ spelled 6 r.id ++ spelled 4 r.lkey ++ spelled 4 r.rkey ++ spelled 8 r.local) (spelled 8 r.length ++ (spelled 8 r.first ++ (spelled 8 r.second ++ (spelled 8 r.flags)))) (simp append_assoc refl) (simp (length-append, length-spelled) refl) h.remote in
    let is_length : number 8 (encoded r) 32 ≡ r.length = number_at 8 r.length 32 (encoded r) (spelled 2 r.op ++ spelled 6 r.id ++ spelled 4 r.lkey ++ spelled 4 r.rkey ++ spelled 8 r.local ++ spelled 8 r.remote) (spelled 8 r.first ++ (spelled 8 r.second ++ (spelled 8 r.flags))) (simp append_assoc refl) (simp (length-append, length-spelled) refl) h.len in
    let is_first : number 8 (encoded r) 40 ≡ r.first = number_at 8 r.first 40 (encoded r) (spelled 2 r.op ++ spelled 6 r.id ++ spelled 4 r.lkey ++ spelled 4 r.rkey ++ spelled 8 r.local ++ spelled 8 r.remote ++ spelled 8 r.length) (spelled 8 r.second ++ (spelled 8 r.flags)) (simp append_assoc refl) (simp (length-append, length-spelled) refl) h.first in
    let is_second : number 8 (encoded r) 48 ≡ r.second = number_at 8 r.second 48 (encoded r) (spelled 2 r.op ++ spelled 6 r.id ++ spelled 4 r.lkey ++ spelled 4 r.rkey ++ spelled 8 r.local ++ spelled 8 r.remote ++ spelled 8 r.length ++ spelled 8 r.first) (spelled 8 r.flags) (simp append_assoc refl) (simp (length-append, length-spelled) refl) h.second in
    let is_flags : number 8 (encoded r) 56 ≡ r.flags = number_at 8 r.flags 56 (encoded r) (spelled 2 r.op ++ spelled 6 r.id ++ spelled 4 r.lkey ++ spelled 4 r.rkey ++ spelled 8 r.local ++ spelled 8 r.remote ++ spelled 8 r.length ++ spelled 8 r.first ++ spelled 8 r.second) [] (simp (append_assoc, append-nil) refl) (simp (length-append, length-spelled) refl) h.flags in
    same_request (decoded (encoded r)) r is_op is_id is_lkey is_rkey is_local is_remote is_length is_first is_second is_flags

pub length-ring : (rs : List Request) → length (flat_map encoded rs) ≡ 64 * length rs
length-ring [] = refl
length-ring (q ∷ rs) = omega (arith, length-append (encoded q) (flat_map encoded rs), length-encoded q, length-ring rs)

-- The first state of the generated file with its messages, and what follows from it.
use Rattle.std.proofs.Common.{arith, ◌≡◌, ℕ, zero, suc, ◌+◌, ◌*◌, ◌^◌, ◌<◌, List, [], ◌∷◌, ◌++◌, length, map, get_or, take, Some, refl, sym, ap, subst, ◌∙◌, length-append}
use Rattle.std.specs.Prelude.{slice_get}
use Rattle.std.specs.Int.{bytes_high_first}
use Rattle.std.specs.List.{All, filter}
use Rattle.std.proofs.lemmas.List.{map-append, length-map, get_or-map, get_or_default, take_at, drop_at, take_all}
use Rattle.std.proofs.lemmas.List.Elements.{All-append}
use Rattle.redn_words.specs.Words.{word, spelled}
use Rattle.redn_words.proofs.Numbers.{length-spelled, number-spelled, number-bytes_at}
use Rattle.redn_words.proofs.Digits.{bytes_of_number}
use Rattle.redn_syntax.specs.declared.tree.Item.{Item}
use Rattle.redn_kernel.specs.declared.types.ChainInit.{ChainInit}
use Rattle.redn_kernel.specs.Source.{Source, ChainState, source_start, fresh_chain, fresh_chains, EachRuns, source_after, events}
use Rattle.redn_check.specs.Numbering.{chain_init}
use Rattle.redn_gen.specs.Generated.{below, key, chain, chain_count, sought, message, generated_messages}
use Rattle.redn_gen.specs.Runs.{generated_start, is_reply_of, NoneRuns, HasTwoWords, MessagesFit, ChainsReply, EachChainReplies}
use Rattle.redn_gen.proofs.Accepted.{table_of}
use Rattle.redn_gen.proofs.Numbered.{made, chain_made, chains_made}
use Rattle.redn_gen.proofs.Buckets.{bytes, items_of, filled, whole}
use Rattle.redn_gen.proofs.Stages.{Stage, First, IsAt, state_of}
use Rattle.redn_gen.proofs.Steps.{HasBucket}
use Rattle.redn_gen.proofs.Interleaved.{total, states, states_push, source, follows}

length_below : (m : ℕ) → length (below m) ≡ m
unfolding below
length_below zero = refl
length_below (suc m) = let rest = length_below m in omega (arith, rest, length-append (below m) (m ∷ []))

-- ---- the messages

two_words : (a b : ℕ) → length (spelled 8 a ++ spelled 8 b) ≡ 16
two_words a b = omega (arith, length-append (spelled 8 a) (spelled 8 b), length-spelled 8 a, length-spelled 8 b)

first_word : (a b : ℕ) → a < 2 ^ 64 → word (spelled 8 a ++ spelled 8 b) 0 ≡ a
first_word a b h =
    number-bytes_at 8 (spelled 8 a ++ spelled 8 b) 0 ∙ ap (λ l. word l 0) (take_at (spelled 8 a) (spelled 8 b) 8 (length-spelled 8 a)) ∙ number-spelled 8 a (omega (arith, h))

second_word : (a b : ℕ) → b < 2 ^ 64 → word (spelled 8 a ++ spelled 8 b) 8 ≡ b
second_word a b h =
    let last : take 8 (spelled 8 b) ≡ spelled 8 b = take_all 8 (spelled 8 b) (omega (arith, length-spelled 8 b)) in
    number-bytes_at 8 (spelled 8 a ++ spelled 8 b) 8
    ∙ ap (λ l. word (take 8 l) 0) (drop_at (spelled 8 a) (spelled 8 b) 8 (length-spelled 8 a)) ∙ ap (λ l. word l 0) last ∙ number-spelled 8 b (omega (arith, h))

-- ---- the chains

module _ (n : ℕ) where
  abbrev pub offset : ℕ → ℕ
  offset c = 16 * sought n c

  abbrev pub sought_key : ℕ → ℕ
  sought_key c = key n (sought n c)

  abbrev pub found : ℕ → ℕ
  found c = n + sought n c

  abbrev first_at : ℕ → ChainState
  first_at c = state_of (offset c) (sought_key c) (found c) First

  fresh_at : (items : List Item) (c : ℕ) → fresh_chain (chain_init (table_of items ∷ []) (chain c)) (Some (message n c)) ≡ first_at c
  fresh_at items c =
      let one = first_word (offset c) (sought_key c) (omega arith) in
      let two = second_word (offset c) (sought_key c) (omega arith) in
      ap (λ (i : ChainInit). fresh_chain i (Some (message n c))) (chain_made items c)
      ∙ (λ j. record (first_at c) { message = Some (one j ∷ two j ∷ []) })

  fresh_all : (items : List Item) (cs : List ℕ) → fresh_chains (map (chain_init (table_of items ∷ [])) (map chain cs)) (map (λ c. Some (message n c)) cs) ≡ map first_at cs
  fresh_all items [] = refl
  fresh_all items (c ∷ cs) = λ i. fresh_at items c i ∷ fresh_all items cs i

  -- each chain at its first stage
  abbrev pub firsts : ℕ → List Stage
  firsts m = map (λ (c : ℕ). First) (below m)

  length_firsts : (m : ℕ) → length (firsts m) ≡ m
  length_firsts m = length-map (below m) (λ (c : ℕ). First) ∙ length_below m

  abbrev at : ℕ → Stage → ChainState
  at c p = state_of (offset c) (sought_key c) (found c) p

  states_firsts : (m : ℕ) → states at (firsts m) ≡ map first_at (below m)
  unfolding below
  states_firsts zero = refl
  states_firsts (suc m) =
      ap (states at) (map-append (λ (c : ℕ). First) (below m) (m ∷ []))
      ∙ states_push at (firsts m) First
      ∙ (λ i. states_firsts m i ++ at (length_firsts m i) First ∷ [])
      ∙ sym (map-append first_at (below m) (m ∷ []))

  -- the bytes of the table
  abbrev pub table_bytes : List ℕ
  table_bytes = bytes 8192 (items_of n 512)

  module _ (low : n < 2 ^ 32) where
    pub has_bucket : (c : ℕ) → HasBucket table_bytes (offset c) (sought_key c) (found c)
    has_bucket c =
        let f = filled 8192 n 512 low (omega arith) (omega arith) in
        let few : sought n c < 512 = omega arith in
        record {
          fits = omega (arith, whole 8192 n 512 f, few);
          key_is = f.keys (sought n c) few;
          value_is = f.values (sought n c) few;
          low = omega (arith, few);
          small = omega (arith, few, low);
        }

    chains_started : fresh_chains (map (chain_init (table_of (items_of n 512) ∷ [])) (map chain (below (chain_count n)))) (generated_messages n) ≡ states at (firsts (chain_count n))
    chains_started = fresh_all (items_of n 512) (below (chain_count n)) ∙ sym (states_firsts (chain_count n))

    pub started : generated_start n ≡ source table_bytes offset sought_key found has_bucket (firsts (chain_count n))
    unfolding source_start
    started = λ i. record { tables = table_bytes ∷ []; chains = chains_started i }

    only_first : (xs : List ℕ) (c : ℕ) (p : Stage) → slice_get (map (λ (d : ℕ). First) xs) c ≡ Some p → First ≡ p
    only_first [] c p h = cc
    only_first (x ∷ xs) zero p h = cc
    only_first (x ∷ xs) (suc c) p h = only_first xs c p h

    there : (xs : List ℕ) (c : ℕ) → c < length xs → slice_get (map (λ (d : ℕ). First) xs) c ≡ Some First
    there [] c h = absurd (omega (arith, h))
    there (x ∷ xs) zero h = refl
    there (x ∷ xs) (suc c) h = there xs c (omega (arith, h))

    none_shown : (xs : List ℕ) → total (map (λ (d : ℕ). First) xs) ≡ 0
    none_shown [] = refl
    none_shown (x ∷ xs) = let rest = none_shown xs in omega (arith, rest)

    pub chains_reply : (turns : List ℕ) → EachRuns (generated_start n) turns → ChainsReply n turns
    chains_reply turns runs =
        let m = chain_count n in
        let s = source table_bytes offset sought_key found has_bucket (firsts m) in
        let all : (c : ℕ) (p : Stage) → slice_get (firsts m) c ≡ Some p → IsAt (found c) p = λ c p e. subst (IsAt (found c)) (only_first (below m) c p e) tt in
        let f = follows table_bytes offset sought_key found has_bucket (firsts m) turns all (subst (λ (t : Source). EachRuns t turns) started runs) in
        let count = length_firsts m in
        let none_at : NoneRuns (source_after (generated_start n) turns) → NoneRuns (source_after s turns) = subst (λ (t : Source). NoneRuns (source_after t turns)) started in
        record {
          its = subst (λ (k : ℕ). All (λ (c : ℕ). c < k) turns) count f.its;
          few = λ c. let few = f.few c in omega (arith, few);
          all = λ none.
              let e = f.all (none_at none) in
              let zero_shown = none_shown (below m) in
              let same = ap (λ (t : Source). length (events t turns)) started in
              omega (arith, e, zero_shown, same, count);
          replies = λ none c lt.
              ap (λ (t : Source). filter (is_reply_of c) (events t turns)) started
              ∙ f.replies (none_at none) c First (there (below m) c (omega (arith, lt, length_below m)));
        }

-- ---- the messages fit

all_map : {X : Type 0} (P : X → Type 0) (f : ℕ → X) (xs : List ℕ) → ((x : ℕ) → P (f x)) → All P (map f xs)
all_map P f xs h k d lt = subst P (sym (get_or-map f xs k 0 d (omega (arith, lt, length-map xs f)))) (h (get_or xs k 0))

are_bytes : (x : ℕ) → All (λ (y : ℕ). y < 256) (spelled 8 x)
unfolding spelled
are_bytes x k d lt = subst (λ (y : ℕ). y < 256) (get_or_default (bytes_high_first 8 x) k 0 d lt) (bytes_of_number 8 x k)

message_full : (a b : ℕ) → HasTwoWords (Some (spelled 8 a ++ spelled 8 b))
message_full a b = (two_words a b, All-append (λ (x : ℕ). x < 256) (spelled 8 a) (spelled 8 b) (are_bytes a) (are_bytes b))

messages_fit : (n : ℕ) → MessagesFit n
messages_fit n =
    let items = items_of n 512 in
    let count = length_below (chain_count n) in
    record {
      chains = length-map (map chain (below (chain_count n))) (chain_init (table_of items ∷ [])) ∙ length-map (below (chain_count n)) chain ∙ count;
      messages = length-map (below (chain_count n)) (λ c. Some (message n c)) ∙ count;
      two = subst (All (λ (c : ChainInit). c.args ≡ 2)) (sym (chains_made items (below (chain_count n)))) (all_map (λ (c : ChainInit). c.args ≡ 2) (λ c. made) (below (chain_count n)) (λ c. refl));
      full = all_map HasTwoWords (λ c. Some (message n c)) (below (chain_count n)) (λ c. message_full (16 * sought n c) (key n (sought n c)));
    }

pub each_replies : EachChainReplies
each_replies n low = (messages_fit n, chains_reply n low)

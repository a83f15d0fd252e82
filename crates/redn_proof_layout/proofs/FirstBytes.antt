-- The first memory holds bytes.
use Rattle.std.proofs.Common.{ℕ, ◌+◌, ◌*◌, List, [], ◌∷◌, ◌++◌, arith}
use Rattle.std.specs.List.{flat_map, All}
use Rattle.std.proofs.lemmas.List.Elements.{All-head, All-tail}
use Rattle.redn_words.specs.declared.limits.TheConstants.{RECEIVE_BASE}
use Rattle.redn_words.specs.Words.{spelled}
use Rattle.redn_words.specs.Requests.{encoded}
use Rattle.redn_kernel.specs.declared.types.TableInit.{TableInit}
use Rattle.redn_segment.specs.declared.types.Draft.{Draft}
use Rattle.redn_proof_window.specs.Scripts.{IsBytes}
use Rattle.redn_proof_window.proofs.Sound.{spelled_bytes, joined_bytes, zero_bytes, encoded_bytes}
use Rattle.redn_emit.specs.Layout.{Plain, ChainPlan, TablePlan, home, segment_requests, segment_bytes, ring_bytes, with_its_laps, chain_code, descriptor, first_limit, control_bytes, words_bytes, chain_words, entry_bytes, operands, limit_of_ring, DESCRIPTORS_AT}
use Rattle.redn_emit.specs.Placed.{plans, tables}
use Rattle.redn_proof_layout.specs.Beginning.{AllBytes}
use Rattle.redn_proof_layout.proofs.Portions.{zeros}

no_bytes : IsBytes []
no_bytes = λ k d l. absurd (omega (arith, l))

flat_bytes : {X : Type 0} (f : X → List ℕ) → ((x : X) → IsBytes (f x)) → (xs : List X) → IsBytes (flat_map f xs)
flat_bytes f h [] = no_bytes
flat_bytes f h (x ∷ xs) = joined_bytes (f x) (flat_map f xs) (h x) (flat_bytes f h xs)

table_bytes : (ts : List TableInit) → All (λ (t : TableInit). IsBytes t.bytes) ts → IsBytes (flat_map (λ (t : TableInit). t.bytes) ts)
table_bytes [] h = no_bytes
table_bytes (t ∷ ts) h =
    joined_bytes t.bytes (flat_map (λ (x : TableInit). x.bytes) ts) (All-head (λ (x : TableInit). IsBytes x.bytes) t ts h) (table_bytes ts (All-tail (λ (x : TableInit). IsBytes x.bytes) t ts h))

code_bytes : (ts : List TablePlan) (c : ChainPlan) → IsBytes (chain_code c ts)
code_bytes ts c =
    flat_bytes (λ (r : Plain). ring_bytes (home c ts) (with_its_laps r)) (λ r. flat_bytes (segment_bytes (home c ts)) (λ (ds : List Draft). flat_bytes encoded encoded_bytes (segment_requests (home c ts) ds)) (with_its_laps r)) c.rings

gate_bytes : (c : ChainPlan) → IsBytes (entry_bytes c)
gate_bytes c =
    joined_bytes (encoded (operands 6 (RECEIVE_BASE + c.number) 1)) (encoded (operands 7 (c.first + c.entry) (limit_of_ring c (c.first + c.entry)))) (encoded_bytes (operands 6 (RECEIVE_BASE + c.number) 1)) (encoded_bytes (operands 7 (c.first + c.entry) (limit_of_ring c (c.first + c.entry))))

descriptor_bytes : (r : Plain) → IsBytes (descriptor r)
descriptor_bytes r = joined_bytes (spelled 8 r.number) (spelled 8 (first_limit r)) (spelled_bytes 8 r.number) (spelled_bytes 8 (first_limit r))

words_are_bytes : (c : ChainPlan) → IsBytes (chain_words c)
words_are_bytes c =
    joined_bytes (control_bytes c) (words_bytes c.values ++ zeros (8 * c.args)) (joined_bytes (zeros DESCRIPTORS_AT) (flat_map descriptor c.rings ++ (zeros (8 * c.hidden) ++ flat_map (spelled 8) c.constants)) (zero_bytes DESCRIPTORS_AT) (joined_bytes (flat_map descriptor c.rings) (zeros (8 * c.hidden) ++ flat_map (spelled 8) c.constants) (flat_bytes descriptor descriptor_bytes c.rings) (joined_bytes (zeros (8 * c.hidden)) (flat_map (spelled 8) c.constants) (zero_bytes (8 * c.hidden)) (flat_bytes (spelled 8) (spelled_bytes 8) c.constants)))) (joined_bytes (words_bytes c.values) (zeros (8 * c.args)) (flat_bytes (spelled 8) (spelled_bytes 8) c.values) (zero_bytes (8 * c.args)))

pub all_bytes : AllBytes
all_bytes p graphs h =
    joined_bytes (flat_map (λ (c : ChainPlan). chain_code c (tables p graphs)) (plans p graphs)) _ (flat_bytes (λ (c : ChainPlan). chain_code c (tables p graphs)) (code_bytes (tables p graphs)) (plans p graphs)) (joined_bytes (flat_map entry_bytes (plans p graphs)) _ (flat_bytes entry_bytes gate_bytes (plans p graphs)) (joined_bytes (flat_map chain_words (plans p graphs)) _ (flat_bytes chain_words words_are_bytes (plans p graphs)) (table_bytes p.tables h)))

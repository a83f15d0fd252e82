-- Bytes, requests and accesses, computed.
use Rattle.std.proofs.Common.{◌≡◌, ℕ, true, false, List, [], ◌∷◌, refl}
use Rattle.std.specs.Prelude.{Ok, Err}
use Rattle.redn_words.specs.declared.limits.TheConstants.{MAX_MEMORY, MAX_QUEUES, MAX_RECEIVES, MAX_REGIONS, MAX_RING, MAX_SLOTS, MAX_TRANSFER, RECEIVE_BASE}
use Rattle.redn_words.specs.declared.rights.TheConstants.{ATOMIC, LOCAL_WRITE, REMOTE_READ, REMOTE_WRITE}
use Rattle.redn_words.specs.declared.types.Region.{Region}
use Rattle.redn_words.specs.declared.types.Kind.TheVariants.{Vars, Table}
use Rattle.redn_words.specs.declared.types.Need.TheVariants.{Any, LocalWrite, RemoteRead, RemoteWrite, Atomic}
use Rattle.redn_words.specs.declared.types.Refusal.TheVariants as no
use Rattle.redn_words.specs.declared.types.Opcode.TheVariants as op
use Rattle.redn_words.specs.Words.{word, number, spelled, bytes_at, with_bytes_at, low_48}
use Rattle.redn_words.specs.Requests.{decoded, encoded, opcode_named}
use Rattle.redn_words.specs.Access.{access, grants}

nine_bytes : List ℕ
nine_bytes = 9 ∷ 0 ∷ 0 ∷ 0 ∷ 0 ∷ 0 ∷ 0 ∷ 1 ∷ 2 ∷ []

a_word : word nine_bytes 1 ≡ 258
unfolding nine_bytes number
a_word = refl

a_word_spelled : spelled 8 258 ≡ 0 ∷ 0 ∷ 0 ∷ 0 ∷ 0 ∷ 0 ∷ 1 ∷ 2 ∷ []
unfolding spelled
a_word_spelled = refl

two_bytes : bytes_at nine_bytes 7 2 ≡ 1 ∷ 2 ∷ []
unfolding nine_bytes
two_bytes = refl

two_bytes_put : with_bytes_at nine_bytes 1 (7 ∷ 8 ∷ []) ≡ 9 ∷ 7 ∷ 8 ∷ 0 ∷ 0 ∷ 0 ∷ 0 ∷ 1 ∷ 2 ∷ []
unfolding nine_bytes
two_bytes_put = refl

-- the top bits don't count
low_bits : low_48 281474976710661 ≡ 5
low_bits = refl

-- a compare-and-swap, from its fields to its bytes and back
cas_bytes : List ℕ
cas_bytes =
    0 ∷ 3 ∷ 0 ∷ 0 ∷ 0 ∷ 0 ∷ 1 ∷ 4 ∷ 0 ∷ 0 ∷ 0 ∷ 2 ∷ 0 ∷ 0 ∷ 0 ∷ 1 ∷ 0 ∷ 0 ∷ 0 ∷ 0 ∷ 0 ∷ 0 ∷ 0 ∷ 8 ∷ 0 ∷ 0 ∷ 0 ∷ 0 ∷ 0 ∷ 0 ∷ 0 ∷ 64 ∷ 0 ∷ 0 ∷ 0 ∷ 0 ∷ 0 ∷ 0 ∷ 0 ∷ 0 ∷ 0 ∷ 0 ∷ 0 ∷ 0 ∷ 0 ∷ 0 ∷ 0 ∷ 5 ∷ 0 ∷ 0 ∷ 0 ∷ 0 ∷ 0 ∷ 0 ∷ 1 ∷ 0 ∷ 0 ∷ 0 ∷ 0 ∷ 0 ∷ 0 ∷ 0 ∷ 0 ∷ 1 ∷ []

cas_decoded : decoded cas_bytes ≡ record { op = 3; id = 260; lkey = 2; rkey = 1; local = 8; remote = 64; length = 0; first = 5; second = 256; flags = 1 }
unfolding cas_bytes decoded number
cas_decoded = refl

cas_encoded : encoded (record { op = 3; id = 260; lkey = 2; rkey = 1; local = 8; remote = 64; length = 0; first = 5; second = 256; flags = 1 }) ≡ cas_bytes
unfolding cas_bytes encoded spelled
cas_encoded = refl

last_opcode : opcode_named 7 ≡ op.Enable
unfolding opcode_named
last_opcode = refl

no_opcode : opcode_named 9 ≡ op.Undefined 9
unfolding opcode_named
no_opcode = refl

-- each refusal, where those before it don't hold
rows : List Region
rows = record { key = 1; domain = 0; kind = Vars; rights = 4; base = 16; len = 24 } ∷ record { key = 7; domain = 2; kind = Table 3; rights = 10; base = 64; len = 2097152 } ∷ []

allowed_place : access rows 0 1 8 16 RemoteWrite ≡ Ok (record { at = 24; kind = Vars })
unfolding rows access
allowed_place = refl

any_needs_no_right : access rows 2 7 4 1048576 Any ≡ Ok (record { at = 68; kind = Table 3 })
unfolding rows access
any_needs_no_right = refl

no_key : access rows 0 2 99 0 LocalWrite ≡ Err no.NoKey
unfolding rows access
no_key = refl

another_domain : access rows 2 1 99 0 LocalWrite ≡ Err no.WrongDomain
unfolding rows access
another_domain = refl

no_length : access rows 0 1 99 0 LocalWrite ≡ Err no.Length
unfolding rows access
no_length = refl

too_long : access rows 2 7 0 1048577 Any ≡ Err no.Length
unfolding rows access
too_long = refl

-- the range is looked at before the rights, and its end doesn't wrap
past_the_end : access rows 0 1 18446744073709551615 8 LocalWrite ≡ Err no.Range
unfolding rows access
past_the_end = refl

unaligned : access rows 0 1 4 8 Atomic ≡ Err no.Unaligned
unfolding rows access
unaligned = refl

no_right : access rows 0 1 8 8 RemoteRead ≡ Err no.Rights
unfolding rows access
no_right = refl

the_limits : (MAX_REGIONS ≡ 4096) × (MAX_QUEUES ≡ 65535) × (MAX_RECEIVES ≡ 16) × (MAX_SLOTS ≡ 524288) × (MAX_MEMORY ≡ 33554432) × (MAX_RING ≡ 65536) × (MAX_TRANSFER ≡ 1048576) × (RECEIVE_BASE ≡ 65536)
the_limits = (refl, refl, refl, refl, refl, refl, refl, refl)

-- each right grants what it is named for, and nothing else
the_rights : (grants LOCAL_WRITE LocalWrite ≡ true) × (grants REMOTE_READ RemoteRead ≡ true) × (grants REMOTE_WRITE RemoteWrite ≡ true) × (grants ATOMIC Atomic ≡ true) × (grants REMOTE_READ RemoteWrite ≡ false)
the_rights = (refl, refl, refl, refl, refl)

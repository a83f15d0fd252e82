-- The requests of placed drafts, and slots that have them but where drafts write.
use Rattle.std.specs.Prelude.{◌≡◌, ℕ, ◌+◌, ◌<◌, Bool, true, false, not, ◌&&◌, ◌||◌, List, length, slice_index}
use Rattle.redn_words.specs.declared.types.Request.{Request}
use Rattle.redn_words.specs.declared.types.Opcode.{Opcode}
use Rattle.redn_words.specs.declared.types.Opcode.TheVariants.{Send}
use Rattle.redn_words.specs.Requests.{encoded}
use Rattle.redn_segment.specs.declared.types.Space.{Space}
use Rattle.redn_segment.specs.declared.types.Draft.{Draft}
use Rattle.redn_segment.specs.Sites.{start_of, is_table}
use Rattle.redn_segment.specs.Plain.{local_space, remote_space, local_at}
use Rattle.redn_segment.specs.Primed.{covers, number_of}
use Rattle.redn_segment.specs.Homes.{Home}

module _ (home : Space → Home) where
  -- a SEND has no remote side
  abbrev pub remote_key : Draft → Opcode → ℕ
  remote_key d Send = 0
  remote_key d _ = (home (remote_space d)).region.key

  abbrev pub remote_offset : Draft → Opcode → ℕ
  remote_offset d Send = 0
  remote_offset d _ = (home (remote_space d)).offset + (start_of d.remote + d.remote_byte)

  abbrev pub requested : Draft → ℕ → Request
  requested d flags =
      record {
        op = number_of d.op;
        id = 0;
        lkey = (home (local_space d)).region.key;
        rkey = remote_key d d.op;
        local = (home (local_space d)).offset + local_at d;
        remote = remote_offset d d.op;
        length = d.length;
        first = d.first;
        second = d.second;
        flags = flags;
      }

-- the keys, the local offset, the length and the flags, and the remote offset but in a table
abbrev pub is_fixed : Draft → ℕ → Bool
is_fixed d i = covers 8 16 i || (covers 32 8 i || (covers 56 8 i || (not (is_table d.remote) && covers 24 8 i)))

-- a slot has the bytes of a request, but any bytes where drafts write
pub record IsReady (written : ℕ → Bool) (r : Request) (slot : List ℕ) : Type 0 where
  pub len : length slot ≡ 64
  pub bytes : (i : ℕ) → i < 64 → written i ≡ false → slice_index slot i ≡ slice_index (encoded r) i

abbrev pub SparesFixed : (ℕ → Bool) → Draft → Type 0
SparesFixed written d = (i : ℕ) → is_fixed d i ≡ true → written i ≡ false

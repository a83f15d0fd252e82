-- Requests whose fields fit their bytes.
use Rattle.std.specs.Prelude.{◌^◌, ◌<◌}
use Rattle.redn_words.specs.declared.types.Request.{Request}

-- the fields of a request fit their bytes
pub record IsNarrow (r : Request) : Type 0 where
  pub op : r.op < 256 ^ 2
  pub id : r.id < 256 ^ 6
  pub lkey : r.lkey < 256 ^ 4
  pub rkey : r.rkey < 256 ^ 4
  pub local : r.local < 256 ^ 8
  pub remote : r.remote < 256 ^ 8
  pub len : r.length < 256 ^ 8
  pub first : r.first < 256 ^ 8
  pub second : r.second < 256 ^ 8
  pub flags : r.flags < 256 ^ 8

use Rattle.std.proofs.Common.{◌≡◌, ◌^◌, ◌<◌, ◌∙◌, ap, lit≤, arith}
use Rattle.byteorder.specs.Endian.{big_from}
use Rattle.byteorder.specs.Numbers.{big_from-lt}
use Rattle.redn_words.specs.Words.{number}
use Rattle.redn_words.specs.Requests.{decoded, encoded}
use Rattle.redn_words.proofs.Numbers.{big_from_rest}
use Rattle.redn_wqe.proofs.Slots.{encoded-decoded}
use Rattle.redn_wqe.proofs.codec.decode.Goals as goal

pub returns-clause-fields : goal.returns-clause-fields
unfolding decoded number
returns-clause-fields c =
    let b = c.args.slot.now in
    λ i. record {
      op = c.read_u16.ensures i;
      id = (c.read_u48.ensures ∙ big_from_rest 6 2 62 b (lit≤ tt)) i;
      lkey = (c.read_u32.ensures ∙ big_from_rest 4 8 56 b (lit≤ tt)) i;
      rkey = (c.read_u32-2.ensures ∙ big_from_rest 4 12 52 b (lit≤ tt)) i;
      local = (c.read_u64.ensures ∙ big_from_rest 8 16 48 b (lit≤ tt)) i;
      remote = (c.read_u64-2.ensures ∙ big_from_rest 8 24 40 b (lit≤ tt)) i;
      length = (c.read_u64-3.ensures ∙ big_from_rest 8 32 32 b (lit≤ tt)) i;
      first = (c.read_u64-4.ensures ∙ big_from_rest 8 40 24 b (lit≤ tt)) i;
      second = (c.read_u64-5.ensures ∙ big_from_rest 8 48 16 b (lit≤ tt)) i;
      flags = (c.read_u64-6.ensures ∙ big_from_rest 8 56 8 b (lit≤ tt)) i;
    }

pub returns-clause-narrow : goal.returns-clause-narrow
unfolding number
returns-clause-narrow c =
    let is : c.read_u48.result ≡ big_from 2 6 c.args.slot.now = c.read_u48.ensures ∙ big_from_rest 6 2 62 c.args.slot.now (lit≤ tt) in
    let low : big_from 2 6 c.args.slot.now < 2 ^ 48 = big_from-lt 2 6 c.args.slot.now c.fits-slot in
    omega (arith, is, low)

pub returns-clause-written_back : goal.returns-clause-written_back
returns-clause-written_back c = ap encoded (returns-clause-fields c) ∙ encoded-decoded c.args.slot.now c.told-slot c.fits-slot

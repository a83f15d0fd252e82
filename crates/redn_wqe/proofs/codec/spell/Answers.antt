use Rattle.std.proofs.Common.{◌≡◌, take, refl, ap, ◌∙◌, arith}
use Rattle.redn_words.specs.Words.{spelled}
use Rattle.redn_words.specs.Requests.{decoded, encoded}
use Rattle.redn_words.proofs.Numbers.{length-spelled}
use Rattle.redn_words.proofs.Slots.{decoded-encoded}
use Rattle.redn_wqe.proofs.Slots.{Begins, writes_on, all_written}
use Rattle.redn_wqe.proofs.codec.spell.Goals as goal

pub returns-clause-bytes : goal.returns-clause-bytes
unfolding encoded spelled
returns-clause-bytes c =
    let r = c.args.r in
    let op : Begins c.write_u16.new.buf (spelled 2 r.op) 2 = record { size = c.write_u16.auto.buf; upto = refl; is = ap (take 2) c.write_u16.ensures } in
    let id_ = writes_on _ _ c.write_u48.new.buf (spelled 6 r.id) _ 2 62 6 op refl c.write_u48.ensures c.write_u48.auto.buf (length-spelled 6 r.id) in
    let lkey_ = writes_on _ _ c.write_u32.new.buf (spelled 4 r.lkey) _ 8 56 4 id_ refl c.write_u32.ensures c.write_u32.auto.buf (length-spelled 4 r.lkey) in
    let rkey_ = writes_on _ _ c.write_u32-2.new.buf (spelled 4 r.rkey) _ 12 52 4 lkey_ refl c.write_u32-2.ensures c.write_u32-2.auto.buf (length-spelled 4 r.rkey) in
    let local_ = writes_on _ _ c.write_u64.new.buf (spelled 8 r.local) _ 16 48 8 rkey_ refl c.write_u64.ensures c.write_u64.auto.buf (length-spelled 8 r.local) in
    let remote_ = writes_on _ _ c.write_u64-2.new.buf (spelled 8 r.remote) _ 24 40 8 local_ refl c.write_u64-2.ensures c.write_u64-2.auto.buf (length-spelled 8 r.remote) in
    let length_ = writes_on _ _ c.write_u64-3.new.buf (spelled 8 r.length) _ 32 32 8 remote_ refl c.write_u64-3.ensures c.write_u64-3.auto.buf (length-spelled 8 r.length) in
    let first_ = writes_on _ _ c.write_u64-4.new.buf (spelled 8 r.first) _ 40 24 8 length_ refl c.write_u64-4.ensures c.write_u64-4.auto.buf (length-spelled 8 r.first) in
    let second_ = writes_on _ _ c.write_u64-5.new.buf (spelled 8 r.second) _ 48 16 8 first_ refl c.write_u64-5.ensures c.write_u64-5.auto.buf (length-spelled 8 r.second) in
    let flags_ = writes_on _ _ c.write_u64-6.new.buf (spelled 8 r.flags) _ 56 8 8 second_ refl c.write_u64-6.ensures c.write_u64-6.auto.buf (length-spelled 8 r.flags) in
    all_written _ _ flags_

pub returns-clause-read_back : goal.returns-clause-read_back
returns-clause-read_back c =
    let r = c.args.r in
    ap decoded (returns-clause-bytes c) ∙ decoded-encoded r (record { op = omega arith; id = c.requires; lkey = omega arith; rkey = omega arith; local = omega arith; remote = omega arith; len = omega arith; first = omega arith; second = omega arith; flags = omega arith })

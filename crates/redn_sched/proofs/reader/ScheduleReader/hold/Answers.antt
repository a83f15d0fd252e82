use Rattle.std.proofs.Common.{◌≡◌, ◌-◌, ◌++◌, ℕ, List, length, take, min, ap, ◌∙◌, arith}
use Rattle.std.proofs.lemmas.List.{length-take-le}
use Rattle.redn_sched.specs.Pieces.{Reader, held_of}
use Rattle.redn_sched.proofs.Begun.{held_on}
use Rattle.redn_sched.proofs.reader.ScheduleReader.hold.Goals as goal

pub returns : goal.returns
returns c =
    let bytes = c.args.bytes.now in
    let n = c.self.inside.len in
    let held = take n c.self.inside.held in
    let len : length held ≡ n = length-take-le n c.self.inside.held (omega (arith, c.self.invariant, c.self.told)) in
    let more : c.min-more.result ≡ min (length bytes) (34 - length held) = c.min-more.ensures ∙ ap (λ (k : ℕ). min (length bytes) (34 - k)) (let e : n ≡ length held = omega (arith, len) in e) in
    let on = held_on held bytes (omega (arith, len, c.self.invariant)) in
    let all : take c.put_text-self-inside.result c.put_text-self-inside.new.buf ≡ held_of (held ++ bytes) = c.put_text-self-inside.ensures.front ∙ ap (λ (k : ℕ). held ++ take k bytes) more ∙ on in
    rw (← c.self.view_is) (ap (λ (l : List ℕ). let r : Reader = record { lines = c.self.inside.lines; held = l; bad = c.self.inside.bad } in r) all)

use Rattle.std.proofs.Common.{◌≡◌, true, false, Bool, cond, refl, sym, ap, ◌∙◌}
use Rattle.redn_words.specs.declared.types.Obs.{Obs}
use Rattle.redn_words.specs.Landings.{changed, landing}
use Rattle.redn_words.proofs.Footprints.{refused_writes}
use Rattle.redn_exec.specs.declared.landing.Landing.TheVariants.{Done, Refused}
use Rattle.redn_exec.specs.Landed.{from_queue}
use Rattle.redn_exec.proofs.landing.land.Goals as goal

-- an answer that refuses is that of a landing that isn't allowed
not_allowed : (b : Bool) (o shown : Obs) → cond b (Done o) (Refused o) ≡ Refused shown → b ≡ false
not_allowed true o shown e = absurd (cc)
not_allowed false o shown e = refl

pub returns-clause-refused : goal.returns-clause-refused
returns-clause-refused c = λ shown is.
    let mem = c.args.mem.now in
    let o = from_queue c.args.domain c.args.queue c.args.index in
    let regions = c.args.regions.now in
    let r = c.args.r.now in
    let memory = rw c.opcode.ensures at c.land_by_opcode.ensures.memory in
    let answer = rw c.opcode.ensures at c.land_by_opcode.ensures.answer in
    let l = landing regions o mem r in
    memory ∙ ap (changed mem) (refused_writes regions o r mem (not_allowed l.allowed l.shown shown (sym answer ∙ is)))

use Rattle.redn_check.proofs.SoundProgram.{one_answer, sound_answer}
use Rattle.redn_check.proofs.rules.check.Goals as goal

pub returns-clause-sound : goal.returns-clause-sound
returns-clause-sound c = sound_answer c.args.f.now c.requires _ c.checked.ensures.accepted c.checked.ensures.program c.checked.ensures.words

pub returns-clause-one : goal.returns-clause-one
returns-clause-one c = one_answer c.args.f.now _ c.checked.ensures.accepted c.checked.ensures.program

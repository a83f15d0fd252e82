use Rattle.redn_top.proofs.reading.image_in.Goals as goal

pub returns-in-Err-clause-refused : goal.returns-in-Err-clause-refused
returns-in-Err-clause-refused c = c.refused_image.ensures c.args.bytes.now c.in-Err.ensures.refusal

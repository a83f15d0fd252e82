use Rattle.redn_disasm.proofs.Rings.{are_rings}
use Rattle.redn_disasm.proofs.write.lines_of.Goals as goal

pub put_rings-requires : goal.put_rings-requires
put_rings-requires c = rw (c.deref-5.ensures.value, c.deref-4.ensures.value) (are_rings _ c.i.invariant.obeys)

pub put_words-requires : goal.put_words-requires
put_words-requires c = rw (c.deref-7.ensures.value, c.deref-6.ensures.value) (are_rings _ c.i.invariant.obeys)

use Rattle.redn_cas.proofs.LowWithoutCas.{test48_without_cas}
use Rattle.redn_cas.proofs.WideWithoutCas.{test64_without_cas}
use Rattle.redn_cas.proofs.LookWithoutCas.{probe_without_cas}
use Rattle.redn_cas.proofs.laws.cas_chooses.Goals as goal

pub returns : goal.returns
returns c = record { low = test48_without_cas; wide = test64_without_cas; look = probe_without_cas }

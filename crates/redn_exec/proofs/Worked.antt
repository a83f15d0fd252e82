-- Small cases of the definitions, computed.
use Rattle.std.proofs.Common.{◌≡◌, [], Ok, Err, refl}
use Rattle.redn_words.specs.declared.types.Obs.TheVariants as shows
use Rattle.redn_words.specs.declared.types.Kind.TheVariants.{Vars, Table}
use Rattle.redn_words.specs.Landings.{refused, done}
use Rattle.redn_exec.specs.declared.landing.Landing.TheVariants as answers
use Rattle.redn_exec.specs.Landed.{answer_of}
use Rattle.redn_exec.specs.Sides.{landed_on}

answered_done : answer_of (done 0 8 [] (shows.Odd 1 2)) ≡ answers.Done (shows.Odd 1 2)
answered_done = refl

answered_refused : answer_of (refused (shows.Refused 1 2)) ≡ answers.Refused (shows.Refused 1 2)
answered_refused = refl

-- the landing of both places, the local one at 24 and the remote one at 40
from_both : landed_on (Ok (record { local = record { at = 24; kind = Vars }; remote = record { at = 40; kind = Table 3 } })) (λ l d. done l.at d.at [] shows.Nothing) ≡ done 24 40 [] shows.Nothing
from_both = refl

from_a_refusal : landed_on (Err (shows.Fault 1 3 40)) (λ l d. done l.at d.at [] shows.Nothing) ≡ refused (shows.Fault 1 3 40)
from_a_refusal = refl

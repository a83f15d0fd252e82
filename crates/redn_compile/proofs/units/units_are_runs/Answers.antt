use Rattle.redn_image.specs.Faithful.{start_of}
use Rattle.redn_compile.specs.Units.{all_actions}
use Rattle.redn_compile.proofs.units.units_are_runs.Goals as goal

pub returns : goal.returns
returns c p i faithful messages are units few possible = faithful.explained messages are (all_actions (start_of i messages) units) few possible

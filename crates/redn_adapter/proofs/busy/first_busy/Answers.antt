use Rattle.std.proofs.Common.{ℕ, ◌<◌}
use Rattle.std.specs.List.{All}
use Rattle.std.proofs.lemmas.List.Elements.{All-map}
use Rattle.redn_words.specs.States.{Queue}
use Rattle.redn_adapter.proofs.busy.first_busy.Goals as goal

pub new-requires-clause-there : goal.new-requires-clause-there
new-requires-clause-there c = rw c.in_ok-chains_of.ensures (All-map (λ (k : ℕ). k < c.args.chains) (λ (u : Queue). u.row.domain) c.args.queues.now c.requires.domains)

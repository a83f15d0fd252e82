use Rattle.redn_adapter.proofs.Stale.{stale_shows, shows_stale}
use Rattle.redn_adapter.proofs.laws.starts_are_stale_exactly_where.Goals as goal

pub returns : goal.returns
returns c = λ s q. (stale_shows s q, λ e. shows_stale s q e.0 e.1)

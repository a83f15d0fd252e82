-- What a turn is where a word is there, and where none is.
use Rattle.std.proofs.Common.{◌≡◌, ℕ, false, List, ap, ◌∙◌}
use Rattle.redn_words.specs.declared.types.Obs.{Obs}
use Rattle.redn_words.specs.declared.types.Obs.TheVariants as shows
use Rattle.redn_source.specs.declared.run.Run.{Run}
use Rattle.redn_kernel.specs.Source.{Turn, ChainState, has_word, within, ends}
use Rattle.redn_source.specs.RunView.{turn}

pub turn_without : (c : ℕ) (tables : List (List ℕ)) (t : ChainState) (table o : ℕ) (there after : Turn) →
    has_word tables table o ≡ false → after ≡ ends c tables t (shows.Fault c table o) → after ≡ within c tables t table o there
turn_without c tables t table o there after missing e = rw missing e

-- the tables are as they were
pub turn_without_same : (c : ℕ) (tables now : List (List ℕ)) (t : ChainState) (table o : ℕ) (there : Turn) (r : Run) (event : Obs) →
    has_word tables table o ≡ false → now ≡ tables → ((all : List (List ℕ)) → turn all r event ≡ ends c all t (shows.Fault c table o)) → turn now r event ≡ within c tables t table o there
turn_without_same c tables now t table o there r event missing same e =
    ap (λ all. turn all r event) same ∙ turn_without c tables t table o there _ missing (e tables)

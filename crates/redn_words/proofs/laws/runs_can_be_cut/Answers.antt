use Rattle.redn_words.proofs.Runs.{reached_append, AllPossible_append, AllPossible_parts, all_shown_append}
use Rattle.redn_words.proofs.laws.runs_can_be_cut.Goals as goal

pub returns : goal.returns
returns c = λ s acts more.
    record {
      possible_both = (AllPossible_parts s acts more, λ both. AllPossible_append s acts more both.0 both.1);
      reaches = reached_append s acts more;
      shows_both = all_shown_append s acts more;
    }

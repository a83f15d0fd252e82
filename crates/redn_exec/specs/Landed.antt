-- What a landing leaves and answers.
use Rattle.std.specs.Prelude.{◌≡◌, ℕ, if◌then◌else◌, List}
use Rattle.redn_words.specs.declared.types.Origin.{Origin}
use Rattle.redn_words.specs.Landings.{Landing, changed}
use Rattle.redn_exec.specs.declared.landing.Landing.{Landing as Answer}
use Rattle.redn_exec.specs.declared.landing.Landing.TheVariants as answers

-- whose request it is: of the chain of this number, in this queue, of this index
abbrev pub from_queue : ℕ → ℕ → ℕ → Origin
from_queue domain queue index = record { chain = domain; queue = queue; index = index }

-- how a landing went
abbrev pub answer_of : Landing → Answer
answer_of l = if l.allowed then answers.Done l.shown else answers.Refused l.shown

-- what was left of memory, and what was answered, are what this landing says
pub record LandsAs (before : List ℕ) (l : Landing) (left : List ℕ) (said : Answer) : Type 0 where
  pub memory : left ≡ changed before l.writes
  pub answer : said ≡ answer_of l

-- What is known of the sources: in the three arrays that C lends, and after a message that was judged.
use Rattle.laws.specs.Usual.{List, ℕ}
use Rattle.message.specs.declared.Judged.{Judged}
use Rattle.message.specs.declared.Letter.{Letter}
use Rattle.message_rules.specs.Rules.Hearing.{known_after}
use Rattle.message_rules.specs.Rules.State.{Sources, known_of, with_known}

abbrev pub sources_in : List ℕ → List ℕ → List ℕ → Sources
sources_in versions one_to_one to_all = record { versions = versions; one_to_one = one_to_one; to_all = to_all }

abbrev pub sources_after : Sources → Judged → Letter → Sources
sources_after sources judged letter = with_known sources letter.source (known_after judged (known_of sources letter.source) letter)

-- The lines of one word, and the line for a refusal. Each ends in a line feed; numbers are in decimal with no leading zeros.
use Rattle.std.specs.Prelude.{◌∷◌, ◌++◌}
use Rattle.laws.specs.Usual.{List, ℕ}
use Rattle.frame_refusals.specs.Refusals.{number_of}
use Rattle.replay_reply_parts.specs.Lines.{ended}
use Rattle.frame.specs.declared.Refusal.{Refusal}
use Rattle.station.specs.declared.Ticked.{Ticked}
use Rattle.text.specs.Decimal.{decimal_of}
use Rattle.text.specs.Lines.{space}
use Rattle.replay_reply_words.specs.Words.{done_word, off_word, bad_word, refused_word}
use Rattle.station.specs.declared.Ticked.TheVariants as ticked

-- `done`
abbrev pub done_text : List ℕ
done_text = ended done_word

-- `off`
abbrev pub off_text : List ℕ
off_text = ended off_word

-- `bad`: any line that is not a command
abbrev pub bad_text : List ℕ
bad_text = ended bad_word

-- `refused K`, with the refusal's number
abbrev pub refused_text : Refusal → List ℕ
refused_text refusal = ended (refused_word ++ (space ∷ decimal_of (number_of refusal)))

-- `tick`
unfoldable pub ticked_text : Ticked → List ℕ
ticked_text ticked.Off = off_text
ticked_text ticked.Done = done_text

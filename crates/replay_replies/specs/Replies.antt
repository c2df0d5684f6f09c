-- The line that `replay` prints for what a station answers. Each ends in a line feed.
use Rattle.std.specs.Prelude.{Ok, Err}
use Rattle.laws.specs.Usual.{List, ℕ}
use Rattle.replay_reply_outcome.specs.Outcome.{outcome_text}
use Rattle.replay_reply_words.specs.Answers.{done_text, off_text, refused_text}
use Rattle.station.specs.Types.{Switched}
use Rattle.station.specs.declared.Heard.{Heard}
use Rattle.station.specs.declared.Heard.TheVariants as heard

-- `start` and `stop`
unfoldable pub switched_text : Switched → List ℕ
switched_text (Ok tt) = done_text
switched_text (Err refusal) = refused_text refusal

-- `hear`
unfoldable pub heard_text : Heard → List ℕ
heard_text heard.Off = off_text
heard_text heard.Done = done_text
heard_text (heard.Cyclic token) = outcome_text token
heard_text (heard.Refused refusal) = refused_text refusal

-- The line that `replay` prints for what a station answers to `ask`. It ends in a line feed.
use Rattle.std.specs.Prelude.{Ok, Err, ◌∷◌}
use Rattle.laws.specs.Usual.{List, [], ℕ, take}
use Rattle.replay_reply_parts.specs.Hex.{hex_of}
use Rattle.replay_reply_parts.specs.Lines.{ended, spaced}
use Rattle.replay_reply_words.specs.Answers.{refused_text}
use Rattle.station.specs.Types.{Asked}

-- "frame"
abbrev pub frame_word : List ℕ
frame_word = 0x66 ∷ 0x72 ∷ 0x61 ∷ 0x6d ∷ 0x65 ∷ []

-- `ask`: `frame HEX`, the octets of the frame that was written
unfoldable pub asked_text : Asked → List ℕ → List ℕ
asked_text (Ok count) frame = ended (spaced frame_word (hex_of (take count frame)))
asked_text (Err refusal) frame = refused_text refusal

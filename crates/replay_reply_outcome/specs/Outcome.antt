-- What became of the token and of the data, as words in ASCII and as a line.
use Rattle.std.specs.Prelude.{◌∷◌}
use Rattle.laws.specs.Usual.{List, [], ℕ}
use Rattle.replay_reply_parts.specs.Lines.{ended, spaced}
use Rattle.station.specs.Rules.Answers.{data_of}
use Rattle.station.specs.declared.Data.{Data}
use Rattle.station.specs.declared.Data.TheVariants.{Kept, Written, Dropped, Repeat}
use Rattle.station.specs.declared.Token.{Token}
use Rattle.station.specs.declared.Token.TheVariants.{None, PassedOn, OursNow, RivalPassedOver, RivalWon}

-- "none", "passed-on", "ours-now", "rival-passed-over", "rival-won"
abbrev pub token_word : Token → List ℕ
token_word (None outcome) = 0x6e ∷ 0x6f ∷ 0x6e ∷ 0x65 ∷ []
token_word (PassedOn outcome) = 0x70 ∷ 0x61 ∷ 0x73 ∷ 0x73 ∷ 0x65 ∷ 0x64 ∷ 0x2d ∷ 0x6f ∷ 0x6e ∷ []
token_word (OursNow outcome) = 0x6f ∷ 0x75 ∷ 0x72 ∷ 0x73 ∷ 0x2d ∷ 0x6e ∷ 0x6f ∷ 0x77 ∷ []
token_word (RivalPassedOver outcome) =
    0x72
    ∷ 0x69
    ∷ 0x76
    ∷ 0x61
    ∷ 0x6c
    ∷ 0x2d
    ∷ 0x70
    ∷ 0x61
    ∷ 0x73
    ∷ 0x73
    ∷ 0x65
    ∷ 0x64
    ∷ 0x2d
    ∷ 0x6f
    ∷ 0x76
    ∷ 0x65
    ∷ 0x72
    ∷ []
token_word (RivalWon outcome) = 0x72 ∷ 0x69 ∷ 0x76 ∷ 0x61 ∷ 0x6c ∷ 0x2d ∷ 0x77 ∷ 0x6f ∷ 0x6e ∷ []

-- "kept", "written", "dropped"; and "repeat" (paper 02, E4)
abbrev pub data_word : Data → List ℕ
data_word Kept = 0x6b ∷ 0x65 ∷ 0x70 ∷ 0x74 ∷ []
data_word Written = 0x77 ∷ 0x72 ∷ 0x69 ∷ 0x74 ∷ 0x74 ∷ 0x65 ∷ 0x6e ∷ []
data_word Dropped = 0x64 ∷ 0x72 ∷ 0x6f ∷ 0x70 ∷ 0x70 ∷ 0x65 ∷ 0x64 ∷ []
data_word Repeat = 0x72 ∷ 0x65 ∷ 0x70 ∷ 0x65 ∷ 0x61 ∷ 0x74 ∷ []

-- of a cyclic frame what became of the token, then what became of the data
abbrev pub outcome_text : Token → List ℕ
outcome_text token = ended (spaced (token_word token) (data_word (data_of token)))

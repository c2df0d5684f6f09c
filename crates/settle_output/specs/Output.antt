-- The output lines of `settle`. Words in quotes are paper 01's, section "settle".
use Rattle.std.specs.Prelude.{◌∷◌}
use Rattle.laws.specs.Usual.{cond, List, [], ℕ, length, ltb}
use Rattle.copying.specs.Pasted.{pasted}
use Rattle.text.specs.Lines.{line_of}
use Rattle.settle_run.specs.Run.{letter_of}
use Rattle.settle_run.specs.declared.Kind.{Kind}
use Rattle.settle_run.specs.declared.Kind.TheVariants.{Pass, Silence}
use Rattle.settle_run.specs.declared.Settled.{Settled}
use Rattle.settle_run.specs.declared.Stepped.{Stepped}

-- no line is longer
abbrev pub room : ℕ
room = 35

-- a buffer with a line in front; one with less room stays as it is, with nothing written
abbrev pub written_to : List ℕ → List ℕ → List ℕ
written_to output line = cond (ltb (length output) room) output (pasted output 0 line)

abbrev pub length_in : List ℕ → List ℕ → ℕ
length_in output line = cond (ltb (length output) room) 0 (length line)

-- "what,from,to,views"
abbrev pub header_line : List ℕ
header_line =
    line_of (0x77 ∷ 0x68 ∷ 0x61 ∷ 0x74 ∷ 0x2c ∷ 0x66 ∷ 0x72 ∷ 0x6f ∷ 0x6d ∷ 0x2c ∷ 0x74 ∷ 0x6f ∷ 0x2c ∷ 0x76 ∷ 0x69 ∷ 0x65 ∷ 0x77 ∷ 0x73 ∷ [])
    []

-- from which station to which the token was passed, "both 0 for S"
abbrev pub sender_of : Kind → ℕ
sender_of (Pass from to) = from
sender_of Silence = 0

abbrev pub receiver_of : Kind → ℕ
receiver_of (Pass from to) = to
receiver_of Silence = 0

-- "The fields: kind, from, to (both 0 for S), number of different views afterwards."
abbrev pub step_line : Stepped → List ℕ
step_line stepped = line_of (letter_of stepped.kind ∷ []) (sender_of stepped.kind ∷ receiver_of stepped.kind ∷ stepped.views ∷ [])

-- "E: passes, silences, views."
abbrev pub settled_line : Settled → List ℕ
settled_line settled = line_of (0x45 ∷ []) (settled.passes ∷ settled.silences ∷ settled.views ∷ [])

-- "Bad input prints `bad,` and the line's number alone"
abbrev pub bad_line : ℕ → List ℕ
bad_line line = line_of (0x62 ∷ 0x61 ∷ 0x64 ∷ []) (line ∷ [])

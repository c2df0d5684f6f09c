-- What the assembly buffer holds while a turn is gathered: the data of blocks 1, 2, .. of one source, in order. Assumes nothing.
use Rattle.std.specs.Prelude.{Ok, ◌≡◌, ◌∷◌, ◌++◌, ◌+◌, ◌*◌}
use Rattle.laws.specs.Usual.{[], true, false, List, ℕ, length, take, eqb}
use Rattle.frame.specs.Codes.{is_cyclic}
use Rattle.frame_reading.specs.Reading.{read_header_of, read_body_of}
use Rattle.station.specs.Rules.Answers.{data_of}
use Rattle.station.specs.Types.{Fields, Gathering, Data, Kept, Written, Dropped, Repeat, Heard}
use Rattle.frame_reading.specs.Reading as reading
use Rattle.station.specs.declared.Heard.TheVariants as answers

-- a list of the cyclic frames that were accepted and are no repeats, the latest first, after one more such frame
abbrev pub with_new : Data → List ℕ → List (List ℕ) → List (List ℕ)
with_new Kept octets heard = octets ∷ heard
with_new Written octets heard = octets ∷ heard
with_new Dropped octets heard = octets ∷ heard
with_new Repeat octets heard = heard

-- and after one more hearing
abbrev pub accepted_after : Heard → List ℕ → List (List ℕ) → List (List ℕ)
accepted_after answers.Off octets heard = heard
accepted_after answers.Done octets heard = heard
accepted_after (answers.Cyclic token) octets heard = with_new (data_of token) octets heard
accepted_after (answers.Refused refusal) octets heard = heard

-- The latest cyclic frames accepted that are no repeats are blocks 1 to n of a source, in this order, and these are their data one behind the other.
pub data Parts (source : ℕ) : List (List ℕ) → ℕ → List ℕ → Type 0 where
  none : {heard : List (List ℕ)} → Parts source heard 0 []
  more : {heard : List (List ℕ)} {n : ℕ} {part : List ℕ} → Parts source heard n part → (octets : List ℕ) (frame : Fields)
      → read_header_of octets ≡ Ok frame → read_body_of (length octets) frame ≡ Ok frame → is_cyclic frame.code ≡ true → frame.source ≡ source → frame.block ≡ n + 1
      → Parts source (octets ∷ heard) frame.block (part ++ reading.data_of octets frame)

-- what is gathered stands at the front of the assembly buffer
abbrev pub Gathers : List (List ℕ) → Gathering → List ℕ → Type 0
Gathers heard gathering assembly =
    eqb gathering.source 0 ≡ false → Parts gathering.source heard gathering.blocks (take (1024 * gathering.blocks) assembly)

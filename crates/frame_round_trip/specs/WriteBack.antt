-- Fields that were read from a frame write the same octets at their places. Assumes nothing.
use Rattle.std.specs.Prelude.{◌≡◌, ◌∷◌, ◌+◌, ◌/◌, ◌%◌, ◌<◌, ◌≤◌}
use Rattle.laws.specs.Usual.{[], List, ℕ, length}
use mathlib.Core.List.{head-eq_of_cons-eq, tail-eq_of_cons-eq}
use Rattle.frame.specs.Octets.{octet_at}
use Rattle.frame.specs.Positions.{header_length}
use Rattle.frame.specs.declared.Fields.{Fields}
use Rattle.frame_reading.specs.Reading.{data_of}
use Rattle.frame_round_trip.specs.Places.{length_places, free_places, fixed_octets, other_octets, places_in, octets_in, octets_at}
use Rattle.frame_writing.specs.Writing.{fixed, frame_of}

-- the list holds octets
abbrev pub Octets : List ℕ → Type 0
Octets s = (at : ℕ) → octet_at s at < 256

-- what we write of the fields that were read, with the data that stood behind them
abbrev pub rewritten : List ℕ → Fields → List ℕ
rewritten s fields = frame_of fields (data_of s fields)

-- What that is: the same data, and the same octets at the fields' places. Where they may differ, it says what stands there.
pub record WrittenBack (s : List ℕ) (fields : Fields) : Type 0 where
  pub octets : data_of (rewritten s fields) (fixed fields) ≡ data_of s fields
  -- every place of a field but TFL, save those that clause 10.1 or the paper fixes for the code,
  pub places : octets_at (free_places fields.code) (rewritten s fields) ≡ octets_at (free_places fields.code) s
  -- and the octets at these are the table's,
  pub fixed_octets_lem : octets_at (places_in (fixed_octets fields.code)) (rewritten s fields) ≡ octets_in (fixed_octets fields.code)
  -- as are those of no field that the paper names
  pub other_octets_lem : octets_at (places_in other_octets) (rewritten s fields) ≡ octets_in other_octets
  -- our frame is a header of 64 octets and the data, never longer than the one that was read
  pub header_and_data : length (rewritten s fields) ≡ header_length + length (data_of s fields)
  pub no_longer : length (rewritten s fields) ≤ length s
  -- TFL, unless our frame is shorter,
  pub lengths : length s ≤ length (rewritten s fields) → octets_at length_places (rewritten s fields) ≡ octets_at length_places s
  -- and it is always the octets of our frame
  pub own_length : octets_at length_places (rewritten s fields) ≡ 0 ∷ 0 ∷ length (rewritten s fields) / 256 ∷ length (rewritten s fields) % 256 ∷ []

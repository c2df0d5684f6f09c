-- Demand 1 of the exported calls: "a numbered refusal changes no buffer, and no station state except in the one case that the table names".
-- Assumes nothing.
use Rattle.std.specs.Prelude.{◌≡◌}
use Rattle.laws.specs.Usual.{false, ℕ}
use Rattle.boundary_core.specs.Crossing.{core_of}
use Rattle.boundary_answers.specs.declared.Answer.{Answer}
use Rattle.frame_refusals.specs.Refusals.{number_of}
use Rattle.boundary_places.specs.Places.{kept}
use Rattle.station.specs.Rules.Calls.{Verdict, refused_by}
use Rattle.station.specs.Rules.State.{is_participating, stopped}
use Rattle.station.specs.Types.{Refusal}
use Rattle.delivered.specs.Boxes.{Box, station_at}

-- an answer with the word "refused", 4, is that of a refusal, and its number is the table's
pub record Told (verdicts : Verdict) (answer : Answer) : Type 0 where
  pub refusal : Refusal
  pub number : answer.refusal ≡ number_of refusal
  pub refused : verdicts ≡ refused_by refusal

-- What a refused call leaves of a box: every octet as it was, or number 6 came before we participate and left just what stop leaves, with what
-- stands above the low parts of the numbers as it was.
pub data Kept (before left : Box) (number : ℕ) : Type 0 where
  unchanged : left.numbers ≡ before.numbers → left.listed ≡ before.listed → left.areas ≡ before.areas → left.watch ≡ before.watch
      → left.misses ≡ before.misses → Kept before left number
  stops : number ≡ 6 → is_participating (station_at before).phase ≡ false → station_at left ≡ stopped (station_at before)
      → left.numbers ≡ kept before.numbers (core_of (stopped (station_at before))) → Kept before left number

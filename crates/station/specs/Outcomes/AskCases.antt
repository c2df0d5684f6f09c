-- The outcomes of asking for a frame, each with what led there and what is left: whatever is proved of asking goes by these. Assumes nothing.
use Rattle.std.specs.Prelude.{Ok, ◌≡◌}
use Rattle.laws.specs.Usual.{true, List, ℕ, drop}
use Rattle.block.specs.Blocks.{start_of}
use Rattle.frame_round_trip.specs.Sent.{request_fields, trigger_fields}
use Rattle.frame_writing.specs.Writing.{whole_length, output_of}
use Rattle.station.specs.Rules.Asking.{Asking, next_fields, turn_for, is_placed, next_block, next_station, due_fields, block_sent, lent_right, refused}
use Rattle.station.specs.Rules.Starting.{trigger_due, request_fallen}
use Rattle.station.specs.Rules.State.{fresh, holds, begun, request_sent}
use Rattle.station.specs.Types.{Fields, Refusal, Listening, Startup, Joining, Participating, Station}

-- a frame that is due: what sending it leaves, its fields, and the turn buffer that it is sent from
pub data SendCases (station : Station) (memory turn : List ℕ) : Station → Fields → List ℕ → Type 0 where
  triggers : station.phase ≡ Listening → trigger_due station ≡ true
      → SendCases station memory turn (fresh Startup station.own) (trigger_fields station.own.number) turn
  requests : station.phase ≡ Startup → request_fallen Startup station ≡ true
      → SendCases station memory turn (request_sent station) (request_fields station.own.number station.own.areas station.own.watch) turn
  begins : station.phase ≡ Joining → request_fallen Joining station ≡ true
      → SendCases station memory turn (begun station.own station.members station.view)
      (request_fields station.own.number station.own.areas station.own.watch) turn
  passes : station.phase ≡ Participating → holds station ≡ true → is_placed station ≡ true
      → SendCases station memory turn (block_sent station) (next_fields station.own station.block (next_station station))
      (turn_for station.own.areas station.block memory turn)

-- what asking leaves
pub data AskCases (station : Station) (memory turn output : List ℕ) : Asking → Type 0 where
  refuses : (refusal : Refusal) → AskCases station memory turn output (refused station turn output refusal)
  sends : {left : Station} {fields : Fields} {copy : List ℕ} → lent_right memory turn output ≡ true → due_fields station.phase station ≡ fields
      → SendCases station memory turn left fields copy → AskCases station memory turn output (record {
        station = left;
        answer = Ok (whole_length fields);
        turn = copy;
        output = output_of fields (drop (start_of (next_block station)) copy) output;
      })

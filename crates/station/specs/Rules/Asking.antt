-- Asking for a frame (paper 01, "Starting and joining", "The token view and the watch").
use Rattle.std.specs.Prelude.{Ok, Err, ◌&&◌, ◌+◌}
use Rattle.laws.specs.Usual.{Bool, false, cond, not, List, ℕ, length, drop, eqb, leb, ltb}
use Rattle.area.specs.Areas.{in_range, memory_octets}
use Rattle.block.specs.Blocks.{blocks_of, start_of}
use Rattle.copying.specs.Pasted.{pasted}
use Rattle.members.specs.Members.{next_after}
use Rattle.panel.specs.Panel.{after_taking}
use Rattle.frame_round_trip.specs.Sent.{block_fields, request_fields, trigger_fields}
use Rattle.frame_writing.specs.Writing.{whole_length, output_of}
use Rattle.station.specs.Rules.Data.{turn_of}
use Rattle.station.specs.Rules.Starting.{trigger_due, request_fallen}
use Rattle.station.specs.Rules.State.{fresh, holds, begun, request_sent, moved}
use Rattle.station.specs.Types.{Areas, Fields, Refusal, Settings, Phase, Off, Listening, Startup, Joining, Participating, Station, Asked}
use Rattle.frame.specs.declared.Refusal.TheVariants as refusals

-- the call: the state after it, the answer, and the lent buffers after it; the common memory is only read
pub record Asking : Type 0 where
  pub station : Station
  pub answer : Asked
  pub turn : List ℕ
  pub output : List ℕ

-- where `block` blocks of our turn have been sent: there is a next one
abbrev pub placed_in : Areas → ℕ → Bool
placed_in areas block = in_range areas && ltb block (blocks_of areas)

-- the next one is the last
abbrev pub last_in : Areas → ℕ → Bool
last_in areas block = leb (blocks_of areas) (block + 1)

-- the fields of its frame to `next`
abbrev pub next_fields : Settings → ℕ → ℕ → Fields
next_fields own block next = block_fields own.number next own.areas own.watch (block + 1)

-- the turn buffer that it is sent from: "A holder sends its blocks in order, all from a copy of its areas made at the first."
abbrev pub turn_for : Areas → ℕ → List ℕ → List ℕ → List ℕ
turn_for areas block memory turn = cond (eqb block 0) (pasted turn 0 (turn_of areas memory)) turn

-- our place in our turn is one of its blocks, which always holds where calls alone made the state (`always_placed`): what could not be sent is
-- not due
abbrev pub is_placed : Station → Bool
is_placed station = placed_in station.own.areas station.block

-- whether a frame is due: a trigger in listening; our request in ring startup until it is sent, and in joining; "A participant has a frame due
-- whenever it holds, and at no other time."
abbrev pub due_in : Phase → Station → Bool
due_in Off station = false
due_in Listening station = trigger_due station
due_in Startup station = request_fallen Startup station && not station.sent
due_in Joining station = request_fallen Joining station
due_in Participating station = holds station && is_placed station

-- the block that is sent next
abbrev pub next_block : Station → ℕ
next_block station = station.block + 1

abbrev pub is_last : Station → Bool
is_last station = last_in station.own.areas station.block

abbrev pub next_station : Station → ℕ
next_station station = next_after station.own.number station.members station.own.number

-- the fields of the frame that is due in each phase
abbrev pub due_fields : Phase → Station → Fields
due_fields Off station = trigger_fields station.own.number
due_fields Listening station = trigger_fields station.own.number
due_fields Startup station = request_fields station.own.number station.own.areas station.own.watch
due_fields Joining station = request_fields station.own.number station.own.areas station.own.watch
due_fields Participating station = next_fields station.own station.block (next_station station)

-- the turn buffer, which only a participant's frame is sent from
abbrev pub turn_after : Phase → Station → List ℕ → List ℕ → List ℕ
turn_after Off station memory turn = turn
turn_after Listening station memory turn = turn
turn_after Startup station memory turn = turn
turn_after Joining station memory turn = turn
turn_after Participating station memory turn = turn_for station.own.areas station.block memory turn

-- "The last is code 65000 to next; its view becomes next." "Sending one of ours restarts it too." "our own pass to ourselves" is a taking.
abbrev pub block_sent : Station → Station
block_sent station =
    moved station station.members
    (cond (is_last station) (next_station station) station.view)
    (cond (is_last station) 0 (next_block station))
    station.gathering
    (cond (is_last station && eqb (next_station station) station.own.number) (after_taking station.panel) station.panel)

-- "A trigger sent .. begins ring startup"; "once sent, we participate, and our view is the last token destination heard"
abbrev pub sent_in : Phase → Station → Station
sent_in Off station = station
sent_in Listening station = fresh Startup station.own
sent_in Startup station = request_sent station
sent_in Joining station = begun station.own station.members station.view
sent_in Participating station = block_sent station

-- 11: "common memory .. or turn buffer not 17,408 octets, or output under 1088"
abbrev pub lent_right : List ℕ → List ℕ → List ℕ → Bool
lent_right memory turn output =
    (eqb (length memory) memory_octets && eqb (length turn) memory_octets) && leb 1088 (length output)

abbrev pub refused : Station → List ℕ → List ℕ → Refusal → Asking
refused station turn output refusal = record { station = station; answer = Err refusal; turn = turn; output = output }

-- the frame that is due, written from the turn buffer as it then is
abbrev pub written : Station → List ℕ → List ℕ → Asking
written station turn output = record {
  station = sent_in station.phase station;
  answer = Ok (whole_length (due_fields station.phase station));
  turn = turn;
  output = output_of (due_fields station.phase station) (drop (start_of (next_block station)) turn) output;
}

-- 11, then 10: "a frame asked for when none is due"
abbrev pub ask_of : Station → List ℕ → List ℕ → List ℕ → Asking
ask_of station memory turn output =
    cond (lent_right memory turn output)
    (cond (due_in station.phase station)
    (written station (turn_after station.phase station memory turn) output)
    (refused station turn output refusals.NotDue))
    (refused station turn output refusals.Buffer)

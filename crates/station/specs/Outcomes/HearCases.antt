-- The outcomes of hearing a frame, each with what led there and what is left: whatever is proved of hearing goes by these. Assumes nothing.
use Rattle.std.specs.Prelude.{Ok, ◌≡◌, ◌&&◌}
use Rattle.laws.specs.Usual.{Bool, true, false, List, ℕ, length, eqb}
use Rattle.block.specs.Blocks.{start_of}
use Rattle.copying.specs.Pasted.{pasted}
use Rattle.frame.specs.Codes.{is_token, is_cyclic}
use Rattle.frame.specs.declared.Code.TheVariants.{Token, Cyclic, Request, Trigger}
use Rattle.members.specs.Members.{entry_of, is_listed}
use Rattle.frame_reading.specs.Reading.{read_header_of, read_body_of, data_of}
use Rattle.station.specs.Rules.Data.{Gathered, turn_written, same_areas, is_next, is_repeat, repeated, dropped}
use Rattle.station.specs.Rules.Hearing.{Hearing, requested, participant_heard, is_taken, knows, is_stranger, lent_right, refused}
use Rattle.station.specs.Rules.Starting.{joined_by}
use Rattle.station.specs.Rules.State.{is_participating, nothing, fresh, stopped}
use Rattle.station.specs.Types.{Fields, Code, Refusal, Phase, Off, Listening, Startup, Joining, Participating, Station, Kept, Written, Dropped, Heard}
use Rattle.frame.specs.declared.Refusal.TheVariants as refusals
use Rattle.station.specs.declared.Heard.TheVariants as answers
use Rattle.station.specs.declared.Token.TheVariants as tokens

-- a frame that no refusal met
pub record Accepts (station : Station) (octets memory assembly : List ℕ) (frame : Fields) : Type 0 where
  pub lent : lent_right memory assembly ≡ true
  pub header : read_header_of octets ≡ Ok frame
  pub body : read_body_of (length octets) frame ≡ Ok frame
  pub untaken : is_taken station frame ≡ false
  pub known : is_stranger station frame ≡ false

-- a cyclic one, at a participant
pub record FromMember (station : Station) (octets memory assembly : List ℕ) (frame : Fields) : Type 0 where
  pub accepts : Accepts station octets memory assembly frame
  pub participates : station.phase ≡ Participating
  pub cyclic : is_cyclic frame.code ≡ true
  pub other : eqb frame.source station.own.number ≡ false
  pub listed : is_listed station.members frame.source ≡ true
  pub destination : is_token frame.code ≡ true → knows station frame.destination ≡ true

-- whether its data are those of the last block still gathered
abbrev pub repeats? : Station → Fields → List ℕ → List ℕ → Bool
repeats? station frame octets assembly = is_repeat station.gathering frame (data_of octets frame) assembly

-- what becomes of its data: the turn is written, or the block kept, or it is a repeat, or all dropped
pub data GatherCases (station : Station) (frame : Fields) (octets memory assembly : List ℕ) : Gathered → Type 0 where
  writes : same_areas frame.areas (entry_of station.members frame.source).areas ≡ true → repeats? station frame octets assembly ≡ false
      → is_next station.gathering frame ≡ true → eqb frame.block frame.blocks ≡ true → GatherCases station frame octets memory assembly (record {
        gathering = nothing;
        assembly = pasted assembly (start_of frame.block) (data_of octets frame);
        memory = turn_written (entry_of station.members frame.source).areas (pasted assembly (start_of frame.block) (data_of octets frame)) memory;
        outcome = Written;
      })
  keeps : same_areas frame.areas (entry_of station.members frame.source).areas ≡ true → repeats? station frame octets assembly ≡ false
      → is_next station.gathering frame ≡ true → eqb frame.block frame.blocks ≡ false → GatherCases station frame octets memory assembly (record {
        gathering = record { source = frame.source; blocks = frame.block };
        assembly = pasted assembly (start_of frame.block) (data_of octets frame);
        memory = memory;
        outcome = Kept;
      })
  repeats : same_areas frame.areas (entry_of station.members frame.source).areas ≡ true → repeats? station frame octets assembly ≡ true
      → GatherCases station frame octets memory assembly (repeated station.gathering assembly memory)
  drops : (same_areas frame.areas (entry_of station.members frame.source).areas && repeats? station frame octets assembly) ≡ false
      → GatherCases station frame octets memory assembly (dropped assembly memory)

-- the phases in which a token frame begins joining, and those in which a request is listed
pub data Awaits : Phase → Type 0 where
  listening_awaits : Awaits Listening
  startup_awaits : Awaits Startup

pub data Lists : Phase → Type 0 where
  startup_lists : Lists Startup
  participant_lists : Lists Participating

-- the frames, but for cyclic ones, that no rule names for the phase
pub data Unnamed : Phase → Code → Type 0 where
  listening_request : Unnamed Listening Request
  startup_trigger : Unnamed Startup Trigger
  joining_request : Unnamed Joining Request
  joining_trigger : Unnamed Joining Trigger
  participating_trigger : Unnamed Participating Trigger

-- what any other frame that no refusal met leaves, and its answer
pub data EnterCases (station : Station) (frame : Fields) : Station → Heard → Type 0 where
  off : station.phase ≡ Off → EnterCases station frame station answers.Off
  begins : station.phase ≡ Listening → frame.code ≡ Trigger → EnterCases station frame (fresh Startup station.own) answers.Done
  joins : Awaits station.phase → frame.code ≡ Token
      → EnterCases station frame (joined_by (fresh Joining station.own) frame) (answers.Cyclic (tokens.None Dropped))
  passes : Awaits station.phase → frame.code ≡ Cyclic → EnterCases station frame station (answers.Cyclic (tokens.None Dropped))
  reads : station.phase ≡ Joining → is_cyclic frame.code ≡ true
      → EnterCases station frame (joined_by station frame) (answers.Cyclic (tokens.None Dropped))
  lists : Lists station.phase → frame.code ≡ Request → EnterCases station frame (requested station frame) answers.Done
  ignores : Unnamed station.phase frame.code → EnterCases station frame station answers.Done

-- what hearing leaves
pub data HearCases (station : Station) (octets memory assembly : List ℕ) : Hearing → Type 0 where
  -- any refusal, but number 6 before we participate
  refuses : (refusal : Refusal) → HearCases station octets memory assembly (refused station memory assembly refusal)
  turns_off : is_participating station.phase ≡ false
      → HearCases station octets memory assembly (refused (stopped station) memory assembly refusals.Taken)
  gathers : (frame : Fields) {after : Gathered} → FromMember station octets memory assembly frame → GatherCases station frame octets memory assembly after
      → HearCases station octets memory assembly (participant_heard station frame after)
  heeds : (frame : Fields) {left : Station} {answer : Heard} → Accepts station octets memory assembly frame → EnterCases station frame left answer
      → HearCases station octets memory assembly (record { station = left; answer = answer; memory = memory; assembly = assembly })

-- What an answer tells of the frame that was heard or written: its code, its source and its destination, so that a host need not look into
-- the octets. A frame's route is its code, source and destination.
use Rattle.std.specs.Prelude.{Ok, Err}
use Rattle.laws.specs.Usual.{cond, List, ℕ, eqb}
use Rattle.frame.specs.Codes.{code_number}
use Rattle.frame.specs.Octets.{octet_at, word_at}
use Rattle.frame.specs.Positions.{SNA, DNA, TCD}
use Rattle.frame.specs.declared.Fields.{Fields}
use Rattle.frame_reading.specs.Reading.{read_of}
use Rattle.frame_reading.specs.Reading.{Read}
use Rattle.station.specs.Types.{Asked}
use Rattle.station.specs.declared.Heard.{Heard}
use Rattle.boundary_answers.specs.Numbers.{no_frame, heard_answer, frame_answer, refused_answer}
use Rattle.boundary_answers.specs.declared.Answer.{Answer}
use Rattle.boundary_answers.specs.declared.Route.{Route}

-- of a frame's fields
abbrev pub route_of : Fields → Route
route_of fields = record { code = code_number fields.code; source = fields.source; destination = fields.destination }

-- of what was read: of a frame, or of none
abbrev pub route_read : Read → Route
route_read (Ok fields) = route_of fields
route_read (Err refusal) = no_frame

-- as it stands in octets
abbrev pub route_in : List ℕ → Route
route_in octets = record { code = word_at octets TCD; source = octet_at octets SNA; destination = octet_at octets DNA }

-- an answer with the route of a frame
abbrev pub with_frame : Answer → Route → Answer
with_frame answer frame = record {
  word = answer.word;
  refusal = answer.refusal;
  token = answer.token;
  outcome = answer.outcome;
  frame = frame;
  octets = answer.octets;
}

-- a hearing tells the route of a frame that was read, whatever is answered to it
abbrev pub heard_told : List ℕ → Heard → Answer
heard_told octets answer = with_frame (heard_answer answer) (route_read (read_of octets))

-- an asking tells the route as it stands in the frame that was written
abbrev pub asked_told : List ℕ → Asked → Answer
asked_told output (Ok count) = with_frame (frame_answer count) (route_in output)
asked_told output (Err refusal) = refused_answer refusal

-- the same by the numbers of an answer alone: 3 is the word of one that is a frame
abbrev pub written_told : List ℕ → Answer → Answer
written_told output answer = cond (eqb answer.word 3) (with_frame answer (route_in output)) answer

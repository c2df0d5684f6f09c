-- The answers as numbers. Refusals, outcomes and phases have the numbers of paper 01; the words of an answer are numbered here.
use Rattle.std.specs.Prelude.{Ok, Err}
use Rattle.laws.specs.Usual.{ℕ}
use Rattle.frame_refusals.specs.Refusals.{number_of}
use Rattle.station.specs.Rules.Answers.{data_number, token_number, data_of}
use Rattle.station.specs.Types.{Refusal}
use Rattle.station.specs.declared.Token.{Token}
use Rattle.station.specs.Types.{Switched}
use Rattle.station.specs.declared.Ticked.{Ticked}
use Rattle.station.specs.declared.Heard.{Heard}
use Rattle.station.specs.Types.{Asked}
use Rattle.boundary_answers.specs.declared.Answer.{Answer}
use Rattle.boundary_answers.specs.declared.Route.{Route}
use Rattle.station.specs.declared.Heard.TheVariants as heard
use Rattle.station.specs.declared.Ticked.TheVariants as ticked

-- no frame
abbrev pub no_frame : Route
no_frame = record { code = 0; source = 0; destination = 0 }

-- "off"
abbrev pub off_answer : Answer
off_answer = record { word = 0; refusal = 0; token = 0; outcome = 0; frame = no_frame; octets = 0 }

-- "done"
abbrev pub done_answer : Answer
done_answer = record { word = 1; refusal = 0; token = 0; outcome = 0; frame = no_frame; octets = 0 }

-- "what became of the token .. and inside it what became of the data"
abbrev pub cyclic_answer : Token → Answer
cyclic_answer token = record { word = 2; refusal = 0; token = token_number token; outcome = data_number (data_of token); frame = no_frame; octets = 0 }

-- a frame of so many octets
abbrev pub frame_answer : ℕ → Answer
frame_answer octets = record { word = 3; refusal = 0; token = 0; outcome = 0; frame = no_frame; octets = octets }

-- "A refusal returns its number alone"
abbrev pub refused_answer : Refusal → Answer
refused_answer refusal = record { word = 4; refusal = number_of refusal; token = 0; outcome = 0; frame = no_frame; octets = 0 }

abbrev pub switched_answer : Switched → Answer
switched_answer (Ok tt) = done_answer
switched_answer (Err refusal) = refused_answer refusal

abbrev pub ticked_answer : Ticked → Answer
ticked_answer ticked.Off = off_answer
ticked_answer ticked.Done = done_answer

abbrev pub heard_answer : Heard → Answer
heard_answer heard.Off = off_answer
heard_answer heard.Done = done_answer
heard_answer (heard.Cyclic token) = cyclic_answer token
heard_answer (heard.Refused refusal) = refused_answer refusal

abbrev pub asked_answer : Asked → Answer
asked_answer (Ok octets) = frame_answer octets
asked_answer (Err refusal) = refused_answer refusal

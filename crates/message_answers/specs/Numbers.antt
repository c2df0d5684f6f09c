-- The answers about messages as numbers. The words of an answer are those of the base, and 5 is that of a message that is handed over.
use Rattle.laws.specs.Usual.{List, ℕ}
use Rattle.boundary_answers.specs.Numbers.{off_answer, done_answer, refused_answer}
use Rattle.boundary_answers.specs.declared.Answer.{Answer}
use Rattle.boundary_told.specs.Told.{heard_told}
use Rattle.message.specs.declared.Delivery.{Delivery}
use Rattle.message.specs.declared.Posted.{Posted}
use Rattle.message.specs.declared.Received.{Received}
use Rattle.message_rules.specs.Rules.State.{no_message}
use Rattle.message_answers.specs.declared.Reception.{Reception}
use Rattle.message.specs.declared.Posted.TheVariants as posted
use Rattle.message.specs.declared.Received.TheVariants as received

abbrev pub posted_answer : Posted → Answer
posted_answer posted.Off = off_answer
posted_answer posted.Done = done_answer
posted_answer (posted.Refused refusal) = refused_answer refusal

-- a message that is handed over: where it comes from and goes to, its code, and how many octets of data, the last ones of the frame
abbrev pub delivery_answer : Delivery → Answer
delivery_answer delivery = record {
  word = 5;
  refusal = 0;
  token = 0;
  outcome = 0;
  frame = record { code = delivery.message.code; source = delivery.source; destination = delivery.message.destination };
  octets = delivery.octets;
}

-- what a hearing answers, of these octets: with the message that is handed over, or without one
abbrev pub received_told : List ℕ → Received → Reception
received_told octets (received.Told answer) = record { answer = heard_told octets answer; message = no_message }
received_told octets (received.Message delivery) = record { answer = delivery_answer delivery; message = delivery.message }

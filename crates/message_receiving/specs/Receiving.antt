-- A message that is for us and that no refusal met, by what is owed and known alone: the outgoing side does not matter to it.
use Rattle.std.specs.Prelude.{◌&&◌}
use Rattle.laws.specs.Usual.{Bool, cond, not, List}
use Rattle.boundary_answers.specs.Numbers.{heard_answer}
use Rattle.message.specs.Codes.{to_all}
use Rattle.message.specs.declared.Confirmation.{Confirmation}
use Rattle.message.specs.declared.Judged.{Judged}
use Rattle.message.specs.declared.Letter.{Letter}
use Rattle.message.specs.declared.Received.{Received}
use Rattle.message_answers.specs.Numbers.{delivery_answer}
use Rattle.message_answers.specs.declared.Reception.{Reception}
use Rattle.message_owed.specs.Owing.{owing_where_free}
use Rattle.message_places.specs.Outgoing.{messages_of}
use Rattle.message_places.specs.declared.Outgoing.{Outgoing}
use Rattle.message_rules.specs.Rules.Confirming.{is_full}
use Rattle.message_rules.specs.Rules.Hearing.{Hearing, judge, confirmation_of, answer_to}
use Rattle.message_rules.specs.Rules.State.{no_message, Sources, known_of}
use Rattle.message_sources.specs.Sources.{sources_after}
use Rattle.station.specs.declared.Station.{Station}
use Rattle.message.specs.declared.Received.TheVariants as received
use Rattle.station.specs.declared.Heard.TheVariants as heard

abbrev pub is_held_by : List Confirmation → Judged → Letter → Bool
is_held_by owed judged letter = not (to_all letter.message.destination) && is_full (confirmation_of judged letter) owed

abbrev pub owed_after : List Confirmation → Judged → Letter → List Confirmation
owed_after owed judged letter = cond (to_all letter.message.destination) owed (owing_where_free (confirmation_of judged letter) owed)

-- what is owed and known after it, and the answer
pub record Taking : Type 0 where
  pub owed : List Confirmation
  pub sources : Sources
  pub answer : Received

abbrev pub judged_by : Sources → Letter → Judged
judged_by sources letter = judge (known_of sources letter.source) letter

unfoldable pub taken_by : List Confirmation → Sources → Letter → Taking
taken_by owed sources letter =
    cond (is_held_by owed (judged_by sources letter) letter)
    (record { owed = owed; sources = sources; answer = received.Told heard.Done })
    (record {
      owed = owed_after owed (judged_by sources letter) letter;
      sources = sources_after sources (judged_by sources letter) letter;
      answer = answer_to (judged_by sources letter) letter;
    })

-- the same as a hearing, of a station and an outgoing side that it leaves as they are
abbrev pub heard_as : Station → Outgoing → Taking → Hearing
heard_as station outgoing taking = record {
  station = station;
  messages = messages_of outgoing taking.owed taking.sources;
  answer = taking.answer;
}

-- the answer to octets that no frame of the base was read of
abbrev pub received_answer : Received → Reception
received_answer (received.Told answer) = record { answer = heard_answer answer; message = no_message }
received_answer (received.Message delivery) = record { answer = delivery_answer delivery; message = delivery.message }

-- Start and stop of a station with messages: the message part after them, and that the answer's word tells whether they were done.
use Rattle.std.specs.Prelude.{Ok, Err, ◌≡◌}
use Rattle.laws.specs.Usual.{refl, eqb}
use Rattle.boundary_answers.specs.Numbers.{switched_answer}
use Rattle.message.specs.declared.Allowance.{Allowance}
use Rattle.message_rules.specs.Rules.Calls.{is_done, start_of, stop_of}
use Rattle.message_rules.specs.Rules.State.{Messages}
use Rattle.station.specs.declared.Settings.{Settings}
use Rattle.station.specs.declared.Station.{Station}
use Rattle.station.specs.Types.{Switched}

abbrev pub messages_started : Station → Messages → Settings → Allowance → Messages
messages_started station messages settings allowance = (start_of (record { ring = station; messages = messages }) settings allowance).both.messages

abbrev pub messages_stopped : Station → Messages → Messages
messages_stopped station messages = (stop_of (record { ring = station; messages = messages })).both.messages

pub done_word : (answer : Switched) → eqb (switched_answer answer).word 1 ≡ is_done answer
done_word (Ok tt) = refl
done_word (Err refusal) = refl

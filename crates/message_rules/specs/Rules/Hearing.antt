-- E2 of paper 02, with clause 9.3.3 e 2 of JEM 1479: hearing a message.
use Rattle.std.specs.Prelude.{◌&&◌, ◌||◌}
use Rattle.laws.specs.Usual.{Bool, true, false, cond, not, List, ℕ, length, eqb}
use Rattle.frame.specs.Octets.{word_at}
use Rattle.frame.specs.Positions.{TCD}
use Rattle.frame.specs.declared.Refusal.{Refusal}
use Rattle.frame_reading.specs.Reading.{whole, marked, long}
use Rattle.members.specs.Members.{is_listed}
use Rattle.message.specs.Codes.{is_message, to_all}
use Rattle.message.specs.Words.{status_of}
use Rattle.message.specs.declared.Confirmation.{Confirmation}
use Rattle.message.specs.declared.Delivery.{Delivery}
use Rattle.message.specs.declared.Judged.{Judged}
use Rattle.message.specs.declared.Judged.TheVariants.{Abnormal, OtherVersion, Repeat, New}
use Rattle.message.specs.declared.Letter.{Letter}
use Rattle.message.specs.declared.Received.{Received}
use Rattle.message_frames.specs.Frames.{letter_in, addressed, measured}
use Rattle.station.specs.Rules.Hearing.{lent_right, after_taken}
use Rattle.station.specs.Rules.State.{is_off, is_participating}
use Rattle.station.specs.declared.Station.{Station}
use Rattle.message_rules.specs.Rules.Confirming.{owing, is_full}
use Rattle.message_rules.specs.Rules.State.{Known, Messages, no_messages, known_of, with_known, with_heard}
use Rattle.frame.specs.declared.Refusal.TheVariants as refusals
use Rattle.message.specs.declared.Received.TheVariants as answers
use Rattle.station.specs.declared.Heard.TheVariants as heard

-- the ring part and the message part after it, and the answer; no buffer is touched
pub record Hearing : Type 0 where
  pub station : Station
  pub messages : Messages
  pub answer : Received

-- octets that 11, 1, 2 and 3 let through, with a message code: "Number 4 no longer covers the message codes"
abbrev pub is_letter : List ℕ → List ℕ → List ℕ → Bool
is_letter octets memory assembly =
    lent_right memory assembly
    && (whole octets && (marked octets && (long octets && is_message (word_at octets TCD))))

-- the number that a message is held against: of all for one to all, of one to one for the others. (E9 keeps eight of one to one.)
abbrev pub last_of : Known → Letter → ℕ
last_of known letter = cond (to_all letter.message.destination) known.to_all known.one_to_one

-- by version, number and what we know of the source, the first that applies
abbrev pub judge : Known → Letter → Judged
judge known letter =
    cond (eqb letter.version 0 || eqb letter.number 0) Abnormal
    (cond (not (eqb known.version 0 || eqb known.version letter.version)) OtherVersion
    (cond (eqb letter.number (last_of known letter)) Repeat New))

-- what we know of the source after it: another version is registered, with no number yet; a new message's number is noted
abbrev pub known_after : Judged → Known → Letter → Known
known_after Abnormal known letter = known
known_after OtherVersion known letter = record { version = letter.version; one_to_one = 0; to_all = 0 }
known_after Repeat known letter = known
known_after New known letter = record {
  version = letter.version;
  one_to_one = cond (to_all letter.message.destination) known.one_to_one letter.number;
  to_all = cond (to_all letter.message.destination) letter.number known.to_all;
}

abbrev pub confirmation_of : Judged → Letter → Confirmation
confirmation_of judged letter = record {
  status = status_of judged;
  source = letter.source;
  code = letter.message.code;
  version = letter.version;
  number = letter.number;
}

abbrev pub delivery_of : Letter → Delivery
delivery_of letter = record { source = letter.source; message = letter.message; octets = letter.octets }

-- "a repeat is handed to the host once": only a new message is handed over
abbrev pub answer_to : Judged → Letter → Received
answer_to Abnormal letter = answers.Told heard.Done
answer_to OtherVersion letter = answers.Told heard.Done
answer_to Repeat letter = answers.Told heard.Done
answer_to New letter = answers.Message (delivery_of letter)

-- a message that was judged: what we know, and what is owed. One to all isn't confirmed.
abbrev pub judged : Messages → Judged → Letter → Messages
judged messages judgement letter =
    with_heard messages
    (cond (to_all letter.message.destination) messages.owed (owing (confirmation_of judgement letter) messages.owed))
    (with_known messages.sources letter.source (known_after judgement (known_of messages.sources letter.source) letter))

abbrev pub judgement_of : Messages → Letter → Judged
judgement_of messages letter = judge (known_of messages.sources letter.source) letter

-- where its confirmation would be the ninth, nothing changes and it isn't handed over: its sender sends it again
abbrev pub is_held : Messages → Letter → Bool
is_held messages letter =
    not (to_all letter.message.destination)
    && is_full (confirmation_of (judgement_of messages letter) letter) messages.owed

abbrev pub unchanged : Station → Messages → Received → Hearing
unchanged station messages answer = record { station = station; messages = messages; answer = answer }

abbrev pub taken : Station → Messages → Letter → Hearing
taken station messages letter =
    cond (is_held messages letter)
    (unchanged station messages (answers.Told heard.Done))
    (record {
      station = station;
      messages = judged messages (judgement_of messages letter) letter;
      answer = answer_to (judgement_of messages letter) letter;
    })

-- "One to another station, or before we participate, changes nothing and is answered 'done', or 'off' by an off station."
abbrev pub is_for_us : Station → Letter → Bool
is_for_us station letter =
    is_participating station.phase
    && (eqb letter.message.destination station.own.number || to_all letter.message.destination)

abbrev pub delivered : Station → Messages → Letter → Hearing
delivered station messages letter =
    cond (is_off station.phase) (unchanged station messages (answers.Told heard.Off))
    (cond (is_for_us station letter) (taken station messages letter)
    (unchanged station messages (answers.Told heard.Done)))

-- a refusal: "returns its number alone and alters nothing"
abbrev pub refused : Station → Messages → Refusal → Hearing
refused station messages refusal = unchanged station messages (answers.Told (heard.Refused refusal))

-- 6, which an off station does not ask
abbrev pub is_taken : Station → Letter → Bool
is_taken station letter = not (is_off station.phase) && eqb letter.source station.own.number

-- 6 before we participate "turns the station off, as stop does", and its message part forgets all
abbrev pub messages_taken : Station → Messages → Messages
messages_taken station messages = cond (is_participating station.phase) messages no_messages

-- 9 "covers, while we participate, one from an unlisted source"
abbrev pub is_stranger : Station → Letter → Bool
is_stranger station letter = is_participating station.phase && not (is_listed station.members letter.source)

abbrev pub need : Bool → Hearing → Hearing → Hearing
need true refusal rest = rest
need false refusal rest = refusal

-- 5, 6, 8, 9, "the first that applies", of so many octets given
abbrev pub letter_heard : Station → Messages → ℕ → Letter → Hearing
letter_heard station messages given letter =
    need (addressed letter) (refused station messages refusals.Address)
    (need (not (is_taken station letter)) (refused (after_taken station) (messages_taken station messages) refusals.Taken)
    (need (measured given letter) (refused station messages refusals.Block)
    (need (not (is_stranger station letter)) (refused station messages refusals.Stranger)
    (delivered station messages letter))))

abbrev pub message_heard : Station → Messages → List ℕ → Hearing
message_heard station messages octets = letter_heard station messages (length octets) (letter_in octets)

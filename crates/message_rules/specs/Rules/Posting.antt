-- E2 of paper 02: handing in a message, the call `post`.
use Rattle.std.specs.Prelude.{◌&&◌, ◌||◌}
use Rattle.laws.specs.Usual.{Bool, true, false, cond, not, List, ℕ, length, eqb, leb}
use Rattle.copying.specs.Pasted.{pasted}
use Rattle.frame.specs.declared.Refusal.{Refusal}
use Rattle.members.specs.Members.{is_listed}
use Rattle.message.specs.Codes.{is_message, to_all}
use Rattle.message.specs.declared.Mail.TheVariants.{Waiting}
use Rattle.message.specs.declared.Message.{Message}
use Rattle.message.specs.declared.Posted.{Posted}
use Rattle.message_frames.specs.Frames.{data_most}
use Rattle.station.specs.Rules.State.{is_off}
use Rattle.station.specs.declared.Station.{Station}
use Rattle.message_rules.specs.Rules.Again.{is_open}
use Rattle.message.specs.declared.Slot.{Slot}
use Rattle.message_rules.specs.Rules.State.{Messages, with_slot}
use Rattle.frame.specs.declared.Refusal.TheVariants as refusals
use Rattle.message.specs.declared.Posted.TheVariants as answers

-- the call: the message part after it, the answer, and the mail buffer after it; the data are only read, and the ring part stays
pub record Posting : Type 0 where
  pub messages : Messages
  pub answer : Posted
  pub mail : List ℕ

-- a message that waits, with so many octets of data
abbrev pub waiting : Message → ℕ → Slot
waiting message octets = record {
  mail = Waiting;
  message = message;
  octets = octets;
  number = 0;
  ticks = 0;
  takings = 0;
  asked = false;
  resends = 0;
}

-- 11: the mail buffer has 1024 octets
abbrev pub mail_right : List ℕ → Bool
mail_right mail = eqb (length mail) data_most

-- 12: "message over 1024 octets, with no message code or to neither a listed station nor 255"
abbrev pub is_sendable : Station → Message → List ℕ → Bool
is_sendable station message octets =
    leb (length octets) data_most
    && (is_message message.code
    && (is_listed station.members message.destination || to_all message.destination))

-- a call that is refused where a test fails, and then alters nothing
abbrev pub need : Bool → Refusal → Messages → List ℕ → Posting → Posting
need true refusal messages mail rest = rest
need false refusal messages mail rest = record { messages = messages; answer = answers.Refused refusal; mail = mail }

-- an off station answers "off", and nothing changes; else the message waits, its data in front in the mail buffer
abbrev pub handed_in : Station → Messages → Message → List ℕ → List ℕ → Posting
handed_in station messages message octets mail =
    cond (is_off station.phase)
    (record { messages = messages; answer = answers.Off; mail = mail })
    (record {
      messages = with_slot messages (waiting message (length octets));
      answer = answers.Done;
      mail = pasted mail 0 octets;
    })

-- 11, 12, 13: 12 "tested after 11", 13 "tested after 12"
abbrev pub post_of : Station → Messages → Message → List ℕ → List ℕ → Posting
post_of station messages message octets mail =
    need (mail_right mail) refusals.Buffer messages mail
    (need (is_sendable station message octets) refusals.Message messages mail
    (need (not (is_open messages.slot.mail)) refusals.Waiting messages mail
    (handed_in station messages message octets mail)))

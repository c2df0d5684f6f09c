-- Clause 9.3.3 d and e 1 of JEM 1479: a message that goes, its number, and sending it again.
use Rattle.std.specs.Prelude.{◌&&◌, ◌||◌, ◌+◌}
use Rattle.laws.specs.Usual.{Bool, true, false, cond, not, ℕ, min, eqb, leb}
use Rattle.message.specs.Codes.{to_all}
use Rattle.message.specs.declared.Letter.{Letter}
use Rattle.message.specs.declared.Mail.{Mail}
use Rattle.message.specs.declared.Mail.TheVariants.{Nothing, Waiting, Unconfirmed, Confirmed, Sent, Failed}
use Rattle.message.specs.declared.Slot.{Slot}
use Rattle.message_rules.specs.Rules.State.{Messages, with_slot, with_gone, with_turn}

abbrev pub is_waiting : Mail → Bool
is_waiting Nothing = false
is_waiting Waiting = true
is_waiting Unconfirmed = false
is_waiting Confirmed = false
is_waiting Sent = false
is_waiting Failed = false

abbrev pub is_unconfirmed : Mail → Bool
is_unconfirmed Nothing = false
is_unconfirmed Waiting = false
is_unconfirmed Unconfirmed = true
is_unconfirmed Confirmed = false
is_unconfirmed Sent = false
is_unconfirmed Failed = false

-- 13: "a message already waiting (one sent and still to be confirmed counts here)"
abbrev pub is_open : Mail → Bool
is_open mail = is_waiting mail || is_unconfirmed mail

-- the wait for a confirmation, AWT (8.7.11), 100 ms, in ticks; the takings that it waits for too; and how often a message is sent again
abbrev pub confirmation_wait : ℕ
confirmation_wait = 1000

abbrev pub takings_wait : ℕ
takings_wait = 3

abbrev pub resends_most : ℕ
resends_most = 3

-- a slot with what has come since its message last went, and what became of it
abbrev pub slot_with : Slot → Mail → ℕ → ℕ → Bool → Slot
slot_with slot mail ticks takings asked = record {
  mail = mail;
  message = slot.message;
  octets = slot.octets;
  number = slot.number;
  ticks = ticks;
  takings = takings;
  asked = asked;
  resends = slot.resends;
}

-- A resend is due when a status other than 1 came for it since it last went, or when both waits have ended.
abbrev pub is_due : Slot → Bool
is_due slot = slot.asked || (leb confirmation_wait slot.ticks && leb takings_wait slot.takings)

-- After three resends, what would make a fourth due makes the message failed.
abbrev pub or_failed : Slot → Slot
or_failed slot =
    cond (is_unconfirmed slot.mail && (is_due slot && leb resends_most slot.resends))
    (slot_with slot Failed slot.ticks slot.takings slot.asked)
    slot

-- only an unconfirmed message waits for its confirmation
abbrev pub where_unconfirmed : Slot → Slot → Slot
where_unconfirmed slot after = cond (is_unconfirmed slot.mail) (or_failed after) slot

-- a tick counts in every phase, up to the wait
abbrev pub slot_ticked : Slot → Slot
slot_ticked slot =
    where_unconfirmed slot
    (slot_with slot Unconfirmed (min confirmation_wait (slot.ticks + 1)) slot.takings slot.asked)

-- and so does a taking of ours: "receiving a token addressed to the self node"
abbrev pub slot_taken : Slot → Slot
slot_taken slot =
    where_unconfirmed slot
    (slot_with slot Unconfirmed slot.ticks (min takings_wait (slot.takings + 1)) slot.asked)

-- a status that came for it: 1 confirms it, any other asks for a resend
abbrev pub slot_answered : Slot → ℕ → Slot
slot_answered slot status =
    cond (eqb status 1)
    (slot_with slot Confirmed slot.ticks slot.takings slot.asked)
    (or_failed (slot_with slot Unconfirmed slot.ticks slot.takings true))

abbrev pub ticked : Messages → Messages
ticked messages = with_slot messages (slot_ticked messages.slot)

-- a taking begins a turn
abbrev pub turned : Bool → Messages → Messages
turned true messages = with_turn messages (slot_taken messages.slot)
turned false messages = messages

-- the message that goes: the one that waits, or the one whose resend is due (E9 chooses among eight)
abbrev pub is_to_go : Slot → Bool
is_to_go slot = is_waiting slot.mail || (is_unconfirmed slot.mail && is_due slot)

-- a message's number is given when it first goes: the one after the last given, from 1, and 1 after the largest; one line for one to one and one for to
-- all
abbrev pub number_after : ℕ → ℕ
number_after last = cond (leb 0xffffffff last) 1 (last + 1)

abbrev pub new_number : Messages → ℕ
new_number messages =
    cond (to_all messages.slot.message.destination)
    (number_after messages.last_to_all)
    (number_after messages.last_one_to_one)

-- a resend keeps its number
abbrev pub number_going : Messages → ℕ
number_going messages = cond (is_waiting messages.slot.mail) (new_number messages) messages.slot.number

-- what becomes of a message that goes: to all it is sent, never again; one to one it waits for its confirmation, ticks and takings from 0. How often it was
-- sent again is counted up to three, as ticks and takings are up to their waits.
abbrev pub slot_gone : Messages → Slot
slot_gone messages = record {
  mail = cond (to_all messages.slot.message.destination) Sent Unconfirmed;
  message = messages.slot.message;
  octets = messages.slot.octets;
  number = number_going messages;
  ticks = 0;
  takings = 0;
  asked = false;
  resends = cond (is_waiting messages.slot.mail) 0 (min resends_most (messages.slot.resends + 1));
}

-- a number is given at the first going alone
abbrev pub given_to : Bool → Messages → ℕ → ℕ
given_to kind messages last = cond (is_waiting messages.slot.mail && kind) (new_number messages) last

abbrev pub gone : Messages → Messages
gone messages =
    with_gone messages (slot_gone messages)
    (given_to (not (to_all messages.slot.message.destination)) messages messages.last_one_to_one)
    (given_to (to_all messages.slot.message.destination) messages messages.last_to_all)

-- the frame that it goes in
abbrev pub letter_going : ℕ → Messages → Letter
letter_going source messages = record {
  source = source;
  version = messages.version;
  number = number_going messages;
  message = messages.slot.message;
  octets = messages.slot.octets;
}

-- A pair of stations, 1 and 2, and a message from 1 to 2 that is confirmed. Each step leaves the states that are written out here. Assumes nothing.
use Rattle.std.specs.Prelude.{Ok, ◌≡◌, ◌∷◌, ◌++◌}
use Rattle.laws.specs.Usual.{refl, Bool, true, false, cond, List, [], ℕ, drop, eqb, replicate, take}
use Rattle.frame_reading.specs.Reading.{fields_of}
use Rattle.frame_writing.specs.Writing.{header_of, front_of, back_of, fixed_for}
use Rattle.message.specs.declared.Confirmation.{Confirmation}
use Rattle.message.specs.declared.Mail.{Mail}
use Rattle.message.specs.declared.Mail.TheVariants.{Waiting, Unconfirmed, Confirmed}
use Rattle.message.specs.declared.Message.{Message}
use Rattle.message.specs.declared.Slot.{Slot}
use Rattle.message_frames.specs.Confirmations.{carrying}
use Rattle.message_ring.specs.Events.{Boths, rings_of, Event, asked, stray, after_event}
use Rattle.message_rules.specs.Ring.Reached.{Reachable}
use Rattle.message_rules.specs.Rules.Calls.{Both, Call, post, ask, hear_of, ask_of, mail_of}
use Rattle.message_rules.specs.Rules.Posting.{waiting, post_of}
use Rattle.message_rules.specs.Rules.State.{Messages, begun, with_slot, with_heard, with_known, no_sources}
use Rattle.message_worked.specs.Bringing.{output, no_mail, hears, allowance, token, short, panel_of, participant, one, two, one_reached, two_reached, reached_by}
use Rattle.ring.specs.Events.{Lent}
use Rattle.ring_worked.specs.Bringing.{large}
use Rattle.station.specs.Types.{Milliseconds}
use Rattle.station.specs.declared.Data.TheVariants.{Written}
use Rattle.message.specs.declared.Posted.TheVariants as posting
use Rattle.message.specs.declared.Received.TheVariants as received
use Rattle.message_frames.specs.Frames as letters
use Rattle.ring.specs.Events as ring
use Rattle.station.specs.declared.Heard.TheVariants as heard
use Rattle.station.specs.declared.Token.TheVariants as tokens

-- two stations as a ring
abbrev pub pair_of : Both → Both → Boths
pair_of first second number = cond (eqb number 1) first second

-- a station is asked, and the other one is handed what it writes
abbrev pub lent : ℕ → Lent
lent number = record { memory = large; assembly = large }

abbrev pub asks : ℕ → List ℕ → Event
asks who mail = asked who large large output mail lent

-- an event leaves these two
abbrev pub Leaves : Boths → Event → Both → Both → Type 0
Leaves boths event first second = (after_event boths event 1 ≡ first) × (after_event boths event 2 ≡ second)

-- Station 2, which holds, passes the token to station 1: this ends a cycle of one tick there.
abbrev pub one_holds : Milliseconds → Both
one_holds watch = record { ring = participant watch 1 2 0 1 (panel_of 2 0 1); messages = begun (allowance 7) }

abbrev pub two_passed : Milliseconds → Both
two_passed watch = record { ring = participant watch 2 1 0 1 (panel_of 2 0 1); messages = begun (allowance 9) }

pub begins : Leaves (pair_of (one short) (two short)) (asks 2 no_mail) (one_holds short) (two_passed short)
unfolding header_of front_of back_of fixed_for fields_of
begins = (refl, refl)

-- the message: code 10000 to station 2, two octets of data
abbrev pub message : Message
message = record { destination = 2; code = 10000; size = 2; address = 5; result = 0 }

abbrev pub content : List ℕ
content = 0xab ∷ 0xcd ∷ []

-- the mail buffer with its data in front
abbrev pub mail : List ℕ
mail = content ++ replicate 1022 0

-- Station 1 is handed the message: it waits.
abbrev pub hands_in : Event
hands_in = stray 1 (post message content no_mail)

abbrev pub one_posted : Milliseconds → Both
one_posted watch = record { ring = (one_holds watch).ring; messages = with_slot (begun (allowance 7)) (waiting message 2) }

pub is_posted : Leaves (pair_of (one_holds short) (two_passed short)) hands_in (one_posted short) (two_passed short)
is_posted = (refl, refl)

pub posted_answer : ((post_of (one_holds short).ring (one_holds short).messages message content no_mail).answer ≡ posting.Done)
    × ((post_of (one_holds short).ring (one_holds short).messages message content no_mail).mail ≡ mail) × (mail_of (one_posted short) ≡ Waiting)
posted_answer = (refl, refl, refl)

-- It has gone, with number 1 and version 7: what became of it, with the ticks and takings since, how often it was sent again, and whether it went in this turn
-- and in the last.
abbrev pub slot_of : Mail → ℕ → ℕ → ℕ → Slot
slot_of mail ticks takings resends = record {
  mail = mail;
  message = message;
  octets = 2;
  number = 1;
  ticks = ticks;
  takings = takings;
  asked = false;
  resends = resends;
}

abbrev pub gone_with : Slot → Bool → Bool → Messages
gone_with slot went_now went_last = record {
  allowed = record { 0 = 100 };
  version = 7;
  slot = slot;
  last_one_to_one = 1;
  last_to_all = 0;
  went_now = went_now;
  went_last = went_last;
  owed = [];
  sources = no_sources;
}

-- The next asking of station 1 writes it, and it is unconfirmed. Station 2 hears it, knows its number, and owes the confirmation.
abbrev pub letter : List ℕ
letter = letters.frame_of (record { source = 1; version = 7; number = 1; message = message; octets = 2 }) mail

abbrev pub confirmation : Confirmation
confirmation = record { status = 1; source = 1; code = 10000; version = 7; number = 1 }

abbrev pub one_went : Milliseconds → Both
one_went watch = record { ring = (one_holds watch).ring; messages = gone_with (slot_of Unconfirmed 0 0 0) true false }

-- station 2 with this owed
abbrev pub knowing : List Confirmation → Messages
knowing owed = with_heard (begun (allowance 9)) owed (with_known no_sources 1 (record { version = 7; one_to_one = 1; to_all = 0 }))

abbrev pub two_owes : Milliseconds → Both
two_owes watch = record { ring = (two_passed watch).ring; messages = knowing (confirmation ∷ []) }

pub goes_out : Leaves (pair_of (one_posted short) (two_passed short)) (asks 1 mail) (one_went short) (two_owes short)
unfolding header_of front_of back_of fixed_for fields_of letters.letter_in letters.header_of
goes_out = (refl, refl)

-- the frame: 64 octets, then its data
pub went_answer : ((ask_of (one_posted short) large large output mail).answer ≡ Ok 66)
    × (take 66 (ask_of (one_posted short) large large output mail).output ≡ letter) × (mail_of (one_went short) ≡ Unconfirmed)
unfolding letters.header_of
went_answer = (refl, refl, refl)

-- Station 2 answers that it has a message, whose data are the frame's last two octets.
pub heard_answer : ((hear_of (two_passed short) letter large large).answer ≡ received.Message (record { source = 1; message = message; octets = 2 }))
    × (drop 64 letter ≡ content)
unfolding letters.letter_in letters.header_of
heard_answer = (refl, refl)

-- Handed in, written and heard, it left both ring parts: views, watches, lists and all else.
pub rings_stay : ((one_posted short).ring ≡ (one_holds short).ring) × ((one_went short).ring ≡ (one_holds short).ring) × ((two_owes short).ring ≡ (two_passed short).ring)
rings_stay = (refl, refl, refl)

-- Asked again, station 1 passes the token to station 2, which still owes.
abbrev pub one_passed : Milliseconds → Both
one_passed watch = record { ring = participant watch 1 2 0 2 (panel_of 2 0 1); messages = gone_with (slot_of Unconfirmed 0 0 0) true false }

abbrev pub two_holds : Milliseconds → Both
two_holds watch = record { ring = participant watch 2 1 0 2 (panel_of 2 0 0); messages = knowing (confirmation ∷ []) }

pub passes : Leaves (pair_of (one_went short) (two_owes short)) (asks 1 mail) (one_passed short) (two_holds short)
unfolding header_of front_of back_of fixed_for fields_of
passes = (refl, refl)

-- Station 2 is asked: its token frame carries the confirmation, and it owes nothing. Station 1 hears it: its message is confirmed.
abbrev pub one_confirmed : Milliseconds → Both
one_confirmed watch = record { ring = participant watch 1 2 0 1 (panel_of 2 0 0); messages = gone_with (slot_of Confirmed 0 0 0) false true }

abbrev pub two_answered : Milliseconds → Both
two_answered watch = record { ring = participant watch 2 1 0 1 (panel_of 2 0 0); messages = knowing [] }

pub is_confirmed : Leaves (pair_of (one_passed short) (two_holds short)) (asks 2 no_mail) (one_confirmed short) (two_answered short)
unfolding header_of front_of back_of fixed_for fields_of
is_confirmed = (refl, refl)

-- the frame has 20 octets more, and station 1 answers as to one without them
pub carries : ((ask_of (two_holds short) large large output no_mail).answer ≡ Ok 84)
    × (take 84 (ask_of (two_holds short) large large output no_mail).output ≡ carrying confirmation (token short 2 1))
    × ((hear_of (one_passed short) (carrying confirmation (token short 2 1)) large large).answer ≡ received.Told (heard.Cyclic (tokens.OursNow Written)))
    × (mail_of (one_confirmed short) ≡ Confirmed)
unfolding header_of front_of back_of fixed_for fields_of
carries = (refl, refl, refl, refl)

-- In these two passes too the ring parts are what they are in a ring without messages.
abbrev ring_asks : ℕ → ring.Event
ring_asks who = ring.asked who large large output lent

pub as_without : (ring.after_event (rings_of (pair_of (one_holds short) (two_passed short))) (ring_asks 1) 1 ≡ (one_passed short).ring)
    × (ring.after_event (rings_of (pair_of (one_holds short) (two_passed short))) (ring_asks 1) 2 ≡ (two_holds short).ring)
    × (ring.after_event (rings_of (pair_of (one_passed short) (two_holds short))) (ring_asks 2) 1 ≡ (one_confirmed short).ring)
    × (ring.after_event (rings_of (pair_of (one_passed short) (two_holds short))) (ring_asks 2) 2 ≡ (two_answered short).ring)
unfolding header_of front_of back_of fixed_for fields_of
as_without = (refl, refl, refl, refl)

-- what is owed, step by step
pub is_owed_lem : ((two_passed short).messages.owed ≡ []) × ((two_owes short).messages.owed ≡ confirmation ∷ [])
    × ((two_holds short).messages.owed ≡ confirmation ∷ []) × ((two_answered short).messages.owed ≡ [])
is_owed_lem = (refl, refl, refl, refl)

-- By calls alone since off, each station by its own:
abbrev asks_with : List ℕ → Call
asks_with lent = ask large large output lent

pub one_ends : Reachable (one_confirmed short)
unfolding header_of front_of back_of fixed_for
one_ends =
    reached_by (hears (carrying confirmation (token short 2 1))) refl
    (reached_by (asks_with mail) refl
    (reached_by (asks_with mail) refl
    (reached_by (post message content no_mail) refl
    (reached_by (hears (token short 2 1)) refl one_reached begins.0)
    is_posted.0)
    goes_out.0)
    passes.0)
    is_confirmed.0

pub two_ends : Reachable (two_answered short)
unfolding header_of front_of back_of fixed_for letters.header_of
two_ends =
    reached_by (asks_with no_mail) refl
    (reached_by (hears (token short 1 2)) refl
    (reached_by (hears letter) refl (reached_by (asks_with no_mail) refl two_reached begins.1) goes_out.1)
    passes.1)
    is_confirmed.1

-- All calls of a station with messages. A call on both is the base's call on the ring part, and the message part looks at the ring part before and
-- after. Two calls leave the ring part alone: handing in a message, and an asking that writes one.
use Rattle.std.specs.Prelude.{Ok, Err, ◌&&◌, ◌∷◌}
use Rattle.laws.specs.Usual.{[], Bool, true, false, cond, not, List, ℕ}
use Rattle.message.specs.declared.Allowance.{Allowance}
use Rattle.message.specs.declared.Mail.{Mail}
use Rattle.message.specs.declared.Message.{Message}
use Rattle.message.specs.declared.Posted.{Posted}
use Rattle.message.specs.declared.Received.{Received}
use Rattle.message_frames.specs.Frames.{whole_length, output_of}
use Rattle.station.specs.Panel.History.{step_of, is_taking}
use Rattle.station.specs.Rules.State.{is_off, is_participating, never}
use Rattle.station.specs.Types.{Asked}
use Rattle.station.specs.declared.Settings.{Settings}
use Rattle.station.specs.declared.Station.{Station}
use Rattle.station.specs.Types.{Switched}
use Rattle.station.specs.declared.Ticked.{Ticked}
use Rattle.message_rules.specs.Rules.Again.{ticked, turned, gone, letter_going}
use Rattle.message_rules.specs.Rules.Confirming.{Carried, carried_in, after_frame}
use Rattle.message_rules.specs.Rules.Cycle.{goes}
use Rattle.message_rules.specs.Rules.Hearing.{is_letter, message_heard}
use Rattle.message_rules.specs.Rules.Posting.{mail_right, post_of}
use Rattle.message_rules.specs.Rules.State.{Messages, no_messages, begun, with_heard}
use Rattle.frame.specs.declared.Refusal.TheVariants as refusals
use Rattle.message.specs.declared.Posted.TheVariants as posted
use Rattle.message.specs.declared.Received.TheVariants as received
use Rattle.station.specs.Rules.Asking as asking
use Rattle.station.specs.Rules.Calls as base
use Rattle.station.specs.Rules.Hearing as hearing
use Rattle.station.specs.Rules.Starting as starting
use Rattle.station.specs.Rules.Ticking as ticking
use Rattle.message_rules.specs.Rules.Hearing as letters

-- a station with messages: its ring part, which is a station of the base, and its message part
pub record Both : Type 0 where
  pub ring : Station
  pub messages : Messages

-- a station with messages that was never started
abbrev pub never_both : Both
never_both = record { ring = never; messages = no_messages }

abbrev pub is_done : Switched → Bool
is_done (Ok tt) = true
is_done (Err refusal) = false

-- start, which also takes the allowed cycle and the version, and stop, which forgets all of messages
pub record Switching : Type 0 where
  pub both : Both
  pub answer : Switched

abbrev pub start_of : Both → Settings → Allowance → Switching
start_of both settings allowance = record {
  both = record {
    ring = (starting.start_of both.ring settings).station;
    messages = cond (is_done (starting.start_of both.ring settings).answer) (begun allowance) both.messages;
  };
  answer = (starting.start_of both.ring settings).answer;
}

abbrev pub stop_of : Both → Switching
stop_of both = record {
  both = record {
    ring = (starting.stop_of both.ring).station;
    messages = cond (is_done (starting.stop_of both.ring).answer) no_messages both.messages;
  };
  answer = (starting.stop_of both.ring).answer;
}

-- a turn begins at a taking, as the panel counts them: whether a call of the base is one
abbrev pub takes : Station → base.Call → Bool
takes station call = is_taking (step_of station call)

pub record Ticking : Type 0 where
  pub both : Both
  pub answer : Ticked

abbrev pub tick_of : Both → Ticking
tick_of both = record {
  both = record {
    ring = (ticking.tick_of both.ring).station;
    messages = turned (takes both.ring base.tick) (ticked both.messages);
  };
  answer = (ticking.tick_of both.ring).answer;
}

-- the call `hear`: both parts after it, the answer, and the lent buffers after it
pub record Hearing : Type 0 where
  pub both : Both
  pub answer : Received
  pub memory : List ℕ
  pub assembly : List ℕ

-- number 6 before we participate turns off
abbrev pub turns_off : Station → Station → Bool
turns_off before left = not (is_off before.phase) && is_off left.phase

-- a frame of the base. Its confirmation is read before the taking that the same frame brings.
abbrev pub frame_heard : Both → List ℕ → hearing.Hearing → Bool → Hearing
frame_heard both octets after taking = record {
  both = record {
    ring = after.station;
    messages =
        cond (turns_off both.ring after.station) no_messages
        (turned taking (after_frame both.ring both.messages octets after.answer));
  };
  answer = received.Told after.answer;
  memory = after.memory;
  assembly = after.assembly;
}

-- a message: no buffer is touched
abbrev pub letter_heard : letters.Hearing → List ℕ → List ℕ → Hearing
letter_heard after memory assembly = record {
  both = record { ring = after.station; messages = after.messages };
  answer = after.answer;
  memory = memory;
  assembly = assembly;
}

abbrev pub hear_of : Both → List ℕ → List ℕ → List ℕ → Hearing
hear_of both octets memory assembly =
    cond (is_letter octets memory assembly)
    (letter_heard (message_heard both.ring both.messages octets) memory assembly)
    (frame_heard both octets (hearing.hear_of both.ring octets memory assembly)
    (takes both.ring (base.hear octets memory assembly)))

-- the call `ask`: both parts after it, the answer, and the lent buffers after it; the common memory and the mail buffer are only read
pub record Asking : Type 0 where
  pub both : Both
  pub answer : Asked
  pub turn : List ℕ
  pub output : List ℕ

-- a message goes: the asking changes nothing in the ring part, nor in the turn buffer
abbrev pub letter_asked : Both → List ℕ → List ℕ → List ℕ → Asking
letter_asked both turn output mail = record {
  both = record { ring = both.ring; messages = gone both.messages };
  answer = Ok (whole_length (letter_going both.ring.own.number both.messages));
  turn = turn;
  output = output_of (letter_going both.ring.own.number both.messages) mail output;
}

-- our token frame carries the oldest confirmation that is owed: what the base wrote, with it in
abbrev pub carried_by : Both → Asked → List ℕ → Carried
carried_by both (Ok count) output =
    cond (is_participating both.ring.phase && asking.is_last both.ring)
    (carried_in both.messages.owed count output)
    (record { owed = both.messages.owed; count = count; output = output })
carried_by both (Err refusal) output = record { owed = both.messages.owed; count = 0; output = output }

abbrev pub answer_by : Asked → Carried → Asked
answer_by (Ok count) carried = Ok carried.count
answer_by (Err refusal) carried = Err refusal

-- a frame of the base, or its refusal
abbrev pub frame_asked : Both → asking.Asking → Carried → Bool → Asking
frame_asked both after carried taking = record {
  both = record {
    ring = after.station;
    messages = turned taking (with_heard both.messages carried.owed both.messages.sources);
  };
  answer = answer_by after.answer carried;
  turn = after.turn;
  output = carried.output;
}

abbrev pub block_asked : Both → List ℕ → List ℕ → List ℕ → Asking
block_asked both memory turn output =
    frame_asked both (asking.ask_of both.ring memory turn output)
    (carried_by both (asking.ask_of both.ring memory turn output).answer (asking.ask_of both.ring memory turn output).output)
    (takes both.ring (base.ask memory turn output))

-- 11, which looks at the mail buffer too, then 10
abbrev pub ask_of : Both → List ℕ → List ℕ → List ℕ → List ℕ → Asking
ask_of both memory turn output mail =
    cond (mail_right mail)
    (cond (asking.lent_right memory turn output && goes both.ring both.messages)
    (letter_asked both turn output mail)
    (block_asked both memory turn output))
    (record { both = both; answer = Err refusals.Buffer; turn = turn; output = output })

-- what became of the message in the slot, which `mail` shows without change
abbrev pub mail_of : Both → Mail
mail_of both = both.messages.slot.mail

-- a call with its arguments: handing in a message borrows its data and the mail buffer, asking the mail buffer too
pub data Call : Type 0 where
  start : Settings → Allowance → Call
  stop : Call
  tick : Call
  post : Message → (octets mail : List ℕ) → Call
  hear : (octets memory assembly : List ℕ) → Call
  ask : (memory turn output mail : List ℕ) → Call

-- the buffers that a call was lent
abbrev pub lent : Call → List (List ℕ)
lent (start settings allowance) = []
lent stop = []
lent tick = []
lent (post message octets mail) = octets ∷ mail ∷ []
lent (hear octets memory assembly) = octets ∷ memory ∷ assembly ∷ []
lent (ask memory turn output mail) = memory ∷ turn ∷ output ∷ mail ∷ []

-- and what they hold after it
abbrev pub lent_after : Both → Call → List (List ℕ)
lent_after both (start settings allowance) = []
lent_after both stop = []
lent_after both tick = []
lent_after both (post message octets mail) = octets ∷ (post_of both.ring both.messages message octets mail).mail ∷ []
lent_after both (hear octets memory assembly) =
    octets ∷ (hear_of both octets memory assembly).memory ∷ (hear_of both octets memory assembly).assembly ∷ []
lent_after both (ask memory turn output mail) =
    memory ∷ (ask_of both memory turn output mail).turn ∷ (ask_of both memory turn output mail).output ∷ mail ∷ []

-- both parts after a call
abbrev pub after : Both → Call → Both
after both (start settings allowance) = (start_of both settings allowance).both
after both stop = (stop_of both).both
after both tick = (tick_of both).both
after both (post message octets mail) =
    record { ring = both.ring; messages = (post_of both.ring both.messages message octets mail).messages }
after both (hear octets memory assembly) = (hear_of both octets memory assembly).both
after both (ask memory turn output mail) = (ask_of both memory turn output mail).both

-- what a call answered, as far as it is a refusal
abbrev pub posted_verdict : Posted → base.Verdict
posted_verdict posted.Off = base.unrefused
posted_verdict posted.Done = base.unrefused
posted_verdict (posted.Refused refusal) = base.refused_by refusal

abbrev pub received_verdict : Received → base.Verdict
received_verdict (received.Told answer) = base.heard_verdict answer
received_verdict (received.Message delivery) = base.unrefused

abbrev pub verdict : Both → Call → base.Verdict
verdict both (start settings allowance) = base.switched_verdict (start_of both settings allowance).answer
verdict both stop = base.switched_verdict (stop_of both).answer
verdict both tick = base.unrefused
verdict both (post message octets mail) = posted_verdict (post_of both.ring both.messages message octets mail).answer
verdict both (hear octets memory assembly) = received_verdict (hear_of both octets memory assembly).answer
verdict both (ask memory turn output mail) = base.asked_verdict (ask_of both memory turn output mail).answer

-- Paper 01, "Numbers the station answers with", with E2 of paper 02: for each number, the calls and states of a station with messages to which it applies,
-- whatever the other numbers say of the same call. What is not written out here is as it was: `applies` of crates/refusals/specs/Applies.antt.
use Rattle.std.specs.Prelude.{◌&&◌, ◌||◌, ◌-◌}
use Rattle.laws.specs.Usual.{Bool, false, not, List, ℕ, length, ltb}
use Rattle.frame.specs.Octets.{word_at}
use Rattle.frame.specs.Positions.{TCD}
use Rattle.frame.specs.declared.Refusal.{Refusal}
use Rattle.frame.specs.declared.Refusal.TheVariants.{Cut, Mark, Length, Code, Address, Taken, Area, Block, Stranger, NotDue, Buffer, Message, Waiting, Total, Number}
use Rattle.frame_refusals.specs.Refusals.{order}
use Rattle.members.specs.Members.{is_listed}
use Rattle.message.specs.Codes.{is_message, to_all}
use Rattle.message.specs.declared.Letter.{Letter}
use Rattle.message_frames.specs.Frames.{letter_in}
use Rattle.message_rules.specs.Rules.Again.{is_open}
use Rattle.message_rules.specs.Rules.Calls.{Both, Call, start, stop, tick, post, hear, ask}
use Rattle.message_rules.specs.Rules.Posting.{mail_right}
use Rattle.refusals.specs.Applies.{first_of}
use Rattle.station.specs.Rules.Calls.{Verdict}
use Rattle.station.specs.Rules.State.{is_participating}
use Rattle.station.specs.declared.Station.{Station}
use Rattle.message.specs.declared.Message as messages
use Rattle.refusals.specs.Applies as base
use Rattle.station.specs.Rules.Calls as calls

-- octets with a message code
abbrev pub coded_as_message : List ℕ → Bool
coded_as_message octets = is_message (word_at octets TCD)

-- 8 "covers a message whose last BSIZE octets, its data, are over 1024 or stand after other than 64 to 96"
abbrev pub wrong_data : ℕ → Letter → Bool
wrong_data given letter =
    ltb 1024 letter.octets || (ltb (given - letter.octets) 64 || ltb 96 (given - letter.octets))

-- 9 "covers, while we participate, one from an unlisted source"
abbrev pub unlisted : Station → Letter → Bool
unlisted station letter = is_participating station.phase && not (is_listed station.members letter.source)

-- to a frame that is heard: "Number 4 no longer covers the message codes". 5 and 6 look at the source of a message as of any other frame, and 7, 14 and 15 at
-- none.
abbrev pub heard_applies : Refusal → Both → List ℕ → List ℕ → List ℕ → Bool
heard_applies Cut both octets memory assembly = base.applies Cut both.ring (calls.hear octets memory assembly)
heard_applies Mark both octets memory assembly = base.applies Mark both.ring (calls.hear octets memory assembly)
heard_applies Length both octets memory assembly = base.applies Length both.ring (calls.hear octets memory assembly)
heard_applies Code both octets memory assembly =
    base.applies Code both.ring (calls.hear octets memory assembly) && not (coded_as_message octets)
heard_applies Address both octets memory assembly = base.applies Address both.ring (calls.hear octets memory assembly)
heard_applies Taken both octets memory assembly = base.applies Taken both.ring (calls.hear octets memory assembly)
heard_applies Area both octets memory assembly = base.applies Area both.ring (calls.hear octets memory assembly)
heard_applies Block both octets memory assembly =
    base.applies Block both.ring (calls.hear octets memory assembly)
    || (coded_as_message octets && wrong_data (length octets) (letter_in octets))
heard_applies Stranger both octets memory assembly =
    base.applies Stranger both.ring (calls.hear octets memory assembly)
    || (coded_as_message octets && unlisted both.ring (letter_in octets))
heard_applies NotDue both octets memory assembly = false
heard_applies Buffer both octets memory assembly = base.applies Buffer both.ring (calls.hear octets memory assembly)
heard_applies Message both octets memory assembly = false
heard_applies Waiting both octets memory assembly = false
heard_applies Total both octets memory assembly = base.applies Total both.ring (calls.hear octets memory assembly)
heard_applies Number both octets memory assembly = base.applies Number both.ring (calls.hear octets memory assembly)

-- 12: "message over 1024 octets, with no message code or to neither a listed station nor 255"
abbrev pub unsendable : Station → messages.Message → List ℕ → Bool
unsendable station message octets =
    ltb 1024 (length octets)
    || (not (is_message message.code) || (not (is_listed station.members message.destination) && not (to_all message.destination)))

-- to a message that is handed in: 11 where the mail buffer has not 1024 octets, 12, and 13, "a message already waiting (one sent and still to be confirmed
-- counts here)"
abbrev pub post_applies : Refusal → Both → messages.Message → List ℕ → List ℕ → Bool
post_applies Cut both message octets mail = false
post_applies Mark both message octets mail = false
post_applies Length both message octets mail = false
post_applies Code both message octets mail = false
post_applies Address both message octets mail = false
post_applies Taken both message octets mail = false
post_applies Area both message octets mail = false
post_applies Block both message octets mail = false
post_applies Stranger both message octets mail = false
post_applies NotDue both message octets mail = false
post_applies Buffer both message octets mail = not (mail_right mail)
post_applies Message both message octets mail = unsendable both.ring message octets
post_applies Waiting both message octets mail = is_open both.messages.slot.mail
post_applies Total both message octets mail = false
post_applies Number both message octets mail = false

-- to an asking: 11 also where the mail buffer has not 1024 octets
abbrev pub ask_applies : Refusal → Both → List ℕ → List ℕ → List ℕ → List ℕ → Bool
ask_applies Cut both memory turn output mail = false
ask_applies Mark both memory turn output mail = false
ask_applies Length both memory turn output mail = false
ask_applies Code both memory turn output mail = false
ask_applies Address both memory turn output mail = false
ask_applies Taken both memory turn output mail = false
ask_applies Area both memory turn output mail = false
ask_applies Block both memory turn output mail = false
ask_applies Stranger both memory turn output mail = false
ask_applies NotDue both memory turn output mail = base.applies NotDue both.ring (calls.ask memory turn output)
ask_applies Buffer both memory turn output mail = not (mail_right mail) || base.applies Buffer both.ring (calls.ask memory turn output)
ask_applies Message both memory turn output mail = false
ask_applies Waiting both memory turn output mail = false
ask_applies Total both memory turn output mail = false
ask_applies Number both memory turn output mail = false

-- whether a refusal applies to a call in a state
abbrev pub applies : Refusal → Both → Call → Bool
applies refusal both (start settings allowance) = base.applies refusal both.ring (calls.start settings)
applies refusal both stop = base.applies refusal both.ring calls.stop
applies refusal both tick = base.applies refusal both.ring calls.tick
applies refusal both (post message octets mail) = post_applies refusal both message octets mail
applies refusal both (hear octets memory assembly) = heard_applies refusal both octets memory assembly
applies refusal both (ask memory turn output mail) = ask_applies refusal both memory turn output mail

-- "the first that applies", in the order 11, 12, 13, 10, 1, 2, 3, 4, 5, 6, 7, 14, 15, 8, 9
abbrev pub first_applying : Both → Call → Verdict
first_applying both call = first_of (λ refusal. applies refusal both call) order

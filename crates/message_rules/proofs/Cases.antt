-- The rules of messages worked out at single numbers, before anything is proved of all: the cycle rule at its edges, the waits of a resend, how a message is
-- judged, what is then known and owed, and what handing one in answers. Assumes nothing.
use Rattle.std.specs.Prelude.{◌≡◌}
use Rattle.laws.specs.Usual.{[], refl, ap, Bool, true, false, cond, length}
use Rattle.message.specs.Codes.{to_all}
use Rattle.message.specs.Words.{status_of}
use Rattle.message.specs.declared.Judged.{Judged}
use Rattle.message.specs.declared.Judged.TheVariants.{Abnormal, OtherVersion, Repeat, New}
use Rattle.message.specs.declared.Letter.{Letter}
use Rattle.message.specs.declared.Mail.TheVariants.{Waiting, Unconfirmed, Confirmed, Failed}
use Rattle.message_rules.specs.Rules.Again.{is_due, slot_ticked, slot_taken, slot_answered, number_after}
use Rattle.message_rules.specs.Rules.Confirming.{owing, is_full}
use Rattle.message_rules.specs.Rules.Cycle.{cycle_lets}
use Rattle.message_rules.specs.Rules.Hearing.{judge, known_after, judged, confirmation_of}
use Rattle.message_rules.specs.Rules.Posting.{post_of}
use Rattle.message_rules.specs.Rules.State.{Messages, no_messages}
use Rattle.station.specs.Rules.State.{never}
use Rattle.message_rules.specs.Cases.{slot_of, letter_to, known, one_of, eight, listening, open_slot, bad, buffer}
use Rattle.frame.specs.declared.Refusal.TheVariants as refusals
use Rattle.message.specs.declared.Posted.TheVariants as posted

-- 0 and 0; nine tenths exactly, and a tick more; a tick below the allowed cycle, and at it
edges : (cycle_lets 0 0 false ≡ false)
    × (cycle_lets 90 100 true ≡ true) × (cycle_lets 91 100 true ≡ false) × (cycle_lets 91 100 false ≡ true)
    × (cycle_lets 99 100 true ≡ false) × (cycle_lets 99 100 false ≡ true) × (cycle_lets 100 100 false ≡ false)
    × (cycle_lets 0 1 true ≡ true) × (cycle_lets 65535 65535 false ≡ false) × (cycle_lets 65536 65535 false ≡ false)
edges = (refl, refl, refl, refl, refl, refl, refl, refl, refl, refl)

-- both waits, or a status that asks
both_waits : (is_due (slot_of Unconfirmed 1000 2 false 0) ≡ false) × (is_due (slot_of Unconfirmed 999 3 false 0) ≡ false)
    × (is_due (slot_of Unconfirmed 1000 3 false 0) ≡ true) × (is_due (slot_of Unconfirmed 0 0 true 0) ≡ true)
both_waits = (refl, refl, refl, refl)

-- after three resends, what would make a fourth due makes it failed, in that very call: the thousandth tick, the third taking, or a status
fails : ((slot_ticked (slot_of Unconfirmed 999 3 false 3)).mail ≡ Failed) × ((slot_taken (slot_of Unconfirmed 1000 2 false 3)).mail ≡ Failed)
    × ((slot_answered (slot_of Unconfirmed 0 0 false 3) 5).mail ≡ Failed) × ((slot_ticked (slot_of Unconfirmed 999 3 false 2)).mail ≡ Unconfirmed)
fails = (refl, refl, refl, refl)

-- counts stop where a resend waits no longer; nothing counts once it is confirmed
stop_there : ((slot_ticked (slot_of Unconfirmed 1000 0 false 0)).ticks ≡ 1000) × ((slot_taken (slot_of Unconfirmed 0 3 false 0)).takings ≡ 3)
    × ((slot_ticked (slot_of Confirmed 5 0 false 0)).ticks ≡ 5) × ((slot_ticked (slot_of Waiting 5 0 false 0)).ticks ≡ 5)
stop_there = (refl, refl, refl, refl)

-- status 1 confirms, at any time; any other asks for a resend
statuses : ((slot_answered (slot_of Unconfirmed 7 1 true 2) 1).mail ≡ Confirmed) × ((slot_answered (slot_of Unconfirmed 7 1 false 2) 6).asked ≡ true)
statuses = (refl, refl)

-- 1 after none, and after the largest
numbers : (number_after 0 ≡ 1) × (number_after 1 ≡ 2) × (number_after 0xfffffffe ≡ 0xffffffff) × (number_after 0xffffffff ≡ 1)
numbers = (refl, refl, refl, refl)

-- a message to all is owed nothing: Table 19 has no confirmation for it
pub all_unowed : (messages : Messages) (judgement : Judged) (letter : Letter) → to_all letter.message.destination ≡ true
    → (judged messages judgement letter).owed ≡ messages.owed
all_unowed messages judgement letter all =
    ap (λ (t : Bool). cond t messages.owed (owing (confirmation_of judgement letter) messages.owed)) all

-- 0 is no version and no number; another version; each kind against its own number
judgements : (judge known (letter_to 3 0 5) ≡ Abnormal) × (judge known (letter_to 3 9 0) ≡ Abnormal) × (judge known (letter_to 3 8 4) ≡ OtherVersion)
    × (judge known (letter_to 3 9 4) ≡ Repeat) × (judge known (letter_to 3 9 6) ≡ New) × (judge known (letter_to 255 9 6) ≡ Repeat)
    × (judge known (letter_to 255 9 4) ≡ New) × (judge (record { version = 0; one_to_one = 0; to_all = 0 }) (letter_to 3 8 4) ≡ New)
judgements = (refl, refl, refl, refl, refl, refl, refl, refl)

-- another version is registered with no numbers; a new message's number is noted for its kind alone
after_judging : (known_after OtherVersion known (letter_to 3 8 4) ≡ record { version = 8; one_to_one = 0; to_all = 0 })
    × (known_after New known (letter_to 3 9 5) ≡ record { version = 9; one_to_one = 5; to_all = 6 })
    × (known_after New known (letter_to 255 9 5) ≡ record { version = 9; one_to_one = 4; to_all = 5 })
after_judging = (refl, refl, refl)

-- statuses: 1 also for a repeat
status_numbers : (status_of New ≡ 1) × (status_of Repeat ≡ 1) × (status_of OtherVersion ≡ 5) × (status_of Abnormal ≡ 6)
status_numbers = (refl, refl, refl, refl)

owed_once : (is_full (one_of 8) eight ≡ false) × (length (owing (one_of 8) eight) ≡ 8) × (is_full (one_of 9) eight ≡ true)
owed_once = (refl, refl, refl)

handing_in : ((post_of listening open_slot bad [] []).answer ≡ posted.Refused refusals.Buffer)
    × ((post_of listening open_slot bad [] buffer).answer ≡ posted.Refused refusals.Message)
    × ((post_of listening open_slot (letter_to 255 0 0).message [] buffer).answer ≡ posted.Refused refusals.Waiting)
    × ((post_of listening open_slot (letter_to 4 0 0).message [] buffer).answer ≡ posted.Refused refusals.Message)
    × ((post_of never no_messages (letter_to 255 0 0).message [] buffer).answer ≡ posted.Off)
    × ((post_of listening no_messages (letter_to 255 0 0).message [] buffer).answer ≡ posted.Done)
handing_in = (refl, refl, refl, refl, refl, refl)

-- Up to eight confirmations are owed, in every state that calls can leave. Assumes nothing.
use Rattle.std.specs.Prelude.{Ok, Err, ◌≡◌, ◌&&◌, ◌∷◌, ◌+◌, ◌≤◌}
use Rattle.laws.specs.Usual.{[], sym, subst, Bool, true, false, cond, not, List, ℕ, arith, length, leb}
use Rattle.std.proofs.Common.{ltb-false}
use Rattle.message.specs.Codes.{to_all}
use Rattle.message.specs.declared.Confirmation.{Confirmation}
use Rattle.message.specs.declared.Letter.{Letter}
use Rattle.message_frames.specs.Frames.{letter_in}
use Rattle.message_frames.specs.Places.{confirmation_length}
use Rattle.message_rules.proofs.Outcomes as outcomes_told
use Rattle.message_rules.proofs.Receiving.Owed.{turned_owes, post_owes, frame_owes}
use Rattle.message_rules.specs.Ring.Reached.{Reachable, unstarted, called}
use Rattle.message_rules.specs.Rules.Again.{turned}
use Rattle.message_rules.specs.Rules.Calls.{Both, Call, start, stop, tick, post, hear, ask, after, is_done, takes, turns_off, Hearing, Asking, carried_by}
use Rattle.message_rules.specs.Rules.Confirming.{owing, is_full, with_confirmation, carried_in, after_frame}
use Rattle.message_rules.specs.Rules.State.{Messages, no_messages, begun}
use Rattle.station.proofs.Outcomes.SwitchCases.{start_cases, stop_cases}
use Rattle.station.specs.Outcomes.SwitchCases.{SwitchCases, refuses, does}
use Rattle.station.specs.Rules.State.{is_participating}
use Rattle.station.specs.Types.{Asked}
use Rattle.station.specs.declared.Station.{Station}
use Rattle.message_rules.specs.Receiving.Eight.{Few}
use Rattle.message_rules.specs.Outcomes as outcomes
use Rattle.message_rules.specs.Rules.Hearing as letters
use Rattle.station.specs.Rules.Asking as asking
use Rattle.station.specs.Rules.Calls as base
use Rattle.station.specs.Rules.Hearing as hearing
use Rattle.station.specs.Rules.Starting as starting

-- what leaves them leaves them few
same_few : {list left : List Confirmation} → left ≡ list → length list ≤ 8 → length left ≤ 8
same_few e few = subst (λ (l : List Confirmation). length l ≤ 8) (sym e) few

switch_few : {station left : Station} {Reason : Type 0} {result : starting.Switching} (messages fresh : Messages) → SwitchCases station left Reason result
    → Few fresh → Few messages → Few (cond (is_done result.answer) fresh messages)
switch_few messages fresh (refuses refusal) none few = few
switch_few messages fresh (does reason) none few = none

-- one more is owed only where it is not the ninth
letter_few : {station : Station} {messages : Messages} {given : ℕ} {letter : Letter} {result : letters.Hearing}
    → outcomes.LetterCases station messages given letter result → Few messages → Few result.messages
letter_few (outcomes.refuses refusal) few = few
letter_few (outcomes.turns_off address six out) few = omega arith
letter_few (outcomes.off out) few = few
letter_few (outcomes.passes accepts others) few = few
letter_few (outcomes.holds accepts ours ninth) few = few
letter_few {messages = messages} {letter = letter} (outcomes.takes accepts ours room) few = by (to_all letter.message.destination) room
  where
    confirmation : Confirmation
    confirmation = letters.confirmation_of (letters.judgement_of messages letter) letter

    by : (all : Bool) → (not all && is_full confirmation messages.owed) ≡ false
        → length (cond all messages.owed (owing confirmation messages.owed)) ≤ 8
    by true e = few
    by false e = ltb-false 8 (length (owing confirmation messages.owed)) e

hear_few : (both : Both) (octets memory assembly : List ℕ) {result : Hearing} → outcomes.HearCases both octets memory assembly result
    → Few both.messages → Few result.both.messages
hear_few both octets memory assembly (outcomes.letter is) few =
    letter_few (outcomes_told.letter_cases both.ring both.messages (length octets) (letter_in octets)) few
hear_few both octets memory assembly (outcomes.frame is) few = by (turns_off both.ring left.station)
  where
    left : hearing.Hearing
    left = hearing.hear_of both.ring octets memory assembly

    taking : Bool
    taking = takes both.ring (base.hear octets memory assembly)

    by : (off : Bool) → Few (cond off no_messages (turned taking (after_frame both.ring both.messages octets left.answer)))
    by true = omega arith
    by false =
        same_few (turned_owes taking (after_frame both.ring both.messages octets left.answer))
        (same_few (frame_owes both.ring both.messages octets left.answer) few)

-- what a frame carries is owed no more
carried_few : (both : Both) (answer : Asked) (output : List ℕ) → Few both.messages → length (carried_by both answer output).owed ≤ 8
carried_few both (Err refusal) output few = few
carried_few both (Ok count) output few = by (is_participating both.ring.phase && asking.is_last both.ring) both.messages.owed few
  where
    by : (token : Bool) (list : List Confirmation) → length list ≤ 8
        → length (cond token (carried_in list count output) (record { owed = list; count = count; output = output })).owed ≤ 8
    by false list few = few
    by true [] few = few
    by true (oldest ∷ rest) few = fits (leb (count + confirmation_length) (length output))
      where
        fits : (room : Bool)
            → length (cond room (with_confirmation oldest rest count output) (record { owed = oldest ∷ rest; count = count; output = output })).owed ≤ 8
        fits true = omega arith
        fits false = few

ask_few : {both : Both} {memory turn output mail : List ℕ} {result : Asking} → outcomes.AskCases both memory turn output mail result
    → Few both.messages → Few result.both.messages
ask_few (outcomes.refuses wrong) few = few
ask_few (outcomes.sends right lent now) few = few
ask_few {both} {memory} {turn} {output} (outcomes.blocks right other) few =
    let asked_base = asking.ask_of both.ring memory turn output in
    same_few (turned_owes (takes both.ring (base.ask memory turn output)) _) (carried_few both asked_base.answer asked_base.output few)

few_after : (both : Both) (call : Call) → Few both.messages → Few (after both call).messages
few_after both (start settings allowance) few = switch_few both.messages (begun allowance) (start_cases both.ring settings) (omega arith) few
few_after both stop few = switch_few both.messages no_messages (stop_cases both.ring) (omega arith) few
few_after both tick few = same_few (turned_owes (takes both.ring base.tick) _) few
few_after both (post message octets mail) few =
    same_few (post_owes (outcomes_told.post_cases both.ring both.messages message octets mail)) few
few_after both (hear octets memory assembly) few = hear_few both octets memory assembly (outcomes_told.hear_cases both octets memory assembly) few
few_after both (ask memory turn output mail) few = ask_few (outcomes_told.ask_cases both memory turn output mail) few

pub at_most_eight : {both : Both} → Reachable both → length both.messages.owed ≤ 8
at_most_eight unstarted = omega arith
at_most_eight (called {both} call reached typed) = few_after both call (at_most_eight reached)

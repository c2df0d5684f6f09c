-- The ring part does not move: what every call on both leaves of it is what the calls of the base leave. Assumes nothing.
use Rattle.std.specs.Prelude.{Ok, ◌≡◌, ◌∷◌}
use Rattle.laws.specs.Usual.{[], refl, sym, ap, ◌∙◌, Bool, true, false, cond, not, false≢true, List, ℕ, length}
use Rattle.std.proofs.Math.Bool.{and-false}
use Rattle.std.proofs.lemmas.Bool.{not-true}
use Rattle.laws.specs.Tests.{first, second}
use Rattle.message.specs.declared.Letter.{Letter}
use Rattle.message_rules.specs.Ring.OnRing.{own_number_heard, writes_letter, on_ring, all_on_ring}
use Rattle.message_frames.specs.Frames.{letter_in, addressed}
use Rattle.message_rules.specs.Rules.Calls.{Both, Call, start, stop, tick, post, hear, ask, after, hear_of, Hearing as Heard, Asking as Asked}
use Rattle.message_rules.specs.Rules.Hearing.{Hearing, is_letter, is_taken, message_heard}
use Rattle.message_rules.proofs.Outcomes.{letter_cases}
use Rattle.message_rules.specs.Outcomes.{LetterCases, refuses, turns_off, off, passes, holds, takes}
use Rattle.message_rules.specs.Rules.Posting.{mail_right}
use Rattle.message_rules.specs.Rules.State.{Messages, no_messages}
use Rattle.settling.proofs.Append.{after_append}
use Rattle.settling.specs.Steps.{after_all}
use Rattle.station.specs.Rules.Starting.{need}
use Rattle.station.specs.Rules.State.{is_off, is_participating, stopped}
use Rattle.station.specs.declared.Station.{Station}
use Rattle.frame.specs.declared.Refusal.TheVariants as refusals
use Rattle.station.specs.Rules.Calls as base

-- a stop at a station that is not off
stop_turns : (station : Station) → is_off station.phase ≡ false → base.after station base.stop ≡ stopped station
stop_turns station on =
    ap (λ (out : Bool). (need (not out) refusals.NotDue station (record { station = stopped station; answer = Ok tt })).station) on

on_of : (station : Station) (letter : Letter) → is_taken station letter ≡ true → is_off station.phase ≡ false
on_of station letter six = not-true _ (first (not (is_off station.phase)) _ six)

-- what a choice leaves of the ring part is what the calls of the choice leave
chosen : {A : Type 0} (ring_in : A → Station) (station : Station) (test : Bool) (one other : A) (some others : List base.Call)
    → ring_in one ≡ after_all base.after station some → ring_in other ≡ after_all base.after station others
    → ring_in (cond test one other) ≡ after_all base.after station (cond test some others)
chosen ring_in station true one other some others e f = e
chosen ring_in station false one other some others e f = f

-- hearing a message leaves the ring part, or what stop leaves
module _ (station : Station) (messages : Messages) (octets : List ℕ) where
  heard_off : own_number_heard station octets ≡ true → (message_heard station messages octets).station ≡ base.after station base.stop
  heard_off own =
      let address = first (addressed (letter_in octets)) _ own in
      let rest = second (addressed (letter_in octets)) _ own in
      let six = first (is_taken station (letter_in octets)) _ rest in
      let out = not-true _ (second (is_taken station (letter_in octets)) _ rest) in
      left address six out ∙ sym (stop_turns station (on_of station (letter_in octets) six))
    where
      left : addressed (letter_in octets) ≡ true → is_taken station (letter_in octets) ≡ true → is_participating station.phase ≡ false
          → (message_heard station messages octets).station ≡ stopped station
      left address six out = rw (address, six, out)

  heard_on : {result : Hearing} → LetterCases station messages (length octets) (letter_in octets) result → own_number_heard station octets ≡ false
      → result.station ≡ station
  heard_on (refuses refusal) other = refl
  heard_on (turns_off address six out) other = absurd (false≢true (sym other ∙ rw (address, six, out)))
  heard_on (off out) other = refl
  heard_on (passes accepts others) other = refl
  heard_on (holds accepts ours ninth) other = refl
  heard_on (takes accepts ours room) other = refl

  heard_ring : (message_heard station messages octets).station
      ≡ after_all base.after station (cond (own_number_heard station octets) (base.stop ∷ []) [])
  heard_ring = by (own_number_heard station octets) refl
    where
      by : (own : Bool) → own_number_heard station octets ≡ own
          → (message_heard station messages octets).station ≡ after_all base.after station (cond own (base.stop ∷ []) [])
      by true e = heard_off e
      by false e = heard_on (letter_cases station messages (length octets) (letter_in octets)) e

-- A message leaves the ring part of a participant as it was.
pub letter_ring : (both : Both) (octets memory assembly : List ℕ) → is_letter octets memory assembly ≡ true → is_participating both.ring.phase ≡ true
    → (hear_of both octets memory assembly).both.ring ≡ both.ring
letter_ring both octets memory assembly letter inside =
    let other : own_number_heard both.ring octets ≡ false =
    rw (inside, and-false (is_taken both.ring (letter_in octets)), and-false (addressed (letter_in octets))) in
    rw letter (heard_on both.ring both.messages octets (letter_cases both.ring both.messages (length octets) (letter_in octets)) other)

-- Stop leaves nothing of messages.
pub stop_forgets : (both : Both) → is_off both.ring.phase ≡ false → after both stop ≡ record { ring = stopped both.ring; messages = no_messages }
stop_forgets both on = rw (on, after)

-- The ring part after a call on both is what the call of the base leaves, or is as it was where there is none.
pub ring_part : (both : Both) (call : Call) → (after both call).ring ≡ after_all base.after both.ring (on_ring both call)
ring_part both (start settings allowance) = refl
ring_part both stop = refl
ring_part both tick = refl
ring_part both (post message octets mail) = refl
ring_part both (hear octets memory assembly) =
    chosen (λ (h : Heard). h.both.ring) both.ring (is_letter octets memory assembly) _ _ _ _ (heard_ring both.ring both.messages octets) refl
ring_part both (ask memory turn output mail) =
    chosen (λ (a : Asked). a.both.ring) both.ring (mail_right mail) _ _ _ _
    (chosen (λ (a : Asked). a.both.ring) both.ring (writes_letter both memory turn output) _ _ _ _ refl refl) refl

-- And so after every list of calls.
pub ring_parts : (calls : List Call) (both : Both) → (after_all after both calls).ring ≡ after_all base.after both.ring (all_on_ring both calls)
ring_parts [] both = refl
ring_parts (call ∷ calls) both =
    ring_parts calls (after both call)
    ∙ ap (λ (s : Station). after_all base.after s (all_on_ring (after both call) calls)) (ring_part both call)
    ∙ sym (after_append base.after both.ring (on_ring both call) (all_on_ring (after both call) calls))

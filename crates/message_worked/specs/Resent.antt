-- A message whose confirmation is lost: it is sent again, with the same number, handed over once, and confirmed at last. The watch time is the longest, so that
-- 1000 ticks end no watch. Each step leaves the states that are written out, here or in `Failed`. Assumes nothing.
use Rattle.laws.specs.Usual.{refl, subst, ◌∙◌, true, false, List, [], ℕ, suc, replicate, take}
use Rattle.std.specs.Prelude.{◌≡◌, ◌∷◌, zero}
use Rattle.frame_reading.specs.Reading.{fields_of}
use Rattle.frame_writing.specs.Writing.{header_of, front_of, back_of, fixed_for}
use Rattle.message.specs.declared.Confirmation.{Confirmation}
use Rattle.message.specs.declared.Mail.TheVariants.{Unconfirmed, Confirmed}
use Rattle.message_frames.specs.Confirmations.{carrying}
use Rattle.message_ring.specs.Events.{Boths, ticked, after_event}
use Rattle.message_rules.specs.Ring.Reached.{Reachable}
use Rattle.message_rules.specs.Rules.Calls.{Both, Call, tick, ask, after, hear_of, ask_of, mail_of}
use Rattle.message_worked.specs.Bringing.{output, no_mail, hears, token, long, panel_of, participant, one, two, long_two_reached, ticked_on, reached_by}
use Rattle.message_worked.specs.Failed.{again_reached, passes_0, went_reached, asked, went_again, passed_on, second_passed, second_taken, third_passed, due}
use Rattle.message_worked.specs.Pair.{pair_of, asks, Leaves, hands_in, message, mail, letter, confirmation, slot_of, gone_with, knowing, one_holds, one_posted, one_went, one_passed, two_passed, two_owes, two_holds}
use Rattle.message_worked.specs.Waits.{waiting_one, waiting_two, one_waits, two_waits}
use Rattle.ring_worked.specs.Bringing.{large}
use Rattle.settling.specs.Steps.{after_all}
use Rattle.message.specs.declared.Received.TheVariants as received
use Rattle.message_frames.specs.Frames as letters
use Rattle.station.specs.declared.Heard.TheVariants as heard

-- The pair as before, with the longest watch time: the message is handed in, goes, is handed over, and its confirmation is owed; station 1 passes the token.
pub goes_out : Leaves (pair_of (one long) (two long)) (asks 2 no_mail) (one_holds long) (two_passed long)
    × Leaves (pair_of (one_holds long) (two_passed long)) hands_in (one_posted long) (two_passed long)
    × Leaves (pair_of (one_posted long) (two_passed long)) (asks 1 mail) (one_went long) (two_owes long)
    × Leaves (pair_of (one_went long) (two_owes long)) (asks 1 mail) (one_passed long) (two_holds long)
unfolding header_of front_of back_of fixed_for fields_of letters.letter_in letters.header_of
goes_out = ((refl, refl), (refl, refl), (refl, refl), (refl, refl))

pub handed_over : (hear_of (two_passed long) letter large large).answer ≡ received.Message (record { source = 1; message = message; octets = 2 })
unfolding letters.letter_in letters.header_of
handed_over = refl

-- Station 2 sends its token frame with the confirmation and owes nothing; it reaches station 1 without the confirmation. The message stays unconfirmed.
pub is_lost : (take 84 (ask_of (two_holds long) large large output no_mail).output ≡ carrying confirmation (token long 2 1))
    × ((ask_of (two_holds long) large large output no_mail).both ≡ waiting_two 0) × (after (one_passed long) (hears (token long 2 1)) ≡ waiting_one 0 0)
    × (mail_of (waiting_one 0 0) ≡ Unconfirmed)
unfolding header_of front_of back_of fixed_for fields_of
is_lost = (refl, refl, refl, refl)

-- 1000 ticks come to both. That was one taking: the waits have not ended.
ticked_each : (ticks : ℕ) (boths : Boths) (number : ℕ)
    → after_all after_event boths (replicate ticks ticked) number ≡ after_all after (boths number) (replicate ticks tick)
ticked_each zero boths number = refl
ticked_each (suc ticks) boths number = ticked_each ticks (after_event boths ticked) number

pub waits : (after_all after_event (pair_of (waiting_one 0 0) (waiting_two 0)) (replicate 1000 ticked) 1 ≡ waiting_one 0 1000)
    × (after_all after_event (pair_of (waiting_one 0 0) (waiting_two 0)) (replicate 1000 ticked) 2 ≡ waiting_two 1000)
waits = (
  ticked_each 1000 (pair_of (waiting_one 0 0) (waiting_two 0)) 1 ∙ one_waits 0,
  ticked_each 1000 (pair_of (waiting_one 0 0) (waiting_two 0)) 2 ∙ two_waits,
)

-- The token goes round twice: the second and the third taking. Station 2 with this view, this cycle and this owed:
abbrev pub two_at : ℕ → ℕ → List Confirmation → Both
two_at view gap owed = record { ring = participant long 2 1 0 view (panel_of 2 0 gap); messages = knowing owed }

pub goes_round : Leaves (pair_of (waiting_one 0 1000) (waiting_two 1000)) (asks 1 mail) (second_passed 0) (two_at 2 1000 [])
    × Leaves (pair_of (second_passed 0) (two_at 2 1000 [])) (asks 2 no_mail) (second_taken 0) (two_at 1 1000 [])
    × Leaves (pair_of (second_taken 0) (two_at 1 1000 [])) (asks 1 mail) (third_passed 0) (two_at 2 0 [])
    × Leaves (pair_of (third_passed 0) (two_at 2 0 [])) (asks 2 no_mail) (due 0) (two_at 1 0 [])
unfolding header_of front_of back_of fixed_for fields_of
goes_round = ((refl, refl), (refl, refl), (refl, refl), (refl, refl))

-- Now the asking of station 1 writes the message again, the same octets; station 2 owes the confirmation again.
pub goes_again : Leaves (pair_of (due 0) (two_at 1 0 [])) (asks 1 mail) (went_again 1 0) (two_at 1 0 (confirmation ∷ []))
unfolding letters.letter_in letters.header_of
goes_again = (refl, refl)

-- It is a repeat, which is answered "done" and not handed over.
pub once : (take 66 (ask_of (due 0) large large output mail).output ≡ letter)
    × ((hear_of (two_at 1 0 []) letter large large).answer ≡ received.Told heard.Done)
unfolding letters.letter_in letters.header_of
once = (refl, refl)

-- Station 1 passes the token, and hears the confirmation in station 2's frame.
abbrev pub one_confirmed : Both
one_confirmed = record { ring = participant long 1 2 0 1 (panel_of 2 0 0); messages = gone_with (slot_of Confirmed 0 0 1) false true }

pub is_confirmed : Leaves (pair_of (went_again 1 0) (two_at 1 0 (confirmation ∷ []))) (asks 1 mail) (passed_on 1 0) (two_at 2 0 (confirmation ∷ []))
    × Leaves (pair_of (passed_on 1 0) (two_at 2 0 (confirmation ∷ []))) (asks 2 no_mail) one_confirmed (two_at 1 0 [])
    × (mail_of one_confirmed ≡ Confirmed)
unfolding header_of front_of back_of fixed_for fields_of
is_confirmed = ((refl, refl), (refl, refl), refl)

-- By calls alone since off, each station by its own:
pub one_ends : Reachable one_confirmed
unfolding header_of front_of back_of fixed_for
one_ends =
    reached_by (hears (carrying confirmation (token long 2 1))) refl
    (reached_by asked refl (again_reached 0 1 passes_0 refl went_reached) is_confirmed.0.0)
    is_confirmed.1.0

abbrev asks_two : Call
asks_two = ask large large output no_mail

abbrev two_takes : Call
two_takes = hears (token long 1 2)

two_before : Reachable (waiting_two 0)
unfolding header_of front_of back_of fixed_for letters.header_of
two_before =
    reached_by asks_two refl
    (reached_by two_takes refl
    (reached_by (hears letter) refl
    (reached_by asks_two refl long_two_reached goes_out.0.1)
    goes_out.2.1)
    goes_out.3.1)
    is_lost.1

two_between : Reachable (two_at 1 0 [])
unfolding header_of front_of back_of fixed_for
two_between =
    reached_by asks_two refl
    (reached_by two_takes refl
    (reached_by asks_two refl
    (reached_by two_takes refl (subst Reachable two_waits (ticked_on 1000 two_before)) goes_round.0.1)
    goes_round.1.1)
    goes_round.2.1)
    goes_round.3.1

-- (its state is the same before the repeat and after the confirmation has gone)
pub two_ends : Reachable (two_at 1 0 [])
unfolding header_of front_of back_of fixed_for letters.header_of
two_ends =
    reached_by asks_two refl
    (reached_by two_takes refl (reached_by (hears letter) refl two_between goes_again.1) is_confirmed.0.1)
    is_confirmed.1.1

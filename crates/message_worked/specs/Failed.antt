-- A message of station 1 that nobody confirms: it goes four times, and fails in the call that would make a fourth resend due. Station 2 passes the token and
-- no more. The watch time is the longest, so that 1000 ticks end no watch. Assumes nothing.
use Rattle.std.specs.Prelude.{◌≡◌, ◌∷◌, ◌++◌, ◌+◌, ◌<◌}
use Rattle.laws.specs.Usual.{refl, ap, subst, ◌∙◌, Bool, true, false, cond, List, [], ℕ, min, arith, replicate, take, leb}
use Rattle.std.proofs.Common.{leb-false}
use Rattle.frame_reading.specs.Reading.{fields_of}
use Rattle.frame_writing.specs.Writing.{header_of, front_of, back_of, fixed_for}
use Rattle.message.specs.declared.Mail.TheVariants.{Unconfirmed, Failed}
use Rattle.message.specs.declared.Slot.{Slot}
use Rattle.message_rules.specs.Ring.Reached.{Reachable}
use Rattle.message_rules.specs.Rules.Again.{is_due, slot_answered, slot_ticked}
use Rattle.message_rules.specs.Rules.Calls.{Both, Call, tick, post, ask, after, ask_of, mail_of}
use Rattle.message_worked.specs.Bringing.{output, no_mail, hears, token, long, panel_of, participant, one, long_one_reached, all_typed, reached_on, reached_by}
use Rattle.message_worked.specs.Pair.{message, content, mail, letter, slot_of, gone_with, one_went}
use Rattle.message_worked.specs.Waits.{waiting_one, one_waits}
use Rattle.ring_worked.specs.Bringing.{large}
use Rattle.settling.proofs.Append.{after_append}
use Rattle.settling.specs.Steps.{after_all}
use Rattle.message_frames.specs.Frames as letters

-- an asking, and hearing that station 2 passes us the token
abbrev pub asked : Call
asked = ask large large output mail

abbrev pub takes : Call
takes = hears (token long 2 1)

-- Station 1, once the message has gone and was sent again so often, with this cycle measured
abbrev pub went_again : ℕ → ℕ → Both
went_again resends gap = record { ring = participant long 1 2 0 1 (panel_of 2 0 gap); messages = gone_with (slot_of Unconfirmed 0 0 resends) true false }

-- passes the token on,
abbrev pub passed_on : ℕ → ℕ → Both
passed_on resends gap = record { ring = participant long 1 2 0 2 (panel_of 2 0 gap); messages = gone_with (slot_of Unconfirmed 0 0 resends) true false }

-- takes it again, which is the first taking (and then waits for 1000 ticks: `one_waits`),
pub first_taking : (resends gap : ℕ) → after (passed_on resends gap) takes ≡ waiting_one resends 0
unfolding header_of front_of back_of fixed_for fields_of
first_taking resends gap = refl

-- passes it on, since no resend is due after one taking, and takes it for the second time: the cycle was 1000 ticks,
abbrev pub second_passed : ℕ → Both
second_passed resends = record { ring = participant long 1 2 0 2 (panel_of 2 1000 0); messages = gone_with (slot_of Unconfirmed 1000 1 resends) false true }

abbrev pub second_taken : ℕ → Both
second_taken resends = record { ring = participant long 1 2 0 1 (panel_of 2 0 1000); messages = gone_with (slot_of Unconfirmed 1000 2 resends) false false }

pub second_taking : (resends : ℕ) → after (second_passed resends) takes ≡ second_taken resends
unfolding header_of front_of back_of fixed_for fields_of
second_taking resends = refl

-- passes it on once more,
abbrev pub third_passed : ℕ → Both
third_passed resends = record { ring = participant long 1 2 0 2 (panel_of 2 0 1000); messages = gone_with (slot_of Unconfirmed 1000 2 resends) false false }

-- (these three askings pass the token, since no resend is due: worked out for each number of resends)
abbrev pub Passes : ℕ → ℕ → Type 0
Passes resends gap =
    (after (went_again resends gap) asked ≡ passed_on resends gap) × (after (waiting_one resends 1000) asked ≡ second_passed resends)
    × (after (second_taken resends) asked ≡ third_passed resends)

pub passes_0 : Passes 0 1
unfolding header_of front_of back_of fixed_for fields_of
passes_0 = (refl, refl, refl)

pub passes_1 : Passes 1 0
unfolding header_of front_of back_of fixed_for fields_of
passes_1 = (refl, refl, refl)

pub passes_2 : Passes 2 0
unfolding header_of front_of back_of fixed_for fields_of
passes_2 = (refl, refl, refl)

pub passes_3 : Passes 3 0
unfolding header_of front_of back_of fixed_for fields_of
passes_3 = (refl, refl, refl)

-- and takes it for the third time. Both waits have ended: a resend is due, where there were fewer than three.
abbrev pub third_taken : Slot → Both
third_taken slot = record { ring = participant long 1 2 0 1 (panel_of 2 0 0); messages = gone_with slot false false }

abbrev pub due : ℕ → Both
due resends = third_taken (slot_of Unconfirmed 1000 3 resends)

pub third_taking : (resends : ℕ) → leb 3 resends ≡ false → after (third_passed resends) takes ≡ due resends
unfolding header_of front_of back_of fixed_for fields_of
third_taking resends few =
    ap (λ (t : Bool). third_taken (cond t (slot_of Failed 1000 3 resends) (slot_of Unconfirmed 1000 3 resends))) few

-- The next asking writes the message again, with the same number: the same octets.
pub goes_again : (resends : ℕ) → leb 3 resends ≡ false → after (due resends) asked ≡ went_again (resends + 1) 0
goes_again resends few = let less : resends < 3 = leb-false 3 resends few in ap (λ (again : ℕ). went_again again 0) (omega arith)

pub same_octets : (resends : ℕ) → take 66 (ask_of (due resends) large large output mail).output ≡ letter
unfolding letters.header_of
same_octets resends = refl

-- After three resends it fails instead, in that very call.
abbrev pub failed : Both
failed = third_taken (slot_of Failed 1000 3 3)

pub fails : after (third_passed 3) takes ≡ failed
unfolding header_of front_of back_of fixed_for fields_of
fails = refl

pub not_before : (mail_of (third_passed 3) ≡ Unconfirmed) × (mail_of failed ≡ Failed)
not_before = (refl, refl)

-- All of it in one: from a going to the third taking, 1000 ticks among it
abbrev pub waits : List Call
waits = asked ∷ takes ∷ (replicate 1000 tick ++ (asked ∷ takes ∷ asked ∷ takes ∷ []))

pub waited : (resends gap : ℕ) → Passes resends gap → after_all after (went_again resends gap) waits ≡ after (third_passed resends) takes
waited resends gap passes =
    ap (λ (b : Both). after_all after b (takes ∷ rest)) passes.0
    ∙ ap (λ (b : Both). after_all after b rest) (first_taking resends gap)
    ∙ after_append after (waiting_one resends 0) (replicate 1000 tick) last
    ∙ ap (λ (b : Both). after_all after b last) (one_waits resends)
    ∙ ap (λ (b : Both). after_all after b (takes ∷ asked ∷ takes ∷ [])) passes.1
    ∙ ap (λ (b : Both). after_all after b (asked ∷ takes ∷ [])) (second_taking resends)
    ∙ ap (λ (b : Both). after b takes) passes.2
  where
    last : List Call
    last = asked ∷ takes ∷ asked ∷ takes ∷ []

    rest : List Call
    rest = replicate 1000 tick ++ last

-- The message goes, and three times again, and fails.
abbrev pub again : List Call
again = waits ++ (asked ∷ [])

pub sent_again : (resends gap : ℕ) → Passes resends gap → leb 3 resends ≡ false → after_all after (went_again resends gap) again ≡ went_again (resends + 1) 0
sent_again resends gap passes few =
    after_append after (went_again resends gap) waits (asked ∷ [])
    ∙ ap (λ (b : Both). after b asked) (waited resends gap passes ∙ third_taking resends few)
    ∙ goes_again resends few

pub four_goings : after_all after (one_went long) (again ++ (again ++ (again ++ waits))) ≡ failed
four_goings =
    after_append after (one_went long) again (again ++ (again ++ waits))
    ∙ ap (λ (b : Both). after_all after b (again ++ (again ++ waits))) (sent_again 0 1 passes_0 refl)
    ∙ after_append after (went_again 1 0) again (again ++ waits)
    ∙ ap (λ (b : Both). after_all after b (again ++ waits)) (sent_again 1 0 passes_1 refl)
    ∙ after_append after (went_again 2 0) again waits
    ∙ ap (λ (b : Both). after_all after b waits) (sent_again 2 0 passes_2 refl)
    ∙ waited 3 0 passes_3
    ∙ fails

-- By calls alone since off: station 1 is handed the message, takes the token and is asked.
pub went_reached : Reachable (one_went long)
unfolding header_of front_of back_of fixed_for fields_of
went_reached = subst Reachable is (reached_on (post message content no_mail ∷ takes ∷ asked ∷ []) long_one_reached refl)
  where
    is : after_all after (one long) (post message content no_mail ∷ takes ∷ asked ∷ []) ≡ one_went long
    is = refl

waits_typed : all_typed waits ≡ true
unfolding header_of front_of back_of fixed_for
waits_typed = refl

pub again_reached : (resends gap : ℕ) → Passes resends gap → leb 3 resends ≡ false → Reachable (went_again resends gap) → Reachable (went_again (resends + 1) 0)
again_reached resends gap passes few reached =
    reached_by asked refl
    (subst Reachable (waited resends gap passes ∙ third_taking resends few) (reached_on waits reached waits_typed))
    (goes_again resends few)

pub failed_reached : Reachable failed
failed_reached =
    subst Reachable (waited 3 0 passes_3 ∙ fails)
    (reached_on waits
    (again_reached 2 0 passes_2 refl (again_reached 1 0 passes_1 refl (again_reached 0 1 passes_0 refl went_reached)))
    waits_typed)

-- The same on the slot alone, where a tick is the last to come, and where a status other than 1 asks for the resend.
pub by_a_tick : (slot_ticked (slot_of Unconfirmed 999 3 3) ≡ slot_of Failed 1000 3 3) × (slot_ticked (slot_of Unconfirmed 998 3 3) ≡ slot_of Unconfirmed 999 3 3)
    × (slot_ticked (slot_of Unconfirmed 999 2 3) ≡ slot_of Unconfirmed 1000 2 3)
by_a_tick = (refl, refl, refl)

pub by_a_status : ((slot_answered (slot_of Unconfirmed 5 0 3) 6).mail ≡ Failed) × (is_due (slot_answered (slot_of Unconfirmed 5 0 2) 6) ≡ true)
by_a_status = (refl, refl)

-- How often the message in the slot has gone, told from the calls alone; and that a message fails only after it went four times. Assumes nothing.
use Rattle.laws.specs.Usual.{[], refl, sym, ap, subst, ◌∙◌, Bool, true, false, cond, false≢true, List, ℕ, min, arith}
use Rattle.std.specs.Prelude.{◌≡◌, ◌&&◌, ◌||◌, ◌∷◌, ◌+◌, ◌≤◌, ◌⊎◌}
use Rattle.std.proofs.Common.{inl, inr}
use Rattle.laws.specs.Tests.{first}
use Rattle.message.specs.Codes.{to_all}
use Rattle.message.specs.declared.Mail.{Mail}
use Rattle.message.specs.declared.Mail.TheVariants.{Nothing, Waiting, Unconfirmed, Confirmed, Sent, Failed}
use Rattle.message.specs.declared.Message.{Message}
use Rattle.message.specs.declared.Posted.{Posted}
use Rattle.message_rules.specs.Rules.Again.{is_waiting, is_unconfirmed, is_due, is_to_go, number_after, slot_gone, gone, letter_going}
use Rattle.message_rules.specs.Rules.Calls.{Both, never_both, Call, start, stop, tick, post, hear, ask, after, takes, Asking}
use Rattle.message_rules.specs.Rules.Cycle.{goes}
use Rattle.message_rules.specs.Rules.Posting.{Posting, mail_right, post_of}
use Rattle.message.specs.declared.Slot.{Slot}
use Rattle.message_rules.specs.Rules.State.{Messages}
use Rattle.message_rules.proofs.Sending.Moves.{MailMoves, ends, handed_in, went, forgotten, turned_ends, mail_moves}
use Rattle.message_rules.proofs.Sending.Slots.{Sure, same_message, Ends, kept, failed, confirmed}
use Rattle.settling.specs.Steps.{after_all}
use Rattle.message_rules.proofs.Outcomes as outcomes_told
use Rattle.message.specs.declared.Posted.TheVariants as posted
use Rattle.message_rules.specs.Outcomes as outcomes
use Rattle.station.specs.Rules.Asking as asking
use Rattle.station.specs.Rules.Calls as base

-- a message was handed in
abbrev pub is_posted : Posted → Bool
is_posted posted.Off = false
is_posted posted.Done = true
is_posted (posted.Refused refusal) = false

-- how often it went: from 0 when it is handed in, and one more at each asking that writes a message
abbrev pub went_by : ℕ → Both → Call → ℕ
went_by times both (start settings allowance) = times
went_by times both stop = times
went_by times both tick = times
went_by times both (post message octets mail) = cond (is_posted (post_of both.ring both.messages message octets mail).answer) 0 times
went_by times both (hear octets memory assembly) = times
went_by times both (ask memory turn output mail) =
    cond (mail_right mail && (asking.lent_right memory turn output && goes both.ring both.messages)) (times + 1) times

abbrev pub times_went : ℕ → Both → List Call → ℕ
times_went times both [] = times
times_went times both (call ∷ calls) = times_went (went_by times both call) (after both call) calls

-- what that says of the slot
abbrev pub Counts : Mail → ℕ → ℕ → Type 0
Counts Nothing resends times = Unit {0}
Counts Waiting resends times = times ≡ 0
Counts Unconfirmed resends times = (times ≡ resends + 1) × (resends ≤ 3)
Counts Confirmed resends times = (times ≡ resends + 1) × (resends ≤ 3)
Counts Sent resends times = times ≡ 1
Counts Failed resends times = times ≡ 4

record Told (slot : Slot) (times : ℕ) : Type 0 where
  counts : Counts slot.mail slot.resends times
  sure : Sure slot
  -- a message to all is never unconfirmed
  single : slot.mail ≡ Unconfirmed → to_all slot.message.destination ≡ false

-- one mail is not another
two_mails : {a b : Mail} → a ≡ b → is_unconfirmed a ≡ true → is_unconfirmed b ≡ false → ⊥
two_mails e p q = false≢true (sym q ∙ sym (ap is_unconfirmed e) ∙ p)

-- a slot whose message is not unconfirmed
told_other : {slot : Slot} {times : ℕ} (mail : Mail) → slot.mail ≡ mail → is_unconfirmed mail ≡ false → Counts mail slot.resends times → Told slot times
told_other {slot} {times} mail e other counts = record {
  counts = subst (λ (k : Mail). Counts k slot.resends times) (sym e) counts;
  sure = λ u. absurd (two_mails (sym u ∙ e) refl other);
  single = λ u. absurd (two_mails (sym u ∙ e) refl other);
}

-- the end of a wait
told_ends : {confirming : Bool} {before left : Slot} {times : ℕ} → Ends confirming before left → Told before times → Told left times
told_ends {before = before} {left} {times} (kept m sure same) told = record {
  counts =
      subst (λ (k : Mail). Counts k left.resends times) (sym m)
      (subst (λ (r : ℕ). Counts before.mail r times) (sym same.resends) told.counts);
  sure = sure told.sure;
  single = λ u. ap (λ (k : Message). to_all k.destination) same.message ∙ told.single (sym m ∙ u);
}
told_ends {before = before} {left} {times} (failed u m three same) told =
    let before_is : (times ≡ before.resends + 1) × (before.resends ≤ 3) = subst (λ (k : Mail). Counts k before.resends times) u told.counts in
    let one = before_is.0 in
    let most = before_is.1 in
    let four : times ≡ 4 = omega arith in
    told_other Failed m refl four
told_ends {before = before} {left} {times} (confirmed u m c same) told =
    let before_is : (times ≡ before.resends + 1) × (before.resends ≤ 3) = subst (λ (k : Mail). Counts k before.resends times) u told.counts in
    told_other Confirmed m refl (subst (λ (r : ℕ). (times ≡ r + 1) × (r ≤ 3)) (sym same.resends) before_is)

-- a message goes for the first time, or again
to_go : (slot : Slot) (mail : Mail) → slot.mail ≡ mail → (is_waiting mail || (is_unconfirmed mail && is_due slot)) ≡ true
    → (slot.mail ≡ Waiting) ⊎ ((slot.mail ≡ Unconfirmed) × (is_due slot ≡ true))
to_go slot Nothing e go = absurd (false≢true go)
to_go slot Waiting e go = inl e
to_go slot Unconfirmed e go = inr (e, go)
to_go slot Confirmed e go = absurd (false≢true go)
to_go slot Sent e go = absurd (false≢true go)
to_go slot Failed e go = absurd (false≢true go)

module _ (messages : Messages) (times : ℕ) (told : Told messages.slot times)
    (how : (messages.slot.mail ≡ Waiting) ⊎ ((messages.slot.mail ≡ Unconfirmed) × (is_due messages.slot ≡ true))) where
  -- how often it was sent again, with this going
  counts_gone : (times + 1 ≡ (slot_gone messages).resends + 1) × ((slot_gone messages).resends ≤ 3)
  counts_gone = by how
    where
      by : (messages.slot.mail ≡ Waiting) ⊎ ((messages.slot.mail ≡ Unconfirmed) × (is_due messages.slot ≡ true))
          → (times + 1 ≡ (slot_gone messages).resends + 1) × ((slot_gone messages).resends ≤ 3)
      by (inl e) =
          let none : times ≡ 0 = subst (λ (k : Mail). Counts k messages.slot.resends times) e told.counts in
          let again : (slot_gone messages).resends ≡ 0 = ap (λ (k : Mail). cond (is_waiting k) 0 (min 3 (messages.slot.resends + 1))) e in
          (omega arith, omega arith)
      by (inr (e, due)) =
          let was : (times ≡ messages.slot.resends + 1) × (messages.slot.resends ≤ 3) =
          subst (λ (k : Mail). Counts k messages.slot.resends times) e told.counts in
          let one = was.0 in
          let few = told.sure e due in
          let again : (slot_gone messages).resends ≡ min 3 (messages.slot.resends + 1) =
          ap (λ (k : Mail). cond (is_waiting k) 0 (min 3 (messages.slot.resends + 1))) e in
          (omega arith, omega arith)

  -- to all it goes only once
  once_to_all : to_all messages.slot.message.destination ≡ true → times + 1 ≡ 1
  once_to_all all = by how
    where
      by : (messages.slot.mail ≡ Waiting) ⊎ ((messages.slot.mail ≡ Unconfirmed) × (is_due messages.slot ≡ true)) → times + 1 ≡ 1
      by (inl e) = let none : times ≡ 0 = subst (λ (k : Mail). Counts k messages.slot.resends times) e told.counts in omega arith
      by (inr (e, due)) = absurd (false≢true (sym (told.single e) ∙ all))

  told_gone : Told (slot_gone messages) (times + 1)
  told_gone = by (to_all messages.slot.message.destination) refl
    where
      by : (all : Bool) → to_all messages.slot.message.destination ≡ all → Told (slot_gone messages) (times + 1)
      by true e = told_other Sent (ap (λ (t : Bool). cond t Sent Unconfirmed) e) refl (once_to_all e)
      by false e = record {
        counts =
            subst (λ (k : Mail). Counts k (slot_gone messages).resends (times + 1)) (sym (ap (λ (t : Bool). cond t Sent Unconfirmed) e)) counts_gone;
        sure = λ u due. absurd (false≢true due);
        single = λ u. e;
      }

-- every call
told_posted : {both : Both} {message : Message} {octets mail : List ℕ} {result : Posting} (times : ℕ)
    → outcomes.PostCases both.ring both.messages message octets mail result → Told both.messages.slot times
    → Told result.messages.slot (cond (is_posted result.answer) 0 times)
told_posted times (outcomes.refuses refusal) told = told
told_posted times (outcomes.off out) told = told
told_posted times (outcomes.waits right sendable free on) told = told_other Waiting refl refl refl

told_asked : (both : Both) (memory turn output mail : List ℕ) {result : Asking} (times : ℕ) → outcomes.AskCases both memory turn output mail result
    → Told both.messages.slot times
    → Told result.both.messages.slot
    (cond (mail_right mail && (asking.lent_right memory turn output && goes both.ring both.messages)) (times + 1) times)
told_asked both memory turn output mail times (outcomes.refuses wrong) told = rw wrong told
told_asked both memory turn output mail times (outcomes.sends right lent now) told =
    let go = first (is_to_go both.messages.slot) _ (outcomes_told.goes_ready both.ring both.messages now) in
    rw (right, lent, now) (told_gone both.messages times told (to_go both.messages.slot both.messages.slot.mail refl go))
told_asked both memory turn output mail times (outcomes.blocks right other) told =
    rw (right, other)
    (told_ends (turned_ends {confirming = false} (takes both.ring (base.ask memory turn output)) _ (kept refl (λ sure. sure) (same_message both.messages.slot))) told)

-- calls that neither hand in a message nor ask for a frame
abbrev is_other : Call → Bool
is_other (start settings allowance) = true
is_other stop = true
is_other tick = true
is_other (post message octets mail) = false
is_other (hear octets memory assembly) = true
is_other (ask memory turn output mail) = false

told_other_call : {both left : Both} {call : Call} {times : ℕ} → MailMoves both call left → is_other call ≡ true → Told both.messages.slot times
    → Told left.messages.slot times
told_other_call (ends confirming said e) other told = told_ends e told
told_other_call (handed_in message octets mail free e) other told = absurd (false≢true other)
told_other_call (went memory turn output mail now e) other told = absurd (false≢true other)
told_other_call {times = times} (forgotten e turns) other told = subst (λ (s : Slot). Told s times) (sym e) (told_other Nothing refl refl tt)

told_step : (both : Both) (call : Call) (times : ℕ) → Told both.messages.slot times → Told (after both call).messages.slot (went_by times both call)
told_step both (start settings allowance) times told = told_other_call (mail_moves both (start settings allowance)) refl told
told_step both stop times told = told_other_call (mail_moves both stop) refl told
told_step both tick times told = told_other_call (mail_moves both tick) refl told
told_step both (post message octets mail) times told =
    told_posted times (outcomes_told.post_cases both.ring both.messages message octets mail) told
told_step both (hear octets memory assembly) times told = told_other_call (mail_moves both (hear octets memory assembly)) refl told
told_step both (ask memory turn output mail) times told =
    told_asked both memory turn output mail times (outcomes_told.ask_cases both memory turn output mail) told

told_all : (calls : List Call) (both : Both) (times : ℕ) → Told both.messages.slot times
    → Told (after_all after both calls).messages.slot (times_went times both calls)
told_all [] both times told = told
told_all (call ∷ calls) both times told = told_all calls (after both call) (went_by times both call) (told_step both call times told)

-- For every list of calls since a station was made: a message that waits has not gone; one that is unconfirmed or confirmed went once and once more for each
-- time it was sent again, four times at most; one to all went once; and one that failed went four times.
pub went_told : (calls : List Call)
    → Counts (after_all after never_both calls).messages.slot.mail (after_all after never_both calls).messages.slot.resends (times_went 0 never_both calls)
went_told calls = (told_all calls never_both 0 (told_other Nothing refl refl tt)).counts

-- While a message is unconfirmed, what goes is that message again, with its number, and no number is given; one that waits gets the number after the last of
-- its line.
pub resend_same : (own : ℕ) (messages : Messages) → messages.slot.mail ≡ Unconfirmed
    → ((letter_going own messages).number ≡ messages.slot.number) × ((letter_going own messages).message ≡ messages.slot.message)
    × ((gone messages).last_one_to_one ≡ messages.last_one_to_one) × ((gone messages).last_to_all ≡ messages.last_to_all)
resend_same own messages e = (rw e, refl, rw e, rw e)

pub first_number : (own : ℕ) (messages : Messages) → messages.slot.mail ≡ Waiting → to_all messages.slot.message.destination ≡ false
    → ((letter_going own messages).number ≡ number_after messages.last_one_to_one) × ((gone messages).last_one_to_one ≡ (letter_going own messages).number)
    × ((gone messages).last_to_all ≡ messages.last_to_all)
first_number own messages e single = (rw (e, single), rw (e, single), rw (e, single))

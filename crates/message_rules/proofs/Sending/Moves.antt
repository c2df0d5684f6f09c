-- What every call can make of the message in the slot: it is handed in, it goes, it is confirmed, it fails, or it stays; stop, number 6 before we participate and
-- start forget it. Assumes nothing.
use Rattle.std.specs.Prelude.{◌≡◌, ◌&&◌}
use Rattle.laws.specs.Usual.{refl, sym, ap, subst, ◌∙◌, Bool, true, false, cond, not, false≢true, List, ℕ, length, eqb}
use Rattle.std.proofs.Common.{eqb-true}
use Rattle.frame.specs.Octets.{octet_at}
use Rattle.frame.specs.Positions.{SNA}
use Rattle.laws.specs.Tests.{first, second}
use Rattle.message.specs.declared.Letter.{Letter}
use Rattle.message.specs.declared.Message.{Message}
use Rattle.message_frames.specs.Confirmations.{confirms, confirmation_in}
use Rattle.message_frames.specs.Frames.{letter_in}
use Rattle.message_rules.specs.Rules.Again.{is_open, is_unconfirmed, turned, slot_answered, slot_gone}
use Rattle.message_rules.specs.Rules.Calls.{Both, Call, start, stop, tick, post, hear, ask, after, is_done, takes, turns_off, Hearing, Asking}
use Rattle.message_rules.specs.Rules.Confirming.{is_cyclic_answer, speaks_of, after_frame}
use Rattle.message_rules.specs.Rules.Cycle.{goes}
use Rattle.message_rules.specs.Rules.Posting.{Posting, waiting}
use Rattle.message.specs.declared.Slot.{Slot}
use Rattle.message_rules.specs.Rules.State.{Messages, empty_slot, no_messages, begun, with_slot}
use Rattle.message_rules.proofs.Sending.Slots.{Ends, kept, same_message, is_unconfirmed_lem, ticked_ends, answered_ends, then_taken}
use Rattle.station.specs.Outcomes.SwitchCases.{SwitchCases, refuses, does}
use Rattle.station.proofs.Outcomes.SwitchCases.{start_cases, stop_cases}
use Rattle.station.specs.Rules.State.{is_off, is_participating}
use Rattle.station.specs.declared.Station.{Station}
use Rattle.message_rules.proofs.Outcomes as outcomes_told
use Rattle.message_rules.specs.Rules.Hearing as letters
use Rattle.message_rules.specs.Outcomes as outcomes
use Rattle.station.specs.Rules.Calls as base
use Rattle.station.specs.Rules.Hearing as hearing
use Rattle.station.specs.Rules.Starting as starting

-- a frame of its destination said status 1 to it: a cyclic frame that a participant accepts, with a confirmation of that message
pub data ConfirmedBy (both : Both) : Call → Type 0 where
  saying : (octets memory assembly : List ℕ) → is_participating both.ring.phase ≡ true
      → is_cyclic_answer (hearing.hear_of both.ring octets memory assembly).answer ≡ true → confirms octets ≡ true
      → speaks_of both.ring.own.number both.messages (octet_at octets SNA) (confirmation_in octets) ≡ true → (confirmation_in octets).status ≡ 1
      → ConfirmedBy both (hear octets memory assembly)

pub data MailMoves (both : Both) : Call → Both → Type 0 where
  -- it stays as it is, or its wait ends: failed, sent again three times, or confirmed by a frame
  ends : {call : Call} {left : Both} (confirming : Bool) → (confirming ≡ true → ConfirmedBy both call)
      → Ends confirming both.messages.slot left.messages.slot → MailMoves both call left
  -- nothing was open, and it waits
  handed_in : (message : Message) (octets mail : List ℕ) {left : Both} → is_open both.messages.slot.mail ≡ false
      → left.messages.slot ≡ waiting message (length octets) → MailMoves both (post message octets mail) left
  -- an asking writes it
  went : (memory turn output mail : List ℕ) {left : Both} → goes both.ring both.messages ≡ true → left.messages.slot ≡ slot_gone both.messages
      → MailMoves both (ask memory turn output mail) left
  -- the station was turned on or off
  forgotten : {call : Call} {left : Both} → left.messages.slot ≡ empty_slot → is_off left.ring.phase ≡ not (is_off both.ring.phase)
      → MailMoves both call left

stays : {both : Both} {call : Call} {left : Both} → left.messages.slot ≡ both.messages.slot → MailMoves both call left
stays {both} {call} {left} e =
    ends false (λ t. absurd (false≢true t)) (subst (Ends false both.messages.slot) (sym e) (kept refl (λ sure. sure) (same_message both.messages.slot)))

-- a taking behind it
pub turned_ends : {confirming : Bool} {slot : Slot} (taking : Bool) (messages : Messages) → Ends confirming slot messages.slot
    → Ends confirming slot (turned taking messages).slot
turned_ends true messages e = then_taken e
turned_ends false messages e = e

switch_moves : (both : Both) (call : Call) (left : Station) {Reason : Type 0} (fresh : Messages) {result : starting.Switching}
    → fresh.slot ≡ empty_slot → (Reason → is_off left.phase ≡ not (is_off both.ring.phase))
    → SwitchCases both.ring left Reason result
    → MailMoves both call (record { ring = result.station; messages = cond (is_done result.answer) fresh both.messages })
switch_moves both call left fresh empty turns (refuses refusal) = stays refl
switch_moves both call left fresh empty turns (does reason) = forgotten empty (turns reason)

post_moves : (both : Both) (message : Message) (octets mail : List ℕ) {result : Posting}
    → outcomes.PostCases both.ring both.messages message octets mail result
    → MailMoves both (post message octets mail) (record { ring = both.ring; messages = result.messages })
post_moves both message octets mail (outcomes.refuses refusal) = stays refl
post_moves both message octets mail (outcomes.off out) = stays refl
post_moves both message octets mail (outcomes.waits right sendable free on) = handed_in message octets mail free refl

-- hearing
letter_moves : (both : Both) (call : Call) {given : ℕ} {letter : Letter} {result : letters.Hearing}
    → outcomes.LetterCases both.ring both.messages given letter result
    → MailMoves both call (record { ring = result.station; messages = result.messages })
letter_moves both call (outcomes.refuses refusal) = stays refl
letter_moves both call (outcomes.turns_off address six out) =
    forgotten refl (sym (first (not (is_off both.ring.phase)) _ six))
letter_moves both call (outcomes.off out) = stays refl
letter_moves both call (outcomes.passes accepts others) = stays refl
letter_moves both call (outcomes.holds accepts ours ninth) = stays refl
letter_moves both call (outcomes.takes accepts ours room) = stays refl

-- the confirmation in a frame of the base
module _ (both : Both) (octets memory assembly : List ℕ) where
  abbrev heard_by : hearing.Hearing
  heard_by = hearing.hear_of both.ring octets memory assembly

  abbrev speaks : Bool
  speaks = speaks_of both.ring.own.number both.messages (octet_at octets SNA) (confirmation_in octets)

  -- whether it confirms
  abbrev says : Bool
  says =
      (is_participating both.ring.phase && (is_cyclic_answer heard_by.answer && confirms octets)) && (speaks && eqb (confirmation_in octets).status 1)

  said : says ≡ true → ConfirmedBy both (hear octets memory assembly)
  said e =
      let read = first (is_participating both.ring.phase && (is_cyclic_answer heard_by.answer && confirms octets)) _ e in
      let told = second (is_participating both.ring.phase && (is_cyclic_answer heard_by.answer && confirms octets)) _ e in
      let cyclic = second (is_participating both.ring.phase) _ read in
      saying octets memory assembly (first (is_participating both.ring.phase) _ read) (first (is_cyclic_answer heard_by.answer) _ cyclic)
      (second (is_cyclic_answer heard_by.answer) _ cyclic) (first speaks _ told)
      (eqb-true (confirmation_in octets).status 1 (second speaks _ told))

  frame_ends : Ends says both.messages.slot (after_frame both.ring both.messages octets heard_by.answer).slot
  frame_ends =
      by (is_participating both.ring.phase && (is_cyclic_answer heard_by.answer && confirms octets)) speaks refl
    where
      slot : Slot
      slot = both.messages.slot

      by : (read told : Bool) → speaks ≡ told
          → Ends (read && (told && eqb (confirmation_in octets).status 1)) slot
          (cond read (cond told (with_slot both.messages (slot_answered slot (confirmation_in octets).status)) both.messages) both.messages).slot
      by true true e = answered_ends slot (confirmation_in octets).status (is_unconfirmed_lem slot.mail (first (is_unconfirmed slot.mail) _ (first _ _ e)))
      by true false e = kept refl (λ sure. sure) (same_message slot)
      by false told e = kept refl (λ sure. sure) (same_message slot)

hear_moves : (both : Both) (octets memory assembly : List ℕ) {result : Hearing} → outcomes.HearCases both octets memory assembly result
    → MailMoves both (hear octets memory assembly) result.both
hear_moves both octets memory assembly (outcomes.letter is) =
    letter_moves both (hear octets memory assembly) (outcomes_told.letter_cases both.ring both.messages (length octets) (letter_in octets))
hear_moves both octets memory assembly (outcomes.frame is) = by (turns_off both.ring left.station) refl
  where
    left : hearing.Hearing
    left = hearing.hear_of both.ring octets memory assembly

    taking : Bool
    taking = takes both.ring (base.hear octets memory assembly)

    by : (off : Bool) → turns_off both.ring left.station ≡ off → MailMoves both (hear octets memory assembly) (record {
      ring = left.station;
      messages = cond off no_messages (turned taking (after_frame both.ring both.messages octets left.answer));
    })
    by true e = forgotten refl (second (not (is_off both.ring.phase)) _ e ∙ sym (first (not (is_off both.ring.phase)) _ e))
    by false e =
        ends (says both octets memory assembly) (said both octets memory assembly)
        (turned_ends taking (after_frame both.ring both.messages octets left.answer) (frame_ends both octets memory assembly))

ask_moves : (both : Both) (memory turn output mail : List ℕ) {result : Asking} → outcomes.AskCases both memory turn output mail result
    → MailMoves both (ask memory turn output mail) result.both
ask_moves both memory turn output mail (outcomes.refuses wrong) = stays refl
ask_moves both memory turn output mail (outcomes.sends right lent now) = went memory turn output mail now refl
ask_moves both memory turn output mail (outcomes.blocks right other) =
    ends false (λ t. absurd (false≢true t))
    (turned_ends (takes both.ring (base.ask memory turn output)) _ (kept refl (λ sure. sure) (same_message both.messages.slot)))

-- Every call, in any state.
pub mail_moves : (both : Both) (call : Call) → MailMoves both call (after both call)
mail_moves both (start settings allowance) =
    switch_moves both (start settings allowance) _ (begun allowance) refl (λ reason. sym (ap (λ p. not (is_off p)) reason.off)) (start_cases both.ring settings)
mail_moves both stop = switch_moves both stop _ no_messages refl (λ on. sym (ap not on)) (stop_cases both.ring)
mail_moves both tick =
    ends false (λ t. absurd (false≢true t)) (turned_ends (takes both.ring base.tick) _ (ticked_ends false both.messages.slot))
mail_moves both (post message octets mail) =
    post_moves both message octets mail (outcomes_told.post_cases both.ring both.messages message octets mail)
mail_moves both (hear octets memory assembly) = hear_moves both octets memory assembly (outcomes_told.hear_cases both octets memory assembly)
mail_moves both (ask memory turn output mail) = ask_moves both memory turn output mail (outcomes_told.ask_cases both memory turn output mail)

-- Order: 11, 12, 13, 10, 1, 2, 3, 4, 5, 6, 7, 14, 15, 8, 9, "the first that applies": what every call on both parts answers, as far as it is a refusal. Assumes
-- nothing.
use Rattle.std.specs.Prelude.{Option, Some, None, Ok, Err, ◌≡◌, ◌&&◌, ◌||◌}
use Rattle.laws.specs.Usual.{refl, sym, ap, ◌∙◌, Bool, true, false, cond, not, false≢true, List, ℕ, length, eqb, leb}
use Rattle.std.proofs.Math.Bool.{and-true, or-false}
use Rattle.area.specs.Areas.{memory_octets}
use Rattle.frame.specs.Codes.{code_of, is_known}
use Rattle.frame.specs.Octets.{word_at}
use Rattle.frame.specs.Positions.{TCD}
use Rattle.frame.specs.declared.Code.{Code}
use Rattle.frame.specs.declared.Refusal.{Refusal}
use Rattle.frame_reading.specs.Reading.{whole, marked, long, fields_of}
use Rattle.laws.specs.Tests.{first, second}
use Rattle.message.proofs.Apart.{message_unknown}
use Rattle.message.specs.declared.Letter.{Letter}
use Rattle.message.specs.declared.Message.{Message}
use Rattle.message_frames.specs.Frames.{letter_in, addressed, measured}
use Rattle.message_refusals.specs.Applies.{coded_as_message, wrong_data, unlisted, first_applying}
use Rattle.message_rules.proofs.Letters.LetterAccepted.{delivered_unrefused}
use Rattle.message_rules.proofs.Outcomes.{ask_cases}
use Rattle.message_rules.specs.Outcomes.{AskCases, refuses, sends, blocks}
use Rattle.message_rules.specs.Rules.Calls.{Both, Call, start, stop, tick, post, hear, ask, takes, letter_heard, frame_heard, Asking, carried_by, answer_by, verdict, posted_verdict, received_verdict}
use Rattle.message_rules.specs.Rules.Cycle.{is_before_blocks}
use Rattle.message_rules.specs.Rules.Hearing.{is_letter}
use Rattle.message_rules.specs.Rules.Posting.{Posting, mail_right, need}
use Rattle.message_rules.specs.Rules.State.{Messages}
use Rattle.refusals.specs.Applies.{cut_applies, mark_applies, length_applies, code_applies, address_applies, taken_applies, area_applies, total_applies, number_applies, block_applies, stranger_applies, buffer_applies, not_due_applies}
use Rattle.refusals.proofs.FirstApplies.{by_not, by_and, by_or, fewer, first_applies}
use Rattle.station.specs.Rules.Hearing.{lent_right}
use Rattle.station.specs.Rules.State.{is_participating}
use Rattle.station.specs.Types.{Asked}
use Rattle.station.specs.declared.Station.{Station}
use Rattle.message_refusals.specs.FirstApplies.{chain}
use Rattle.frame.specs.declared.Refusal.TheVariants as refusals
use Rattle.message_rules.specs.Rules.Hearing as letters
use Rattle.station.specs.Rules.Asking as asking
use Rattle.station.specs.Rules.Calls as base
use Rattle.station.specs.Rules.Hearing as hearing

posted_choice : (test : Bool) (refusal : Refusal) (messages : Messages) (mail : List ℕ) (rest : Posting)
    → posted_verdict (need test refusal messages mail rest).answer ≡ cond test (posted_verdict rest.answer) (base.refused_by refusal)
posted_choice true refusal messages mail rest = refl
posted_choice false refusal messages mail rest = refl

posted_end : (test : Bool) (one other : Posting) → posted_verdict (cond test one other).answer ≡ cond test (posted_verdict one.answer) (posted_verdict other.answer)
posted_end true one other = refl
posted_end false one other = refl

same_choice : {A : Type 0} (test : Bool) (x : A) → cond test x x ≡ x
same_choice true x = refl
same_choice false x = refl

first_posted : (both : Both) (message : Message) (octets mail : List ℕ)
    → verdict both (post message octets mail) ≡ first_applying both (post message octets mail)
first_posted both message octets mail = simp (posted_choice, posted_end, same_choice, by_not, by_and, by_or, fewer)

-- asking: 11 for the mail buffer, else what the base answers
asked_same : (both : Both) (answer : Asked) (output : List ℕ) → base.asked_verdict (answer_by answer (carried_by both answer output)) ≡ base.asked_verdict answer
asked_same both (Ok count) output = refl
asked_same both (Err refusal) output = refl

asked_base : (both : Both) (memory turn output mail : List ℕ) {result : Asking} → AskCases both memory turn output mail result
    → base.asked_verdict result.answer ≡ cond (mail_right mail) (base.verdict both.ring (base.ask memory turn output)) (base.refused_by refusals.Buffer)
asked_base both memory turn output mail (refuses wrong) = rw wrong
asked_base both memory turn output mail (sends right lent now) =
    let one = first (is_before_blocks both.ring both.messages) _ now in
    let two = first (is_participating both.ring.phase && asking.due_in both.ring.phase both.ring) _ one in
    let due = second (is_participating both.ring.phase) _ two in
    rw (right, lent, due)
asked_base both memory turn output mail (blocks right other) =
    asked_same both (asking.ask_of both.ring memory turn output).answer (asking.ask_of both.ring memory turn output).output ∙ sym (rw right)

first_asked : (both : Both) (memory turn output mail : List ℕ) → verdict both (ask memory turn output mail) ≡ first_applying both (ask memory turn output mail)
first_asked both memory turn output mail =
    asked_base both memory turn output mail (ask_cases both memory turn output mail)
    ∙ ap (λ (v : base.Verdict). cond (mail_right mail) v (base.refused_by refusals.Buffer)) (first_applies both.ring (base.ask memory turn output))
    ∙ by (mail_right mail) (buffer_applies both.ring (base.ask memory turn output)) (not_due_applies both.ring (base.ask memory turn output))
  where
    by : (right eleven ten : Bool)
        → cond right
        (cond eleven (base.refused_by refusals.Buffer) (cond ten (base.refused_by refusals.NotDue) base.unrefused))
        (base.refused_by refusals.Buffer)
        ≡ cond (not right || eleven) (base.refused_by refusals.Buffer) (cond ten (base.refused_by refusals.NotDue) base.unrefused)
    by true eleven ten = refl
    by false eleven ten = refl

-- hearing a message: 5, 6, 8, 9
letter_choice : (test : Bool) (refusal rest : letters.Hearing)
    → received_verdict (letters.need test refusal rest).answer ≡ cond test (received_verdict rest.answer) (received_verdict refusal.answer)
letter_choice true refusal rest = refl
letter_choice false refusal rest = refl

letter_verdict : (station : Station) (messages : Messages) (given : ℕ) (letter : Letter)
    → received_verdict (letters.letter_heard station messages given letter).answer
    ≡ cond (addressed letter)
    (cond (not (letters.is_taken station letter))
    (cond (measured given letter)
    (cond (not (letters.is_stranger station letter)) base.unrefused (base.refused_by refusals.Stranger))
    (base.refused_by refusals.Block))
    (base.refused_by refusals.Taken))
    (base.refused_by refusals.Address)
letter_verdict station messages given letter =
    letter_choice (addressed letter) _ _
    ∙ ap (λ (v : base.Verdict). cond (addressed letter) v (base.refused_by refusals.Address))
    (letter_choice (not (letters.is_taken station letter)) _ _
    ∙ ap (λ (v : base.Verdict). cond (not (letters.is_taken station letter)) v (base.refused_by refusals.Taken))
    (letter_choice (measured given letter) _ _
    ∙ ap (λ (v : base.Verdict). cond (measured given letter) v (base.refused_by refusals.Block))
    (letter_choice (not (letters.is_stranger station letter)) _ _
    ∙ ap (λ (v : base.Verdict). cond (not (letters.is_stranger station letter)) v (base.refused_by refusals.Stranger))
    (delivered_unrefused station messages given letter))))

unknown_of : (coded : Option Code) → is_known coded ≡ false → coded ≡ None
unknown_of (Some code) e = absurd (false≢true (sym e))
unknown_of None e = refl

module _ (both : Both) (octets memory assembly : List ℕ) (lent : lent_right memory assembly ≡ true) (one : whole octets ≡ true) (two : marked octets ≡ true)
    (three : long octets ≡ true) where
  first_letter : coded_as_message octets ≡ true
      → received_verdict (letters.message_heard both.ring both.messages octets).answer ≡ first_applying both (hear octets memory assembly)
  unfolding fields_of letter_in
  first_letter message =
      let unknown : code_of (word_at octets TCD) ≡ None = unknown_of (code_of (word_at octets TCD)) (message_unknown (word_at octets TCD) message) in
      let memory_right = first (eqb (length memory) memory_octets) _ lent in
      let assembly_right = second (eqb (length memory) memory_octets) _ lent in
      let least = first (leb 64 (length octets)) _ one in
      let most = second (leb 64 (length octets)) _ one in
      letter_verdict both.ring both.messages (length octets) (letter_in octets)
      ∙ simp (memory_right, assembly_right, least, most, two, three, unknown, message, same_choice, by_not, by_and, by_or, fewer)

-- hearing a frame of the base: what the tests of the base answer, since 4, 8 and 9 differ only where the code is a message's and 11, 1, 2 and 3 let it through
chain_same : (eleven one two three four five six seven fourteen fifteen eight nine message size source : Bool)
    → (eleven || (one || (two || (three || not message)))) ≡ true
    → chain eleven one two three four five six seven fourteen fifteen eight nine
    ≡ chain eleven one two three (four && not message) five six seven fourteen fifteen (eight || (message && size)) (nine || (message && source))
chain_same true one two three four five six seven fourteen fifteen eight nine message size source e = refl
chain_same false true two three four five six seven fourteen fifteen eight nine message size source e = refl
chain_same false false true three four five six seven fourteen fifteen eight nine message size source e = refl
chain_same false false false true four five six seven fourteen fifteen eight nine message size source e = refl
chain_same false false false false four five six seven fourteen fifteen eight nine true size source e = absurd (false≢true e)
chain_same false false false false four five six seven fourteen fifteen eight nine false size source e =
    sym (rw (and-true four, or-false eight, or-false nine))

-- not one of two, and not not
by_parts : (a b : Bool) → not (a || b) ≡ (not a && not b)
by_parts true b = refl
by_parts false b = refl

not_not : (a : Bool) → not (not a) ≡ a
not_not true = refl
not_not false = refl

-- such octets are no message
not_letter : (eleven one two three message : Bool) → (not eleven && (not one && (not two && (not three && message)))) ≡ false
    → (eleven || (one || (two || (three || not message)))) ≡ true
not_letter true one two three message e = refl
not_letter false true two three message e = refl
not_letter false false true three message e = refl
not_letter false false false true message e = refl
not_letter false false false false true e = absurd (false≢true (sym e))
not_letter false false false false false e = refl

module _ (both : Both) (octets memory assembly : List ℕ) where
  -- 11, 1, 2 and 3, as the base tests them and as it tells when they apply
  passes_is : is_letter octets memory assembly
      ≡ (not (buffer_applies both.ring (base.hear octets memory assembly))
      && (not (cut_applies both.ring (base.hear octets memory assembly))
      && (not (mark_applies both.ring (base.hear octets memory assembly))
      && (not (length_applies both.ring (base.hear octets memory assembly)) && coded_as_message octets))))
  passes_is = simp (by_parts, not_not, fewer)

  first_frame : is_letter octets memory assembly ≡ false
      → base.verdict both.ring (base.hear octets memory assembly) ≡ first_applying both (hear octets memory assembly)
  first_frame other =
      first_applies both.ring (base.hear octets memory assembly)
      ∙ chain_same (buffer_applies both.ring call) (cut_applies both.ring call) (mark_applies both.ring call) (length_applies both.ring call)
      (code_applies both.ring call) (address_applies both.ring call) (taken_applies both.ring call) (area_applies both.ring call)
      (total_applies both.ring call) (number_applies both.ring call) (block_applies both.ring call) (stranger_applies both.ring call)
      (coded_as_message octets) (wrong_data (length octets) (letter_in octets)) (unlisted both.ring (letter_in octets))
      (not_letter (buffer_applies both.ring call) (cut_applies both.ring call) (mark_applies both.ring call) (length_applies both.ring call)
      (coded_as_message octets) (sym passes_is ∙ other))
    where
      call : base.Call
      call = base.hear octets memory assembly

first_heard : (both : Both) (octets memory assembly : List ℕ) → verdict both (hear octets memory assembly) ≡ first_applying both (hear octets memory assembly)
first_heard both octets memory assembly = by (is_letter octets memory assembly) refl
  where
    by : (letter : Bool) → is_letter octets memory assembly ≡ letter → received_verdict
        (cond letter
        (letter_heard (letters.message_heard both.ring both.messages octets) memory assembly)
        (frame_heard both octets (hearing.hear_of both.ring octets memory assembly) (takes both.ring (base.hear octets memory assembly)))).answer
        ≡ first_applying both (hear octets memory assembly)
    by true e =
        let lent = first (lent_right memory assembly) _ e in
        let one = second (lent_right memory assembly) _ e in
        let two = second (whole octets) _ one in
        let three = second (marked octets) _ two in
        first_letter both octets memory assembly lent (first (whole octets) _ one) (first (marked octets) _ two) (first (long octets) _ three)
        (second (long octets) _ three)
    by false e = first_frame both octets memory assembly e

-- A refused call answers the first refusal in the order that applies, and a call to which none applies is not refused.
pub first_applies_both : (both : Both) (call : Call) → verdict both call ≡ first_applying both call
first_applies_both both (start settings allowance) = first_applies both.ring (base.start settings)
first_applies_both both stop = first_applies both.ring base.stop
first_applies_both both tick = first_applies both.ring base.tick
first_applies_both both (post message octets mail) = first_posted both message octets mail
first_applies_both both (hear octets memory assembly) = first_heard both octets memory assembly
first_applies_both both (ask memory turn output mail) = first_asked both memory turn output mail

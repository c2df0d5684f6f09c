-- "Half a turn is never seen", and the turn buffer: as they stand of the base, of a station with messages. Assumes nothing.
use Rattle.std.specs.Prelude.{◌≡◌, ◌&&◌, ◌∷◌, ◌<◌}
use Rattle.laws.specs.Usual.{[], refl, sym, ap, subst, ◌∙◌, Bool, true, false, cond, not, false≢true, List, ℕ, length, get_or, take}
use Rattle.block.specs.Blocks.{octets_of}
use Rattle.frame.specs.declared.Fields.{Fields}
use Rattle.members.specs.Members.{entry_of}
use Rattle.message.specs.declared.Judged.{Judged}
use Rattle.message.specs.declared.Judged.TheVariants.{Abnormal, OtherVersion, Repeat, New}
use Rattle.message.specs.declared.Letter.{Letter}
use Rattle.message_frames.specs.Frames.{letter_in}
use Rattle.message_rules.proofs.Outcomes as outcomes_told
use Rattle.message_rules.proofs.Outcomes.{ask_cases}
use Rattle.message_rules.specs.Outcomes.{AskCases, refuses, sends, blocks}
use Rattle.message_rules.proofs.Ring.Buffers.{letter_four, same_buffers, told}
use Rattle.message_rules.specs.Ring.OnRing.{own_number_heard, writes_letter, on_ring}
use Rattle.message_rules.specs.Ring.Reached.{Typed}
use Rattle.message_rules.proofs.Ring.RingPart.{ring_part}
use Rattle.message_rules.specs.Rules.Calls.{Both, Call, start, stop, tick, post, hear, ask, takes, Hearing, letter_heard, frame_heard, Asking, ask_of, hear_of}
use Rattle.message_rules.specs.Rules.Hearing.{is_letter, answer_to}
use Rattle.message_rules.specs.Rules.Posting.{mail_right}
use Rattle.message_rules.specs.Rules.State.{Messages}
use Rattle.settling.specs.Steps.{after_all}
use Rattle.station.specs.Memory.Gathers.{accepted_after, Parts}
use Rattle.station.proofs.Memory.MemorySame.{Whole}
use Rattle.station.proofs.Memory.TurnWhole.{turn_whole}
use Rattle.station.specs.Memory.TurnWhole.{Lending}
use Rattle.station.specs.Rules.Answers.{data_of}
use Rattle.station.specs.declared.Data.TheVariants.{Written}
use Rattle.station.specs.declared.Station.{Station}
use Rattle.station.specs.declared.Token.{Token}
use Rattle.message_rules.specs.Ring.Turns.{hears_nothing, LendingBoth, begins, hears, calls, is_cyclic_told}
use Rattle.message.specs.declared.Received.TheVariants as received
use Rattle.message_rules.specs.Outcomes as outcomes
use Rattle.message_rules.specs.Rules.Hearing as letters
use Rattle.station.specs.Memory.TurnWhole as base_lending
use Rattle.station.specs.Rules.Asking as asking
use Rattle.station.specs.Rules.Calls as base
use Rattle.station.specs.Rules.Hearing as hearing
use Rattle.station.specs.declared.Heard.TheVariants as heard

-- The turn buffer after an asking is what the base's asking leaves, or is as it was where a message goes or the mail buffer is refused.
turn_in : (both : Both) (memory turn output mail : List ℕ) {result : Asking} → AskCases both memory turn output mail result
    → result.turn ≡ cond (mail_right mail && not (writes_letter both memory turn output)) (asking.ask_of both.ring memory turn output).turn turn
turn_in both memory turn output mail (refuses wrong) = sym (rw wrong)
turn_in both memory turn output mail (sends right lent now) = sym (rw (right, lent, now))
turn_in both memory turn output mail (blocks right other) = sym (rw (right, other))

pub turn_same : (both : Both) (memory turn output mail : List ℕ) → (ask_of both memory turn output mail).turn
    ≡ cond (mail_right mail && not (writes_letter both memory turn output)) (asking.ask_of both.ring memory turn output).turn turn
turn_same both memory turn output mail = turn_in both memory turn output mail (ask_cases both memory turn output mail)

-- the same buffers are lent to the ring part by calls of the base
module _ {frames : List (List ℕ)} {assembly : List ℕ} where
  stopped_or_same : {station : Station} → Lending frames station assembly → (own : Bool)
      → Lending frames (after_all base.after station (cond own (base.stop ∷ []) [])) assembly
  stopped_or_same lending true = base_lending.calls lending base.stop tt refl
  stopped_or_same lending false = lending

  -- a message changes neither the list of frames nor the buffer
  heard_lending : (both : Both) → Lending frames both.ring assembly → (octets memory : List ℕ) → ((at : ℕ) → get_or octets at 0 < 256)
      → (letter : Bool) → is_letter octets memory assembly ≡ letter
      → Lending (accepted_after (hearing.hear_of both.ring octets memory assembly).answer octets frames) (hear_of both octets memory assembly).both.ring
      (hear_of both octets memory assembly).assembly
  heard_lending both lending octets memory typed true e =
      let four = letter_four both.ring octets memory assembly e in
      let no_frame : accepted_after (hearing.hear_of both.ring octets memory assembly).answer octets frames ≡ frames =
      ap (λ (h : hearing.Hearing). accepted_after h.answer octets frames) four in
      let same_assembly : (hear_of both octets memory assembly).assembly ≡ assembly =
      (same_buffers both octets memory assembly).assembly_same ∙ ap (λ (h : hearing.Hearing). h.assembly) four in
      let ring : (hear_of both octets memory assembly).both.ring ≡ after_all base.after both.ring (cond (own_number_heard both.ring octets) (base.stop ∷ []) []) =
      ring_part both (hear octets memory assembly)
      ∙ ap (λ (t : Bool). after_all base.after both.ring (cond t (cond (own_number_heard both.ring octets) (base.stop ∷ []) []) (base.hear octets memory assembly ∷ []))) e in
      subst (λ (l : List (List ℕ)). Lending l (hear_of both octets memory assembly).both.ring (hear_of both octets memory assembly).assembly) (sym no_frame)
      (subst (Lending frames (hear_of both octets memory assembly).both.ring) (sym same_assembly)
      (subst (λ (s : Station). Lending frames s assembly) (sym ring) (stopped_or_same lending (own_number_heard both.ring octets))))
  heard_lending both lending octets memory typed false e =
      let same_assembly = (same_buffers both octets memory assembly).assembly_same in
      let ring : (hear_of both octets memory assembly).both.ring ≡ (hearing.hear_of both.ring octets memory assembly).station =
      ring_part both (hear octets memory assembly)
      ∙ ap (λ (t : Bool). after_all base.after both.ring (cond t (cond (own_number_heard both.ring octets) (base.stop ∷ []) []) (base.hear octets memory assembly ∷ []))) e in
      subst (Lending (accepted_after (hearing.hear_of both.ring octets memory assembly).answer octets frames) (hear_of both octets memory assembly).both.ring) (sym same_assembly)
      (subst (λ (s : Station). Lending (accepted_after (hearing.hear_of both.ring octets memory assembly).answer octets frames) s
      (hearing.hear_of both.ring octets memory assembly).assembly) (sym ring) (base_lending.hears lending octets memory typed))

pub lending_base : {frames : List (List ℕ)} {both : Both} {assembly : List ℕ} → LendingBoth frames both assembly → Lending frames both.ring assembly
lending_base (begins assembly) = base_lending.begins assembly
lending_base (hears {frames} {both} {assembly} before octets memory typed) =
    heard_lending both (lending_base before) octets memory typed (is_letter octets memory assembly) refl
lending_base (calls {frames} {both} {assembly} before call typed other) =
    subst (λ (s : Station). Lending frames s assembly) (sym (ring_part both call)) (called_lending (lending_base before) call typed other)
  where
    called_lending : Lending frames both.ring assembly → (call : Call) → Typed call → hears_nothing call ≡ true
        → Lending frames (after_all base.after both.ring (on_ring both call)) assembly
    called_lending lending (start settings allowance) typed other = base_lending.calls lending (base.start settings) typed.0 refl
    called_lending lending stop typed other = base_lending.calls lending base.stop tt refl
    called_lending lending tick typed other = base_lending.calls lending base.tick tt refl
    called_lending lending (post message octets mail) typed other = lending
    called_lending lending (hear octets memory assembly) typed other = absurd (false≢true other)
    called_lending lending (ask memory turn output mail) typed other = by (mail_right mail) (writes_letter both memory turn output)
      where
        by : (right letter : Bool) → Lending frames (after_all base.after both.ring (cond right (cond letter [] (base.ask memory turn output ∷ [])) [])) assembly
        by true true = lending
        by true false = base_lending.calls lending (base.ask memory turn output) tt refl
        by false letter = lending

judged_plain : (judged : Judged) (letter : Letter) → is_cyclic_told (answer_to judged letter) ≡ false
judged_plain Abnormal letter = refl
judged_plain OtherVersion letter = refl
judged_plain Repeat letter = refl
judged_plain New letter = refl

letter_plain : {station : Station} {messages : Messages} {given : ℕ} {letter : Letter} {result : letters.Hearing}
    → outcomes.LetterCases station messages given letter result → is_cyclic_told result.answer ≡ false
letter_plain (outcomes.refuses refusal) = refl
letter_plain (outcomes.turns_off address six out) = refl
letter_plain (outcomes.off out) = refl
letter_plain (outcomes.passes accepts others) = refl
letter_plain (outcomes.holds accepts ours ninth) = refl
letter_plain {messages = messages} {letter = letter} (outcomes.takes accepts ours room) = judged_plain (letters.judgement_of messages letter) letter

-- Where the answer says "written", what is written is the data of the latest cyclic frames accepted that are no repeats, blocks 1 to the last of that source.
pub turn_whole_both : {frames : List (List ℕ)} (both : Both) (assembly : List ℕ) → LendingBoth frames both assembly → (octets memory : List ℕ) (token : Token)
    → (hear_of both octets memory assembly).answer ≡ received.Told (heard.Cyclic token) → data_of token ≡ Written
    → (frame : Fields) × Whole both.ring octets memory assembly frame
    × Parts frame.source (octets ∷ frames) frame.block
    (take (octets_of (entry_of both.ring.members frame.source).areas) (hear_of both octets memory assembly).assembly)
turn_whole_both {frames} both assembly lending octets memory token answer written =
    let found = turn_whole both.ring assembly (lending_base lending) octets memory token (base_answer (is_letter octets memory assembly) refl) written in (
      found.0,
      found.1,
      subst (λ (a : List ℕ). Parts found.0.source (octets ∷ frames) found.0.block (take (octets_of (entry_of both.ring.members found.0.source).areas) a))
          (sym (same_buffers both octets memory assembly).assembly_same) found.2,
    )
  where
    frame : Hearing
    frame = frame_heard both octets (hearing.hear_of both.ring octets memory assembly) (takes both.ring (base.hear octets memory assembly))

    base_answer : (letter : Bool) → is_letter octets memory assembly ≡ letter → (hearing.hear_of both.ring octets memory assembly).answer ≡ heard.Cyclic token
    base_answer true e =
        absurd (false≢true (sym (letter_plain (outcomes_told.letter_cases both.ring both.messages (length octets) (letter_in octets)))
        ∙ ap (λ (t : Bool). is_cyclic_told (cond t (letter_heard (letters.message_heard both.ring both.messages octets) memory assembly) frame).answer) (sym e)
        ∙ ap is_cyclic_told answer))
    base_answer false e = let same = sym (told both octets memory assembly e) ∙ answer in cc

-- "the frames it writes read back to the same fields": a message that an asking writes does, and every participant that lists its sender accepts it. Assumes
-- nothing.
use Rattle.std.specs.Prelude.{Ok, ◌≡◌, ◌&&◌, ◌-◌}
use Rattle.laws.specs.Usual.{refl, ap, ◌∙◌, Bool, true, false, cond, not, false≢true, List, ℕ, length, take, drop}
use Rattle.std.proofs.Math.Bool.{and-false}
use Rattle.std.proofs.Common.{ne_eqb}
use Rattle.laws.specs.Tests.{first}
use Rattle.members.specs.Members.{is_listed}
use Rattle.message.specs.declared.Judged.{Judged}
use Rattle.message.specs.declared.Judged.TheVariants.{Abnormal, OtherVersion, Repeat, New}
use Rattle.message.specs.declared.Letter.{Letter}
use Rattle.message_rules.proofs.Letters.LetterSent.{asks_letter, octets_are, is_letter_lem, few, enough}
use Rattle.message_rules.specs.Ring.Reached.{Reachable}
use Rattle.message_rules.proofs.Ring.Reached.{ring_sound}
use Rattle.message_frames.specs.Frames.{letter_in, addressed, measured, whole_length, frame_of}
use Rattle.message_frames.proofs.ReadBack.{letter_read, letter_data, is_measured}
use Rattle.message_rules.specs.Rules.Again.{letter_going}
use Rattle.message_rules.specs.Rules.Calls.{Both, hear, ask_of, Asking, Hearing, hear_of, received_verdict, verdict, letter_heard, frame_heard}
use Rattle.message_rules.specs.Rules.Cycle.{is_before_blocks, goes}
use Rattle.message_rules.specs.Rules.Posting.{mail_right}
use Rattle.message_rules.specs.Rules.State.{Messages}
use Rattle.station.specs.Rules.Calls.{unrefused}
use Rattle.station.specs.Rules.State.{is_off, is_participating}
use Rattle.station.specs.declared.Phase.{Phase}
use Rattle.station.specs.declared.Phase.TheVariants.{Off, Listening, Startup, Joining, Participating}
use Rattle.station.specs.declared.Station.{Station}
use Rattle.message.specs.declared.Received.TheVariants as received
use Rattle.message_rules.specs.Rules.Calls as calls
use Rattle.message_rules.specs.Rules.Hearing as letters
use Rattle.station.specs.Rules.Asking as asking
use Rattle.station.specs.Rules.Calls as base
use Rattle.station.specs.Rules.Hearing as hearing
use Rattle.station.specs.declared.Heard.TheVariants as heard

-- who participates is not off
inside_on : (phase : Phase) → is_participating phase ≡ true → is_off phase ≡ false
inside_on Off e = absurd (false≢true e)
inside_on Listening e = refl
inside_on Startup e = refl
inside_on Joining e = refl
inside_on Participating e = refl

-- a message that passed 5, 6, 8 and 9 is not refused
pub judged_unrefused : (judged : Judged) (letter : Letter) → received_verdict (letters.answer_to judged letter) ≡ unrefused
judged_unrefused Abnormal letter = refl
judged_unrefused OtherVersion letter = refl
judged_unrefused Repeat letter = refl
judged_unrefused New letter = refl

module _ (station : Station) (messages : Messages) (given : ℕ) (letter : Letter) where
  pub delivered_unrefused : received_verdict (letters.delivered station messages letter).answer ≡ unrefused
  delivered_unrefused = by (is_off station.phase) (letters.is_for_us station letter) (letters.is_held messages letter)
    where
      taken : letters.Hearing
      taken = record {
        station = station;
        messages = letters.judged messages (letters.judgement_of messages letter) letter;
        answer = letters.answer_to (letters.judgement_of messages letter) letter;
      }

      by : (out ours held : Bool) → received_verdict
          (cond out (letters.unchanged station messages (received.Told heard.Off))
          (cond ours (cond held (letters.unchanged station messages (received.Told heard.Done)) taken)
          (letters.unchanged station messages (received.Told heard.Done)))).answer ≡ unrefused
      by true ours held = refl
      by false true true = refl
      by false true false = judged_unrefused (letters.judgement_of messages letter) letter
      by false false held = refl

  letter_unrefused : addressed letter ≡ true → letters.is_taken station letter ≡ false → measured given letter ≡ true
      → letters.is_stranger station letter ≡ false → received_verdict (letters.letter_heard station messages given letter).answer ≡ unrefused
  letter_unrefused five six eight nine = rw (five, six, eight, nine) delivered_unrefused

-- a message that goes, in a state that calls can leave
module _ {sender : Both} (reached : Reachable sender) (memory turn output mail : List ℕ) (right : asking.lent_right memory turn output ≡ true)
    (lends : mail_right mail ≡ true) (now : goes sender.ring sender.messages ≡ true) where
  abbrev letter : Letter
  letter = letter_going sender.ring.own.number sender.messages

  abbrev written : List ℕ
  written = take (whole_length letter) (ask_of sender memory turn output mail).output

  written_is : written ≡ frame_of letter mail
  written_is =
      ap (λ (a : Asking). take (whole_length letter) a.output) (asks_letter sender memory turn output mail right lends now)
      ∙ octets_are sender memory turn output mail right lends now

  -- the answer is its length, and it reads back to its fields and its data
  pub letter_count : (ask_of sender memory turn output mail).answer ≡ Ok (whole_length letter)
  letter_count = ap (λ (a : Asking). a.answer) (asks_letter sender memory turn output mail right lends now)

  pub letter_back : letter_in written ≡ letter
  letter_back = ap letter_in written_is ∙ letter_read letter mail (enough sender memory turn output mail right lends now)

  pub data_back : drop (length written - letter.octets) written ≡ take letter.octets mail
  data_back =
      ap (λ (o : List ℕ). drop (length o - letter.octets) o) written_is ∙ letter_data letter mail (enough sender memory turn output mail right lends now)

  -- its source is a station's number
  sender_number : addressed letter ≡ true
  sender_number =
      let one = first (is_before_blocks sender.ring sender.messages) _ now in
      let two = first (is_participating sender.ring.phase && asking.due_in sender.ring.phase sender.ring) _ one in
      ((ring_sound reached).ours (inside_on sender.ring.phase (first (is_participating sender.ring.phase) _ two))).number

  -- whoever lists the sender, and is another, accepts it
  pub letter_accepted : (listener : Both) → listener.ring.phase ≡ Participating → ¬ (sender.ring.own.number ≡ listener.ring.own.number)
      → is_listed listener.ring.members sender.ring.own.number ≡ true → (common assembly : List ℕ) → hearing.lent_right common assembly ≡ true
      → verdict listener (hear written common assembly) ≡ unrefused
  letter_accepted listener inside other listed common assembly lent =
      ap (λ (o : List ℕ). received_verdict (hear_of listener o common assembly).answer) written_is
      ∙ ap (λ (test : Bool). received_verdict (cond test
      (letter_heard (letters.message_heard listener.ring listener.messages (frame_of letter mail)) common assembly) hears).answer)
      (is_letter_lem sender memory turn output mail right lends now common assembly lent)
      ∙ ap (λ (l : Letter). received_verdict (letters.letter_heard listener.ring listener.messages (length (frame_of letter mail)) l).answer)
      (letter_read letter mail (enough sender memory turn output mail right lends now))
      ∙ letter_unrefused listener.ring listener.messages (length (frame_of letter mail)) letter sender_number
      (rw (ne_eqb _ _ other, and-false (not (is_off listener.ring.phase))))
      (is_measured letter mail (enough sender memory turn output mail right lends now) (few sender memory turn output mail right lends now))
      (rw (listed, and-false (is_participating listener.ring.phase)))
    where
      hears : Hearing
      hears =
          frame_heard listener (frame_of letter mail) (hearing.hear_of listener.ring (frame_of letter mail) common assembly)
          (calls.takes listener.ring (base.hear (frame_of letter mail) common assembly))

-- The outcomes of hearing a message, of handing one in and of asking, each with what led there and what is left: whatever is proved of these calls goes by
-- these. Assumes nothing.
use Rattle.std.specs.Prelude.{Err, ◌≡◌, ◌&&◌}
use Rattle.laws.specs.Usual.{true, false, List, ℕ, length}
use Rattle.copying.specs.Pasted.{pasted}
use Rattle.frame.specs.declared.Refusal.{Refusal}
use Rattle.message.specs.declared.Letter.{Letter}
use Rattle.message.specs.declared.Message.{Message}
use Rattle.message_frames.specs.Frames.{addressed, measured}
use Rattle.station.specs.Rules.Hearing.{hear_of}
use Rattle.station.specs.Rules.State.{is_off, is_participating, stopped}
use Rattle.station.specs.declared.Station.{Station}
use Rattle.message_rules.specs.Rules.Again.{is_open}
use Rattle.message_rules.specs.Rules.Calls.{Both, letter_heard, frame_heard, Asking, letter_asked, block_asked}
use Rattle.message_rules.specs.Rules.Cycle.{goes}
use Rattle.message_rules.specs.Rules.Hearing.{Hearing, is_letter, is_held, is_for_us, is_taken, is_stranger, unchanged, refused, judged, judgement_of, answer_to, message_heard}
use Rattle.message_rules.specs.Rules.Posting.{Posting, mail_right, is_sendable, waiting}
use Rattle.message_rules.specs.Rules.State.{Messages, no_messages, with_slot}
use Rattle.frame.specs.declared.Refusal.TheVariants as refusals
use Rattle.message.specs.declared.Posted.TheVariants as posted
use Rattle.message.specs.declared.Received.TheVariants as received
use Rattle.station.specs.Rules.Asking as asking
use Rattle.station.specs.Rules.Calls as base
use Rattle.station.specs.declared.Heard.TheVariants as heard
use Rattle.message_rules.specs.Rules.Calls as calls

-- a message that no refusal met, of another station, at one that is not off
pub record Accepts (station : Station) (given : ℕ) (letter : Letter) : Type 0 where
  pub address : addressed letter ≡ true
  pub untaken : is_taken station letter ≡ false
  pub size : measured given letter ≡ true
  pub known : is_stranger station letter ≡ false
  pub on : is_off station.phase ≡ false

-- what hearing a message leaves
pub data LetterCases (station : Station) (messages : Messages) (given : ℕ) (letter : Letter) : Hearing → Type 0 where
  -- any refusal, but number 6 before we participate
  refuses : (refusal : Refusal) → LetterCases station messages given letter (refused station messages refusal)
  turns_off : addressed letter ≡ true → is_taken station letter ≡ true → is_participating station.phase ≡ false
      → LetterCases station messages given letter (refused (stopped station) no_messages refusals.Taken)
  off : is_off station.phase ≡ true → LetterCases station messages given letter (unchanged station messages (received.Told heard.Off))
  -- it is for another, or we do not participate
  passes : Accepts station given letter → is_for_us station letter ≡ false
      → LetterCases station messages given letter (unchanged station messages (received.Told heard.Done))
  -- its confirmation would be the ninth
  holds : Accepts station given letter → is_for_us station letter ≡ true → is_held messages letter ≡ true
      → LetterCases station messages given letter (unchanged station messages (received.Told heard.Done))
  takes : Accepts station given letter → is_for_us station letter ≡ true → is_held messages letter ≡ false
      → LetterCases station messages given letter (record {
        station = station;
        messages = judged messages (judgement_of messages letter) letter;
        answer = answer_to (judgement_of messages letter) letter;
      })

-- what hearing leaves: of a message, or of a frame of the base
pub data HearCases (both : Both) (octets memory assembly : List ℕ) : calls.Hearing → Type 0 where
  letter : is_letter octets memory assembly ≡ true
      → HearCases both octets memory assembly (letter_heard (message_heard both.ring both.messages octets) memory assembly)
  frame : is_letter octets memory assembly ≡ false
      → HearCases both octets memory assembly (frame_heard both octets (hear_of both.ring octets memory assembly)
      (calls.takes both.ring (base.hear octets memory assembly)))

-- what handing in a message leaves
pub data PostCases (station : Station) (messages : Messages) (message : Message) (octets mail : List ℕ) : Posting → Type 0 where
  refuses : (refusal : Refusal) → PostCases station messages message octets mail (record { messages = messages; answer = posted.Refused refusal; mail = mail })
  off : is_off station.phase ≡ true
      → PostCases station messages message octets mail (record { messages = messages; answer = posted.Off; mail = mail })
  waits : mail_right mail ≡ true → is_sendable station message octets ≡ true → is_open messages.slot.mail ≡ false → is_off station.phase ≡ false
      → PostCases station messages message octets mail (record {
        messages = with_slot messages (waiting message (length octets));
        answer = posted.Done;
        mail = pasted mail 0 octets;
      })

-- what asking leaves: 11, a message that goes, or what the base writes or refuses
pub data AskCases (both : Both) (memory turn output mail : List ℕ) : Asking → Type 0 where
  refuses : mail_right mail ≡ false → AskCases both memory turn output mail
      (record { both = both; answer = Err refusals.Buffer; turn = turn; output = output })
  sends : mail_right mail ≡ true → asking.lent_right memory turn output ≡ true → goes both.ring both.messages ≡ true
      → AskCases both memory turn output mail (letter_asked both turn output mail)
  blocks : mail_right mail ≡ true → (asking.lent_right memory turn output && goes both.ring both.messages) ≡ false
      → AskCases both memory turn output mail (block_asked both memory turn output)

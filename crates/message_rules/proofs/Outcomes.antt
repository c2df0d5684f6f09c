-- The outcomes of hearing a message, of handing one in and of asking, each with what led there and what is left: whatever is proved of these calls goes by
-- these. Assumes nothing.
use Rattle.std.specs.Prelude.{Err, ◌≡◌, ◌&&◌}
use Rattle.laws.specs.Usual.{refl, Bool, true, false, cond, not, List, ℕ, length}
use Rattle.copying.specs.Pasted.{pasted}
use Rattle.laws.specs.Tests.{first, second}
use Rattle.message.specs.declared.Letter.{Letter}
use Rattle.message.specs.declared.Message.{Message}
use Rattle.message_frames.specs.Frames.{addressed, measured}
use Rattle.station.specs.Rules.Hearing.{hear_of}
use Rattle.station.specs.Rules.State.{is_off, is_participating, stopped}
use Rattle.station.specs.declared.Station.{Station}
use Rattle.message_rules.specs.Rules.Again.{is_open, is_to_go}
use Rattle.message_rules.specs.Rules.Calls.{Both, letter_heard, frame_heard, letter_asked, block_asked, ask_of}
use Rattle.message_rules.specs.Rules.Cycle.{is_before_blocks, is_measured, cycle_lets, is_writable, goes}
use Rattle.message_rules.specs.Rules.Hearing.{is_letter, is_held, is_for_us, is_taken, is_stranger, need, unchanged, refused, judged, judgement_of, answer_to, message_heard}
use Rattle.message_rules.specs.Rules.Posting.{mail_right, is_sendable, waiting, post_of}
use Rattle.message_rules.specs.Rules.State.{Messages, no_messages, with_slot}
use Rattle.message_rules.specs.Outcomes.{Accepts, LetterCases, refuses, turns_off, off, passes, holds, takes, HearCases, letter, frame, PostCases, refuses, off, waits, AskCases, refuses, sends, blocks}
use Rattle.frame.specs.declared.Refusal.TheVariants as refusals
use Rattle.message.specs.declared.Posted.TheVariants as posted
use Rattle.message.specs.declared.Received.TheVariants as received
use Rattle.station.specs.Rules.Asking as asking
use Rattle.station.specs.Rules.Calls as base
use Rattle.station.specs.declared.Heard.TheVariants as heard
use Rattle.message_rules.specs.Rules.Calls as calls
use Rattle.message_rules.specs.Rules.Hearing as letters
use Rattle.message_rules.specs.Rules.Posting as posting

module _ (station : Station) (messages : Messages) (given : ℕ) (letter : Letter) where
  pub letter_cases : LetterCases station messages given letter (letters.letter_heard station messages given letter)
  letter_cases =
      by (addressed letter) refl (is_taken station letter) refl (is_participating station.phase) refl (measured given letter) refl
      (is_stranger station letter) refl (is_off station.phase) refl (is_for_us station letter) refl (is_held messages letter) refl
    where
      by : (address : Bool) → addressed letter ≡ address → (six : Bool) → is_taken station letter ≡ six
          → (inside : Bool) → is_participating station.phase ≡ inside → (size : Bool) → measured given letter ≡ size
          → (nine : Bool) → is_stranger station letter ≡ nine → (out : Bool) → is_off station.phase ≡ out
          → (ours : Bool) → is_for_us station letter ≡ ours → (ninth : Bool) → is_held messages letter ≡ ninth
          → LetterCases station messages given letter
          (need address (refused station messages refusals.Address)
          (need (not six) (refused (cond inside station (stopped station)) (cond inside messages no_messages) refusals.Taken)
          (need size (refused station messages refusals.Block)
          (need (not nine) (refused station messages refusals.Stranger)
          (cond out (unchanged station messages (received.Told heard.Off))
          (cond ours
          (cond ninth
          (unchanged station messages (received.Told heard.Done))
          (record {
            station = station;
            messages = judged messages (judgement_of messages letter) letter;
            answer = answer_to (judgement_of messages letter) letter;
          }))
          (unchanged station messages (received.Told heard.Done))))))))
      by false a six s inside i size m nine n out o ours u ninth h = refuses refusals.Address
      by true a true s true i size m nine n out o ours u ninth h = refuses refusals.Taken
      by true a true s false i size m nine n out o ours u ninth h = turns_off a s i
      by true a false s inside i false m nine n out o ours u ninth h = refuses refusals.Block
      by true a false s inside i true m true n out o ours u ninth h = refuses refusals.Stranger
      by true a false s inside i true m false n true o ours u ninth h = off o
      by true a false s inside i true m false n false o true u true h =
          holds (record { address = a; untaken = s; size = m; known = n; on = o }) u h
      by true a false s inside i true m false n false o true u false h =
          takes (record { address = a; untaken = s; size = m; known = n; on = o }) u h
      by true a false s inside i true m false n false o false u ninth h =
          passes (record { address = a; untaken = s; size = m; known = n; on = o }) u

  -- one that is taken
  pub letter_taken : Accepts station given letter → is_for_us station letter ≡ true → is_held messages letter ≡ false
      → letters.letter_heard station messages given letter ≡ record {
        station = station;
        messages = judged messages (judgement_of messages letter) letter;
        answer = answer_to (judgement_of messages letter) letter;
      }
  letter_taken accepts ours room = rw (accepts.address, accepts.untaken, accepts.size, accepts.known, accepts.on, ours, room)

module _ (both : Both) (octets memory assembly : List ℕ) where
  pub hear_cases : HearCases both octets memory assembly (calls.hear_of both octets memory assembly)
  hear_cases = by (is_letter octets memory assembly) refl
    where
      by : (test : Bool) → is_letter octets memory assembly ≡ test → HearCases both octets memory assembly
          (cond test
          (letter_heard (message_heard both.ring both.messages octets) memory assembly)
          (frame_heard both octets (hear_of both.ring octets memory assembly) (calls.takes both.ring (base.hear octets memory assembly))))
      by true e = letter e
      by false e = frame e

module _ (station : Station) (messages : Messages) (message : Message) (octets mail : List ℕ) where
  pub post_cases : PostCases station messages message octets mail (post_of station messages message octets mail)
  post_cases =
      by (mail_right mail) refl (is_sendable station message octets) refl (is_open messages.slot.mail) refl (is_off station.phase) refl
    where
      by : (right : Bool) → mail_right mail ≡ right → (sendable : Bool) → is_sendable station message octets ≡ sendable
          → (pending : Bool) → is_open messages.slot.mail ≡ pending → (out : Bool) → is_off station.phase ≡ out
          → PostCases station messages message octets mail
          (posting.need right refusals.Buffer messages mail
          (posting.need sendable refusals.Message messages mail
          (posting.need (not pending) refusals.Waiting messages mail
          (cond out
          (record { messages = messages; answer = posted.Off; mail = mail })
          (record { messages = with_slot messages (waiting message (length octets)); answer = posted.Done; mail = pasted mail 0 octets })))))
      by false r sendable s pending w out o = refuses refusals.Buffer
      by true r false s pending w out o = refuses refusals.Message
      by true r true s true w out o = refuses refusals.Waiting
      by true r true s false w true o = off o
      by true r true s false w false o = waits r s w o

-- a message that goes is there to go, and can be written
pub goes_ready : (station : Station) (messages : Messages) → goes station messages ≡ true → (is_to_go messages.slot && is_writable messages.slot) ≡ true
goes_ready station messages now =
    second (cycle_lets station.panel.gap.0 messages.allowed.0 messages.went_last) _
    (second (is_measured station.panel) _ (second (is_before_blocks station messages) _ now))

module _ (both : Both) (memory turn output mail : List ℕ) where
  pub ask_cases : AskCases both memory turn output mail (ask_of both memory turn output mail)
  ask_cases = by (mail_right mail) refl (asking.lent_right memory turn output && goes both.ring both.messages) refl
    where
      by : (right : Bool) → mail_right mail ≡ right → (now : Bool) → (asking.lent_right memory turn output && goes both.ring both.messages) ≡ now
          → AskCases both memory turn output mail
          (cond right
          (cond now (letter_asked both turn output mail) (block_asked both memory turn output))
          (record { both = both; answer = Err refusals.Buffer; turn = turn; output = output }))
      by false r now g = refuses r
      by true r true g = sends r (first (asking.lent_right memory turn output) _ g) (second (asking.lent_right memory turn output) _ g)
      by true r false g = blocks r g

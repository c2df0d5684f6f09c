-- A message that goes: the octets that an asking writes are its frame, which whoever hears it takes for a message. Assumes nothing.
use Rattle.std.specs.Prelude.{◌≡◌, ◌≤◌}
use Rattle.laws.specs.Usual.{ap, ◌∙◌, true, List, ℕ, arith, length, take, leb}
use Rattle.std.proofs.Common.{eqb-true, leb-true}
use Rattle.laws.specs.Tests.{both, first, second}
use Rattle.message.specs.Codes.{is_message}
use Rattle.message.specs.declared.Letter.{Letter}
use Rattle.message_frames.specs.Frames.{whole_length, frame_of, output_of}
use Rattle.message_frames.proofs.ReadBack.{frame_written, code_read, is_marked, is_long, is_whole}
use Rattle.message_rules.proofs.Outcomes.{goes_ready}
use Rattle.message_rules.specs.Rules.Again.{is_to_go, letter_going}
use Rattle.message_rules.specs.Rules.Calls.{Both, ask_of, letter_asked}
use Rattle.message_rules.specs.Rules.Cycle.{is_writable, goes}
use Rattle.message_rules.specs.Rules.Hearing.{is_letter}
use Rattle.message_rules.specs.Rules.Posting.{mail_right}
use Rattle.station.specs.Rules.Asking as asking
use Rattle.station.specs.Rules.Hearing as hearing

-- a message that goes
module _ (sender : Both) (memory turn output mail : List ℕ) (right : asking.lent_right memory turn output ≡ true) (lends : mail_right mail ≡ true)
    (now : goes sender.ring sender.messages ≡ true) where
  abbrev letter : Letter
  letter = letter_going sender.ring.own.number sender.messages

  pub writable : is_writable sender.messages.slot ≡ true
  writable = second (is_to_go sender.messages.slot) _ (goes_ready sender.ring sender.messages now)

  pub few : letter.octets ≤ 1024
  few = leb-true letter.octets 1024 (first (leb letter.octets 1024) _ writable)

  pub enough : letter.octets ≤ length mail
  enough = let long = eqb-true (length mail) 1024 lends in let small = few in omega arith

  pub asks_letter : ask_of sender memory turn output mail ≡ letter_asked sender turn output mail
  asks_letter = rw (lends, right, now)

  pub octets_are : take (whole_length letter) (output_of letter mail output) ≡ frame_of letter mail
  octets_are = frame_written letter mail enough output

  -- whoever hears it takes it for a message
  pub is_letter_lem : (common assembly : List ℕ) → hearing.lent_right common assembly ≡ true → is_letter (frame_of letter mail) common assembly ≡ true
  is_letter_lem common assembly lent =
      both lent
      (both (is_whole letter mail enough few)
      (both (is_marked letter mail enough)
      (both (is_long letter mail enough)
      (ap is_message (code_read letter mail enough) ∙ second (leb letter.octets 1024) _ writable))))

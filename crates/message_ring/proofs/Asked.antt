-- An asking in which a message goes is nothing to the ring parts. Assumes nothing.
use Rattle.std.specs.Prelude.{Ok, ◌≡◌}
use Rattle.laws.specs.Usual.{[], ap, ◌∙◌, true, List, ℕ}
use Rattle.frame_reading.specs.Reading.{read_of}
use Rattle.message.specs.declared.Letter.{Letter}
use Rattle.message_rules.proofs.Ring.Buffers.{letter_unread}
use Rattle.message_rules.proofs.Letters.LetterSent.{asks_letter, octets_are, is_letter_lem}
use Rattle.message_rules.proofs.Ring.RingPart.{letter_ring}
use Rattle.message_frames.specs.Frames.{whole_length, frame_of, output_of}
use Rattle.message_ring.specs.Events.{handed}
use Rattle.message_rules.specs.Rules.Again.{letter_going}
use Rattle.message_rules.specs.Rules.Calls.{Both, ask_of, hear_of, Asking}
use Rattle.message_rules.specs.Rules.Cycle.{goes}
use Rattle.message_rules.specs.Rules.Posting.{mail_right}
use Rattle.ring.specs.Counts.{given_by, token_to}
use Rattle.ring.specs.Events.{Lent}
use Rattle.station.specs.Rules.State.{is_participating}
use Rattle.station.specs.Rules.Asking as asking
use Rattle.station.specs.Rules.Hearing as hearing

module _ (sender : Both) (memory turn output mail : List ℕ) (right : asking.lent_right memory turn output ≡ true) (lends : mail_right mail ≡ true)
    (now : goes sender.ring sender.messages ≡ true) where
  abbrev letter : Letter
  letter = letter_going sender.ring.own.number sender.messages

  -- a participant's ring part stays
  pub letter_handed : (listener : Both) (lent : Lent) → hearing.lent_right lent.memory lent.assembly ≡ true → is_participating listener.ring.phase ≡ true
      → (handed listener lent (Ok (whole_length letter)) (output_of letter mail output)).ring ≡ listener.ring
  letter_handed listener lent lends_right inside =
      ap (λ (o : List ℕ). (hear_of listener o lent.memory lent.assembly).both.ring) (octets_are sender memory turn output mail right lends now)
      ∙ letter_ring listener (frame_of letter mail) lent.memory lent.assembly (is_letter_lem sender memory turn output mail right lends now lent.memory lent.assembly lends_right) inside

  -- and nobody is given the token
  pub letter_gives : (common assembly : List ℕ) → hearing.lent_right common assembly ≡ true
      → given_by (ask_of sender memory turn output mail).answer (ask_of sender memory turn output mail).output ≡ []
  letter_gives common assembly lent =
      ap (λ (a : Asking). given_by a.answer a.output) (asks_letter sender memory turn output mail right lends now)
      ∙ ap (λ (o : List ℕ). token_to (read_of o)) (octets_are sender memory turn output mail right lends now)
      ∙ ap token_to (letter_unread (frame_of letter mail) common assembly (is_letter_lem sender memory turn output mail right lends now common assembly lent))

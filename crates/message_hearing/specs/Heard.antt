-- Hearing by a station with messages: a message, or a frame of the base. Assumes nothing.
use Rattle.std.specs.Prelude.{◌≡◌, ◌≤◌}
use Rattle.laws.specs.Usual.{ap, true, false, List, ℕ, length, leb}
use Rattle.std.proofs.Common.{leb-true}
use Rattle.boundary_told.specs.Told.{route_read}
use Rattle.frame_reading.specs.Reading.{whole}
use Rattle.laws.specs.Tests.{first, second}
use Rattle.message.specs.declared.Received.{Received}
use Rattle.message_answers.specs.Numbers.{received_told}
use Rattle.message_receiving.specs.Laws.{answer_told}
use Rattle.message_receiving.specs.Receiving.{received_answer}
use Rattle.message_rules.proofs.Ring.Buffers.{letter_unread}
use Rattle.message_rules.specs.Rules.Calls.{Hearing, hear_of, letter_heard, frame_heard, takes}
use Rattle.message_rules.specs.Rules.Hearing.{is_letter, message_heard}
use Rattle.message_rules.specs.Rules.State.{Messages}
use Rattle.station.specs.declared.Station.{Station}
use Rattle.station.specs.Rules.Calls as base
use Rattle.station.specs.Rules.Hearing as ring

-- of a station and its message part
abbrev pub hear_both : Station → Messages → List ℕ → List ℕ → List ℕ → Hearing
hear_both station messages octets memory assembly = hear_of (record { ring = station; messages = messages }) octets memory assembly

module _ (station : Station) (messages : Messages) (octets memory assembly : List ℕ) where
  pub as_letter : is_letter octets memory assembly ≡ true
      → letter_heard (message_heard station messages octets) memory assembly ≡ hear_both station messages octets memory assembly
  as_letter is = rw is

  pub as_frame : is_letter octets memory assembly ≡ false
      → frame_heard (record { ring = station; messages = messages }) octets (ring.hear_of station octets memory assembly)
      (takes station (base.hear octets memory assembly)) ≡ hear_both station messages octets memory assembly
  as_frame is = rw is

-- a message has a header
pub with_header : (octets memory assembly : List ℕ) → is_letter octets memory assembly ≡ true → 64 ≤ length octets
with_header octets memory assembly is =
    leb-true 64 (length octets)
    (first (leb 64 (length octets)) _ (first (whole octets) _ (second (ring.lent_right memory assembly) _ is)))

-- no route is told of a message that is not handed over
pub answered : (octets memory assembly : List ℕ) → is_letter octets memory assembly ≡ true → (answer : Received)
    → received_answer answer ≡ received_told octets answer
answered octets memory assembly is answer = answer_told octets answer (ap route_read (letter_unread octets memory assembly is))

-- A station of the base hears a cyclic frame with a confirmation in it as it hears it without: state, answer and buffers are the same. Assumes nothing.
use Rattle.std.specs.Prelude.{◌≡◌, ◌&&◌, ◌+◌}
use Rattle.laws.specs.Usual.{refl, sym, ap, ◌∙◌, cond, List, ℕ, length}
use Rattle.frame.specs.Codes.{is_cyclic}
use Rattle.frame.specs.declared.Code.{Code}
use Rattle.frame.specs.declared.Code.TheVariants.{Token, Cyclic, Request, Trigger}
use Rattle.frame.specs.declared.Fields.{Fields}
use Rattle.frame_reading.specs.Reading.{data_of}
use Rattle.frame_reading.specs.Reading.{Read}
use Rattle.frame_round_trip.specs.Accepted.{Accepted}
use Rattle.message.specs.declared.Confirmation.{Confirmation}
use Rattle.message_rules.proofs.Carried.CarriedRead.{accepted_with, data_with, relength, Plain}
use Rattle.message_frames.specs.Confirmations.{carrying}
use Rattle.message_frames.specs.Places.{confirmation_length}
use Rattle.station.proofs.Frames.FrameAccepted.{header_read, body_read}
use Rattle.station.specs.Rules.Data.{gathered}
use Rattle.station.specs.Rules.Hearing.{enters, enters_answer, participant_heard, is_taken, after_taken, is_stranger, lent_right, refused, header_heard, body_heard, hear_of}
use Rattle.station.specs.Rules.State.{is_participating}
use Rattle.station.specs.declared.Phase.{Phase}
use Rattle.station.specs.declared.Phase.TheVariants.{Off, Listening, Startup, Joining, Participating}
use Rattle.station.specs.declared.Station.{Station}
use Rattle.message_rules.specs.Carried.CarriedHeard.{heard_as}
use Rattle.frame.specs.declared.Refusal.TheVariants as refusals

heard_as_lem : (station : Station) (s memory assembly : List ℕ) (frame : Fields) → Accepted s frame
    → hear_of station s memory assembly ≡ heard_as station frame (data_of s frame) memory assembly
heard_as_lem station s memory assembly frame read =
    ap (λ (r : Read). cond (lent_right memory assembly) (header_heard station s memory assembly r) (refused station memory assembly refusals.Buffer))
    (header_read read)
    ∙ ap (λ (r : Read). cond (lent_right memory assembly)
    (cond (is_taken station frame) (refused (after_taken station) memory assembly refusals.Taken) (body_heard station s memory assembly r))
    (refused station memory assembly refusals.Buffer))
    (body_read read)

-- the length is not looked at
enters_longer : (phase : Phase) (code : Code) (station : Station) (frame : Fields) (count : ℕ)
    → enters phase code station (relength count frame) ≡ enters phase code station frame
enters_longer Off code station frame count = refl
enters_longer Listening Token station frame count = refl
enters_longer Listening Cyclic station frame count = refl
enters_longer Listening Request station frame count = refl
enters_longer Listening Trigger station frame count = refl
enters_longer Startup Token station frame count = refl
enters_longer Startup Cyclic station frame count = refl
enters_longer Startup Request station frame count = refl
enters_longer Startup Trigger station frame count = refl
enters_longer Joining Token station frame count = refl
enters_longer Joining Cyclic station frame count = refl
enters_longer Joining Request station frame count = refl
enters_longer Joining Trigger station frame count = refl
enters_longer Participating Token station frame count = refl
enters_longer Participating Cyclic station frame count = refl
enters_longer Participating Request station frame count = refl
enters_longer Participating Trigger station frame count = refl

as_longer : (station : Station) (frame : Fields) (count : ℕ) (octets memory assembly : List ℕ)
    → heard_as station (relength count frame) octets memory assembly ≡ heard_as station frame octets memory assembly
as_longer station frame count octets memory assembly =
    ap (λ (left : Station). cond (lent_right memory assembly)
    (cond (is_taken station frame)
    (refused (after_taken station) memory assembly refusals.Taken)
    (cond (is_stranger station frame)
    (refused station memory assembly refusals.Stranger)
    (cond (is_participating station.phase && is_cyclic frame.code)
    (participant_heard station frame (gathered station frame octets assembly memory))
    (record { station = left; answer = enters_answer station.phase frame.code; memory = memory; assembly = assembly }))))
    (refused station memory assembly refusals.Buffer))
    (enters_longer station.phase frame.code station frame count)

-- Whoever hears it: a station that knows nothing of messages, in any state and with any buffers.
pub carried_heard : (confirmation : Confirmation) (s : List ℕ) (fields : Fields) → Plain s fields
    → (station : Station) (memory assembly : List ℕ) → hear_of station (carrying confirmation s) memory assembly ≡ hear_of station s memory assembly
carried_heard confirmation s fields plain station memory assembly =
    heard_as_lem station (carrying confirmation s) memory assembly (relength (length s + confirmation_length) fields)
    (accepted_with confirmation s fields plain)
    ∙ as_longer station fields (length s + confirmation_length) (data_of (carrying confirmation s) (relength (length s + confirmation_length) fields)) memory assembly
    ∙ ap (λ (octets : List ℕ). heard_as station fields octets memory assembly) (data_with confirmation s fields plain)
    ∙ sym (heard_as_lem station s memory assembly fields plain.accepted)

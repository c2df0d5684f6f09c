-- What an asking writes where no message goes: the base's frame, or the base's frame with a confirmation put in. To whoever hears it, it is the base's frame.
-- Assumes nothing.
use Rattle.std.specs.Prelude.{Ok, ◌≡◌, ◌&&◌, ◌∷◌, ◌++◌, ◌+◌, ◌≤◌}
use Rattle.laws.specs.Usual.{[], refl, sym, ap, subst, ◌∙◌, Bool, true, false, cond, List, ℕ, length, take, drop, leb}
use Rattle.std.proofs.Common.{take_at}
use Rattle.frame.specs.declared.Fields.{Fields}
use Rattle.frame_reading.specs.Reading.{read_of}
use Rattle.frame_round_trip.proofs.Accepted.{reads}
use Rattle.message.specs.declared.Confirmation.{Confirmation}
use Rattle.message_rules.proofs.Ring.Buffers.{read_frame}
use Rattle.message_rules.proofs.Carried.CarriedHeard.{carried_heard}
use Rattle.message_rules.proofs.Carried.CarriedRead.{accepted_with, relength, Plain}
use Rattle.message_frames.proofs.Carrying.{length_carrying}
use Rattle.message_frames.specs.Confirmations.{carrying}
use Rattle.message_frames.specs.Places.{confirmation_length}
use Rattle.message_rules.specs.Rules.Calls.{Both, hear_of, carried_by}
use Rattle.message_rules.specs.Rules.Confirming.{Carried, carried_in}
use Rattle.station.specs.Rules.State.{is_participating}
use Rattle.station.specs.declared.Station.{Station}
use Rattle.message_rules.specs.Carried.Wrote.{Wrote, alone, carries}
use Rattle.station.specs.Rules.Asking as asking
use Rattle.station.specs.Rules.Hearing as hearing

-- of two
either : {s : List ℕ} (test : Bool) (one other : Carried) → Wrote s (take one.count one.output) → Wrote s (take other.count other.output)
    → Wrote s (take (cond test one other).count (cond test one other).output)
either true one other p q = p
either false one other p q = q

-- with 20 octets more, in front in the output
module _ (count : ℕ) (output : List ℕ) (long : length (take count output) ≡ count) (least : 64 ≤ count) where
  pub put_in : (confirmation : Confirmation) → take (count + confirmation_length) (carrying confirmation (take count output) ++ drop (count + confirmation_length) output)
      ≡ carrying confirmation (take count output)
  put_in confirmation =
      take_at (carrying confirmation (take count output)) (drop (count + confirmation_length) output) (count + confirmation_length)
      (length_carrying confirmation (take count output) (rw long least) ∙ ap (λ (n : ℕ). n + confirmation_length) long)

  owed_wrote : (owed : List Confirmation) → Wrote (take count output) (take (carried_in owed count output).count (carried_in owed count output).output)
  owed_wrote [] = alone
  owed_wrote (confirmation ∷ rest) =
      either (leb (count + confirmation_length) (length output)) _ _ (subst (Wrote (take count output)) (sym (put_in confirmation)) (carries confirmation)) alone

  pub asked_wrote : (both : Both) → Wrote (take count output)
      (take (carried_by both (Ok count) output).count (carried_by both (Ok count) output).output)
  asked_wrote both = either (is_participating both.ring.phase && asking.is_last both.ring) _ _ (owed_wrote both.messages.owed) alone

module _ {s : List ℕ} {fields : Fields} (plain : Plain s fields) where
  -- it reads as the frame, but for its length,
  pub wrote_read : {t : List ℕ} → Wrote s t → (count : ℕ) × (read_of t ≡ Ok (relength count fields))
  wrote_read alone = (fields.length, reads plain.accepted)
  wrote_read (carries confirmation) = (length s + confirmation_length, reads (accepted_with confirmation s fields plain))

  -- a station of the base hears the frame,
  pub wrote_heard : {t : List ℕ} → Wrote s t → (station : Station) (memory assembly : List ℕ)
      → hearing.hear_of station t memory assembly ≡ hearing.hear_of station s memory assembly
  wrote_heard alone station memory assembly = refl
  wrote_heard (carries confirmation) station memory assembly = carried_heard confirmation s fields plain station memory assembly

  -- and so does the ring part of one with messages.
  pub wrote_ring : {t : List ℕ} → Wrote s t → (both : Both) (memory assembly : List ℕ)
      → (hear_of both t memory assembly).both.ring ≡ (hearing.hear_of both.ring s memory assembly).station
  wrote_ring {t} wrote both memory assembly =
      let read = wrote_read wrote in
      let frame = read_frame t memory assembly (relength read.0 fields) read.1 in
      rw frame (ap (λ (h : hearing.Hearing). h.station) (wrote_heard wrote both.ring memory assembly))

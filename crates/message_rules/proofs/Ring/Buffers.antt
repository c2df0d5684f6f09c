-- The buffers: what a call on both leaves of the common memory, the assembly buffer and the turn buffer is what the call of the base leaves. Assumes nothing.
use Rattle.std.specs.Prelude.{Ok, Err, ◌≡◌}
use Rattle.laws.specs.Usual.{refl, sym, ap, ◌∙◌, Bool, true, false, List, ℕ, arith, get_or}
use Rattle.frame.specs.Octets.{word_at}
use Rattle.frame.specs.Positions.{TCD}
use Rattle.frame.specs.declared.Fields.{Fields}
use Rattle.frame_reading.specs.Reading.{whole, marked, long, read_of}
use Rattle.laws.specs.Tests.{first, second}
use Rattle.message.proofs.Apart.{message_unknown}
use Rattle.message_rules.proofs.Ring.Reached.{ring_reached}
use Rattle.message_rules.specs.Ring.Reached.{Reachable}
use Rattle.message_rules.specs.Rules.Calls.{Both, hear_of}
use Rattle.message_rules.specs.Rules.Hearing.{is_letter}
use Rattle.station.proofs.Memory.OursKept.{ours_kept, InAreas}
use Rattle.station.specs.declared.Station.{Station}
use Rattle.message_rules.specs.Ring.Buffers.{SameBuffers}
use Rattle.frame.specs.declared.Refusal.TheVariants as refusals
use Rattle.message.specs.declared.Received.TheVariants as received
use Rattle.station.specs.Rules.Hearing as base

-- A frame is taken as a message only where the base answers 4,
pub letter_four : (station : Station) (octets memory assembly : List ℕ) → is_letter octets memory assembly ≡ true
    → base.hear_of station octets memory assembly ≡ base.refused station memory assembly refusals.Code
letter_four station octets memory assembly letter =
    let lent = first (base.lent_right memory assembly) _ letter in
    let one = second (base.lent_right memory assembly) _ letter in
    let two = second (whole octets) _ one in
    let three = second (marked octets) _ two in
    let code = message_unknown (word_at octets TCD) (second (long octets) _ three) in
    rw (lent, first (whole octets) _ one, first (marked octets) _ two, first (long octets) _ three, code)

-- which a reader of the base cannot read,
pub letter_unread : (octets memory assembly : List ℕ) → is_letter octets memory assembly ≡ true → read_of octets ≡ Err refusals.Code
unfolding read_of
letter_unread octets memory assembly letter =
    let one = second (base.lent_right memory assembly) _ letter in
    let two = second (whole octets) _ one in
    let three = second (marked octets) _ two in
    let code = message_unknown (word_at octets TCD) (second (long octets) _ three) in
    rw (first (whole octets) _ one, first (marked octets) _ two, first (long octets) _ three, code)

-- and what it reads is no message;
pub read_frame : (octets memory assembly : List ℕ) (fields : Fields) → read_of octets ≡ Ok fields → is_letter octets memory assembly ≡ false
read_frame octets memory assembly fields read = by (is_letter octets memory assembly) refl
  where
    by : (letter : Bool) → is_letter octets memory assembly ≡ letter → letter ≡ false
    by true e = let other = letter_unread octets memory assembly e in let z : ◌≡◌ {A = ℕ} 0 1 = cc in absurd (omega arith)
    by false e = refl

pub same_buffers : (both : Both) (octets memory assembly : List ℕ) → SameBuffers both octets memory assembly
same_buffers both octets memory assembly = by (is_letter octets memory assembly) refl
  where
    by : (letter : Bool) → is_letter octets memory assembly ≡ letter → SameBuffers both octets memory assembly
    by true e = record {
      memory_same = rw e (ap (λ (h : base.Hearing). h.memory) (sym (letter_four both.ring octets memory assembly e)));
      assembly_same = rw e (ap (λ (h : base.Hearing). h.assembly) (sym (letter_four both.ring octets memory assembly e)));
    }
    by false e = record { memory_same = rw e; assembly_same = rw e }

-- "Our own areas are never written by a frame."
pub ours_kept_both : {both : Both} → Reachable both → (octets memory assembly : List ℕ) (at : ℕ) → InAreas both.ring.own.areas at
    → get_or (hear_of both octets memory assembly).memory at 0 ≡ get_or memory at 0
ours_kept_both {both} reached octets memory assembly at ours =
    ap (λ (m : List ℕ). get_or m at 0) (same_buffers both octets memory assembly).memory_same
    ∙ ours_kept both.ring (ring_reached reached) octets memory assembly at ours

-- The answer to a frame of the base is the base's.
pub told : (both : Both) (octets memory assembly : List ℕ) → is_letter octets memory assembly ≡ false
    → (hear_of both octets memory assembly).answer ≡ received.Told (base.hear_of both.ring octets memory assembly).answer
told both octets memory assembly other = rw other

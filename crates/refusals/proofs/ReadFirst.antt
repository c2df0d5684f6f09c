-- A frame that is read and that no station hears, as `decode` reads one, is refused by the same table. Assumes nothing.
use Rattle.std.specs.Prelude.{Err, ◌≡◌}
use Rattle.laws.specs.Usual.{refl, Bool, true, false, cond, List, ℕ}
use Rattle.frame_refusals.specs.Refusals.{order}
use Rattle.frame_reading.specs.Reading.{need, and_then, read_of}
use Rattle.station.specs.Types.{Fields, Refusal, Read}
use Rattle.station.specs.Rules.Calls.{Verdict}
use Rattle.refusals.specs.Applies.{frame_in, first_of}
use Rattle.refusals.proofs.FirstApplies.{by_not, by_and, by_or, fewer}
use Rattle.refusals.specs.ReadFirst.{applies_to, read_by}
use Rattle.frame.specs.declared.Refusal.TheVariants as refusals

-- 6, 9, 10 and 11, which speak of a station and its buffers, never do
pub only_frames : (octets : List ℕ) → (applies_to octets refusals.Taken ≡ false) × (applies_to octets refusals.Stranger ≡ false)
    × (applies_to octets refusals.NotDue ≡ false) × (applies_to octets refusals.Buffer ≡ false)
only_frames octets = (refl, refl, refl, refl)

by_choice : (frame : Fields) (test : Bool) (one other : Verdict)
    → read_by frame (cond test one other) ≡ cond test (read_by frame one) (read_by frame other)
by_choice frame true one other = refl
by_choice frame false one other = refl

need_choice : (test : Bool) (refusal : Refusal) (rest : Read) → need test refusal rest ≡ cond test rest (Err refusal)
need_choice true refusal rest = refl
need_choice false refusal rest = refl

then_choice : (test : Bool) (one other : Read) (next : Fields → Read)
    → and_then (cond test one other) next ≡ cond test (and_then one next) (and_then other next)
then_choice true one other next = refl
then_choice false one other next = refl

-- What is read is the fields, or the first refusal in the order that applies.
pub read_first : (octets : List ℕ) → read_of octets ≡ read_by (frame_in octets) (first_of (applies_to octets) order)
unfolding read_of
read_first octets = simp (need_choice, then_choice, by_choice, by_not, by_and, by_or, fewer)

-- A frame that is read and that no station hears, as `decode` reads one, is refused by the same table. Assumes nothing.
use Rattle.std.specs.Prelude.{Ok, Err}
use Rattle.laws.specs.Usual.{Bool, List, ℕ, replicate}
use Rattle.area.specs.Areas.{memory_octets}
use Rattle.station.specs.Types.{Fields, Refusal, Read}
use Rattle.station.specs.Rules.Calls.{hear, Verdict, refused_by, unrefused}
use Rattle.station.specs.Rules.State.{never}
use Rattle.refusals.specs.Applies.{applies}

-- a buffer as long as it has to be
abbrev pub buffer : List ℕ
buffer = replicate memory_octets 0

-- whether a refusal applies to octets alone: as if a station heard them that was never started and was lent its buffers
abbrev pub applies_to : List ℕ → Refusal → Bool
applies_to octets refusal = applies refusal never (hear octets buffer buffer)

-- a verdict as what is read: the fields as they stand in the octets, or the refusal
abbrev pub read_by : Fields → Verdict → Read
read_by frame unrefused = Ok frame
read_by frame (refused_by refusal) = Err refusal

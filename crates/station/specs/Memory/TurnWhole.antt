-- "Half a turn is never seen": where every frame is heard with the assembly buffer that the one before left, each turn that is written is the
-- data of blocks 1 to the last of its source, in order. Assumes nothing.
use Rattle.std.specs.Prelude.{◌≡◌, ◌<◌}
use Rattle.laws.specs.Usual.{[], Bool, true, false, List, ℕ, get_or}
use Rattle.station.specs.Rules.Calls.{Call, start, stop, tick, hear, ask, after}
use Rattle.station.specs.Memory.Gathers.{accepted_after}
use Rattle.station.specs.Rules.Hearing.{hear_of}
use Rattle.station.specs.States.Reachable.{Typed}
use Rattle.station.specs.Rules.State.{never}
use Rattle.station.specs.Types.{Station}

-- a call that borrows no assembly buffer
abbrev pub hears_nothing : Call → Bool
hears_nothing (start settings) = true
hears_nothing stop = true
hears_nothing tick = true
hears_nothing (hear octets memory assembly) = false
hears_nothing (ask memory turn output) = true

-- the cyclic frames accepted since off that are no repeats, the latest first, with the state that all calls leave, each frame heard with the assembly buffer as it was
-- left, and that buffer
pub data Lending : List (List ℕ) → Station → List ℕ → Type 0 where
  begins : (assembly : List ℕ) → Lending [] never assembly
  hears : {heard : List (List ℕ)} {station : Station} {assembly : List ℕ} → Lending heard station assembly → (octets memory : List ℕ) → ((at : ℕ) → get_or octets at 0 < 256)
      → Lending (accepted_after (hear_of station octets memory assembly).answer octets heard) (hear_of station octets memory assembly).station (hear_of station octets memory assembly).assembly
  calls : {heard : List (List ℕ)} {station : Station} {assembly : List ℕ} → Lending heard station assembly → (call : Call) → Typed call → hears_nothing call ≡ true
      → Lending heard (after station call) assembly

-- "Half a turn is never seen", and the turn buffer: as they stand of the base, of a station with messages. Assumes nothing.
use Rattle.std.specs.Prelude.{◌≡◌, ◌<◌}
use Rattle.laws.specs.Usual.{[], Bool, true, false, List, ℕ, get_or}
use Rattle.message.specs.declared.Received.{Received}
use Rattle.message_rules.specs.Ring.Reached.{Typed}
use Rattle.message_rules.specs.Rules.Calls.{Both, never_both, Call, start, stop, tick, post, hear, ask, after, hear_of}
use Rattle.message_rules.specs.Rules.Confirming.{is_cyclic_answer}
use Rattle.station.specs.Memory.Gathers.{accepted_after}
use Rattle.message.specs.declared.Received.TheVariants as received
use Rattle.station.specs.Rules.Hearing as hearing

-- a call that borrows no assembly buffer
abbrev pub hears_nothing : Call → Bool
hears_nothing (start settings allowance) = true
hears_nothing stop = true
hears_nothing tick = true
hears_nothing (post message octets mail) = true
hears_nothing (hear octets memory assembly) = false
hears_nothing (ask memory turn output mail) = true

-- the frames that the base accepts, as `Lending` of station tells them, with each frame heard with the assembly buffer as it was left
pub data LendingBoth : List (List ℕ) → Both → List ℕ → Type 0 where
  begins : (assembly : List ℕ) → LendingBoth [] never_both assembly
  hears : {frames : List (List ℕ)} {both : Both} {assembly : List ℕ} → LendingBoth frames both assembly → (octets memory : List ℕ)
      → ((at : ℕ) → get_or octets at 0 < 256)
      → LendingBoth (accepted_after (hearing.hear_of both.ring octets memory assembly).answer octets frames) (hear_of both octets memory assembly).both
      (hear_of both octets memory assembly).assembly
  calls : {frames : List (List ℕ)} {both : Both} {assembly : List ℕ} → LendingBoth frames both assembly → (call : Call) → Typed call
      → hears_nothing call ≡ true → LendingBoth frames (after both call) assembly

-- a message is never answered as a cyclic frame
abbrev pub is_cyclic_told : Received → Bool
is_cyclic_told (received.Told answer) = is_cyclic_answer answer
is_cyclic_told (received.Message delivery) = false

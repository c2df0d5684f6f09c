-- The states that calls can leave since off, message part included, and what holds of their ring parts: all that holds of a station of the base. Assumes
-- nothing.
use Rattle.std.specs.Prelude.{◌<◌}
use Rattle.laws.specs.Usual.{ℕ, get_or}
use Rattle.message.specs.declared.Message.{Message}
use Rattle.message_rules.specs.Rules.Calls.{Both, never_both, Call, start, stop, tick, post, hear, ask, after}
use Rattle.station.specs.States.Reachable.{TypedSettings}

-- a message as the types of its fields hold it
pub record TypedMessage (message : Message) : Type 0 where
  pub destination : message.destination < 256
  pub code : message.code < 65536
  pub size : message.size < 65536
  pub address : message.address < 4294967296
  pub result : message.result < 256

-- the arguments of a call have their types' ranges
abbrev pub Typed : Call → Type 0
Typed (start settings allowance) = TypedSettings settings × (allowance.cycle.0 < 65536) × (allowance.version < 4294967296)
Typed stop = Unit {0}
Typed tick = Unit {0}
Typed (post message octets mail) = TypedMessage message
Typed (hear octets memory assembly) = (at : ℕ) → get_or octets at 0 < 256
Typed (ask memory turn output mail) = Unit {0}

-- what some list of calls leaves since off
pub data Reachable : Both → Type 0 where
  unstarted : Reachable never_both
  called : {both : Both} (call : Call) → Reachable both → Typed call → Reachable (after both call)

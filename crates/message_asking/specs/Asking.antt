-- Asking, on what C lends: the core, the list in arrays, the outgoing side and what is owed. What is known of the sources does not matter to it.
use Rattle.laws.specs.Usual.{Bool, cond, List, ℕ}
use Rattle.boundary_core.specs.Crossing.{station_in}
use Rattle.boundary_places.specs.Places.{core_in}
use Rattle.message.specs.declared.Confirmation.{Confirmation}
use Rattle.message_places.specs.Places.{messages_in}
use Rattle.message_rules.specs.Rules.Calls.{Both, Asking, block_asked, ask_of}
use Rattle.message_rules.specs.Rules.Confirming.{Carried, carried_in}
use Rattle.message_rules.specs.Rules.State.{Sources}

-- a frame of so many octets with the oldest confirmation in, where it is our token frame
abbrev pub carried_where : Bool → List Confirmation → ℕ → List ℕ → Carried
carried_where token owed count output = cond token (carried_in owed count output) (record { owed = owed; count = count; output = output })

module _ (core : List ℕ) (listed : List Bool) (areas watch misses outgoing owed memory turn output : List ℕ) where
  abbrev pub both_in : Sources → Both
  both_in sources = record { ring = station_in (core_in core) listed areas watch misses; messages = messages_in outgoing owed sources }

  -- what the base writes or refuses
  abbrev pub block_in : Sources → Asking
  block_in sources = block_asked (both_in sources) memory turn output

  -- the call
  abbrev pub ask_in : List ℕ → Sources → Asking
  ask_in mail sources = ask_of (both_in sources) memory turn output mail

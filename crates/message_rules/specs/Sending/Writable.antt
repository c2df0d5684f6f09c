-- What could not be sent is never there to go: in every state that calls can leave, an open message has a message code and at most 1024 octets. Assumes nothing.
use Rattle.std.specs.Prelude.{◌≡◌}
use Rattle.laws.specs.Usual.{Bool, true, false}
use Rattle.message.specs.declared.Slot.{Slot}
use Rattle.message_rules.specs.Rules.Again.{is_open}
use Rattle.message_rules.specs.Rules.Calls.{Call, start, stop, tick, post, hear, ask}
use Rattle.message_rules.specs.Rules.Cycle.{is_writable}

abbrev pub Writable : Slot → Type 0
Writable slot = is_open slot.mail ≡ true → is_writable slot ≡ true

-- a call that hands in a message
abbrev pub hands_in : Call → Bool
hands_in (start settings allowance) = false
hands_in stop = false
hands_in tick = false
hands_in (post message octets mail) = true
hands_in (hear octets memory assembly) = false
hands_in (ask memory turn output mail) = false

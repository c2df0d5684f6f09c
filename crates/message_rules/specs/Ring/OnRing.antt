-- What each call on both parts is to the ring part: a call of the base, or none.
use Rattle.std.specs.Prelude.{◌&&◌, ◌∷◌, ◌++◌}
use Rattle.laws.specs.Usual.{[], Bool, cond, not, List, ℕ}
use Rattle.message_frames.specs.Frames.{letter_in, addressed}
use Rattle.message_rules.specs.Rules.Calls.{Both, Call, start, stop, tick, post, hear, ask, after}
use Rattle.message_rules.specs.Rules.Cycle.{goes}
use Rattle.message_rules.specs.Rules.Hearing.{is_letter, is_taken}
use Rattle.message_rules.specs.Rules.Posting.{mail_right}
use Rattle.station.specs.Rules.State.{is_participating}
use Rattle.station.specs.declared.Station.{Station}
use Rattle.station.specs.Rules.Asking as asking
use Rattle.station.specs.Rules.Calls as base

-- a message of our own number before we participate: 6, which "also turns the station off, as stop does"
abbrev pub own_number_heard : Station → List ℕ → Bool
own_number_heard station octets =
    addressed (letter_in octets)
    && (is_taken station (letter_in octets) && not (is_participating station.phase))

-- an asking in which a message goes
abbrev pub writes_letter : Both → List ℕ → List ℕ → List ℕ → Bool
writes_letter both memory turn output = asking.lent_right memory turn output && goes both.ring both.messages

-- the calls of the base that a call on both is to the ring part
abbrev pub on_ring : Both → Call → List base.Call
on_ring both (start settings allowance) = base.start settings ∷ []
on_ring both stop = base.stop ∷ []
on_ring both tick = base.tick ∷ []
on_ring both (post message octets mail) = []
on_ring both (hear octets memory assembly) =
    cond (is_letter octets memory assembly)
    (cond (own_number_heard both.ring octets) (base.stop ∷ []) [])
    (base.hear octets memory assembly ∷ [])
on_ring both (ask memory turn output mail) =
    cond (mail_right mail)
    (cond (writes_letter both memory turn output) [] (base.ask memory turn output ∷ []))
    []

-- and those of a list of calls, one after the other
abbrev pub all_on_ring : Both → List Call → List base.Call
all_on_ring both [] = []
all_on_ring both (call ∷ calls) = on_ring both call ++ all_on_ring (after both call) calls

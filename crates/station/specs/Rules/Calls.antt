-- All calls of a station, each with the buffers that are lent to it.
use Rattle.std.specs.Prelude.{Ok, Err, ◌∷◌}
use Rattle.laws.specs.Usual.{[], List, ℕ}
use Rattle.station.specs.Rules.Asking.{ask_of}
use Rattle.station.specs.Rules.Hearing.{hear_of}
use Rattle.station.specs.Rules.Starting.{start_of, stop_of}
use Rattle.station.specs.Rules.Ticking.{tick_of}
use Rattle.station.specs.Types.{Refusal, Settings, Station, Switched, Heard, Asked}
use Rattle.station.specs.declared.Heard.TheVariants as heard

-- a call with its arguments: hearing borrows the common memory and the assembly buffer, asking the common memory, the turn buffer and the
-- output
pub data Call : Type 0 where
  start : Settings → Call
  stop : Call
  tick : Call
  hear : (octets memory assembly : List ℕ) → Call
  ask : (memory turn output : List ℕ) → Call

-- the buffers that a call was lent
abbrev pub lent : Call → List (List ℕ)
lent (start settings) = []
lent stop = []
lent tick = []
lent (hear octets memory assembly) = octets ∷ memory ∷ assembly ∷ []
lent (ask memory turn output) = memory ∷ turn ∷ output ∷ []

-- and what they hold after it
abbrev pub lent_after : Station → Call → List (List ℕ)
lent_after station (start settings) = []
lent_after station stop = []
lent_after station tick = []
lent_after station (hear octets memory assembly) =
    octets ∷ (hear_of station octets memory assembly).memory ∷ (hear_of station octets memory assembly).assembly ∷ []
lent_after station (ask memory turn output) =
    memory ∷ (ask_of station memory turn output).turn ∷ (ask_of station memory turn output).output ∷ []

-- the state after a call
abbrev pub after : Station → Call → Station
after station (start settings) = (start_of station settings).station
after station stop = (stop_of station).station
after station tick = (tick_of station).station
after station (hear octets memory assembly) = (hear_of station octets memory assembly).station
after station (ask memory turn output) = (ask_of station memory turn output).station

-- what a call answered, as far as it is a refusal
pub data Verdict : Type 0 where
  refused_by : Refusal → Verdict
  unrefused : Verdict

abbrev pub switched_verdict : Switched → Verdict
switched_verdict (Ok tt) = unrefused
switched_verdict (Err refusal) = refused_by refusal

abbrev pub heard_verdict : Heard → Verdict
heard_verdict heard.Off = unrefused
heard_verdict heard.Done = unrefused
heard_verdict (heard.Cyclic token) = unrefused
heard_verdict (heard.Refused refusal) = refused_by refusal

abbrev pub asked_verdict : Asked → Verdict
asked_verdict (Ok count) = unrefused
asked_verdict (Err refusal) = refused_by refusal

abbrev pub verdict : Station → Call → Verdict
verdict station (start settings) = switched_verdict (start_of station settings).answer
verdict station stop = switched_verdict (stop_of station).answer
verdict station tick = unrefused
verdict station (hear octets memory assembly) = heard_verdict (hear_of station octets memory assembly).answer
verdict station (ask memory turn output) = asked_verdict (ask_of station memory turn output).answer

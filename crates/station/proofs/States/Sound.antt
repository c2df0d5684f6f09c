-- What holds in every state that calls can leave: the record `Sound` of Reachable. Assumes nothing.
use Rattle.std.proofs.Common.{arith}
use Rattle.frame_writing.specs.Writing.{no_areas, no_watch}
use Rattle.station.proofs.Outcomes.AskCases.{ask_cases}
use Rattle.station.specs.Rules.Calls.{Call, start, stop, tick, hear, ask, after}
use Rattle.station.proofs.States.KeepsAsking.{ask_sound}
use Rattle.station.proofs.States.KeepsHearing.{hear_sound}
use Rattle.station.proofs.States.KeepsStarting.{off_sound, start_sound, stop_sound}
use Rattle.station.proofs.States.KeepsTicking.{tick_sound}
use Rattle.station.specs.States.Reachable.{Typed, Reachable, unstarted, called, Sound}
use Rattle.station.specs.declared.Station.{Station}

-- every call keeps it
pub kept : (station : Station) (call : Call) → Typed call → Sound station → Sound (after station call)
kept station (start settings) typed ok = start_sound station settings typed ok
kept station stop typed ok = stop_sound station ok
kept station tick typed ok = tick_sound station ok
kept station (hear octets memory assembly) typed ok = hear_sound station octets memory assembly ok typed
kept station (ask memory turn output) typed ok = ask_sound station ok (ask_cases station memory turn output)

-- what holds in every state that any list of calls with any arguments can leave since off
pub sound : (station : Station) → Reachable station → Sound station
sound _ unstarted = off_sound (record { number = 0; areas = no_areas; watch = no_watch }) (omega arith)
sound _ (called call reached typed) = kept _ call typed (sound _ reached)

-- Paper 01, "The token view and the watch", and paper 02, E1: our watch, told from the calls since off, the phase, the list and the view before
-- each, and the frames that were heard. Nothing here looks at the count of ticks that the state carries.
use Rattle.std.specs.Prelude.{◌||◌, ◌∷◌, ◌*◌}
use Rattle.laws.specs.Usual.{[], Bool, false, cond, not, List, ℕ, suc, eqb, leb}
use Rattle.frame.specs.Codes.{is_cyclic}
use Rattle.members.specs.Members.{entry_of, is_listed}
use Rattle.station.specs.Rules.Calls.{Call, start, stop, tick, hear, ask, verdict}
use Rattle.station.specs.Panel.History.{Step, participates, is_tick}
use Rattle.station.specs.declared.Station.{Station}
use Rattle.misses.specs.MissHistory.{is_unrefused, hears}

-- an asking that is not refused
abbrev pub sends : Station → Call → Bool
sends station (start settings) = false
sends station stop = false
sends station tick = false
sends station (hear octets memory assembly) = false
sends station (ask memory turn output) = is_unrefused (verdict station (ask memory turn output))

-- "Every accepted cyclic frame restarts our watch .. Sending one of ours restarts it too. It starts afresh when we begin to participate": until
-- then it does not run
abbrev pub restarts : Station → Call → Bool
restarts station call = not (participates station) || (hears (λ frame. is_cyclic frame.code) station call || sends station call)

-- "as list and view stand at each tick, for the listed time of the station in view, our own time when we hold or it isn't listed; a listed TW of 0
-- counts as 1 ms"
abbrev pub milliseconds : Station → ℕ
milliseconds station =
    cond (eqb station.view station.own.number) station.own.watch.0
    (cond (is_listed station.members station.view)
    (cond (eqb (entry_of station.members station.view).watch.0 0) 1 (entry_of station.members station.view).watch.0)
    station.own.watch.0)

-- "It ends once ten ticks for each of its milliseconds have come": in the tick after so many
abbrev pub ends_after : ℕ → ℕ → Bool
ends_after milliseconds ticks = leb (milliseconds * 10) (suc ticks)

-- the ticks since the watch last restarted, after a step: it restarts where it ends, too
abbrev pub run_after : Bool → Bool → Bool → ℕ → ℕ
run_after restarted ticks ended run = cond restarted 0 (cond ticks (cond ended 0 (suc run)) run)

abbrev pub watch_run : List Step → ℕ
watch_run [] = 0
watch_run (step ∷ earlier) =
    run_after (restarts step.before step.call) (is_tick step.call) (ends_after (milliseconds step.before) (watch_run earlier))
    (watch_run earlier)

-- What every call does to one station's entry. Assumes nothing.
use Rattle.std.specs.Prelude.{Ok, ◌≡◌, ◌&&◌}
use Rattle.laws.specs.Usual.{[], Bool, true, false, cond, not, false≢true, List, ℕ, eqb, ltb}
use Rattle.std.proofs.Math.Bool.{and-false}
use Rattle.frame.specs.Codes.{is_cyclic}
use Rattle.frame.specs.declared.Code.TheVariants.{Token, Cyclic, Request, Trigger}
use Rattle.members.specs.Listing.{listing}
use Rattle.members.specs.Members.{entry_of, is_listed}
use Rattle.frame_reading.specs.Reading.{read_of}
use Rattle.frame_round_trip.proofs.Accepted.{reads}
use Rattle.station.specs.Rules.Calls.{Call, start, stop, tick, hear, ask, after, heard_verdict}
use Rattle.station.specs.Rules.Data.{dropped}
use Rattle.station.specs.Rules.Hearing.{Hearing, requested, participant_heard}
use Rattle.station.specs.Panel.History.{participates}
use Rattle.station.proofs.States.ListKept.{none_listed}
use Rattle.station.specs.Rules.Starting.{ours_due, joined_by, need}
use Rattle.station.specs.Rules.State.{is_participating, fresh, is_off, stopped}
use Rattle.station.proofs.Outcomes.SwitchCases.{switched_to, start_cases, stop_cases}
use Rattle.station.specs.Rules.Ticking.{Ticking}
use Rattle.station.specs.Types.{Fields, Code, Read}
use Rattle.station.specs.declared.Phase.{Phase}
use Rattle.station.specs.declared.Phase.TheVariants.{Off, Listening, Startup, Joining, Participating}
use Rattle.station.specs.declared.Station.{Station}
use Rattle.frame_writing.specs.Writing.{no_areas}
use Rattle.station.specs.Rules.Asking.{Asking}
use Rattle.misses.specs.EntryMoves.{Moves}
use Rattle.misses.proofs.EntryMoves.{same, gone, listing_moves, cleared_moves, missed_moves, first_moves}
use Rattle.misses.specs.MissHistory.{is_unrefused, reads_as, lists_in, lists, accepts, ends, is_stop}
use Rattle.station.proofs.Outcomes.AskCases as on_asking_told
use Rattle.station.proofs.Outcomes.HearCases as on_hearing_told
use Rattle.station.proofs.Outcomes.TickCases as on_tick_told
use Rattle.frame.specs.declared.Refusal.TheVariants as refusals
use Rattle.station.specs.Outcomes.AskCases as on_asking
use Rattle.station.specs.Outcomes.HearCases as on_hearing
use Rattle.station.specs.Outcomes.TickCases as on_tick

-- what a call does to the entry of x, where it leaves this state
abbrev pub Does : ℕ → Station → Call → Station → Type 0
Does x station call left =
    Moves (participates station && not (is_stop call)) (lists x station call) (accepts x station call) (ends x station call)
    (entry_of station.members x) (entry_of left.members x)

module _ (x : ℕ) where
  tick_does : {station : Station} {result : Ticking} → on_tick.TickCases station result → Does x station tick result.station
  tick_does (on_tick.off e) = rw e same
  tick_does (on_tick.listens e) = rw e same
  tick_does (on_tick.starts e t) = rw e same
  tick_does (on_tick.lapses e t) = rw e (gone (none_listed x))
  tick_does (on_tick.begins e t) = rw e same
  tick_does (on_tick.gives_up e t) = rw e (gone (none_listed x))
  tick_does (on_tick.learns e t r) = rw e same
  tick_does (on_tick.waits e t r) = rw e same
  tick_does {station} (on_tick.ends e t) = rw (e, t) (missed_moves station.members station.view x)
  tick_does (on_tick.runs e t) = rw (e, t) same

  -- a participant that is stopped lists nobody
  pub stop_empties : (station : Station) → participates station ≡ true → is_listed (after station stop).members x ≡ false
  stop_empties station = by station.phase
    where
      by : (phase : Phase) → is_participating phase ≡ true
          → is_listed (need (not (is_off phase)) refusals.NotDue station (record { station = stopped station; answer = Ok tt })).station.members x ≡ false
      by Off e = absurd (false≢true e)
      by Listening e = none_listed x
      by Startup e = none_listed x
      by Joining e = none_listed x
      by Participating e = none_listed x

  ask_does : {station : Station} {memory turn output : List ℕ} {result : Asking} → on_asking.AskCases station memory turn output result
      → Does x station (ask memory turn output) result.station
  ask_does (on_asking.refuses refusal) = same
  ask_does (on_asking.sends lent is (on_asking.triggers e due)) = rw e (gone (none_listed x))
  ask_does (on_asking.sends lent is (on_asking.requests e fallen)) = same
  ask_does (on_asking.sends lent is (on_asking.begins e fallen)) = same
  ask_does (on_asking.sends lent is (on_asking.passes e held placed)) = same

  -- what a frame that no refusal met does, of each code in each phase
  module _ (station : Station) (frame : Fields) where
    abbrev Heeds : Phase → Code → Station → Type 0
    Heeds phase code left =
        Moves (is_participating phase && true) (lists_in phase station.rounds code && eqb frame.source x)
        (is_participating phase && (is_cyclic code && eqb frame.source x)) false (entry_of station.members x) (entry_of left.members x)

    joins_first : {phase : Phase} → on_hearing.Awaits phase → Heeds phase Token (joined_by (fresh Joining station.own) frame)
    joins_first on_hearing.listening_awaits = first_moves frame.source x frame.areas frame.watch no_areas
    joins_first on_hearing.startup_awaits = first_moves frame.source x frame.areas frame.watch no_areas

    passes : {phase : Phase} → on_hearing.Awaits phase → Heeds phase Cyclic station
    passes on_hearing.listening_awaits = same
    passes on_hearing.startup_awaits = same

    requests : {phase : Phase} → on_hearing.Lists phase → Heeds phase Request (requested station frame)
    requests on_hearing.startup_lists = listing_moves station.members frame.source x frame.areas frame.watch (ours_due station)
    requests on_hearing.participant_lists = listing_moves station.members frame.source x frame.areas frame.watch (ours_due station)

    ignored : {phase : Phase} {code : Code} → on_hearing.Unnamed phase code → Heeds phase code station
    ignored on_hearing.listening_request = same
    ignored on_hearing.startup_trigger = same
    ignored on_hearing.joining_request = same
    ignored on_hearing.joining_trigger = same
    ignored on_hearing.participating_trigger = same

    -- a frame that joining reads
    joins : (learns : Bool) → Moves false (learns && eqb frame.source x) false false (entry_of station.members x)
        (entry_of (cond learns (listing station.members frame.source frame.areas frame.watch no_areas) station.members) x)
    joins true = listing_moves station.members frame.source x frame.areas frame.watch no_areas
    joins false = same

    -- a cyclic frame is no request
    gathers : (code : Code) → is_cyclic code ≡ true → Heeds Participating code (participant_heard station frame (dropped [] [])).station
    gathers Token c = cleared_moves station.members frame.source x
    gathers Cyclic c = cleared_moves station.members frame.source x
    gathers Request c = absurd (false≢true c)
    gathers Trigger c = absurd (false≢true c)

  -- what hearing does, where the octets read so
  abbrev Hears : Station → Read → Hearing → Type 0
  Hears station read result =
      Moves (participates station && true)
      (is_unrefused (heard_verdict result.answer)
      && reads_as (λ frame. lists_in station.phase station.rounds frame.code && eqb frame.source x) read)
      (is_unrefused (heard_verdict result.answer)
      && reads_as (λ frame. participates station && (is_cyclic frame.code && eqb frame.source x)) read)
      false (entry_of station.members x) (entry_of result.station.members x)

  hear_does : {station : Station} {octets memory assembly : List ℕ} {result : Hearing} → on_hearing.HearCases station octets memory assembly result
      → Hears station (read_of octets) result
  hear_does (on_hearing.refuses refusal) = same
  hear_does (on_hearing.turns_off out) = rw out (gone (none_listed x))
  hear_does {station} (on_hearing.gathers frame from parts) =
      rw (reads (on_hearing_told.whole_of from.accepts), from.participates) (gathers station frame frame.code from.cyclic)
  hear_does {station} {octets} {memory} {assembly} (on_hearing.heeds frame facts entered) =
      let read = reads (on_hearing_told.whole_of facts) in
      on_hearing_told.entering {station = station} {frame = frame}
      (λ left answer. Hears station (read_of octets) (record { station = left; answer = answer; memory = memory; assembly = assembly }))
      (λ e. rw (read, e) same) (λ e c. rw (read, e) (gone (none_listed x))) (λ e c. rw (read, c) (joins_first station frame e))
      (λ e c. rw (read, c) (passes station frame e)) (λ e c. rw (read, e, c) (joins station frame (ltb station.rounds 3)))
      (λ e c. rw (read, c) (requests station frame e)) (λ e. rw read (ignored station frame e)) entered

  -- every call
  pub does : (station : Station) (call : Call) → Does x station call (after station call)
  does station (start own) = switched_to (Does x station (start own)) (start_cases station own) same (λ starts. rw starts.off (gone (none_listed x)))
  does station stop = switched_to (Does x station stop) (stop_cases station) same (λ on. rw (and-false (participates station)) (gone (none_listed x)))
  does station tick = tick_does (on_tick_told.tick_cases station)
  does station (hear octets memory assembly) = hear_does (on_hearing_told.hear_cases station octets memory assembly)
  does station (ask memory turn output) = ask_does (on_asking_told.ask_cases station memory turn output)

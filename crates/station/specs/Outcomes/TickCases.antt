-- The outcomes of a tick, each with what led there and what is left: whatever is proved of a tick goes by these. Assumes nothing.
use Rattle.std.specs.Prelude.{◌≡◌}
use Rattle.laws.specs.Usual.{[], true, false, eqb, leb}
use Rattle.members.specs.Members.{smallest}
use Rattle.panel.specs.Panel.{ticked}
use Rattle.station.specs.Rules.State.{fresh, begun, counted}
use Rattle.station.specs.Rules.Ticking.{Ticking, later, falls_due, joining_wait, watch_ended, watch_ends}
use Rattle.station.specs.Rules.Waits.{detection_wait, acceptance_time, number_wait, listening_time, longest_watch}
use Rattle.station.specs.Types.{Off, Listening, Startup, Joining, Participating, Station}
use Rattle.station.specs.declared.Ticked.TheVariants as answers

abbrev pub done : Station → Ticking
done station = record { station = station; answer = answers.Done }

-- what a tick leaves
pub data TickCases (station : Station) : Ticking → Type 0 where
  off : station.phase ≡ Off → TickCases station (record { station = station; answer = answers.Off })
  listens : station.phase ≡ Listening
      → TickCases station
      (done (counted station station.own (later (listening_time station.own.number) station.elapsed) station.waited station.panel))
  -- ring startup goes on, or ends with nobody listed, or with somebody
  starts : station.phase ≡ Startup → leb acceptance_time (later acceptance_time station.elapsed).0 ≡ false
      → TickCases station
      (done
      (counted station (falls_due station station.elapsed (later acceptance_time station.elapsed)) (later acceptance_time station.elapsed)
      station.waited station.panel))
  lapses : station.phase ≡ Startup → leb acceptance_time (later acceptance_time station.elapsed).0 ≡ true
      → TickCases station (done (fresh Listening station.own))
  begins : station.phase ≡ Startup → leb acceptance_time (later acceptance_time station.elapsed).0 ≡ true
      → TickCases station (done (begun station.own station.members (smallest station.own.number station.members)))
  -- joining ends without a token, or goes on before the third round has ended, or after it
  gives_up : station.phase ≡ Joining → leb detection_wait (later detection_wait station.elapsed).0 ≡ true
      → TickCases station (done (fresh Listening station.own))
  learns : station.phase ≡ Joining → leb detection_wait (later detection_wait station.elapsed).0 ≡ false → eqb station.rounds 3 ≡ false
      → TickCases station (done (joining_wait station (later detection_wait station.elapsed) station.waited))
  waits : station.phase ≡ Joining → leb detection_wait (later detection_wait station.elapsed).0 ≡ false → eqb station.rounds 3 ≡ true
      → TickCases station
      (done (joining_wait station (later detection_wait station.elapsed) (later (number_wait station.own.number) station.waited)))
  -- a participant's watch ends, or runs
  ends : station.phase ≡ Participating → watch_ends station ≡ true → TickCases station (done (watch_ended station))
  runs : station.phase ≡ Participating → watch_ends station ≡ false
      → TickCases station
      (done (counted station station.own (later longest_watch station.elapsed) station.waited (ticked station.panel)))

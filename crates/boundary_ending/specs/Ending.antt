-- A tick that ends a wait before we participate, told by the core and the list. Assumes nothing.
use Rattle.std.specs.Prelude.{◌≡◌, ◌||◌}
use Rattle.laws.specs.Usual.{sym, ap, ◌∙◌, Bool, true, false, not, leb}
use Rattle.std.proofs.lemmas.Bool.{not-false}
use Rattle.boundary_answers.specs.Numbers.{ticked_answer}
use Rattle.boundary_answers.specs.declared.Answer.{Answer}
use Rattle.boundary_core.specs.Crossing.{station_of, core_of}
use Rattle.boundary_core.specs.declared.Core.{Core}
use Rattle.boundary_falling_due.specs.Due.{owned_core}
use Rattle.boundary_waiting.specs.Waiting.{waited_joining, startup_ends, joining_ends, is_waiting, waited_core}
use Rattle.laws.specs.Tests.{neither_first}
use Rattle.members.specs.Members.{numbers_of}
use Rattle.station.specs.Rules.Starting.{own_due, started_up}
use Rattle.station.specs.Rules.State.{fresh}
use Rattle.station.specs.Rules.Ticking.{Ticking, tick_of, later, wait_ends}
use Rattle.station.specs.Rules.Waits.{detection_wait, acceptance_time}
use Rattle.station.specs.Types.{Members}
use Rattle.station.specs.declared.Phase.TheVariants.{Listening, Startup, Joining}
use Rattle.station.specs.declared.Station.{Station}
use Rattle.station.specs.declared.Ticked.TheVariants.{Done}

-- of two waits of which one ends, the other does
other_ends : {one other : Bool} → one ≡ false → (one || other) ≡ true → other ≡ true
other_ends {one} {other} runs ends = ap (λ (t : Bool). t || other) (sym runs) ∙ ends

-- what a call leaves by what its tick is
pub leaves : (station after : Station) → tick_of station ≡ record { station = after; answer = Done }
    → {core : Core} {told : Answer} {members : Members} → core ≡ core_of after → told ≡ ticked_answer Done → members ≡ after.members
    → (core ≡ core_of (tick_of station).station) × ((told ≡ ticked_answer (tick_of station).answer) × (members ≡ (tick_of station).station.members))
leaves station after law same_core same_answer same_members = (
  same_core ∙ sym (ap (λ (t : Ticking). core_of t.station) law),
  (same_answer ∙ sym (ap (λ (t : Ticking). ticked_answer t.answer) law), same_members ∙ sym (ap (λ (t : Ticking). t.station.members) law)),
)

module _ (core : Core) (members : Members) where
  -- the core after a tick in which our request falls due
  abbrev pub after_due : Core
  after_due = owned_core (waited_core core) (own_due core.own members)

  -- the tick does no more than that, and the core is in its phase
  abbrev pub FallsDue : Type 0
  FallsDue = (tick_of (station_of core members) ≡ record { station = station_of after_due members; answer = Done }) × (after_due ≡ core_of (station_of after_due members))

  -- in ring startup
  module _ (two : core.phase ≡ Startup) where
    pub startup_ends_lem : leb acceptance_time (waited_core core).elapsed.0 ≡ true
        → tick_of (station_of core members) ≡ record { station = started_up core.own members (numbers_of members); answer = Done }
    startup_ends_lem ends = let time : leb acceptance_time (later acceptance_time core.elapsed).0 ≡ true = rw two at ends in rw (two, time)

    pub startup_due : leb acceptance_time (waited_core core).elapsed.0 ≡ false → is_waiting core ≡ false → FallsDue
    startup_due runs loud =
        let time : leb acceptance_time (later acceptance_time core.elapsed).0 ≡ false = rw two at runs in
        let wait : wait_ends core.own.number core.elapsed (later acceptance_time core.elapsed) ≡ true =
        other_ends time (not-false (startup_ends core) (neither_first (not (startup_ends core)) false (rw two at loud))) in
        (rw (two, time, wait), rw two)

  -- in joining
  module _ (three : core.phase ≡ Joining) where
    pub joining_ends_lem : leb detection_wait (waited_core core).elapsed.0 ≡ true
        → tick_of (station_of core members) ≡ record { station = fresh Listening core.own; answer = Done }
    joining_ends_lem ends = let time : leb detection_wait (later detection_wait core.elapsed).0 ≡ true = rw three at ends in rw (three, time)

    pub joining_due : leb detection_wait (waited_core core).elapsed.0 ≡ false → is_waiting core ≡ false → FallsDue
    joining_due runs loud =
        let time : leb detection_wait (later detection_wait core.elapsed).0 ≡ false = rw three at runs in
        let wait : wait_ends core.own.number core.waited (waited_joining core) ≡ true =
        other_ends time (not-false (joining_ends core) (rw three at loud)) in
        (rw (three, time, wait), rw three)

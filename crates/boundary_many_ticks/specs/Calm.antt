-- Ticks that only count, on a core: they do not touch the list. Assumes nothing.
use Rattle.laws.specs.Usual.{sym, ap, ◌∙◌, Bool, true, not, false≢true, ℕ, suc, arith, eqb}
use Rattle.std.specs.Prelude.{◌≡◌, ◌<◌, zero}
use Rattle.std.proofs.Common.{le_of_eq, eqb-true, eq-eqb}
use Rattle.std.proofs.lemmas.Bool.{not-true}
use Rattle.members.specs.Members.{no_members}
use Rattle.members.specs.declared.Members.{Members}
use Rattle.station.specs.Rules.Ticking.{watch_time}
use Rattle.units.specs.declared.Milliseconds.{Milliseconds}
use Rattle.ticking_quiet.specs.Many.{after_ticks}
use Rattle.ticking_calm.specs.Calm.{calm_in, calm_of, calm_after}
use Rattle.ticking_calm.specs.CalmTicks.{calm_ticks, calm_few}
use Rattle.ticking_calm.specs.declared.Counts.{Counts}
use Rattle.boundary_core.specs.Crossing.{station_of, core_of}
use Rattle.boundary_core.specs.declared.Core.{Core}

-- the counts of a core, and the core with others
abbrev pub counts_in : Core → Counts
counts_in core = record { elapsed = core.elapsed; waited = core.waited; panel = core.panel }

abbrev pub recounted : Core → Counts → Core
recounted core counts = record {
  phase = core.phase;
  own = core.own;
  elapsed = counts.elapsed;
  waited = counts.waited;
  rounds = core.rounds;
  sent = core.sent;
  view = core.view;
  block = core.block;
  gathering = core.gathering;
  panel = counts.panel;
}

-- all of the next ticks only count, where the watch runs for a time
abbrev pub is_calm : Core → Milliseconds → ℕ → Bool
is_calm core time count =
    eqb (calm_in core.phase core.own.number time core.rounds core.elapsed core.waited count) count

-- the core after them
abbrev pub calm_core : ℕ → Core → Core
calm_core count core = core_of (calm_after count (station_of core no_members))

pub calm_station : (core : Core) (members : Members) (count : ℕ) {time : Milliseconds} → time ≡ watch_time (station_of core members)
    → is_calm core time count ≡ true → after_ticks count (station_of core members) ≡ calm_after count (station_of core members)
calm_station core members count timed calm =
    let all = ap (λ (t : Milliseconds). is_calm core t count) (sym timed) ∙ calm in
    calm_ticks (station_of core members) count count (le_of_eq (sym (eqb-true (calm_of (station_of core members) count) count all)))

-- a tick that does more is a tick
pub some_left : (core : Core) (time : Milliseconds) (count : ℕ) {calm : Bool} → calm ≡ is_calm core time count → not calm ≡ true → 0 < count
some_left core time zero {calm} known loud =
    let few = calm_few core.phase core.own.number time core.rounds core.elapsed core.waited 0 in
    absurd
    (false≢true
    (sym (not-true calm loud) ∙ known
    ∙ eq-eqb (calm_in core.phase core.own.number time core.rounds core.elapsed core.waited 0) 0 (omega arith)))
some_left core time (suc count) known loud = omega arith

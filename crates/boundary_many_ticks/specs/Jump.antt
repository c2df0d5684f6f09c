-- Ticks jumped over, by the core and the flags of the list. Assumes nothing.
use Rattle.std.specs.Prelude.{◌≡◌, ◌&&◌, ◌<◌}
use Rattle.laws.specs.Usual.{ap₂, ◌∙◌, Bool, false, not, List, ℕ, get_or, eqb}
use Rattle.members.specs.declared.Members.{Members}
use Rattle.station.specs.Rules.State.{is_participating}
use Rattle.station.specs.Rules.Ticking.{watch_time}
use Rattle.station.specs.declared.Station.{Station}
use Rattle.ticking_jump.specs.Jump.{is_alone, jump_in}
use Rattle.ticking_jump.specs.JumpTicks.{Jumps, jump_ticks}
use Rattle.ticking_jump.specs.declared.Jumped.{Jumped}
use Rattle.boundary_lists.specs.Lists.{next_in}
use Rattle.boundary_lists.specs.Laws.{listed_in, next_in_lem}
use Rattle.boundary_core.specs.Crossing.{station_of, station_in, core_of, station_kept}
use Rattle.boundary_core.specs.declared.Core.{Core}
use Rattle.units.specs.declared.Milliseconds.{Milliseconds}
use Rattle.boundary_many_ticks.specs.Calm.{counts_in}

-- a core and a list that a station left are that station
pub left_station : (core : Core) (members : Members) (station : Station) → core ≡ core_of station → members ≡ station.members
    → station_of core members ≡ station
left_station core members station same_core same_list = ap₂ station_of same_core same_list ∙ station_kept station

-- a participant that holds and is alone: of the list the flags tell it
abbrev pub alone_in : Core → List Bool → Bool
alone_in core listed =
    (is_participating core.phase && eqb core.view core.own.number)
    && (eqb (next_in core.own.number listed core.own.number) core.own.number && not (get_or listed core.own.number false))

abbrev pub jump_by : Core → List Bool → Milliseconds → ℕ → Jumped
jump_by core listed time count =
    jump_in (alone_in core listed) core.phase core.own.number time core.rounds (counts_in core) count

module _ (core : Core) (listed : List Bool) (number : core.own.number < 256) where
  alone_in_lem : (areas watch misses : List ℕ) → alone_in core listed ≡ is_alone (station_in core listed areas watch misses)
  alone_in_lem areas watch misses =
      rw (next_in_lem listed areas watch misses core.own.number core.own.number, ← listed_in listed areas watch misses core.own.number number)

  pub jumps_in : (count : ℕ) → core.own.watch.0 < 256 → (areas watch misses : List ℕ) (time : Milliseconds)
      → time ≡ watch_time (station_in core listed areas watch misses)
      → Jumps (station_in core listed areas watch misses) count (jump_by core listed time count)
  jumps_in count few areas watch misses time timed =
      rw (timed, alone_in_lem areas watch misses) (jump_ticks (station_in core listed areas watch misses) count few)

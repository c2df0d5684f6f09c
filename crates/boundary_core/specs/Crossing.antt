-- The state on both sides of the boundary: the station list is lent apart from the rest, the core. C has no enums of ours, so a phase crosses as
-- its number.
use Rattle.std.specs.Prelude.{◌≡◌}
use Rattle.laws.specs.Usual.{refl, sym, ap, ◌∙◌, Bool, true, cond, List, ℕ, eqb}
use Rattle.std.proofs.Common.{eqb-true}
use Rattle.boundary_lists.specs.Lists.{members_in}
use Rattle.panel.specs.Panel.{figure_of}
use Rattle.panel.specs.declared.Figure.TheVariants.{Nothing}
use Rattle.station.specs.Rules.Answers.{phase_number}
use Rattle.station.specs.Rules.Showing.{figure_shown}
use Rattle.station.specs.Rules.State.{is_participating}
use Rattle.station.specs.Types.{Members, Figure}
use Rattle.station.specs.declared.Phase.{Phase}
use Rattle.station.specs.declared.Phase.TheVariants.{Off, Listening, Startup, Joining, Participating}
use Rattle.station.specs.declared.Station.{Station}
use Rattle.boundary_core.specs.declared.Core.{Core}

-- A number that is no phase's counts as off.
abbrev pub phase_of : ℕ → Phase
phase_of number =
    cond (eqb number (phase_number Listening)) Listening
    (cond (eqb number (phase_number Startup)) Startup
    (cond (eqb number (phase_number Joining)) Joining
    (cond (eqb number (phase_number Participating)) Participating Off)))

-- whether a core is in a phase
abbrev pub is_in : Phase → Core → Bool
is_in phase core = eqb (phase_number core.phase) (phase_number phase)

-- a station of a core and a list
abbrev pub station_of : Core → Members → Station
station_of core members = record {
  phase = core.phase;
  own = core.own;
  members = members;
  elapsed = core.elapsed;
  waited = core.waited;
  rounds = core.rounds;
  sent = core.sent;
  view = core.view;
  block = core.block;
  gathering = core.gathering;
  panel = core.panel;
}

-- a station of a core and a list in arrays
abbrev pub station_in : Core → List Bool → List ℕ → List ℕ → List ℕ → Station
station_in core listed areas watch misses = station_of core (members_in listed areas watch misses)

-- a station without its list
abbrev pub core_of : Station → Core
core_of station = record {
  phase = station.phase;
  own = station.own;
  elapsed = station.elapsed;
  waited = station.waited;
  rounds = station.rounds;
  sent = station.sent;
  view = station.view;
  block = station.block;
  gathering = station.gathering;
  panel = station.panel;
}

-- A phase is told by its number.
pub phase_kept : (phase : Phase) → phase_of (phase_number phase) ≡ phase
phase_kept Off = refl
phase_kept Listening = refl
phase_kept Startup = refl
phase_kept Joining = refl
phase_kept Participating = refl

pub phase_told : (a b : Phase) → phase_number a ≡ phase_number b → a ≡ b
phase_told a b e = sym (phase_kept a) ∙ ap phase_of e ∙ phase_kept b

-- A core that is in a phase has that phase.
pub in_phase : (phase : Phase) (core : Core) → is_in phase core ≡ true → core.phase ≡ phase
in_phase phase core e = phase_told core.phase phase (eqb-true (phase_number core.phase) (phase_number phase) e)

-- Nothing is lost.
pub station_kept : (station : Station) → station_of (core_of station) station.members ≡ station
station_kept station = refl

-- what the panel shows, by the core alone
abbrev pub figure_in : Core → Figure
figure_in core = cond (is_participating core.phase) (figure_of core.panel) Nothing

pub figure_in_lem : (core : Core) (members : Members) → figure_shown (station_of core members) ≡ figure_in core
figure_in_lem core members = refl

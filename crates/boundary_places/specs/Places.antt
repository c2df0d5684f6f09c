-- The core as C keeps it: eighteen numbers of 32 bits in the order of the header's `flnet_core`, changed in place. Of a number that stands for
-- an octet, two octets or a flag only its low part counts, and what stands above that part is left as it is.
use Rattle.std.specs.Prelude.{◌∷◌}
use Rattle.laws.specs.Usual.{cond, List, [], ℕ, get_or, eqb}
use Rattle.boundary_core.specs.Crossing.{phase_of}
use Rattle.boundary_core.specs.declared.Core.{Core}
use Rattle.low_parts.specs.Parts.{octet, octets, flag, with_octet, with_octets, with_flag}
use Rattle.panel.specs.declared.Panel.{Panel}
use Rattle.station.specs.Rules.Answers.{phase_number}
use Rattle.station.specs.declared.Gathering.{Gathering}
use Rattle.station.specs.declared.Phase.{Phase}
use Rattle.station.specs.declared.Settings.{Settings}

-- "Any other number counts as off": the phases are 0 to 4.
abbrev pub phase_in : ℕ → Phase
phase_in number = phase_of (octet number)

-- what the numbers hold, in their order
abbrev pub settings_in : List ℕ → Settings
settings_in numbers = record {
  number = octet (get_or numbers 1 0);
  areas = record {
    one = record { address = octets (get_or numbers 2 0); size = octets (get_or numbers 3 0) };
    two = record { address = octets (get_or numbers 4 0); size = octets (get_or numbers 5 0) };
  };
  watch = record { 0 = octet (get_or numbers 6 0) };
}

abbrev pub gathering_in : List ℕ → Gathering
gathering_in numbers = record { source = octet (get_or numbers 13 0); blocks = octet (get_or numbers 14 0) }

abbrev pub panel_in : List ℕ → Panel
panel_in numbers = record {
  takings = octet (get_or numbers 15 0);
  running = record { 0 = get_or numbers 16 0 };
  gap = record { 0 = get_or numbers 17 0 };
}

unfoldable pub core_in : List ℕ → Core
core_in numbers = record {
  phase = phase_in (get_or numbers 0 0);
  own = settings_in numbers;
  view = octet (get_or numbers 7 0);
  block = octet (get_or numbers 8 0);
  elapsed = record { 0 = get_or numbers 9 0 };
  waited = record { 0 = get_or numbers 10 0 };
  rounds = octet (get_or numbers 11 0);
  sent = flag (get_or numbers 12 0);
  gathering = gathering_in numbers;
  panel = panel_in numbers;
}

-- A number that stands for the phase already stays.
abbrev pub with_phase : ℕ → Phase → ℕ
with_phase number phase = cond (eqb (phase_number (phase_in number)) (phase_number phase)) number (with_octet number (phase_number phase))

-- the numbers with another core in them
unfoldable pub kept : List ℕ → Core → List ℕ
kept numbers core =
    with_phase (get_or numbers 0 0) core.phase
    ∷ with_octet (get_or numbers 1 0) core.own.number
    ∷ with_octets (get_or numbers 2 0) core.own.areas.one.address
    ∷ with_octets (get_or numbers 3 0) core.own.areas.one.size
    ∷ with_octets (get_or numbers 4 0) core.own.areas.two.address
    ∷ with_octets (get_or numbers 5 0) core.own.areas.two.size
    ∷ with_octet (get_or numbers 6 0) core.own.watch.0
    ∷ with_octet (get_or numbers 7 0) core.view
    ∷ with_octet (get_or numbers 8 0) core.block
    ∷ core.elapsed.0
    ∷ core.waited.0
    ∷ with_octet (get_or numbers 11 0) core.rounds
    ∷ with_flag (get_or numbers 12 0) core.sent
    ∷ with_octet (get_or numbers 13 0) core.gathering.source
    ∷ with_octet (get_or numbers 14 0) core.gathering.blocks
    ∷ with_octet (get_or numbers 15 0) core.panel.takings
    ∷ core.panel.running.0
    ∷ core.panel.gap.0
    ∷ []

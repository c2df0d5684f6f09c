-- What is put into the numbers is what they hold then, and a core that they hold already changes none of them. Assumes nothing.
use Rattle.laws.specs.Usual.{refl, sym, ap, ap₂, ◌∙◌, Bool, true, false, cond, List, ℕ, arith, length, get_or, eqb}
use Rattle.std.specs.Prelude.{◌≡◌, ◌∷◌, ◌<◌}
use Rattle.std.proofs.Common.{eq-eqb, ne_eqb, eqb-true}
use Rattle.boundary_core.specs.Crossing.{phase_of, phase_kept, phase_told, station_of, core_of}
use Rattle.boundary_core.specs.declared.Core.{Core}
use Rattle.station.specs.Rules.Answers.{phase_number}
use Rattle.station.specs.Types.{Members}
use Rattle.station.specs.declared.Phase.{Phase}
use Rattle.station.specs.declared.Phase.TheVariants.{Off, Listening, Startup, Joining, Participating}
use Rattle.station.specs.declared.Station.{Station}
use Rattle.low_parts.specs.Parts.{octet, with_octet}
use Rattle.low_parts.proofs.Laws.{octet_back, octets_back, flag_back, octet_same, octets_same, flag_same, elements, all_elements}
use Rattle.boundary_places.specs.Places.{phase_in, core_in, with_phase, kept}

-- each field is as wide as C has it
pub record Fits (core : Core) : Type 0 where
  pub number : core.own.number < 256
  pub address_one : core.own.areas.one.address < 65536
  pub size_one : core.own.areas.one.size < 65536
  pub address_two : core.own.areas.two.address < 65536
  pub size_two : core.own.areas.two.size < 65536
  pub watch : core.own.watch.0 < 256
  pub view : core.view < 256
  pub block : core.block < 256
  pub rounds : core.rounds < 256
  pub source : core.gathering.source < 256
  pub blocks : core.gathering.blocks < 256
  pub takings : core.panel.takings < 256

small_phase : (phase : Phase) → phase_number phase < 256
small_phase Off = omega arith
small_phase Listening = omega arith
small_phase Startup = omega arith
small_phase Joining = omega arith
small_phase Participating = omega arith

phase_back : (number : ℕ) (phase : Phase) → phase_in (with_phase number phase) ≡ phase
phase_back number phase = by (eqb (phase_number (phase_in number)) (phase_number phase)) refl
  where
    by : (same : Bool) → eqb (phase_number (phase_in number)) (phase_number phase) ≡ same
        → phase_in (cond same number (with_octet number (phase_number phase))) ≡ phase
    by true e = phase_told (phase_in number) phase (eqb-true (phase_number (phase_in number)) (phase_number phase) e)
    by false e = ap phase_of (octet_back number (phase_number phase) (small_phase phase)) ∙ phase_kept phase

phase_same : (number : ℕ) → with_phase number (phase_in number) ≡ number
phase_same number =
    ap (λ (t : Bool). cond t number (with_octet number (phase_number (phase_in number))))
    (eq-eqb (phase_number (phase_in number)) (phase_number (phase_in number)) refl)

-- The next call goes on from the core that was put in.
pub kept_core : (numbers : List ℕ) (core : Core) → Fits core → core_in (kept numbers core) ≡ core
unfolding kept core_in
kept_core numbers core fits = rw (
  phase_back (get_or numbers 0 0) core.phase,
  octet_back (get_or numbers 1 0) core.own.number fits.number,
  octets_back (get_or numbers 2 0) core.own.areas.one.address fits.address_one,
  octets_back (get_or numbers 3 0) core.own.areas.one.size fits.size_one,
  octets_back (get_or numbers 4 0) core.own.areas.two.address fits.address_two,
  octets_back (get_or numbers 5 0) core.own.areas.two.size fits.size_two,
  octet_back (get_or numbers 6 0) core.own.watch.0 fits.watch,
  octet_back (get_or numbers 7 0) core.view fits.view,
  octet_back (get_or numbers 8 0) core.block fits.block,
  octet_back (get_or numbers 11 0) core.rounds fits.rounds,
  flag_back (get_or numbers 12 0) core.sent,
  octet_back (get_or numbers 13 0) core.gathering.source fits.source,
  octet_back (get_or numbers 14 0) core.gathering.blocks fits.blocks,
  octet_back (get_or numbers 15 0) core.panel.takings fits.takings,
)

-- A core that the numbers hold already changes none of them.
pub kept_same : (numbers : List ℕ) → length numbers ≡ 18 → kept numbers (core_in numbers) ≡ numbers
unfolding kept core_in
kept_same numbers all =
    ap₂ ◌∷◌ (phase_same (at 0))
    (ap₂ ◌∷◌ (octet_same (at 1))
    (ap₂ ◌∷◌ (octets_same (at 2))
    (ap₂ ◌∷◌ (octets_same (at 3))
    (ap₂ ◌∷◌ (octets_same (at 4))
    (ap₂ ◌∷◌ (octets_same (at 5))
    (ap₂ ◌∷◌ (octet_same (at 6))
    (ap₂ ◌∷◌ (octet_same (at 7))
    (ap₂ ◌∷◌ (octet_same (at 8))
    (ap (λ (rest : List ℕ). at 9 ∷ at 10 ∷ rest)
    (ap₂ ◌∷◌ (octet_same (at 11))
    (ap₂ ◌∷◌ (flag_same (at 12))
    (ap₂ ◌∷◌ (octet_same (at 13))
    (ap₂ ◌∷◌ (octet_same (at 14))
    (ap₂ ◌∷◌ (octet_same (at 15)) refl))))))))))))))
    ∙ ap (elements at 0) (sym all)
    ∙ all_elements numbers
  where
    at : ℕ → ℕ
    at place = get_or numbers place 0

-- A station made of what the numbers hold is held by them.
pub core_in_back : (numbers : List ℕ) (members : Members) → core_of (station_of (core_in numbers) members) ≡ core_in numbers
core_in_back numbers members = refl

-- Numbers into which a station's core was put, and numbers that were left alone.
pub put_in : (before after : List ℕ) (core : Core) (station : Station) → core ≡ core_of station → after ≡ kept before core
    → core_in after ≡ core → (core_in after ≡ core_of station) × (after ≡ kept before (core_of station))
put_in before after core station is put holds =
    (holds ∙ is, put ∙ ap (kept before) is)

-- A call on the core that was read out of the numbers, which leaves a core, an answer and a list, and whose core was put back.
pub call_kept : {Said : Type 0} (station : Core → Station) (said : Core → Said) (before after : List ℕ) (read core : Core) (answer handed : Said)
    (members : Members) → read ≡ core_in before
    → (core ≡ core_of (station read)) × ((answer ≡ said read) × (members ≡ (station read).members))
    → (after ≡ kept before core) × ((core_in after ≡ core) × (handed ≡ answer))
    → (core_in after ≡ core_of (station (core_in before)))
    × ((after ≡ kept before (core_of (station (core_in before)))) × ((handed ≡ said (core_in before)) × (members ≡ (station (core_in before)).members)))
call_kept station said before after read core answer handed members e done put =
    let numbers = put_in before after core (station (core_in before)) (done.0 ∙ ap (λ (k : Core). core_of (station k)) e) put.0 put.1.0 in
    (numbers.0, (numbers.1, (put.1.1 ∙ done.1.0 ∙ ap said e, done.1.1 ∙ ap (λ (k : Core). (station k).members) e)))

pub left_alone : (numbers : List ℕ) (station : Station) → length numbers ≡ 18 → core_in numbers ≡ core_of station
    → (core_in numbers ≡ core_of station) × (numbers ≡ kept numbers (core_of station))
left_alone numbers station all is = (is, sym (kept_same numbers all) ∙ ap (kept numbers) is)

-- "Any other number counts as off."
pub others_off : (number : ℕ) → 4 < octet number → phase_in number ≡ Off
others_off number above =
    rw (ne_eqb (octet number) 1 (omega arith), ne_eqb (octet number) 2 (omega arith), ne_eqb (octet number) 3 (omega arith), ne_eqb (octet number) 4 (omega arith))

-- Our request sent in ring startup or in joining: the core after it by the core before; the list stays. Assumes nothing.
use Rattle.std.specs.Prelude.{Ok, ◌≡◌, ◌||◌}
use Rattle.laws.specs.Usual.{refl, sym, ap, ◌∙◌, Bool, true, false, cond, false≢true, List, [], ℕ, drop, eqb}
use Rattle.asking_bare.specs.Bare.{no_data}
use Rattle.block.specs.Blocks.{start_of}
use Rattle.boundary_core.specs.Crossing.{station_of, core_of, is_in, in_phase}
use Rattle.boundary_core.specs.declared.Core.{Core}
use Rattle.boundary_due.specs.Due.{due_core}
use Rattle.frame_round_trip.specs.Sent.{request_fields}
use Rattle.frame_writing.specs.Writing.{whole_length, output_of}
use Rattle.members.specs.Members.{no_members}
use Rattle.station.specs.Rules.Asking.{Asking, due_in, next_block, lent_right, ask_of}
use Rattle.station.specs.Rules.State.{begun, request_sent}
use Rattle.station.specs.Types.{Fields, Members}
use Rattle.station.specs.declared.Phase.TheVariants.{Startup, Joining}
use Rattle.station.specs.declared.Settings.{Settings}
use Rattle.station.specs.declared.Station.{Station}
use Rattle.station.specs.Rules.Answers.{phase_number}

-- the phases in which our request can be due
abbrev pub is_requesting : Core → Bool
is_requesting core = is_in Startup core || is_in Joining core

-- its fields
abbrev pub request_of : Settings → Fields
request_of own = request_fields own.number own.areas own.watch

-- the station after it
abbrev pub after_request : Core → Members → Station
after_request core members = cond (is_in Joining core) (begun core.own members core.view) (request_sent (station_of core members))

abbrev pub requesting_core : Core → Core
requesting_core core = core_of (after_request core no_members)

-- the list does not matter to the core, and stays
module _ (core : Core) (members : Members) where
  pub after_core : requesting_core core ≡ core_of (after_request core members)
  after_core = by (is_in Joining core)
    where
      by : (joining : Bool) → core_of (cond joining (begun core.own no_members core.view) (request_sent (station_of core no_members)))
          ≡ core_of (cond joining (begun core.own members core.view) (request_sent (station_of core members)))
      by true = refl
      by false = refl

  pub after_members : members ≡ (after_request core members).members
  after_members = by (is_in Joining core)
    where
      by : (joining : Bool) → members ≡ (cond joining (begun core.own members core.view) (request_sent (station_of core members))).members
      by true = refl
      by false = refl

-- our request, sent by a station
abbrev pub sent : Station → Settings → List ℕ → List ℕ → Asking
sent after own turn output = record { station = after; answer = Ok (whole_length (request_of own)); turn = turn; output = output }

module _ (station : Station) (memory turn output : List ℕ) (lent : lent_right memory turn output ≡ true) where
  abbrev block : List ℕ
  block = drop (start_of (next_block station)) turn

  abbrev written : List ℕ → List ℕ
  written octets = output_of (request_of station.own) octets output

  startup_asked : station.phase ≡ Startup → due_in Startup station ≡ true
      → ask_of station memory turn output ≡ sent (request_sent station) station.own turn (written [])
  startup_asked phase due =
      let asked : ask_of station memory turn output ≡ sent (request_sent station) station.own turn (written block) = rw (lent, phase, due) in
      asked ∙ ap (sent (request_sent station) station.own turn) (sym (no_data (request_of station.own) block output refl))

  joining_asked : station.phase ≡ Joining → due_in Joining station ≡ true
      → ask_of station memory turn output ≡ sent (begun station.own station.members station.view) station.own turn (written [])
  joining_asked phase due =
      let after = begun station.own station.members station.view in
      let asked : ask_of station memory turn output ≡ sent after station.own turn (written block) = rw (lent, phase, due) in
      asked ∙ ap (sent after station.own turn) (sym (no_data (request_of station.own) block output refl))

module _ (core : Core) (members : Members) (memory turn output : List ℕ) (lent : lent_right memory turn output ≡ true) (due : due_core core ≡ true) where
  pub request_asked : is_requesting core ≡ true
      → ask_of (station_of core members) memory turn output ≡ sent (after_request core members) core.own turn (output_of (request_of core.own) [] output)
  request_asked e = by (eqb (phase_number core.phase) 2) refl (eqb (phase_number core.phase) 3) refl e
    where
      by : (startup : Bool) → eqb (phase_number core.phase) 2 ≡ startup → (joining : Bool) → eqb (phase_number core.phase) 3 ≡ joining → (startup || joining) ≡ true
          → ask_of (station_of core members) memory turn output ≡ sent (after_request core members) core.own turn (output_of (request_of core.own) [] output)
      by true s joining j o =
          let two : core.phase ≡ Startup = in_phase Startup core s in
          let three : eqb (phase_number core.phase) 3 ≡ false = rw two in
          startup_asked (station_of core members) memory turn output lent two (rw two at due)
          ∙ ap (λ (t : Bool). sent (cond t (begun core.own members core.view) (request_sent (station_of core members))) core.own turn (output_of (request_of core.own) [] output)) (sym three)
      by false s true j o =
          let three : core.phase ≡ Joining = in_phase Joining core j in
          joining_asked (station_of core members) memory turn output lent three (rw three at due)
          ∙ ap (λ (t : Bool). sent (cond t (begun core.own members core.view) (request_sent (station_of core members))) core.own turn (output_of (request_of core.own) [] output)) (sym j)
      by false s false j o = absurd (false≢true o)

-- A frame whose header was read, and which number 6 refuses, or 7, 14, 15 or 8. Assumes nothing.
use Rattle.std.specs.Prelude.{Ok, Err, ◌≡◌, ◌&&◌}
use Rattle.laws.specs.Usual.{refl, ◌∙◌, Bool, true, false, cond, not, List, ℕ, length, eqb}
use Rattle.std.proofs.Common.{ne_eqb}
use Rattle.std.proofs.Math.Decide.{ℕ_discrete}
use Rattle.boundary_core.specs.Crossing.{phase_of, station_of, is_in}
use Rattle.boundary_core.specs.declared.Core.{Core}
use Rattle.frame.specs.declared.Refusal.TheVariants.{Taken}
use Rattle.frame_reading.specs.Reading.{read_header_of, read_body_of}
use Rattle.station.specs.Rules.Hearing.{lent_right, refused, hear_of}
use Rattle.laws.specs.Tests.{first}
use Rattle.station.specs.Rules.Starting.{stop_of}
use Rattle.station.specs.Rules.State.{is_off, is_participating}
use Rattle.station.specs.Types.{Fields, Refusal, Members}
use Rattle.station.specs.declared.Phase.{Phase}
use Rattle.station.specs.declared.Phase.TheVariants.{Off, Listening, Startup, Joining, Participating}
use Rattle.station.specs.Rules.Answers.{phase_number}

-- 6: "source is our own number", which an off station does not ask
abbrev pub is_taken_by : Core → Fields → Bool
is_taken_by core frame = not (is_off core.phase) && eqb frame.source core.own.number

-- 4 is the number of participating
pub participating_in : (phase : Phase) → is_participating phase ≡ eqb (phase_number phase) 4
participating_in Off = refl
participating_in Listening = refl
participating_in Startup = refl
participating_in Joining = refl
participating_in Participating = refl

-- and of all numbers that C can lend it is the only one
pub participating_of : (number : ℕ) → is_participating (phase_of number) ≡ eqb number 4
participating_of number = at (ℕ_discrete number 4)
  where
    others : (a b c : Bool) → is_participating (cond a Listening (cond b Startup (cond c Joining Off))) ≡ false
    others true b c = refl
    others false true c = refl
    others false false true = refl
    others false false false = refl

    at : Dec (number ≡ 4) → is_participating (phase_of number) ≡ eqb number 4
    at (yes e) = rw e
    at (no other) = rw (ne_eqb number 4 other) (others (eqb number 1) (eqb number 2) (eqb number 3))

module _ (core : Core) (members : Members) (octets memory assembly : List ℕ) (header : Fields)
    (lent : lent_right memory assembly ≡ true)
    (read : read_header_of octets ≡ Ok header) where
  -- 6 alters nothing in a participant
  pub taken_heard : core.phase ≡ Participating → is_taken_by core header ≡ true
      → hear_of (station_of core members) octets memory assembly ≡ refused (station_of core members) memory assembly Taken
  taken_heard four taken = rw (lent, read, taken, four)

  -- and turns any other station off, as stop does
  pub taken_stops : is_in Participating core ≡ false → is_taken_by core header ≡ true
      → hear_of (station_of core members) octets memory assembly ≡ refused (stop_of (station_of core members)).station memory assembly Taken
  taken_stops other taken =
      let out : is_participating core.phase ≡ false = participating_in core.phase ∙ other in
      let on : not (is_off core.phase) ≡ true = first (not (is_off core.phase)) (eqb header.source core.own.number) taken in
      rw (lent, read, taken, out, on)

  -- 7 and 8 come after 6
  pub body_refused : (refusal : Refusal) → is_taken_by core header ≡ false → read_body_of (length octets) header ≡ Err refusal
      → hear_of (station_of core members) octets memory assembly ≡ refused (station_of core members) memory assembly refusal
  body_refused refusal free body = rw (lent, read, free, body)

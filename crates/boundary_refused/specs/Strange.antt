-- Number 9 at a participant, told by the core and by whether the frame's source and destination are listed. Assumes nothing.
use Rattle.std.specs.Prelude.{Ok, Err, ◌≡◌, ◌&&◌, ◌||◌}
use Rattle.laws.specs.Usual.{Bool, true, false, not, List, ℕ, arith, length, eqb}
use Rattle.std.proofs.lemmas.Bool.{not-true}
use Rattle.boundary_core.specs.Crossing.{station_of, is_in, in_phase}
use Rattle.boundary_core.specs.declared.Core.{Core}
use Rattle.frame.specs.Codes.{is_token, is_cyclic}
use Rattle.frame.specs.declared.Refusal.TheVariants.{Stranger}
use Rattle.frame_reading.specs.Reading.{and_then, read_header_of, read_body_of, read_of}
use Rattle.frame_round_trip.proofs.Accepted.{bodied}
use Rattle.laws.specs.Tests.{first, second}
use Rattle.members.specs.Members.{is_listed}
use Rattle.station.specs.Rules.Hearing.{lent_right, refused, header_heard, hear_of}
use Rattle.station.specs.Types.{Fields, Read, Members}
use Rattle.station.specs.declared.Phase.TheVariants.{Participating}
use Rattle.station.specs.Rules.Answers.{phase_number}

-- a participant knows the source, and the destination of a token
abbrev pub is_known : Core → Bool → Bool → Fields → Bool
is_known core source destination frame =
    source && (not (is_token frame.code) || (eqb frame.destination core.own.number || destination))

-- a cyclic frame of another number that a participant does not know
abbrev pub is_strange : Core → Bool → Bool → Fields → Bool
is_strange core source destination frame =
    (is_in Participating core && is_cyclic frame.code)
    && (not (eqb frame.source core.own.number) && not (is_known core source destination frame))

module _ (core : Core) (members : Members) (octets memory assembly : List ℕ) (frame : Fields)
    (strange : is_strange core (is_listed members frame.source) (is_listed members frame.destination) frame ≡ true) where
  abbrev ours : Bool
  ours = eqb frame.source core.own.number

  abbrev known : Bool
  known = is_known core (is_listed members frame.source) (is_listed members frame.destination) frame

  header_strange : (read : Read) → and_then read (read_body_of (length octets)) ≡ Ok frame
      → header_heard (station_of core members) octets memory assembly read ≡ refused (station_of core members) memory assembly Stranger
  header_strange (Err refusal) e = let z : ◌≡◌ {A = ℕ} 0 1 = cc in absurd (omega arith)
  header_strange (Ok header) e =
      let participates = first (eqb (phase_number core.phase) 4 && is_cyclic frame.code) (not ours && not known) strange in
      let rest = second (eqb (phase_number core.phase) 4 && is_cyclic frame.code) (not ours && not known) strange in
      let four : core.phase ≡ Participating = in_phase Participating core (first (eqb (phase_number core.phase) 4) (is_cyclic frame.code) participates) in
      let cyclic : is_cyclic frame.code ≡ true = second (eqb (phase_number core.phase) 4) (is_cyclic frame.code) participates in
      let other : ours ≡ false = not-true ours (first (not ours) (not known) rest) in
      let unknown : known ≡ false = not-true known (second (not ours) (not known) rest) in
      rw (four, e, (bodied (length octets) header frame e).is_same, other, unknown, cyclic)

  -- it is refused by 9
  pub strange_heard : lent_right memory assembly ≡ true → read_of octets ≡ Ok frame
      → hear_of (station_of core members) octets memory assembly ≡ refused (station_of core members) memory assembly Stranger
  unfolding read_of
  strange_heard lent read = rw lent (header_strange (read_header_of octets) read)

-- A participant's calls on its core, where the list is left as it is but for one station's misses; and that they are the calls of its station.
-- A core's phase is a number, and 4 is that of participating, by which the proofs here go.
use Rattle.std.specs.Prelude.{Ok, Err, ◌≡◌, ◌&&◌, ◌||◌}
use Rattle.laws.specs.Usual.{Bool, true, false, cond, not, List, ℕ, arith, length, eqb}
use Rattle.std.proofs.lemmas.Bool.{not-true}
use Rattle.frame.specs.Codes.{is_token, is_cyclic}
use Rattle.hearing_data.specs.Body.{body_read}
use Rattle.laws.specs.Tests.{first, second}
use Rattle.members.specs.Members.{is_listed}
use Rattle.panel.specs.Panel.{after_taking}
use Rattle.frame_reading.specs.Reading.{and_then, read_of, read_header_of, read_body_of, data_of}
use Rattle.frame_round_trip.proofs.Accepted.{bodied}
use Rattle.station.specs.Rules.Answers.{phase_number}
use Rattle.station.specs.Rules.Data.{gathered}
use Rattle.station.specs.Rules.Hearing.{Hearing, hear_of, header_heard, participant_heard, lent_right}
use Rattle.station.specs.Rules.State.{no_ticks}
use Rattle.station.specs.Rules.Token.{takes}
use Rattle.station.specs.Types.{Fields, Read, Members}
use Rattle.station.specs.declared.Phase.TheVariants.{Participating}
use Rattle.station.specs.declared.Gathering.{Gathering}
use Rattle.boundary_core.specs.Crossing.{station_of, is_in, in_phase}
use Rattle.boundary_core.specs.declared.Core.{Core}

-- a participant whose watch restarts, with another view and gathering
abbrev pub restarted_core : Core → ℕ → Gathering → Core
restarted_core core view gathering = record {
  phase = Participating;
  own = core.own;
  elapsed = no_ticks;
  waited = core.waited;
  rounds = core.rounds;
  sent = core.sent;
  view = view;
  block = cond (eqb view core.own.number) core.block 0;
  gathering = gathering;
  panel = cond (takes core.own.number core.view view) (after_taking core.panel) core.panel;
}

-- whether a participant accepts a cyclic frame that was read: neither number 6 nor number 9 applies
abbrev pub is_accepted : Core → Bool → Bool → Fields → Bool
is_accepted core source destination frame =
    (is_in Participating core && is_cyclic frame.code)
    && ((not (eqb frame.source core.own.number) && source)
    && (not (is_token frame.code) || (eqb frame.destination core.own.number || destination)))

-- what an accepted frame is known to be
module _ (core : Core) (source destination : Bool) (frame : Fields) where
  pub record Accepted : Type 0 where
    pub four : core.phase ≡ Participating
    pub cyclic : is_cyclic frame.code ≡ true
    pub other : eqb frame.source core.own.number ≡ false
    pub listed : source ≡ true
    pub known : (not (is_token frame.code) || (eqb frame.destination core.own.number || destination)) ≡ true

  abbrev ours : Bool
  ours = eqb frame.source core.own.number

  abbrev reached : Bool
  reached = not (is_token frame.code) || (eqb frame.destination core.own.number || destination)

  pub accepted_parts : is_accepted core source destination frame ≡ true → Accepted
  accepted_parts e =
      let participates = first (eqb (phase_number core.phase) 4 && is_cyclic frame.code) ((not ours && source) && reached) e in
      let heard = second (eqb (phase_number core.phase) 4 && is_cyclic frame.code) ((not ours && source) && reached) e in
      let from = first (not ours && source) reached heard in
      record {
        four = in_phase Participating core (first (eqb (phase_number core.phase) 4) (is_cyclic frame.code) participates);
        cyclic = second (eqb (phase_number core.phase) 4) (is_cyclic frame.code) participates;
        other = not-true ours (first (not ours) source from);
        listed = second (not ours) source from;
        known = second (not ours && source) reached heard;
      }

-- its body was read as it stands
header_body : (octets : List ℕ) (frame : Fields) (read : Read) → and_then read (read_body_of (length octets)) ≡ Ok frame
    → read_body_of (length octets) frame ≡ Ok frame
header_body octets frame (Err refusal) e = let z : ◌≡◌ {A = ℕ} 0 1 = cc in absurd (omega arith)
header_body octets frame (Ok header) e = body_read (length octets) header frame e

pub whole_body : (octets : List ℕ) (frame : Fields) → read_of octets ≡ Ok frame → read_body_of (length octets) frame ≡ Ok frame
unfolding read_of
whole_body octets frame e = header_body octets frame (read_header_of octets) e

module _
    (core : Core) (members : Members) (octets memory assembly : List ℕ) (frame : Fields)
    (four : core.phase ≡ Participating)
    (cyclic : is_cyclic frame.code ≡ true)
    (other : eqb frame.source core.own.number ≡ false)
    (listed : is_listed members frame.source ≡ true)
    (known : (not (is_token frame.code) || (eqb frame.destination core.own.number || is_listed members frame.destination)) ≡ true)
  where
    abbrev taken_in : Hearing
    taken_in = participant_heard (station_of core members) frame (gathered (station_of core members) frame (data_of octets frame) assembly memory)

    header_heard_lem : (read : Read) → and_then read (read_body_of (length octets)) ≡ Ok frame → header_heard (station_of core members) octets memory assembly read ≡ taken_in
    header_heard_lem (Err refusal) e = let z : ◌≡◌ {A = ℕ} 0 1 = cc in absurd (omega arith)
    header_heard_lem (Ok header) e = rw (four, e, (bodied (length octets) header frame e).is_same, other, listed, known, cyclic)

    -- a participant hears an accepted frame as the rules say
    pub accepted_heard : lent_right memory assembly ≡ true → read_of octets ≡ Ok frame → hear_of (station_of core members) octets memory assembly ≡ taken_in
    unfolding read_of
    accepted_heard lent read = rw lent (header_heard_lem (read_header_of octets) read)

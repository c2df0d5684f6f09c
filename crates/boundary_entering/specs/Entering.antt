-- Such a frame, heard: the core after it by the core before, and the list. Assumes nothing.
use Rattle.std.specs.Prelude.{Ok, Err, ◌≡◌, ◌&&◌, ◌||◌}
use Rattle.laws.specs.Usual.{refl, sym, ap, ◌∙◌, Bool, true, false, not, false≢true, List, ℕ, arith, length, eqb}
use Rattle.boundary_answers.specs.Numbers.{heard_answer}
use Rattle.boundary_answers.specs.declared.Answer.{Answer}
use Rattle.boundary_core.specs.Crossing.{station_of, core_of, is_in, in_phase}
use Rattle.boundary_core.specs.declared.Core.{Core}
use Rattle.boundary_participant.specs.Quick.{is_accepted}
use Rattle.boundary_refused.specs.Strange.{is_strange}
use Rattle.boundary_refused.specs.Taken.{is_taken_by, participating_in}
use Rattle.frame.specs.Codes.{is_token, is_cyclic}
use Rattle.frame_reading.specs.Reading.{and_then, read_header_of, read_body_of, read_of}
use Rattle.frame_round_trip.proofs.Accepted.{bodied}
use Rattle.laws.specs.Tests.{first}
use Rattle.members.specs.Members.{no_members}
use Rattle.station.specs.Rules.Hearing.{Hearing, lent_right, requested, enters, enters_answer, header_heard, hear_of}
use Rattle.station.specs.Rules.Starting.{joined_by, request_fallen, ours_due}
use Rattle.station.specs.Rules.State.{is_participating}
use Rattle.station.specs.Types.{Areas, Fields, Read, Members}
use Rattle.station.specs.declared.Heard.{Heard}
use Rattle.station.specs.declared.Phase.{Phase}
use Rattle.station.specs.declared.Phase.TheVariants.{Off, Listening, Startup, Joining, Participating}
use Rattle.station.specs.declared.Station.{Station}
use Rattle.boundary_entering.specs.Effects.{effect_of, after_effect, enters_by}
use Rattle.boundary_entering.specs.declared.Effect.{Effect}
use Rattle.station.specs.Rules.Answers.{phase_number}

-- the core after a request that is listed, and after a frame that joining learned from
abbrev pub requested_core : Core → Fields → Core
requested_core core frame = core_of (requested (station_of core no_members) frame)

abbrev pub joined_core : Core → Fields → Core
joined_core core frame = core_of (joined_by (station_of core no_members) frame)

-- whether our request has fallen due does not go by the list
abbrev pub fallen_core : Core → Bool
fallen_core core = request_fallen core.phase (station_of core no_members)

abbrev pub ours_in : Core → Areas
ours_in core = ours_due (station_of core no_members)

module _ (core : Core) (members : Members) where
  same_fallen : (phase : Phase) → request_fallen phase (station_of core members) ≡ request_fallen phase (station_of core no_members)
  same_fallen Off = refl
  same_fallen Listening = refl
  same_fallen Startup = refl
  same_fallen Joining = refl
  same_fallen Participating = refl

  pub same_ours : ours_due (station_of core members) ≡ ours_in core
  same_ours = rw (same_fallen core.phase)

-- a cyclic frame that a participant hears
abbrev pub for_participant : Core → Fields → Bool
for_participant core frame = is_in Participating core && is_cyclic frame.code

-- such a frame is refused by 6 or by 9, or accepted
pub not_for_participant : (core : Core) (source destination : Bool) (frame : Fields) → is_taken_by core frame ≡ false
    → is_accepted core source destination frame ≡ false → is_strange core source destination frame ≡ false → for_participant core frame ≡ false
not_for_participant core source destination frame free =
    by (for_participant core frame) (eqb frame.source core.own.number) source
    (not (is_token frame.code) || (eqb frame.destination core.own.number || destination))
    ours
  where
    ours : for_participant core frame ≡ true → eqb frame.source core.own.number ≡ false
    ours e = rw (in_phase Participating core (first (eqb (phase_number core.phase) 4) (is_cyclic frame.code) e)) at free

    by : (cyclic own listed reached : Bool) → (cyclic ≡ true → own ≡ false) → (cyclic && ((not own && listed) && reached)) ≡ false
        → (cyclic && (not own && not (listed && reached))) ≡ false → cyclic ≡ false
    by false own listed reached o a b = refl
    by true true listed reached o a b = absurd (false≢true (sym (o refl)))
    by true false true true o a b = a
    by true false true false o a b = b
    by true false false reached o a b = b

module _
    (core : Core) (members : Members) (octets memory assembly : List ℕ) (frame : Fields)
    (free : is_taken_by core frame ≡ false)
    (other : for_participant core frame ≡ false)
  where
    abbrev station : Station
    station = station_of core members

    abbrev heard : Station → Hearing
    heard after = record { station = after; answer = enters_answer core.phase frame.code; memory = memory; assembly = assembly }

    abbrev begun : Station
    begun = enters core.phase frame.code station frame

    no_participant : (is_participating core.phase && is_cyclic frame.code) ≡ false
    no_participant = ap (λ (participating : Bool). participating && is_cyclic frame.code) (participating_in core.phase) ∙ other

    header_entered : (read : Read) → and_then read (read_body_of (length octets)) ≡ Ok frame → header_heard station octets memory assembly read ≡ heard begun
    header_entered (Err refusal) e = let z : ◌≡◌ {A = ℕ} 0 1 = cc in absurd (omega arith)
    header_entered (Ok header) e = rw (e, (bodied (length octets) header frame e).is_same, free, no_participant)

    -- it is heard as the phase has it
    pub heard_entered : lent_right memory assembly ≡ true → read_of octets ≡ Ok frame → hear_of station octets memory assembly ≡ heard begun
    unfolding read_of
    heard_entered lent read = rw lent (header_entered (read_header_of octets) read)

-- and does what its effect is: the core, the answer and the list after it
module _ (core : Core) (members : Members) (frame : Fields) where
  abbrev entering : Station
  entering = station_of core members

  pub entered : {phase : Phase} {told effect : Effect} {heard : Heard} {answer : Answer} {after : Core} {list : Members}
      → phase ≡ core.phase → told ≡ effect_of phase frame.code → told ≡ effect
      → answer ≡ heard_answer heard → heard ≡ enters_answer phase frame.code
      → after ≡ core_of (after_effect effect entering frame) → list ≡ (after_effect effect entering frame).members
      → (after ≡ core_of (enters core.phase frame.code entering frame))
      × ((answer ≡ heard_answer (enters_answer core.phase frame.code))
      × (list ≡ (enters core.phase frame.code entering frame).members))
  entered {phase} {told} {effect} e t u a h c l =
      let known : effect_of core.phase frame.code ≡ effect = ap (λ (p : Phase). effect_of p frame.code) (sym e) ∙ sym t ∙ u in
      let law = enters_by core.phase frame.code entering frame ∙ ap (λ (t : Effect). after_effect t entering frame) known in (
        c ∙ sym (ap core_of law),
        (a ∙ ap heard_answer (h ∙ ap (λ (p : Phase). enters_answer p frame.code) e), l ∙ sym (ap (λ (s : Station). s.members) law)),
      )

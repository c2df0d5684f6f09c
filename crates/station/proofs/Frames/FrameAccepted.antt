-- Every frame asked for is accepted by whoever knows its sender and its destination. Assumes nothing.
use Rattle.std.specs.Prelude.{Ok, ◌≡◌, ◌&&◌, ◌||◌}
use Rattle.laws.specs.Usual.{refl, ap, ◌∙◌, true, false, not, List, ℕ, arith, length, take, eqb}
use Rattle.std.proofs.Math.Bool.{and-false, and-true}
use Rattle.std.proofs.Common.{ne_eqb, lt-ltb}
use Rattle.block.specs.Blocks.{blocks_of}
use Rattle.frame.specs.Codes.{is_token, is_cyclic}
use Rattle.frame.specs.declared.Code.TheVariants.{Token, Cyclic, Request, Trigger}
use Rattle.laws.specs.Tests.{both}
use Rattle.frame_reading.specs.Reading.{read_of, read_header_of, read_body_of, data_of}
use Rattle.frame_round_trip.proofs.Accepted.{accepted as passed, body_reads}
use Rattle.frame_round_trip.specs.Accepted.{Accepted}
use Rattle.station.proofs.Outcomes.AskCases.{ask_cases}
use Rattle.station.specs.Outcomes.AskCases.{triggers, requests, begins, passes, AskCases, refuses, sends}
use Rattle.station.proofs.Frames.Asked.{asked_back}
use Rattle.station.specs.Frames.Asked.{CanSend}
use Rattle.station.specs.Rules.Asking.{is_placed, due_in, ask_of, due_fields, Asking}
use Rattle.station.specs.Rules.Calls.{hear, unrefused, verdict, heard_verdict}
use Rattle.station.specs.Rules.Data.{gathered}
use Rattle.station.specs.Rules.Hearing.{Hearing, is_taken, is_stranger, knows, lent_right, participant_heard, accepted, hear_of}
use Rattle.station.proofs.States.Sound.{sound}
use Rattle.station.proofs.States.ListKept.{next_station_lem}
use Rattle.station.specs.States.Reachable.{Reachable}
use Rattle.station.proofs.RefusedLeft.{accepted_unrefused}
use Rattle.station.specs.Rules.State.{is_participating, is_off, holds}
use Rattle.station.specs.Types.{Fields, Code, Participating, Station}
use Rattle.station.specs.Frames.FrameAccepted.{Listens}

-- octets that are read as fields pass both parts of the reading
pub header_read : {s : List ℕ} {fields : Fields} → Accepted s fields → read_header_of s ≡ Ok fields
header_read a = simp (a.is_whole, a.is_marked, a.is_long, a.is_coded, a.holds, a.is_addressed)

pub body_read : {s : List ℕ} {fields : Fields} → Accepted s fields → read_body_of (length s) fields ≡ Ok fields
body_read {s} {fields} a = body_reads (length s) fields a.is_ranged a.is_blocked

module _ (listener : Station) (octets memory assembly : List ℕ) (frame : Fields) (read : read_of octets ≡ Ok frame)
    (lent : lent_right memory assembly ≡ true) (listens : Listens listener frame) where
  -- neither 6 nor 9
  one_verdict : is_taken listener frame ≡ false
  one_verdict =
      let different : eqb frame.source listener.own.number ≡ false = ne_eqb _ _ listens.other in
      rw (different, and-false (not (is_off listener.phase)))

  no_stranger : is_stranger listener frame ≡ false
  no_stranger = by frame.code listens.source listens.destination
    where
      by : (code : Code) →
          (is_cyclic code ≡ true → knows listener frame.source ≡ true) → (is_token code ≡ true → knows listener frame.destination ≡ true) →
          (is_participating listener.phase && is_cyclic code)
          && not (knows listener frame.source && (not (is_token code) || knows listener frame.destination))
          ≡ false
      by Token source destination = rw (source refl, destination refl) (and-false (is_participating listener.phase && true))
      by Cyclic source destination = rw (source refl) (and-false (is_participating listener.phase && true))
      by Request source destination = rw (and-false (is_participating listener.phase))
      by Trigger source destination = rw (and-false (is_participating listener.phase))

  pub heard_accepted : hear_of listener octets memory assembly ≡ accepted listener frame octets memory assembly
  heard_accepted =
      let a = passed octets frame read in
      rw (lent, header_read a, one_verdict, body_read a, no_stranger)

  -- a cyclic frame restarts the watch, moves the view and is gathered
  pub accepts : is_cyclic frame.code ≡ true →
      hear_of listener octets memory assembly ≡ participant_heard listener frame (gathered listener frame (data_of octets frame) assembly memory)
  accepts cyclic = heard_accepted ∙ rw (listens.participates, cyclic)

  pub not_refused : verdict listener (hear octets memory assembly) ≡ unrefused
  not_refused =
      ap (λ (result : Hearing). heard_verdict result.answer) heard_accepted ∙ accepted_unrefused listener frame octets memory assembly

-- a station that calls can leave, and that is not off, can send
pub can_send : (station : Station) → Reachable station → is_off station.phase ≡ false → CanSend station
can_send station reached on =
    let s = sound station reached in
    record {
      number = (s.ours on).number;
      areas = (s.ours on).areas;
      next = next_station_lem s.list station.own.number (s.ours on).number (s.ours on).number;
      place = s.place;
    }

-- its place is always one of its turn's blocks, so that "A participant has a frame due whenever it holds, and at no other time."
pub always_placed : (station : Station) → Reachable station → is_off station.phase ≡ false → is_placed station ≡ true
always_placed station reached on =
    let can = can_send station reached on in
    both can.areas (lt-ltb station.block (blocks_of station.own.areas) can.place)

pub holder_due : (station : Station) → Reachable station → station.phase ≡ Participating → due_in station.phase station ≡ holds station
holder_due station reached e =
    let placed : is_placed station ≡ true = always_placed station reached (rw e) in
    rw (e, placed) (and-true (holds station))

-- an off station has no frame due
asked_on : {station : Station} {memory turn output : List ℕ} {result : Asking} {count : ℕ} → AskCases station memory turn output result →
    result.answer ≡ Ok count → is_off station.phase ≡ false
asked_on (refuses refusal) a = let z : ◌≡◌ {A = ℕ} 0 1 = cc in absurd (omega arith)
asked_on (sends lent is (triggers e due)) a = rw e
asked_on (sends lent is (requests e fallen)) a = rw e
asked_on (sends lent is (begins e fallen)) a = rw e
asked_on (sends lent is (passes e held placed)) a = rw e

-- Of every state that calls can leave: what an asking writes reads back to the fields of the frame that is due,
pub frame_asked : (station : Station) → Reachable station → (memory turn output : List ℕ) (count : ℕ) →
    (ask_of station memory turn output).answer ≡ Ok count →
    read_of (take count (ask_of station memory turn output).output) ≡ Ok (due_fields station.phase station)
frame_asked station reached memory turn output count e =
    asked_back station memory turn output count (can_send station reached (asked_on (ask_cases station memory turn output) e)) e

-- and every participant that lists the sender, and lists the destination or is it, and is not the sender, accepts it; a request or a trigger
-- is accepted by every participant that is not the sender.
pub frame_accepted : (station : Station) → Reachable station → (memory turn output : List ℕ) (count : ℕ) →
    (ask_of station memory turn output).answer ≡ Ok count →
    (listener : Station) → Listens listener (due_fields station.phase station) →
    (common assembly : List ℕ) → lent_right common assembly ≡ true →
    verdict listener (hear (take count (ask_of station memory turn output).output) common assembly) ≡ unrefused
frame_accepted station reached memory turn output count e listener listens common assembly lent =
    not_refused listener _ common assembly _ (frame_asked station reached memory turn output count e) lent listens

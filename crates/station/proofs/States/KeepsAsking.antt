-- Asking for a frame keeps what holds in every state. Assumes nothing.
use Rattle.std.specs.Prelude.{◌≡◌, ◌&&◌, ◌<◌}
use Rattle.laws.specs.Usual.{refl, sym, ◌∙◌, Bool, true, false, cond, false≢true, List, ℕ, arith, eqb}
use Rattle.std.proofs.Common.{leb-false}
use Rattle.block.specs.Blocks.{blocks_of}
use Rattle.frame_reading.specs.Reading.{is_station}
use Rattle.station.specs.Outcomes.AskCases.{triggers, requests, begins, passes, AskCases, refuses, sends}
use Rattle.station.specs.Rules.Asking.{next_block, is_last, next_station, block_sent, Asking}
use Rattle.station.proofs.States.KeepsStarting.{taken_shown, startup_sound, begun_sound}
use Rattle.station.proofs.States.ListKept.{next_station_lem}
use Rattle.station.specs.States.Reachable.{Ours, Sound}
use Rattle.station.specs.Rules.Starting.{request_fallen}
use Rattle.station.specs.Rules.State.{holds, request_sent}
use Rattle.station.specs.Types.{Startup, Participating, Station}

module _ (station : Station) (ok : Sound station) where
  -- our request, sent in ring startup
  request_sound : station.phase ≡ Startup → request_fallen Startup station ≡ true → Sound (request_sent station)
  request_sound e fallen = record {
    list = ok.list;
    empty = ok.empty;
    number = ok.number;
    ours = ok.ours;
    rounds = ok.rounds;
    elapsed = ok.elapsed;
    waited = ok.waited;
    unwaited = ok.unwaited;
    sent = λ z. rw e fallen;
    view = ok.view;
    unseen = ok.unseen;
    place = ok.place;
    unheld = ok.unheld;
    gathering = ok.gathering;
    ungathered = ok.ungathered;
    panel = ok.panel;
  }

  -- a block of ours, sent while we hold
  block_sound : station.phase ≡ Participating → holds station ≡ true → Sound (block_sent station)
  block_sound e held =
      let ours : Ours station.own = ok.ours (rw e) in
      record {
        list = ok.list;
        empty = λ z. absurd (false≢true z);
        number = ok.number;
        ours = λ z. ours;
        rounds = ok.rounds;
        elapsed = omega arith;
        waited = ok.waited;
        unwaited = ok.unwaited;
        sent = λ z. refl;
        view = λ z. view ours (is_last station);
        unseen = λ z. absurd (false≢true (sym z));
        place = place (is_last station) refl;
        unheld = unheld (is_last station);
        gathering = ok.gathering;
        ungathered = λ z. absurd (false≢true (sym z));
        panel = taken_shown (is_last station && eqb (next_station station) station.own.number) ok.panel;
      }
    where
      view : Ours station.own → (last : Bool) → is_station (cond last (next_station station) station.view) ≡ true
      view ours true = next_station_lem ok.list station.own.number ours.number ours.number
      view ours false = ok.view (rw e)

      place : (last : Bool) → is_last station ≡ last → cond last 0 (next_block station) < blocks_of station.own.areas
      place true l = omega arith
      place false l = leb-false (blocks_of station.own.areas) (next_block station) l

      unheld : (last : Bool) → eqb (cond last (next_station station) station.view) station.own.number ≡ false → cond last 0 (next_block station) ≡ 0
      unheld true z = refl
      unheld false z = absurd (false≢true (sym z ∙ held))

  pub ask_sound : {memory turn output : List ℕ} {result : Asking} → AskCases station memory turn output result → Sound result.station
  ask_sound (refuses refusal) = ok
  ask_sound (sends lent is (triggers e due)) = startup_sound station.own (ok.ours (rw e))
  ask_sound (sends lent is (requests e fallen)) = request_sound e fallen
  ask_sound (sends lent is (begins e fallen)) =
      begun_sound station.own station.members station.view (ok.ours (rw e)) ok.list (ok.view (rw e))
  ask_sound (sends lent is (passes e held placed)) = block_sound e held

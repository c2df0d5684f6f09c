-- What the beginning of each phase has, and that start and stop keep what holds in every state. Assumes nothing.
use Rattle.std.specs.Prelude.{◌≡◌, ◌<◌, ◌≤◌}
use Rattle.laws.specs.Usual.{refl, sym, ◌∙◌, Bool, true, false, cond, false≢true, ℕ, arith, eqb, leb}
use Rattle.std.proofs.Common.{leb-true, ltb-true}
use Rattle.block.specs.Blocks.{blocks_of}
use Rattle.laws.specs.Tests.{second, first}
use Rattle.panel.specs.Panel.{blank, after_taking, ticked}
use Rattle.frame_reading.specs.Reading.{is_station}
use Rattle.station.proofs.States.ListKept.{none_listed, empty_kept}
use Rattle.station.specs.States.Reachable.{TypedSettings, Ours, Listed, Placed, Shown, has_view, limit_of, Sound}
use Rattle.station.specs.Rules.Starting.{start_of, stop_of}
use Rattle.station.specs.Rules.State.{is_off, fresh, begun}
use Rattle.station.proofs.Outcomes.SwitchCases.{switched_to, start_cases, stop_cases}
use Rattle.station.specs.Rules.Token.{takes, restarted}
use Rattle.station.specs.Types.{Members, Panel, Settings, Phase, Off, Listening, Startup, Gathering, Station}

-- the panel's counts
pub blank_shown : Shown blank
blank_shown = record { takings = omega arith; running = omega arith; gap = omega arith }

pub taken_shown : {panel : Panel} (test : Bool) → Shown panel → Shown (cond test (after_taking panel) panel)
taken_shown true shown = record { takings = omega arith; running = omega arith; gap = shown.running }
taken_shown false shown = shown

pub ticked_shown : {panel : Panel} → Shown panel → Shown (ticked panel)
ticked_shown shown = record { takings = shown.takings; running = omega arith; gap = shown.gap }

-- numbers 1 to 254
pub station_from : (number : ℕ) → is_station number ≡ true → 1 ≤ number
station_from number e = leb-true 1 number (first (leb 1 number) (leb number 254) e)

pub station_to : (number : ℕ) → is_station number ≡ true → number ≤ 254
station_to number e = leb-true number 254 (second (leb 1 number) (leb number 254) e)

-- a phase that begins with an empty list
pub fresh_sound : (phase : Phase) (own : Settings) → own.number ≤ 254 → 0 < limit_of phase own.number → has_view phase ≡ false → (is_off phase ≡ false → Ours own)
    → Sound (fresh phase own)
fresh_sound phase own number some blind ours = record {
  list = empty_kept own.number;
  empty = λ e. none_listed;
  number = number;
  ours = ours;
  rounds = omega arith;
  elapsed = some;
  waited = omega arith;
  unwaited = λ e. refl;
  sent = λ e. absurd (false≢true e);
  view = λ e. absurd (false≢true (sym blind ∙ e));
  unseen = λ e. refl;
  place = omega arith;
  unheld = λ e. refl;
  gathering = λ e. absurd (false≢true (sym e));
  ungathered = λ e. refl;
  panel = blank_shown;
}

pub off_sound : (own : Settings) → own.number ≤ 254 → Sound (fresh Off own)
off_sound own number = fresh_sound Off own number (omega arith) refl (λ e. absurd (false≢true (sym e)))

pub listening_sound : (own : Settings) → Ours own → Sound (fresh Listening own)
listening_sound own ours = fresh_sound Listening own (station_to own.number ours.number) (omega arith) refl (λ e. ours)

pub startup_sound : (own : Settings) → Ours own → Sound (fresh Startup own)
startup_sound own ours = fresh_sound Startup own (station_to own.number ours.number) (omega arith) refl (λ e. ours)

pub start_sound : (station : Station) (own : Settings) → TypedSettings own → Sound station → Sound (start_of station own).station
start_sound station own typed ok = switched_to Sound (start_cases station own) ok (λ starts.
    let some = ltb-true 0 own.watch.0 starts.watch in
    let small = typed.watch in
    listening_sound own (record { number = starts.number; watch_from = omega arith; watch_to = omega arith; areas = starts.areas }))

pub stop_sound : (station : Station) → Sound station → Sound (stop_of station).station
stop_sound station ok = switched_to Sound (stop_cases station) ok (λ on. off_sound _ ok.number)

-- we begin to participate
pub begun_sound : (own : Settings) (members : Members) (view : ℕ) → Ours own → Listed own.number members → is_station view ≡ true
    → Sound (begun own members view)
begun_sound own members view ours list seen =
    record {
      list = list;
      empty = λ e. absurd (false≢true e);
      number = station_to own.number ours.number;
      ours = λ e. ours;
      rounds = omega arith;
      elapsed = omega arith;
      waited = omega arith;
      unwaited = λ e. refl;
      sent = λ e. absurd (false≢true e);
      view = λ e. seen;
      unseen = λ e. absurd (false≢true (sym e));
      place = omega arith;
      unheld = λ e. refl;
      gathering = λ e. absurd (false≢true (sym e));
      ungathered = λ e. refl;
      panel = taken_shown (eqb view own.number) blank_shown;
    }

-- a participant whose watch restarts
pub restarted_sound : (station : Station) (members : Members) (view : ℕ) (gathering : Gathering) (panel : Panel) → Sound station → Ours station.own
    → Listed station.own.number members → is_station view ≡ true → (eqb gathering.source 0 ≡ false → Placed members gathering) → Shown panel
    → Sound (restarted station members view gathering panel)
restarted_sound station members view gathering panel ok ours list seen placed shown =
    record {
      list = list;
      empty = λ e. absurd (false≢true e);
      number = ok.number;
      ours = λ e. ours;
      rounds = ok.rounds;
      elapsed = omega arith;
      waited = ok.waited;
      unwaited = ok.unwaited;
      sent = λ e. refl;
      view = λ e. seen;
      unseen = λ e. absurd (false≢true (sym e));
      place = by (eqb view station.own.number);
      unheld = λ e. rw e;
      gathering = placed;
      ungathered = λ e. absurd (false≢true (sym e));
      panel = taken_shown (takes station.own.number station.view view) shown;
    }
  where
    by : (test : Bool) → cond test station.block 0 < blocks_of station.own.areas
    by true = ok.place
    by false = omega arith

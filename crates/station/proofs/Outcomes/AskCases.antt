-- The outcomes of asking for a frame, each with what led there and what is left: whatever is proved of asking goes by these. Assumes nothing.
use Rattle.std.specs.Prelude.{◌≡◌}
use Rattle.laws.specs.Usual.{refl, Bool, true, false, cond, not, false≢true, List, ℕ}
use Rattle.laws.specs.Tests.{first, second}
use Rattle.station.specs.Rules.Asking.{is_placed, due_in, due_fields, turn_after, sent_in, lent_right, refused, written, ask_of}
use Rattle.station.specs.Rules.Starting.{request_fallen}
use Rattle.station.specs.Rules.State.{holds}
use Rattle.station.specs.Types.{Phase, Off, Listening, Startup, Joining, Participating, Station}
use Rattle.station.specs.Outcomes.AskCases.{SendCases, triggers, requests, begins, passes, AskCases, refuses, sends}
use Rattle.frame.specs.declared.Refusal.TheVariants as refusals

module _ (station : Station) (memory turn output : List ℕ) where
  send_cases : (phase : Phase) → station.phase ≡ phase → due_in phase station ≡ true
      → SendCases station memory turn (sent_in phase station) (due_fields phase station) (turn_after phase station memory turn)
  send_cases Off e due = absurd (false≢true due)
  send_cases Listening e due = triggers e due
  send_cases Startup e due = requests e (first (request_fallen Startup station) (not station.sent) due)
  send_cases Joining e due = begins e due
  send_cases Participating e due = passes e (first (holds station) (is_placed station) due) (second (holds station) (is_placed station) due)

  pub ask_cases : AskCases station memory turn output (ask_of station memory turn output)
  ask_cases = by (lent_right memory turn output) refl (due_in station.phase station) refl
    where
      by : (right : Bool) → lent_right memory turn output ≡ right → (due : Bool) → due_in station.phase station ≡ due
          → AskCases station memory turn output
          (cond right
          (cond due (written station (turn_after station.phase station memory turn) output) (refused station turn output refusals.NotDue))
          (refused station turn output refusals.Buffer))
      by true l true d = sends l refl (send_cases station.phase refl d)
      by true l false d = refuses refusals.NotDue
      by false l due d = refuses refusals.Buffer

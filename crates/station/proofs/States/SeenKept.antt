-- A participant's view is its own number or a listed one, if it was so before: every call keeps this, but that who begins to participate from
-- joining can begin with another view, the last token destination heard. Assumes nothing.
use Rattle.std.specs.Prelude.{◌≡◌}
use Rattle.laws.specs.Usual.{refl, Bool, true, false, cond, false≢true, List, ℕ}
use Rattle.station.specs.Rules.Calls.{Call, start, stop, tick, hear, ask, after}
use Rattle.station.proofs.Outcomes.HearCases.{entering, hear_cases}
use Rattle.station.specs.Outcomes.HearCases.{off, begins, joins, passes, reads, lists, ignores, HearCases, refuses, turns_off, gathers, heeds}
use Rattle.station.specs.Rules.Hearing.{Hearing}
use Rattle.station.proofs.States.KeepsEntering.{view_has}
use Rattle.station.specs.States.Reachable.{Sound}
use Rattle.station.proofs.Outcomes.SwitchCases.{switched_to, start_cases, stop_cases}
use Rattle.station.specs.Rules.Ticking.{Ticking}
use Rattle.station.specs.Rules.Token.{view_heard}
use Rattle.station.proofs.States.ViewKept.{known_ours, known_with, known_misses, next_known, smallest_known, missed_known}
use Rattle.station.specs.States.ViewKept.{Known}
use Rattle.station.specs.Types.{Joining, Participating, Station}
use Rattle.station.specs.Rules.Asking.{Asking, is_last, next_station}
use Rattle.station.specs.States.SeenKept.{Seen}
use Rattle.station.proofs.Outcomes.AskCases as on_asking_told
use Rattle.station.proofs.Outcomes.TickCases as on_tick_told
use Rattle.station.specs.Outcomes.AskCases as on_asking
use Rattle.station.specs.Outcomes.TickCases as on_tick

module _ (station : Station) (ok : Sound station) (seen : Seen station) (elsewhere : ¬ (station.phase ≡ Joining)) where
  tick_seen : {result : Ticking} → on_tick.TickCases station result → Seen result.station
  tick_seen (on_tick.off e) = seen
  tick_seen (on_tick.listens e) = seen
  tick_seen (on_tick.starts e t) = λ p. absurd (false≢true (rw e at p))
  tick_seen (on_tick.lapses e t) = λ p. absurd (false≢true p)
  tick_seen (on_tick.begins e t) = λ p. smallest_known ok.list
  tick_seen (on_tick.gives_up e t) = absurd (elsewhere e)
  tick_seen (on_tick.learns e t r) = absurd (elsewhere e)
  tick_seen (on_tick.waits e t r) = absurd (elsewhere e)
  tick_seen (on_tick.ends e t) = λ p. missed_known ok.list station.view (seen (rw e))
  tick_seen (on_tick.runs e t) = seen

  hear_seen : {octets memory assembly : List ℕ} {result : Hearing} → HearCases station octets memory assembly result → Seen result.station
  hear_seen (refuses refusal) = seen
  hear_seen (turns_off out) = λ p. absurd (false≢true p)
  hear_seen (gathers frame from parts) =
      λ z. known_misses station.own.number station.members frame.source 0 (view_heard station.view frame)
      (view_has (Known station.own.number station.members) station.view frame (seen (rw from.participates)) from.destination)
  hear_seen (heeds frame facts entered) =
      entering (λ left answer. Seen left) (λ e. seen) (λ e c p. absurd (false≢true p)) (λ e c p. absurd (false≢true p)) (λ e c. seen)
      (λ e c. absurd (elsewhere e))
      (λ e c p. known_with station.own.number station.members frame.source _ station.view (λ same l. refl) (seen p)) (λ e. seen) entered

  sent_seen : station.phase ≡ Participating → (last : Bool)
      → Known station.own.number station.members (cond last (next_station station) station.view)
  sent_seen e true = next_known ok.list station.own.number (known_ours station.own.number station.members)
  sent_seen e false = seen (rw e)

  ask_seen : {memory turn output : List ℕ} {result : Asking} → on_asking.AskCases station memory turn output result → Seen result.station
  ask_seen (on_asking.refuses refusal) = seen
  ask_seen (on_asking.sends lent is (on_asking.triggers e due)) = λ p. absurd (false≢true p)
  ask_seen (on_asking.sends lent is (on_asking.requests e fallen)) = seen
  ask_seen (on_asking.sends lent is (on_asking.begins e fallen)) = absurd (elsewhere e)
  ask_seen (on_asking.sends lent is (on_asking.passes e held placed)) = λ p. sent_seen e (is_last station)

  -- every call keeps it, in every phase but joining
  pub seen_kept : (call : Call) → Seen (after station call)
  seen_kept (start own) = switched_to Seen (start_cases station own) seen (λ starts p. absurd (false≢true p))
  seen_kept stop = switched_to Seen (stop_cases station) seen (λ on p. absurd (false≢true p))
  seen_kept tick = tick_seen (on_tick_told.tick_cases station)
  seen_kept (hear octets memory assembly) = hear_seen (hear_cases station octets memory assembly)
  seen_kept (ask memory turn output) = ask_seen (on_asking_told.ask_cases station memory turn output)

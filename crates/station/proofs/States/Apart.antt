-- Areas do not overlap in any state that calls can leave: the record `Apart` of Disjoint. Assumes nothing.
use Rattle.station.proofs.Outcomes.AskCases.{ask_cases}
use Rattle.station.proofs.Outcomes.HearCases.{hear_cases}
use Rattle.station.proofs.Outcomes.SwitchCases.{switched_to, start_cases, stop_cases}
use Rattle.station.specs.Rules.Calls.{Call, start, stop, tick, hear, ask, after}
use Rattle.station.proofs.States.ApartHearing.{hear_apart, ask_apart}
use Rattle.station.proofs.States.ApartTicking.{fresh_apart, tick_apart}
use Rattle.station.specs.States.Disjoint.{Apart}
use Rattle.station.specs.States.Reachable.{Reachable, unstarted, called, Sound}
use Rattle.station.proofs.States.Sound.{sound}
use Rattle.station.specs.Types.{Off, Listening, Station}

module _ (station : Station) (ok : Sound station) (apart : Apart station) where
  -- every call keeps the areas apart
  pub kept_apart : (call : Call) → Apart (after station call)
  kept_apart (start own) = switched_to Apart (start_cases station own) apart (λ starts. fresh_apart Listening own)
  kept_apart stop = switched_to Apart (stop_cases station) apart (λ on. fresh_apart Off _)
  kept_apart tick = tick_apart station ok apart
  kept_apart (hear octets memory assembly) = hear_apart station ok apart (hear_cases station octets memory assembly)
  kept_apart (ask memory turn output) = ask_apart station ok apart (ask_cases station memory turn output)

-- areas do not overlap in any state that any list of calls with any arguments can leave since off
pub apart : (station : Station) → Reachable station → Apart station
apart _ unstarted = fresh_apart Off _
apart _ (called call reached typed) = kept_apart _ (sound _ reached) (apart _ reached) call

-- An entry's misses are what the history says, and a station is struck exactly at the third. Assumes nothing.
use Rattle.std.specs.Prelude.{◌≡◌, ◌&&◌, ◌||◌, ◌∷◌}
use Rattle.laws.specs.Usual.{[], refl, sym, ◌∙◌, Bool, true, false, not, false≢true, List, ℕ}
use Rattle.laws.specs.Tests.{both}
use Rattle.members.specs.Members.{entry_of, is_listed}
use Rattle.station.specs.Rules.Calls.{Call, start, stop, tick, hear, ask, after}
use Rattle.station.specs.Panel.History.{Step, step_of, steps_on, history, state_after, participates}
use Rattle.station.proofs.States.ListKept.{none_listed}
use Rattle.station.specs.Rules.State.{never}
use Rattle.station.specs.declared.Station.{Station}
use Rattle.misses.specs.EntryMoves.{Carries}
use Rattle.misses.proofs.ListMoves.{does, stop_empties}
use Rattle.misses.specs.MissHistory.{lists, misses_said, ends_third, is_stop}
use Rattle.misses.specs.MissesTold.{Told}

told_on : (calls : List Call) (steps : List Step) (station : Station) → Told steps station → Told (steps_on steps station calls) (state_after station calls)
told_on [] steps station told = told
told_on (call ∷ rest) steps station told =
    told_on rest (step_of station call ∷ steps) (after station call) (λ x. (does x station call).counts (misses_said x steps) (told x))

module _ (calls : List Call) (x : ℕ) (listed : is_listed (state_after never calls).members x ≡ true) where
  pub carries : Carries (misses_said x (history never calls)) (entry_of (state_after never calls).members x)
  carries = told_on calls [] never (λ n e. absurd (false≢true (sym (none_listed n) ∙ e))) x listed

  goes_on : participates (state_after never calls) ≡ true → (call : Call) → not (is_stop call) ≡ true
      → is_listed (after (state_after never calls) call).members x ≡ not (ends_third x (step_of (state_after never calls) call ∷ history never calls))
  goes_on inside call e = (does x (state_after never calls) call).strikes (misses_said x (history never calls)) (both inside e) listed carries

  -- For every list of calls since a station was made, the misses of a listed station are the endings of our watch with it in view since its last
  -- accepted cyclic frame or its last listing.
  pub misses_told : (entry_of (state_after never calls).members x).misses ≡ misses_said x (history never calls)
  misses_told = carries.misses

  -- And whatever call a participant gets, it lists the station no more just where it is stopped, or where an ending of our watch is the third.
  pub struck_third : participates (state_after never calls) ≡ true → (call : Call) → is_listed (after (state_after never calls) call).members x
      ≡ not (is_stop call || ends_third x (step_of (state_after never calls) call ∷ history never calls))
  struck_third inside (start settings) = goes_on inside (start settings) refl
  struck_third inside stop = stop_empties x (state_after never calls) inside
  struck_third inside tick = goes_on inside tick refl
  struck_third inside (hear octets memory assembly) = goes_on inside (hear octets memory assembly) refl
  struck_third inside (ask memory turn output) = goes_on inside (ask memory turn output) refl

-- Who is not listed is listed by nothing but a listing.
pub unlisted_stays : (station : Station) (call : Call) (x : ℕ) → lists x station call ≡ false → is_listed station.members x ≡ false
    → is_listed (after station call).members x ≡ false
unlisted_stays station call x = (does x station call).unlisted

-- So a tick at a participant leaves just those listed that were and for whom it is no third ending.
pub tick_strikes : (calls : List Call) (x : ℕ) → participates (state_after never calls) ≡ true → is_listed (after (state_after never calls) tick).members x
    ≡ (is_listed (state_after never calls).members x && not (ends_third x (step_of (state_after never calls) tick ∷ history never calls)))
tick_strikes calls x inside = by (is_listed (state_after never calls).members x) refl
  where
    by : (listed : Bool) → is_listed (state_after never calls).members x ≡ listed → is_listed (after (state_after never calls) tick).members x
        ≡ (listed && not (ends_third x (step_of (state_after never calls) tick ∷ history never calls)))
    by true e = struck_third calls x e inside tick
    by false e = unlisted_stays (state_after never calls) tick x refl e

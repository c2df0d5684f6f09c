-- A run before the first agreement, and a run after it: each goes on as one of its kind after its first event.
use Rattle.laws.specs.Usual.{[], List, ℕ}
use Rattle.settling.specs.Steps.{EachFinds}
use Rattle.settling.specs.Ring.{Views, Within, Agreed, Event, move, Run}

-- each event of the list finds views that are not all equal
abbrev pub Differing : List ℕ → Views → List Event → Type 0
Differing ns = EachFinds (move ns) (λ views event. ¬ Agreed ns views)

-- a run up to the first agreement
pub record Unsettled (ns : List ℕ) (views : Views) (events : List Event) : Type 0 where
  pub within : Within ns views
  pub run : Run ns views events
  pub differing : Differing ns views events

-- a run from the first agreement on
pub record Settled (ns : List ℕ) (views : Views) (events : List Event) : Type 0 where
  pub within : Within ns views
  pub run : Run ns views events
  pub agreed : Agreed ns views

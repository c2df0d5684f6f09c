-- What holds after any list of calls with any arguments since off. Assumes nothing.
use Rattle.std.specs.Prelude.{◌∷◌}
use Rattle.laws.specs.Usual.{[], List, ℕ}
use Rattle.area.specs.Words.{Holds}
use Rattle.station.specs.Rules.Calls.{Call}
use Rattle.station.specs.States.Reachable.{Typed}
use Rattle.station.specs.Types.{Areas}

-- every call's arguments have their types' ranges
abbrev pub AllTyped : List Call → Type 0
AllTyped [] = Unit {0}
AllTyped (call ∷ calls) = Typed call × AllTyped calls

-- areas that do not overlap have no word in common
pub record Unshared (a b : Areas) : Type 0 where
  pub one : (word : ℕ) → Holds a.one word → Holds b.one word → ⊥
  pub two : (word : ℕ) → Holds a.two word → Holds b.two word → ⊥

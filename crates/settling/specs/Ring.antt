-- The ring of token views: the definitions alone. Words in quotes are the paper's: its sections "The token view and the watch" and
-- "The ring in demand 3", and demand 3.
use Rattle.std.specs.Prelude.{◌≡◌, ◌∷◌, ◌+◌, ◌<◌}
use Rattle.laws.specs.Usual.{[], cond, List, ℕ, suc, min, length, eqb, ltb}
use mathlib.Core.List.{Memᴰ}
use Rattle.settling.specs.Steps.{after_all, EachFinds}

-- x is one of the numbers of the list
infix 50 ◌∈◌
abbrev pub ◌∈◌ : ℕ → List ℕ → Type 0
x ∈ ns = Memᴰ x ns

-- Each number of the list is smaller than all that stand after it.
abbrev pub Ascending : List ℕ → Type 0
Ascending [] = Unit {0}
Ascending (x ∷ ns) = ((y : ℕ) → y ∈ ns → x < y) × Ascending ns

-- The stations of a ring: "n stations, one or more, of different numbers", written in ascending order.
pub record Stations (ns : List ℕ) : Type 0 where
  pub some : 0 < length ns
  pub ascending : Ascending ns

-- the first number of the list that is larger than x, or `smallest` where there is none
abbrev pub first_above : ℕ → List ℕ → ℕ → ℕ
first_above x [] smallest = smallest
first_above x (y ∷ ns) smallest = cond (ltb x y) y (first_above x ns smallest)

-- "Next" is "the next larger number in the list .., or the smallest after the largest".
abbrev pub next : List ℕ → ℕ → ℕ
next [] x = x
next (smallest ∷ ns) x = first_above x (smallest ∷ ns) smallest

-- "Each participant has a view: the number it takes to be the holder." The views of all stations are a function from a
-- station's number to the station's view. It is read only at the numbers of the ring.
abbrev pub Views : Type 0
Views = ℕ → ℕ

-- "every view among their numbers"
abbrev pub Within : List ℕ → Views → Type 0
Within ns views = (x : ℕ) → x ∈ ns → views x ∈ ns

-- "It holds when the view is its own number."
abbrev pub Holds : Views → ℕ → Type 0
Holds views x = views x ≡ x

-- "All name one holder when all views are equal."
abbrev pub Agreed : List ℕ → Views → Type 0
Agreed ns views = (x y : ℕ) → x ∈ ns → y ∈ ns → views x ≡ views y

-- What happens in the ring: the station x passes the token to the next after it, or a silence comes, which is "one ending
-- of a watch, at all stations alike".
pub data Event : Type 0 where
  pass : ℕ → Event
  silence : Event

-- A view after a token frame from x to the next after x: "if the source is our view, the view becomes the destination.
-- Otherwise the view becomes the smaller of view and destination." The sender's own view is x, and it "becomes next" too.
abbrev pub view_after_pass : List ℕ → ℕ → ℕ → ℕ
view_after_pass ns x view = cond (eqb view x) (next ns x) (min view (next ns x))

-- All views after an event. In a silence "the view becomes next after it".
abbrev pub move : List ℕ → Views → Event → Views
move ns views (pass x) station = view_after_pass ns x (views station)
move ns views silence station = next ns (views station)

-- An event can come: a pass needs a station that holds. A silence needs that nobody holds, since demand 3 leaves out lists
-- "in which a tick ends a holder's watch".
abbrev pub Legal : List ℕ → Views → Event → Type 0
Legal ns views (pass x) = (x ∈ ns) × Holds views x
Legal ns views silence = (x : ℕ) → x ∈ ns → ¬ Holds views x

-- a list of events in which each can come in the views that it finds
abbrev pub Run : List ℕ → Views → List Event → Type 0
Run ns = EachFinds (move ns) (Legal ns)

-- all views after a list of events
abbrev pub views_after : List ℕ → Views → List Event → Views
views_after ns = after_all (move ns)

-- how many passes a list of events has
abbrev pub passes : List Event → ℕ
passes [] = 0
passes (pass x ∷ events) = suc (passes events)
passes (silence ∷ events) = passes events

-- how many silences a list of events has
abbrev pub silences : List Event → ℕ
silences [] = 0
silences (pass x ∷ events) = silences events
silences (silence ∷ events) = suc (silences events)

-- how often x is given the token: a pass "gives the token to the destination", which is the next after the station that passes
abbrev pub given : List ℕ → ℕ → List Event → ℕ
given ns x [] = 0
given ns x (pass y ∷ events) = cond (eqb (next ns y) x) 1 0 + given ns x events
given ns x (silence ∷ events) = given ns x events

-- What an event does to the ring that `settle` works on. Words in quotes are paper 01's.
use Rattle.laws.specs.Usual.{cond, List, [], map, ℕ, suc, min, eqb}
use Rattle.std.specs.Prelude.{◌∷◌, zero, Option, Some, None}
use Rattle.settling.specs.Ring.{Event, silence, move}
use Rattle.settle_views.specs.Views.{ring_with, stations_of}
use Rattle.settle_views.specs.declared.Ring.{Ring}

-- the first listed station among views that start at the station `number`
abbrev pub first_listed : ℕ → List ℕ → Option ℕ
first_listed number [] = None
first_listed number (view ∷ views) = cond (eqb view 0) (first_listed (suc number) views) (Some number)

-- the view of a station after a token frame: "if the source is our view, the view becomes the destination. Otherwise the view becomes
-- the smaller of view and destination." 0, which stands for no station, stays 0.
abbrev pub passed_view : ℕ → ℕ → ℕ → ℕ
passed_view view from to = cond (eqb view 0) 0 (cond (eqb view from) to (min view to))

-- a view after an event in a ring of these stations; 0, which stands for no station, stays 0
abbrev pub view_after : List ℕ → Event → ℕ → ℕ
view_after ns event view = cond (eqb view 0) 0 (move ns (λ station. view) event 0)

-- the ring after an event
abbrev pub moved : Ring → Event → Ring
moved ring event = record { views = map (view_after (stations_of ring) event) ring.views }

-- what a function gives for each of so many numbers from one on
unfoldable pub each : (ℕ → ℕ) → ℕ → ℕ → List ℕ
each f number zero = []
each f number (suc count) = f number ∷ each f (suc number) count

-- where each view goes in a silence, in a ring of these views
abbrev pub moves_in_silence : List ℕ → List ℕ
moves_in_silence views = each (view_after (stations_of (ring_with views)) silence) 0 256

-- The ring that `settle` works on, and what is looked up in it. Words in quotes are paper 01's.
use Rattle.std.specs.Prelude.{◌||◌, ◌∷◌, Option, None, Some}
use Rattle.laws.specs.Usual.{Bool, false, cond, not, List, [], map, ℕ, suc, get_or, eqb}
use Rattle.settling.specs.Ring.{Views}
use Rattle.settle_views.specs.declared.Ring.{Ring}

-- the listed stations among views that start at the station `number`, in ascending order: those whose view is not 0
abbrev pub stations_from : ℕ → List ℕ → List ℕ
stations_from number [] = []
stations_from number (view ∷ views) = cond (eqb view 0) (stations_from (suc number) views) (number ∷ stations_from (suc number) views)

-- the ring of these views
abbrev pub ring_with : List ℕ → Ring
ring_with views = record { views = views }

abbrev pub stations_of : Ring → List ℕ
stations_of ring = stations_from 0 ring.views

abbrev pub views_of : Ring → Views
views_of ring station = get_or ring.views station 0

abbrev pub listed : Views → ℕ → Bool
listed views number = not (eqb (views number) 0)

-- "It holds when the view is its own number." The first station of the list that holds.
abbrev pub smallest_holder : List ℕ → Views → Option ℕ
smallest_holder [] views = None
smallest_holder (station ∷ rest) views = cond (eqb (views station) station) (Some station) (smallest_holder rest views)

abbrev pub member : ℕ → List ℕ → Bool
member x [] = false
member x (y ∷ rest) = eqb x y || member x rest

-- how many different numbers a list has: each is counted where it stands for the last time
abbrev pub different : List ℕ → ℕ
different [] = 0
different (x ∷ rest) = cond (member x rest) (different rest) (suc (different rest))

-- "number of different views"
abbrev pub different_views : List ℕ → Views → ℕ
different_views ns views = different (map views ns)

-- "every view a listed station": the line, counted on from `line`, of the first station of a list whose view is not listed
abbrev pub first_unlisted : Views → ℕ → List ℕ → Option ℕ
first_unlisted views line [] = None
first_unlisted views line (station ∷ rest) = cond (listed views (views station)) (first_unlisted views (suc line) rest) (Some line)

abbrev pub unlisted_in : Ring → Option ℕ
unlisted_in ring = first_unlisted (views_of ring) 1 (stations_of ring)

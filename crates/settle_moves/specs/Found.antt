-- `next` by two searches for the first listed station: above a number, and from the start. Assumes nothing.
use Rattle.laws.specs.Usual.{refl, ap, ◌∙◌, Bool, true, false, cond, not, List, [], ℕ, suc, arith, drop, eqb, length, ltb}
use Rattle.std.specs.Prelude.{◌≡◌, ◌∷◌, ◌+◌, ◌<◌, zero, Option, Some, None, ◌⊎◌}
use Rattle.std.specs.List.{position_from}
use Rattle.std.specs.Option.{option_map, option_or, unwrap_or}
use Rattle.std.proofs.Common.{lt-ltb, le-ltb, inl, inr, length-drop}
use Rattle.settling.specs.Ring.{first_above, next}
use Rattle.settle_views.specs.Views.{stations_from}
use Rattle.settle_moves.specs.Moves.{first_listed}

-- the library's search for a view that is not 0, among those from the station `from` on
listed_place : (from at : ℕ) (views : List ℕ)
    → option_map (λ place. from + place) (position_from (λ view. not (eqb view 0)) at views) ≡ first_listed (from + at) views
listed_place from at [] = refl
listed_place from at (view ∷ views) =
    let next : from + (at + 1) ≡ suc (from + at) = omega arith in
    by (eqb view 0) (listed_place from (at + 1) views ∙ ap (λ (n : ℕ). first_listed n views) next)
  where
    by : (t : Bool) → option_map (λ place. from + place) (position_from (λ view. not (eqb view 0)) (at + 1) views) ≡ first_listed (suc (from + at)) views
        → option_map (λ place. from + place) (cond (not t) (Some at) (position_from (λ view. not (eqb view 0)) (at + 1) views))
        ≡ cond t (first_listed (suc (from + at)) views) (Some (from + at))
    by true e = e
    by false e = refl

pub listed_found : (from : ℕ) (views : List ℕ)
    → option_map (λ place. from + place) (position_from (λ view. not (eqb view 0)) 0 views) ≡ first_listed from views
listed_found from views = let same : from + 0 ≡ from = omega arith in listed_place from 0 views ∙ ap (λ (n : ℕ). first_listed n views) same

-- the first number of a list
first_of : List ℕ → Option ℕ
first_of [] = None
first_of (x ∷ ns) = Some x

first_station : (k : ℕ) (views : List ℕ) → first_of (stations_from k views) ≡ first_listed k views
unfolding first_of
first_station k [] = refl
first_station k (view ∷ views) = by (eqb view 0) (first_station (suc k) views)
  where
    by : (t : Bool) → first_of (stations_from (suc k) views) ≡ first_listed (suc k) views
        → first_of (cond t (stations_from (suc k) views) (k ∷ stations_from (suc k) views)) ≡ cond t (first_listed (suc k) views) (Some k)
    by true e = e
    by false e = refl

-- where all are above x, the first one is the first above
all_above : (x k : ℕ) (views : List ℕ) (d : ℕ) → x < k → first_above x (stations_from k views) d ≡ unwrap_or (first_listed k views) d
all_above x k [] d h = refl
all_above x k (view ∷ views) d h = by (eqb view 0) (all_above x (suc k) views d (omega arith))
  where
    by : (t : Bool) → first_above x (stations_from (suc k) views) d ≡ unwrap_or (first_listed (suc k) views) d
        → first_above x (cond t (stations_from (suc k) views) (k ∷ stations_from (suc k) views)) d ≡ unwrap_or (cond t (first_listed (suc k) views) (Some k)) d
    by true e = e
    by false e = rw (lt-ltb x k h)

-- those up to x are passed over
above_listed : (x k j : ℕ) (views : List ℕ) (d : ℕ) → k + j ≡ suc x → first_above x (stations_from k views) d ≡ unwrap_or (first_listed (suc x) (drop j views)) d
above_listed x k zero views d e =
    let here : k ≡ suc x = omega arith in
    all_above x k views d (omega arith) ∙ ap (λ (n : ℕ). unwrap_or (first_listed n views) d) here
above_listed x k (suc j) [] d e = refl
above_listed x k (suc j) (view ∷ views) d e = by (eqb view 0) (above_listed x (suc k) j views d (omega arith))
  where
    by : (t : Bool) → first_above x (stations_from (suc k) views) d ≡ unwrap_or (first_listed (suc x) (drop j views)) d
        → first_above x (cond t (stations_from (suc k) views) (k ∷ stations_from (suc k) views)) d ≡ unwrap_or (first_listed (suc x) (drop j views)) d
    by true ih = ih
    by false ih = rw (le-ltb x k (omega arith)) ih

next_above : (ns : List ℕ) (x : ℕ) → next ns x ≡ first_above x ns (unwrap_or (first_of ns) x)
unfolding first_of
next_above [] x = refl
next_above (y ∷ ns) x = refl

or_else : (above first : Option ℕ) (x : ℕ) → unwrap_or above (unwrap_or first x) ≡ unwrap_or (option_or above first) x
or_else None first x = refl
or_else (Some y) first x = refl

pub next_found : (views : List ℕ) (x : ℕ)
    → next (stations_from 0 views) x ≡ unwrap_or (option_or (first_listed (x + 1) (drop (x + 1) views)) (first_listed 0 views)) x
next_found views x =
    next_above (stations_from 0 views) x
    ∙ above_listed x 0 (suc x) views (unwrap_or (first_of (stations_from 0 views)) x) (omega arith)
    ∙ ap (λ (first : Option ℕ). unwrap_or (first_listed (suc x) (drop (suc x) views)) (unwrap_or first x)) (first_station 0 views)
    ∙ or_else (first_listed (suc x) (drop (suc x) views)) (first_listed 0 views) x
    ∙ ap (λ (n : ℕ). unwrap_or (option_or (first_listed n (drop n views)) (first_listed 0 views)) x) (let e : suc x ≡ x + 1 = omega arith in e)

-- a search finds no listed number, or one below the end
listed_or : (k : ℕ) (views : List ℕ) → (first_listed k views ≡ None) ⊎ ((r : ℕ) × (r < k + length views) × (first_listed k views ≡ Some r))
listed_or k [] = inl refl
listed_or k (view ∷ views) = by (eqb view 0) (listed_or (suc k) views)
  where
    by : (t : Bool) → (first_listed (suc k) views ≡ None) ⊎ ((r : ℕ) × (r < suc k + length views) × (first_listed (suc k) views ≡ Some r))
        → (cond t (first_listed (suc k) views) (Some k) ≡ None) ⊎ ((r : ℕ) × (r < k + suc (length views)) × (cond t (first_listed (suc k) views) (Some k) ≡ Some r))
    by true (inl none) = inl none
    by true (inr (r, low, found)) = inr (r, omega arith, found)
    by false rest = inr (k, omega arith, refl)

-- the search by which a silence takes a view to the next number, where 256 is no number
pub next_placed : (views : List ℕ) (x : ℕ) → length views ≡ 256 → x < 256
    → (above : ℕ) → above ≡ unwrap_or (option_or (first_listed (x + 1) (drop (x + 1) views)) (first_listed 0 views)) 256
    → (next (stations_from 0 views) x ≡ cond (ltb above 256) above x) × (next (stations_from 0 views) x < 256)
next_placed views x all small above e = by (listed_or 0 views) (listed_or (x + 1) (drop (x + 1) views))
  where
    told : (r : ℕ) → r < 256 → above ≡ r → next (stations_from 0 views) x ≡ r
        → (next (stations_from 0 views) x ≡ cond (ltb above 256) above x) × (next (stations_from 0 views) x < 256)
    told r low a n = (n ∙ rw (a, lt-ltb r 256 low), omega arith)

    by : ((first_listed 0 views ≡ None) ⊎ ((r : ℕ) × (r < 0 + length views) × (first_listed 0 views ≡ Some r)))
        → ((first_listed (x + 1) (drop (x + 1) views) ≡ None) ⊎ ((r : ℕ) × (r < (x + 1) + length (drop (x + 1) views)) × (first_listed (x + 1) (drop (x + 1) views) ≡ Some r)))
        → (next (stations_from 0 views) x ≡ cond (ltb above 256) above x) × (next (stations_from 0 views) x < 256)
    by first (inr (r, low, found)) = told r (omega (arith, low, length-drop (x + 1) views, all)) (e ∙ rw found) (next_found views x ∙ rw found)
    by (inr (s, low, found)) (inl none) = told s (omega (arith, low, all)) (e ∙ rw (none, found)) (next_found views x ∙ rw (none, found))
    by (inl nobody) (inl none) =
        let a : above ≡ 256 = e ∙ rw (none, nobody) in
        let n : next (stations_from 0 views) x ≡ x = next_found views x ∙ rw (none, nobody) in
        (n ∙ rw a, omega arith)

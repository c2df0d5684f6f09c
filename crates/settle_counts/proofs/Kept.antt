-- The counts that an event leaves are the counts of the ring that it leaves. Assumes nothing.
use Rattle.std.specs.Prelude.{◌≡◌, ◌∷◌, ◌<◌, ◌≤◌}
use Rattle.laws.specs.Usual.{[], refl, sym, ap, ◌∙◌, List, map, ℕ, min, arith, length, eqb}
use Rattle.std.proofs.Math.Decide.{ℕ_discrete, dec_lt}
use Rattle.std.proofs.lemmas.List.{length-map}
use Rattle.std.proofs.Math.ListN.{get_or-map, get_or-eq_default}
use Rattle.settling.specs.Ring.{◌∈◌, Event, Legal}
use Rattle.settle_views.specs.Views.{stations_of, views_of}
use Rattle.settle_views.specs.Listed.{few_stations}
use Rattle.settle_views.specs.Agreement.{of_map}
use Rattle.settle_views.specs.Proper.{Proper, station_view, view_station}
use Rattle.settle_views.specs.declared.Ring.{Ring}
use Rattle.settle_moves.specs.Moves.{each, view_after, moved}
use Rattle.settle_moves.specs.Moved.{moved_stations}
use Rattle.settle_moves.specs.Each.{each_same}
use Rattle.settle_counts.specs.Counts.{views_in, count_in, with_total, counts_of, sum_of, most, carried}
use Rattle.settle_counts.proofs.Carried.{count_most, count_carried}
use Rattle.settle_counts.specs.Carried.{Octets}

module _ {ring : Ring} (size : length ring.views ≡ 256) (p : Proper ring) where
  -- the stations of a ring of 256 numbers, and so its views, are octets
  station_octet : (x : ℕ) → x ∈ stations_of ring → x < 256
  station_octet x m = go (dec_lt x 256)
    where
      go : Dec (x < 256) → x < 256
      go (yes low) = low
      go (no high) = absurd (station_view ring x m (get_or-eq_default ring.views 0 {n = x} (omega arith)))

  views_octets : Octets (views_in ring)
  views_octets v m = let (x, i, e) = of_map (stations_of ring) (views_of ring) v m in omega (arith, station_octet (views_of ring x) (p.within x i), e)

  pub views_small : (x : ℕ) → views_of ring x < 256
  views_small x = go (ℕ_discrete (views_of ring x) 0)
    where
      go : Dec (views_of ring x ≡ 0) → views_of ring x < 256
      go (yes z) = omega arith
      go (no n) = station_octet (views_of ring x) (p.within x (view_station ring x n))

  -- an event that can come, in a ring with stations
  module _ (event : Event) (some : 0 < length (stations_of ring)) (can : Legal (stations_of ring) (views_of ring) event) where
    after : ℕ → ℕ
    after = view_after (stations_of ring) event

    -- every station's view goes where the event takes it
    views_moved : views_in (moved ring event) ≡ map after (views_in ring)
    unfolding after
    views_moved = ap (map (views_of (moved ring event))) (moved_stations event p some can) ∙ by (stations_of ring)
      where
        by : (ns : List ℕ) → map (views_of (moved ring event)) ns ≡ map after (map (views_of ring) ns)
        by [] = refl
        by (x ∷ ns) = λ i. get_or-map after ring.views x 0 i ∷ by ns i

    few : (to : ℕ) → count_in to (map after (views_in ring)) ≤ 256
    few to =
        omega (
          arith,
          count_most to (map after (views_in ring)),
          length-map (views_in ring) after,
          length-map (stations_of ring) (views_of ring),
          few_stations 0 ring.views,
          size,
        )

    -- "After each, every number is proved to be the count of stations with that view, and the total the count of numbers above 0."
    pub counts_kept : carried (view_after (stations_of ring) event) (counts_of ring) ≡ counts_of (moved ring event)
    unfolding after
    counts_kept = ap with_total (each_same _ _ 256 (λ to low. number to))
      where
        number : (to : ℕ) → min most (sum_of (λ view. eqb (after view) to) 0 (each (λ view. count_in view (views_in ring)) 0 256)) ≡ count_in to (views_in (moved ring event))
        number to =
            let sum = count_carried after to (views_in ring) views_octets in
            let same = ap (count_in to) (sym views_moved) in
            let small : min most (count_in to (map after (views_in ring))) ≡ count_in to (map after (views_in ring)) = omega (arith, few to) in
            ap (min most) sum ∙ small ∙ same

-- What an event does to a ring whose every view is one of its stations: what `move` does. Assumes nothing.
use Rattle.std.specs.Prelude.{◌≡◌, ◌<◌}
use Rattle.laws.specs.Usual.{refl, sym, ap, subst, ◌∙◌, List, ℕ, length}
use mathlib.Core.List.Memᴰ
use Rattle.std.proofs.Common.{ne_eqb}
use Rattle.std.proofs.Math.ListN.{get_or-map}
use Rattle.settling.specs.Ring.{◌∈◌, Views, Within, Event, pass, silence, move, Legal}
use Rattle.settling.specs.Same.{Same}
use Rattle.settling.proofs.Next.{laws_of}
use Rattle.settling.proofs.Moves.{within_stays}
use Rattle.settle_views.specs.Views.{stations_of, views_of}
use Rattle.settle_views.specs.Listed.{stations_kept, ascending}
use Rattle.settle_views.specs.Proper.{Proper, station_view, view_station, not_zero}
use Rattle.settle_views.specs.declared.Ring.{Ring}
use Rattle.settle_moves.specs.Moves.{view_after, moved}

-- what happens to one view is what `move` does to the views of all
after_move : (ns : List ℕ) (views : Views) (event : Event) (x : ℕ) → ¬ (views x ≡ 0) → view_after ns event (views x) ≡ move ns views event x
after_move ns views (pass from) x n = rw (ne_eqb (views x) 0 n)
after_move ns views silence x n = rw (ne_eqb (views x) 0 n)

-- an event that can come, in a ring with stations
module _ {ring : Ring} (event : Event) (p : Proper ring) (some : 0 < length (stations_of ring))
    (can : Legal (stations_of ring) (views_of ring) event) where
  inside : Within (stations_of ring) (move (stations_of ring) (views_of ring) event)
  inside = within_stays (laws_of (stations_of ring) (record { some = some; ascending = ascending ring.views })).2 (views_of ring) event p.within can

  -- the stations stay
  pub moved_stations : stations_of (moved ring event) ≡ stations_of ring
  moved_stations = stations_kept (view_after (stations_of ring) event) refl 0 ring.views other
    where
      other : (j : ℕ) → ¬ (views_of ring j ≡ 0) → ¬ (view_after (stations_of ring) event (views_of ring j) ≡ 0)
      other j n z =
          let m : j ∈ stations_of ring = view_station ring j n in
          not_zero p (move (stations_of ring) (views_of ring) event j) (inside j m) (sym (after_move (stations_of ring) (views_of ring) event j n) ∙ z)

  -- and their views are moved
  pub moved_views : Same (stations_of ring) (views_of (moved ring event)) (move (stations_of ring) (views_of ring) event)
  moved_views x m =
      get_or-map (view_after (stations_of ring) event) ring.views x 0
      ∙ after_move (stations_of ring) (views_of ring) event x (station_view ring x m)

  pub moved_proper : Proper (moved ring event)
  moved_proper = record {
    within = λ x m. subst (λ (ns : List ℕ). views_of (moved ring event) x ∈ ns) (sym moved_stations) (here x (subst (λ (ns : List ℕ). x ∈ ns) moved_stations m));
    nobody = get_or-map (view_after (stations_of ring) event) ring.views 0 0 ∙ ap (view_after (stations_of ring) event) p.nobody;
  }
    where
      here : (x : ℕ) → x ∈ stations_of ring → views_of (moved ring event) x ∈ stations_of ring
      here x m = Memᴰ.cast (moved_views x m) (inside x m)

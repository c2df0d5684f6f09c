-- The ring that is read has the stations of the lines, in their order, each with the view of its line; every view is one of them.
-- Assumes nothing.
use Rattle.std.specs.Prelude.{◌≡◌, ◌∷◌, ◌<◌, Option, None, Some, Result, Ok, Err}
use Rattle.laws.specs.Usual.{refl, ap, subst, ◌∙◌, Bool, true, false, cond, List, [], map, ℕ, suc, arith, length, set, eqb, ltb}
use Rattle.std.proofs.Common.{length-set}
use Rattle.std.proofs.lemmas.Bool.{eqb-false}
use Rattle.settle_views.specs.Views.{stations_of, views_of, unlisted_in}
use Rattle.settle_views.specs.declared.Ring.{Ring}
use Rattle.settle_input.specs.Input.{lines_of, station_in, view_in, bad, forms_from, forms_of, unlisted_of, listed_in, read_of}
use Rattle.settle_input.specs.declared.BadLine.{BadLine}
use Rattle.settle_input.specs.Filled.{no_views, Filled, filled_forms, forms_stations, unlisted_line}
use Rattle.settle_input.specs.Lines.{lines_first}

-- What was read, where a ring was read.
pub record Given (octets : List ℕ) (ring : Ring) : Type 0 where
  -- the stations of the lines, in their order, and the views of the lines
  pub stations : stations_of ring ≡ map station_in (lines_of octets)
  pub views : map (views_of ring) (stations_of ring) ≡ map view_in (lines_of octets)
  pub some : 0 < length (stations_of ring)
  pub size : length ring.views ≡ 256
  -- "every view a listed station", and no station 0: such a ring is settled
  pub listed : unlisted_in ring ≡ None
  pub nobody : views_of ring 0 ≡ 0

-- the tests that an answer with a ring has passed
record Passed (octets : List ℕ) (ring : Ring) : Type 0 where
  pub some : 0 < length octets
  pub forms : forms_of octets ≡ Ok ring
  pub listed : unlisted_of octets ≡ None

passed : (octets : List ℕ) (ring : Ring) → read_of octets ≡ Ok ring → Passed octets ring
passed octets ring e = go (eqb (length octets) 0) (forms_of octets) (unlisted_of octets) refl refl refl e
  where
    go : (s : Bool) (forms : Result Ring BadLine) (line : Option ℕ) → eqb (length octets) 0 ≡ s → forms_of octets ≡ forms → unlisted_of octets ≡ line
        → cond s (bad 0) (listed_in line forms) ≡ Ok ring → Passed octets ring
    go true forms line a b c e = absurd (cc)
    go false (Err number) line a b c e = absurd (cc)
    go false (Ok other) (Some line) a b c e = absurd (cc)
    go false (Ok other) None a b c e =
        let n = eqb-false (length octets) 0 a in
        record { some = omega arith; forms = b ∙ e; listed = c }

-- a ring has 256 numbers, whatever the lines
forms_size : (number below : ℕ) (views : List ℕ) (lines : List (List ℕ)) (ring : Ring) → length views ≡ 256
    → forms_from number below views lines ≡ Ok ring → length ring.views ≡ 256
unfolding forms_from
forms_size number below views [] ring all e = let same : record { views = views } ≡ ring = cc in subst (λ (r : Ring). length r.views ≡ 256) same all
forms_size number below views (line ∷ lines) ring all e =
    by (ltb below (station_in line)) (forms_size (suc number) (station_in line) (set views (station_in line) (view_in line)) lines ring (length-set views (station_in line) (view_in line) ∙ all)) e
  where
    more : Result Ring BadLine
    more = forms_from (suc number) (station_in line) (set views (station_in line) (view_in line)) lines

    by : (t : Bool) → (more ≡ Ok ring → length ring.views ≡ 256) → cond t more (bad number) ≡ Ok ring → length ring.views ≡ 256
    by true rest e = rest e
    by false rest e = absurd (cc)

pub ring_read : (octets : List ℕ) (ring : Ring) → read_of octets ≡ Ok ring → Given octets ring
ring_read octets ring e = record {
  stations = lines;
  views = ap (map (views_of ring)) lines ∙ f.views_same;
  some = rw lines (one_line octets p.some);
  size = forms_size 1 0 no_views (lines_of octets) ring refl p.forms;
  listed = unlisted_line octets ring p.forms ∙ p.listed;
  nobody = f.kept 0 (omega arith);
}
  where
    p : Passed octets ring
    p = passed octets ring e

    f : Filled 0 no_views (lines_of octets) ring
    f = filled_forms octets ring p.forms

    lines : stations_of ring ≡ map station_in (lines_of octets)
    lines = forms_stations octets ring p.forms

    one_line : (octets : List ℕ) → 0 < length octets → 0 < length (map station_in (lines_of octets))
    one_line octets h = rw (lines_first octets h) (omega arith)

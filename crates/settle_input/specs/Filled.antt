-- What the forms of all lines leave in the ring: the stations of the lines, in their order, and the views of the lines. Assumes nothing.
use Rattle.laws.specs.Usual.{refl, sym, ap, ap₂, subst, ◌∙◌, Bool, true, false, cond, List, [], map, ℕ, suc, arith, length, get_or, set, replicate, eqb}
use mathlib.Core.List.{append-nil, append_assoc, head-eq_of_cons-eq, tail-eq_of_cons-eq}
use Rattle.std.specs.Prelude.{◌≡◌, ◌∷◌, ◌++◌, ◌+◌, ◌<◌, ◌≤◌, zero, Option, Some, Ok}
use Rattle.std.proofs.Common.{add-zero, zero-add, eq-eqb, ne_eqb, lt-ltb, le-ltb, length-set}
use Rattle.std.proofs.Math.Decide.{dec_lt}
use Rattle.std.proofs.lemmas.List.{get_or-replicate}
use Rattle.std.proofs.Math.ListN.{get_or-eq_default}
use Rattle.std.proofs.Math.Seq.{get_or-set_same, get_or-set_other}
use Rattle.settle_views.specs.Views.{stations_from, stations_of, views_of, member, first_unlisted, unlisted_in}
use Rattle.settle_views.specs.Proper.{listed_member}
use Rattle.settle_views.specs.declared.Ring.{Ring}
use Rattle.text.specs.Lines.{comma, line_feed}
use Rattle.text_reading.specs.Marks.{up_to, behind}
use Rattle.settle_input.specs.Input.{lines_of, station_in, view_in, forms_from, forms_of, unlisted_from, unlisted_of}
use Rattle.settle_input.specs.Short.{number_in_lem, formed, station_most}

-- no station is listed from a place on
abbrev NoneFrom : List ℕ → ℕ → Type 0
NoneFrom views j = (i : ℕ) → j ≤ i → get_or views i 0 ≡ 0

no_stations : (k : ℕ) (views : List ℕ) → NoneFrom views 0 → stations_from k views ≡ []
no_stations k [] none = refl
no_stations k (view ∷ views) none =
    rw (eq-eqb view 0 (none 0 (omega arith))) (no_stations (suc k) views (λ i h. none (suc i) (omega arith)))

-- a station that is listed behind all others comes last
set_station : (k : ℕ) (views : List ℕ) (j view : ℕ) → ¬ (view ≡ 0) → j < length views → NoneFrom views j
    → stations_from k (set views j view) ≡ stations_from k views ++ ((k + j) ∷ [])
set_station k [] j view n h none = absurd (omega arith)
set_station k (x ∷ views) zero view n h none =
    rw (ne_eqb view 0 n, eq-eqb x 0 (none 0 (omega arith)), no_stations (suc k) views (λ i l. none (suc i) (omega arith)), add-zero k)
set_station k (x ∷ views) (suc j) view n h none =
    go (eqb x 0) (set_station (suc k) views j view n (omega arith) (λ i l. none (suc i) (omega arith)))
  where
    go : (t : Bool) → stations_from (suc k) (set views j view) ≡ stations_from (suc k) views ++ ((suc k + j) ∷ [])
        → cond t (stations_from (suc k) (set views j view)) (k ∷ stations_from (suc k) (set views j view))
        ≡ cond t (stations_from (suc k) views) (k ∷ stations_from (suc k) views) ++ ((k + suc j) ∷ [])
    go true e = e ∙ ap (λ (x : ℕ). stations_from (suc k) views ++ (x ∷ [])) (omega arith)
    go false e = ap (λ (l : List ℕ). k ∷ l) (e ∙ ap (λ (x : ℕ). stations_from (suc k) views ++ (x ∷ [])) (omega arith))

-- what the forms of some lines leave in the ring
pub record Filled (below : ℕ) (views : List ℕ) (lines : List (List ℕ)) (ring : Ring) : Type 0 where
  pub stations : stations_of ring ≡ stations_from 0 views ++ map station_in lines
  pub views_same : map (views_of ring) (map station_in lines) ≡ map view_in lines
  pub kept : (x : ℕ) → x ≤ below → views_of ring x ≡ get_or views x 0

-- the views with those of one line more
module _ (below : ℕ) (views line : List ℕ) (all : length views ≡ 256) (none : NoneFrom views (suc below)) (high : below < station_in line) where
  with_line : List ℕ
  with_line = set views (station_in line) (view_in line)

  inside : station_in line < length views
  inside = omega (arith, station_most line)

  a_view : ¬ (view_in line ≡ 0)
  a_view z = let f = formed line (λ e. omega arith) in omega (arith, (number_in_lem (up_to line_feed (behind comma line)) (view_in line) f.view_is).1)

  none_with : NoneFrom with_line (suc (station_in line))
  unfolding with_line
  none_with i h = get_or-set_other views (station_in line) i (view_in line) 0 (λ e. omega arith) ∙ none i (omega arith)

  filled_more : (lines : List (List ℕ)) (ring : Ring) → Filled (station_in line) with_line lines ring → Filled below views (line ∷ lines) ring
  unfolding with_line
  filled_more lines ring f = record {
    stations = f.stations ∙ ap (λ (l : List ℕ). l ++ map station_in lines) last ∙ append_assoc (stations_from 0 views) (station_in line ∷ []) (map station_in lines);
    views_same = ap₂ ◌∷◌ (f.kept (station_in line) (omega arith) ∙ get_or-set_same views (station_in line) (view_in line) 0 inside) f.views_same;
    kept = λ x h. f.kept x (omega arith) ∙ get_or-set_other views (station_in line) x (view_in line) 0 (λ e. omega arith);
  }
    where
      last : stations_from 0 (set views (station_in line) (view_in line)) ≡ stations_from 0 views ++ (station_in line ∷ [])
      last =
          set_station 0 views (station_in line) (view_in line) a_view inside (λ i h. none i (omega arith))
          ∙ ap (λ (x : ℕ). stations_from 0 views ++ (x ∷ [])) (zero-add (station_in line))

filled : (number below : ℕ) (views : List ℕ) (lines : List (List ℕ)) (ring : Ring) → length views ≡ 256 → NoneFrom views (suc below)
    → forms_from number below views lines ≡ Ok ring → Filled below views lines ring
unfolding forms_from with_line
filled number below views [] ring all none e =
    let same : record { views = views } ≡ ring = cc in
    subst (Filled below views []) same (record { stations = sym (append-nil (stations_from 0 views)); views_same = refl; kept = λ x h. refl })
filled number below views (line ∷ lines) ring all none e =
    go (dec_lt below (station_in line)) (filled (suc number) (station_in line) (set views (station_in line) (view_in line)) lines ring)
  where
    go : Dec (below < station_in line)
        → (length (set views (station_in line) (view_in line)) ≡ 256 → NoneFrom (set views (station_in line) (view_in line)) (suc (station_in line))
        → forms_from (suc number) (station_in line) (set views (station_in line) (view_in line)) lines ≡ Ok ring
        → Filled (station_in line) (set views (station_in line) (view_in line)) lines ring)
        → Filled below views (line ∷ lines) ring
    go (yes high) rest =
        filled_more below views line all none high lines ring
        (rest (length-set views (station_in line) (view_in line) ∙ all) (none_with below views line all none high) (rw (lt-ltb below (station_in line) high) at e))
    go (no low) rest = let z = rw (le-ltb below (station_in line) (omega arith)) at e in absurd (cc)

abbrev pub no_views : List ℕ
no_views = replicate 256 0

pub zeros : NoneFrom no_views 0
zeros i h = go (dec_lt i 256)
  where
    go : Dec (i < 256) → get_or no_views i 0 ≡ 0
    go (yes l) = get_or-replicate 256 i 0 0 l
    go (no l) = get_or-eq_default no_views 0 {n = i} (omega arith)

module _ (octets : List ℕ) (ring : Ring) (e : forms_of octets ≡ Ok ring) where
  pub filled_forms : Filled 0 no_views (lines_of octets) ring
  filled_forms = filled 1 0 no_views (lines_of octets) ring refl (λ i h. zeros i (omega arith)) e

  pub forms_stations : stations_of ring ≡ map station_in (lines_of octets)
  forms_stations = filled_forms.stations ∙ ap (λ (l : List ℕ). l ++ map station_in (lines_of octets)) (no_stations 0 no_views zeros)

-- a search over the stations of the ring names the line that a search over the lines names
same_line : (ring : Ring) (number : ℕ) (lines : List (List ℕ)) → map (views_of ring) (map station_in lines) ≡ map view_in lines
    → first_unlisted (views_of ring) number (map station_in lines) ≡ unlisted_from (stations_of ring) number lines
same_line ring number [] e = refl
same_line ring number (line ∷ lines) e =
    rw (listed_member ring (views_of ring (station_in line)), head-eq_of_cons-eq e)
    (ap (λ (rest : Option ℕ). cond (member (view_in line) (stations_of ring)) rest (Some number)) (same_line ring (suc number) lines (tail-eq_of_cons-eq e)))

pub unlisted_line : (octets : List ℕ) (ring : Ring) → forms_of octets ≡ Ok ring → unlisted_in ring ≡ unlisted_of octets
unlisted_line octets ring e =
    let stations = forms_stations octets ring e in
    ap (first_unlisted (views_of ring) 1) stations
    ∙ same_line ring 1 (lines_of octets) (filled_forms octets ring e).views_same
    ∙ ap (λ (ns : List ℕ). unlisted_from ns 1 (lines_of octets)) stations

-- The run that `settle` makes is a run of the ring of views; it stops at the first agreement, and at no other place; and it has at most
-- as many steps as the theory of settling says. Assumes nothing.
use Rattle.laws.specs.Usual.{[], refl, sym, ap, subst, ◌∙◌, Bool, true, false, cond, List, ℕ, suc, arith, length, eqb}
use Rattle.std.specs.Prelude.{Option, Some, None, is_none, ◌≡◌, ◌∷◌, ◌+◌, ◌*◌, ◌<◌, ◌≤◌, ◌⊎◌, zero}
use Rattle.std.proofs.Common.{inl, inr, append-nil, mul-suc, suc-mul, leb-true, leb-false, eqb-true}
use Rattle.std.proofs.Math.Decide.{dec_lt}
use Rattle.laws.specs.Tests.{first, second}
use Rattle.settling.specs.Steps.{after_all}
use Rattle.settling.specs.Ring.{◌∈◌, Views, Agreed, Event, move, Legal, Run, views_after, passes, silences}
use Rattle.settling.specs.Runs.{Differing}
use Rattle.settling.proofs.Same.{same_sym, same_run, same_differing, same_agreed, same_after}
use Rattle.settling.specs.Same.{Same}
use Rattle.settling.specs.First.{FirstAgreement}
use Rattle.settling.specs.Settling.{Settles}
use Rattle.settling.proofs.Settling.{settles, square}
use Rattle.settle_moves.specs.Moved.{moved_stations, moved_views, moved_proper}
use Rattle.settle_moves.specs.Moves.{moved}
use Rattle.settle_views.specs.Views.{stations_of, views_of, different_views, unlisted_in}
use Rattle.settle_views.specs.Listed.{ascending}
use Rattle.settle_views.specs.Agreement.{one_agreed, agreed_one, some_view}
use Rattle.settle_views.specs.Proper.{Proper, proper}
use Rattle.settle_views.specs.declared.Ring.{Ring}
use Rattle.settle_run.specs.Run.{event_in, agreed_in, run_from, is_ring, limit_of, run_of, settled_of, Bounded}
use Rattle.settle_run.proofs.Holders.{step_legal}
use Rattle.settle_run.specs.Whole.{Made, Whole, steps, steps_from}

pub differs : (ring : Ring) → agreed_in ring ≡ false → ¬ Agreed (stations_of ring) (views_of ring)
differs ring e a =
    omega (arith, leb-false (different_views (stations_of ring) (views_of ring)) 1 e, agreed_one (stations_of ring) (views_of ring) a)

-- where views differ there is a station
pub some_station : (ns : List ℕ) (views : Views) → ¬ Agreed ns views → 0 < length ns
some_station [] views n = absurd (n (λ x y m. elim m [ ]))
some_station (x ∷ ns) views n = omega arith

some_in : (ns : List ℕ) (x : ℕ) → x ∈ ns → 0 < length ns
some_in (y ∷ ns) x m = omega arith
some_in [] x m = elim m [ ]

-- one event, and what is made from the ring after it
module _ {left : ℕ} {ring : Ring} (event : Event) {events : List Event} (p : Proper ring) (n : ¬ Agreed (stations_of ring) (views_of ring))
    (can : Legal (stations_of ring) (views_of ring) event) (rest : Made left (moved ring event) events) where
  some : 0 < length (stations_of ring)
  some = some_station (stations_of ring) (views_of ring) n

  stay : stations_of (moved ring event) ≡ stations_of ring
  stay = moved_stations event p some can

  after : Same (stations_of ring) (views_of (moved ring event)) (move (stations_of ring) (views_of ring) event)
  after = moved_views event p some can

  made_more : Made (suc left) ring (event ∷ events)
  made_more = record {
    run = (can, same_run events after (subst (λ (ns : List ℕ). Run ns (views_of (moved ring event)) events) stay rest.run));
    differing = (n, same_differing events after (subst (λ (ns : List ℕ). Differing ns (views_of (moved ring event)) events) stay rest.differing));
    ends = by rest.ends;
    stations = rest.stations ∙ stay;
    views = λ x m. subst (λ (ns : List ℕ). Same ns (views_of (after_all moved ring (event ∷ events))) (views_after ns (views_of (moved ring event)) events)) stay rest.views x m ∙ same_after events after x m;
  }
    where
      by : (length events ≡ left) ⊎ Agreed (stations_of (moved ring event)) (views_after (stations_of (moved ring event)) (views_of (moved ring event)) events)
          → (length (event ∷ events) ≡ suc left) ⊎ Agreed (stations_of ring) (views_after (stations_of ring) (views_of ring) (event ∷ events))
      by (inl e) = inl (ap suc e)
      by (inr a) =
          inr (same_agreed (same_after events after)
          (subst (λ (ns : List ℕ). Agreed ns (views_after ns (views_of (moved ring event)) events)) stay a))

made : (left : ℕ) (ring : Ring) → Proper ring → Made left ring (run_from left ring)
unfolding run_from
made zero ring p = record { run = tt; differing = tt; ends = inl refl; stations = refl; views = λ x m. refl }
made (suc left) ring p = go (agreed_in ring) refl (made left (moved ring (event_in ring)))
  where
    go : (t : Bool) → agreed_in ring ≡ t
        → (Proper (moved ring (event_in ring)) → Made left (moved ring (event_in ring)) (run_from left (moved ring (event_in ring))))
        → Made (suc left) ring (cond t [] (event_in ring ∷ run_from left (moved ring (event_in ring))))
    go true e rest = record {
      run = tt;
      differing = tt;
      ends = inr (one_agreed (stations_of ring) (views_of ring) (leb-true _ _ e));
      stations = refl;
      views = λ x m. refl;
    }
    go false e rest =
        let n = differs ring e in
        let can = step_legal (views_of ring) (stations_of ring) in
        let some = some_station (stations_of ring) (views_of ring) n in
        made_more (event_in ring) p n can (rest (moved_proper (event_in ring) p some can))

-- n×n is more than n(n-1)/2 and 2n-3 together
square_more : (n : ℕ) → 3 * n ≤ n * n + 2
square_more zero = omega arith
square_more (suc zero) = omega arith
square_more (suc (suc n)) = omega (arith, suc-mul (suc n) (suc (suc n)), suc-mul n (suc (suc n)), mul-suc n (suc n), mul-suc n n)

none_there : (line : Option ℕ) → is_none line ≡ true → line ≡ None
none_there None e = refl
none_there (Some line) e = absurd (cc)

pub proper_ring : (ring : Ring) → is_ring ring ≡ true → Proper ring
proper_ring ring e =
    proper ring (none_there _ (first (is_none (unlisted_in ring)) (eqb (views_of ring 0) 0) e))
    (eqb-true _ _ (second (is_none (unlisted_in ring)) (eqb (views_of ring 0) 0) e))

module _ (ring : Ring) (is : is_ring ring ≡ true) where
  n : ℕ
  n = length (stations_of ring)

  given : limit_of ring ≡ n * n
  unfolding n
  given = rw is

  whole : Made (limit_of ring) ring (run_of ring)
  whole = made (limit_of ring) ring (proper_ring ring is)

  stops : FirstAgreement (move (stations_of ring)) (Agreed (stations_of ring)) (views_of ring) (run_of ring) (run_of ring) []
  stops = record { split = sym (append-nil (run_of ring)); differing = whole.differing; reached = inl refl }

  pub settle_bounds : 0 < length (stations_of ring) → Settles (stations_of ring) (views_of ring) (run_of ring) []
  settle_bounds some = settles (record { some = some; ascending = ascending ring.views }) (proper_ring ring is).within whole.run stops

  -- the steps that are given are more than the views can differ for
  not_all : 0 < length (stations_of ring) → ¬ (length (run_of ring) ≡ limit_of ring)
  unfolding n
  not_all some e = go (dec_lt 1 n) (settle_bounds some)
    where
      go : Dec (1 < n) → Settles (stations_of ring) (views_of ring) (run_of ring) [] → ⊥
      go (yes h) b = omega (arith, e, given, steps (run_of ring), square n, square_more n, b.passes_sharp, b.silences_sharp h)
      go (no h) b =
          let one : n ≡ 1 = omega arith in
          omega (arith, e, given, ap (λ (k : ℕ). k * k) one, steps (run_of ring), square n, b.passes_sharp, b.silences_alone one)

  pub settled_run : Whole ring
  settled_run = record {
    run = whole.run;
    first = stops;
    agreed = λ x y m k. ends (some_in (stations_of ring) x m) whole.ends x y m k;
    stations = whole.stations;
    views = whole.views;
  }
    where
      ends : 0 < length (stations_of ring)
          → (length (run_of ring) ≡ limit_of ring) ⊎ Agreed (stations_of ring) (views_after (stations_of ring) (views_of ring) (run_of ring))
          → Agreed (stations_of ring) (views_after (stations_of ring) (views_of ring) (run_of ring))
      ends here (inl e) = absurd (not_all here e)
      ends here (inr a) = a

-- any other value makes no step
no_steps : (ring : Ring) → limit_of ring ≡ 0 → run_of ring ≡ []
unfolding run_from
no_steps ring e = ap (λ (left : ℕ). run_from left ring) e

-- so the bounds hold of every value of a ring
pub settled_bounded : (ring : Ring) → Bounded (length (stations_of ring)) (settled_of ring)
settled_bounded ring = go (is_ring ring) refl (dec_lt 0 (length (stations_of ring)))
  where
    none : limit_of ring ≡ 0 → Bounded (length (stations_of ring)) (settled_of ring)
    none e = record {
      passes_loose = omega (arith, ap passes (no_steps ring e));
      silences_loose = omega (arith, ap silences (no_steps ring e));
      passes_sharp = omega (arith, ap passes (no_steps ring e));
      silences_sharp = λ h. omega (arith, ap silences (no_steps ring e));
      silences_alone = λ h. ap silences (no_steps ring e);
    }

    go : (t : Bool) → is_ring ring ≡ t → Dec (0 < length (stations_of ring)) → Bounded (length (stations_of ring)) (settled_of ring)
    go false e d = none (rw e)
    go true e (no h) =
        let zero_stations : length (stations_of ring) ≡ 0 = omega arith in
        none (rw (e, zero_stations))
    go true e (yes h) =
        let b = settle_bounds ring e h in
        record {
          passes_loose = b.passes_loose;
          silences_loose = b.silences_loose;
          passes_sharp = b.passes_sharp;
          silences_sharp = b.silences_sharp;
          silences_alone = λ small. b.silences_alone (omega arith);
        }

-- at the end all stations have one view
pub settled_views : (ring : Ring) → is_ring ring ≡ true → 0 < length (stations_of ring) → (settled_of ring).views ≡ 1
settled_views ring is some =
    let w = settled_run ring is in
    let last = after_all moved ring (run_of ring) in
    let agreed : Agreed (stations_of last) (views_of last) =
    subst (λ (ns : List ℕ). Agreed ns (views_of last)) (sym w.stations) (same_agreed (same_sym w.views) w.agreed) in
    omega (
      arith,
      agreed_one (stations_of last) (views_of last) agreed,
      some_view (stations_of last) (views_of last) (subst (λ (ns : List ℕ). 0 < length ns) (sym w.stations) some),
    )

run_steps : (left : ℕ) (ring : Ring) → steps_from (length (run_from left ring)) ring ≡ run_from left ring
unfolding run_from steps_from
run_steps zero ring = refl
run_steps (suc left) ring = go (agreed_in ring) (run_steps left (moved ring (event_in ring)))
  where
    go : (t : Bool)
        → steps_from (length (run_from left (moved ring (event_in ring)))) (moved ring (event_in ring)) ≡ run_from left (moved ring (event_in ring))
        → steps_from (length (cond t [] (event_in ring ∷ run_from left (moved ring (event_in ring))))) ring
        ≡ cond t [] (event_in ring ∷ run_from left (moved ring (event_in ring)))
    go true e = refl
    go false e = ap (λ (events : List Event). event_in ring ∷ events) e

-- as many steps as both counts say are the whole run
pub printed_steps : (ring : Ring) → steps_from ((settled_of ring).passes + (settled_of ring).silences) ring ≡ run_of ring
printed_steps ring = ap (λ (k : ℕ). steps_from k ring) (sym (steps (run_of ring))) ∙ run_steps (limit_of ring) ring

-- What is proved of the definitions in specs/Counted.antt.
use Rattle.std.specs.Prelude.{◌≡◌, ◌∷◌, ◌+◌, ◌-◌, ◌*◌, ◌<◌, ◌≤◌}
use Rattle.laws.specs.Usual.{[], refl, sym, ap, subst, ◌∙◌, Bool, true, false, cond, false≢true, List, ℕ, suc, min, arith, length, get_or, leb}
use Prim.Native.Nat.{zero}
use Rattle.std.proofs.Common.{mul-le-mul_left, zero-add, ne_eqb}
use Rattle.std.proofs.lemmas.List.{length-map}
use Rattle.settling.specs.Steps.{after_all}
use Rattle.settling.specs.Ring.{Event, pass, silence, Legal, passes, silences}
use Rattle.settle_views.specs.Views.{ring_with, stations_of, views_of, different_views}
use Rattle.settle_views.specs.Listed.{few_stations}
use Rattle.settle_views.specs.declared.Ring.{Ring}
use Rattle.settle_moves.specs.Moves.{view_after, moved}
use Rattle.settle_moves.specs.Moved.{moved_stations, moved_proper}
use Rattle.settle_moves.specs.Each.{at_each}
use Rattle.settle_counts.specs.Counts.{views_in, count_in, above_zero, carried}
use Rattle.settle_counts.proofs.Kept.{views_small, counts_kept}
use Rattle.settle_counts.proofs.Total.{total_different}
use Rattle.settle_counts.specs.declared.Counts.{Counts}
use Rattle.settle_run.specs.declared.Running.{Running}
use Rattle.settle_run.specs.declared.Settled.{Settled}
use Rattle.settle_run.specs.declared.Stepped.{Stepped}
use Rattle.settle_run.specs.Run.{event_in, stepped_by, stepped_of, agreed_in, run_from, is_ring, limit_of, run_of, settled_of}
use Rattle.settle_run.specs.Running.{numbers_after, added, running_of, running_in, has_ended, next_step, onward, end_from}
use Rattle.settle_run.proofs.Holders.{step_legal}
use Rattle.settle_run.proofs.Whole.{differs, some_station, proper_ring}
use Rattle.settle_run.specs.Whole.{steps_from}
use Rattle.settle_run.specs.Counted.{Held, running_after, RightCounts, totals_with}

-- the total after a step, whatever its kind
step_views : (settled : Settled) (ring : Ring) (views : ℕ) (event : Event) → (added settled (stepped_by ring views event)).views ≡ views
step_views settled ring views (pass from) = refl
step_views settled ring views silence = refl

-- every ring that an input can give starts so
pub held_start : (ring : Ring) → length ring.views ≡ 256 → is_ring ring ≡ true → Held (running_of ring)
held_start ring size is = record { size = size; proper = proper_ring ring is; counts = refl }

module _ {running : Running} (h : Held running) where
  -- the total is the number of different views
  pub held_total : running.settled.views ≡ different_views (stations_of running.ring) (views_of running.ring)
  held_total = ap (λ (c : Counts). c.total) h.counts ∙ total_different running.ring (views_small h.size h.proper)

  pub held_agreed : leb running.settled.views 1 ≡ agreed_in running.ring
  held_agreed = ap (λ (n : ℕ). leb n 1) held_total

  module _ (some : 0 < length (stations_of running.ring)) where
    can : Legal (stations_of running.ring) (views_of running.ring) (event_in running.ring)
    can = step_legal (views_of running.ring) (stations_of running.ring)

    -- one step more: the counts after it are those of the ring after it
    pub held_onward : Held (onward running)
    held_onward = record {
      size = length-map running.ring.views (view_after (stations_of running.ring) (event_in running.ring)) ∙ h.size;
      proper = moved_proper (event_in running.ring) h.proper some can;
      counts = ap (λ (n : ℕ). record { numbers = numbers_after running.ring running.numbers; total = n }) (step_views running.settled running.ring (above_zero (numbers_after running.ring running.numbers)) (event_in running.ring))
          ∙ ap (carried (view_after (stations_of running.ring) (event_in running.ring))) h.counts
          ∙ counts_kept h.size h.proper (event_in running.ring) some can;
    }

    pub held_some : 0 < length (stations_of (onward running).ring)
    held_some = subst (λ (ns : List ℕ). 0 < length ns) (sym (moved_stations (event_in running.ring) h.proper some can)) some

-- so the step that it makes is that of the definition
pub held_step : {running : Running} → Held running → 0 < length (stations_of running.ring) → next_step running ≡ stepped_of running.ring
held_step {running} h some =
    let ring = running.ring in
    ap (λ (n : ℕ). stepped_by ring n (event_in ring))
    (sym (step_views running.settled ring (above_zero (numbers_after ring running.numbers)) (event_in ring)) ∙ held_total (held_onward h some))

held_after : (steps : ℕ) (running : Running) → Held running → 0 < length (stations_of running.ring) → Held (running_after steps running)
held_after zero running h some = h
held_after (suc steps) running h some = held_after steps (onward running) (held_onward h some) (held_some h some)

right_counts : {running : Running} → Held running → RightCounts running.ring running
right_counts {running} h = record {
  at = refl;
  number = λ view low. ap (λ (c : Counts). get_or c.numbers view 0) h.counts ∙ at_each (λ v. count_in v (views_in running.ring)) 256 view low;
  total = ap (λ (c : Counts). c.total) h.counts ∙ ap (λ (c : Counts). above_zero c.numbers) (sym h.counts);
  different = held_total h;
}

-- the ring that it is at after so many steps is the one that the definition's steps leave
ring_after : (steps : ℕ) (running : Running) → (running_after steps running).ring ≡ after_all moved running.ring (steps_from steps running.ring)
unfolding steps_from
ring_after zero running = refl
ring_after (suc steps) running = ring_after steps (onward running)

-- "After each" step of the run of a ring, however many, it is at the ring that these steps leave, with the counts of that ring.
pub counts_run : (ring : Ring) → length ring.views ≡ 256 → is_ring ring ≡ true → 0 < length (stations_of ring)
    → (steps : ℕ) → RightCounts (after_all moved ring (steps_from steps ring)) (running_after steps (running_of ring))
counts_run ring size is some steps =
    subst (λ (last : Ring). RightCounts last (running_after steps (running_of ring))) (ring_after steps (running_of ring))
    (right_counts (held_after steps (running_of ring) (held_start ring size is) some))

-- a run whose parts were advanced by a step is the run after it
pub advanced : (running : Running) {views numbers : List ℕ} {stepped : Stepped} {settled : Settled} {left : ℕ}
    → (stepped ≡ next_step running) × ((ring_with views ≡ moved running.ring (event_in running.ring)) × (numbers ≡ numbers_after running.ring running.numbers))
    → settled ≡ added running.settled stepped → left ≡ running.left - 1 → running_in views numbers settled left ≡ onward running
advanced running (made, (ring, numbers)) settled left =
    λ i. record { ring = ring i; numbers = numbers i; settled = (settled ∙ ap (added running.settled) made) i; left = left i }

-- a run that is not over has a step left, and goes on
pub some_left : (settled : Settled) (left : ℕ) → has_ended settled left ≡ false → 1 ≤ left
some_left settled zero e = absurd (false≢true (sym e))
some_left settled (suc left) e = omega arith

module _ (running : Running) where
  pub end_more : (left : ℕ) → has_ended running.settled left ≡ false → end_from left running ≡ end_from (left - 1) (onward running)
  unfolding end_from
  end_more zero e = absurd (false≢true (sym e))
  end_more (suc left) e =
      let differ : leb running.settled.views 1 ≡ false = rw (ne_eqb (suc left) 0 (λ z. omega arith)) at e in
      let less : suc left - 1 ≡ left = omega arith in
      rw (less, differ)

  pub end_over : (left : ℕ) → has_ended running.settled left ≡ true → end_from left running ≡ running.settled
  unfolding end_from
  end_over zero e = refl
  end_over (suc left) e =
      let same : leb running.settled.views 1 ≡ true = rw (ne_eqb (suc left) 0 (λ z. omega arith)) at e in
      rw same

-- one event more
step_more : (settled : Settled) (ring last : Ring) (views left : ℕ) (event : Event) (events : List Event) → settled.passes + settled.silences + suc left ≤ 65536
    → (totals_with (added settled (stepped_by ring views event)) events last ≡ totals_with settled (event ∷ events) last)
    × ((added settled (stepped_by ring views event)).passes + (added settled (stepped_by ring views event)).silences + left ≤ 65536)
step_more settled ring last views left (pass x) events few =
    let more : min 4294967295 (settled.passes + 1) + passes events ≡ settled.passes + suc (passes events) = omega arith in
    (ap (λ (n : ℕ). record { passes = n; silences = settled.silences + silences events; views = different_views (stations_of last) (views_of last) }) more, omega arith)
step_more settled ring last views left silence events few =
    let more : min 4294967295 (settled.silences + 1) + silences events ≡ settled.silences + suc (silences events) = omega arith in
    (ap (λ (n : ℕ). record { passes = settled.passes + passes events; silences = n; views = different_views (stations_of last) (views_of last) }) more, omega arith)

-- a run that makes no step more
ended : {running : Running} → Held running → running.settled ≡ totals_with running.settled [] running.ring
ended {running} h =
    let p : running.settled.passes ≡ running.settled.passes + 0 = omega arith in
    let s : running.settled.silences ≡ running.settled.silences + 0 = omega arith in
    λ i. record { passes = p i; silences = s i; views = held_total h i }

-- a ring of 256 numbers is given at most 256×256 steps
pub square_most : (ring : Ring) → length ring.views ≡ 256 → length (stations_of ring) * length (stations_of ring) ≤ 65536
square_most ring all =
    let n = length (stations_of ring) in
    let small : n ≤ 256 = omega (arith, few_stations 0 ring.views) in
    omega (arith, mul-le-mul_left n small)

-- where a run ends is where the definition's run ends
ends : (left : ℕ) (running : Running) → Held running → running.settled.passes + running.settled.silences + left ≤ 65536
    → end_from left running ≡ totals_with running.settled (run_from left running.ring) (after_all moved running.ring (run_from left running.ring))
unfolding end_from run_from
ends zero running h few = ended h
ends (suc left) running h few = go (agreed_in running.ring) refl (ends left (onward running))
  where
    ring : Ring
    ring = running.ring

    next : Ring
    next = moved ring (event_in ring)

    go : (t : Bool) → agreed_in ring ≡ t
        → (Held (onward running) → (onward running).settled.passes + (onward running).settled.silences + left ≤ 65536
        → end_from left (onward running) ≡ totals_with (onward running).settled (run_from left next) (after_all moved next (run_from left next)))
        → cond (leb running.settled.views 1) running.settled (end_from left (onward running))
        ≡ totals_with running.settled (cond t [] (event_in ring ∷ run_from left next)) (after_all moved ring (cond t [] (event_in ring ∷ run_from left next)))
    go true e rest = rw (held_agreed h, e) (ended h)
    go false e rest =
        let some = some_station (stations_of ring) (views_of ring) (differs ring e) in
        let (same, fewer) = step_more running.settled ring (after_all moved next (run_from left next)) (above_zero (numbers_after ring running.numbers)) left (event_in ring) (run_from left next) few in
        rw (held_agreed h, e) (rest (held_onward h some) fewer ∙ same)

-- so from the start, of every value of a ring
pub run_ends : (ring : Ring) → length ring.views ≡ 256 → ((x : ℕ) → views_of ring x < 256) → end_from (limit_of ring) (running_of ring) ≡ settled_of ring
unfolding end_from run_from
run_ends ring size octets = go (is_ring ring) refl
  where
    go : (t : Bool) → is_ring ring ≡ t → end_from (limit_of ring) (running_of ring) ≡ settled_of ring
    go true is =
        let limit : limit_of ring ≡ length (stations_of ring) * length (stations_of ring) = rw is in
        ends (limit_of ring) (running_of ring) (held_start ring size is) (omega (arith, limit, square_most ring size))
        ∙ (λ i. record { passes = zero-add (passes (run_of ring)) i; silences = zero-add (silences (run_of ring)) i; views = (settled_of ring).views })
    go false is =
        let none : limit_of ring ≡ 0 = rw is in
        rw none (ap (λ (n : ℕ). record { passes = 0; silences = 0; views = n }) (total_different ring octets))

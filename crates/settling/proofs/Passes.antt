-- How many passes can come before the views agree: at most n(n - 1)/2.
use Rattle.laws.specs.Usual.{[], sym, ap, ◌∙◌, List, ℕ, suc, arith, length}
use Rattle.std.specs.Prelude.{◌≡◌, ◌∷◌, ◌+◌, ◌*◌, ◌<◌, ◌≤◌, ◌⊎◌}
use Rattle.std.proofs.Common.{inl, inr}
use Rattle.std.proofs.Math.Decide.{dec_le, dec_lt}
use Rattle.settling.specs.Ring.{◌∈◌, Ascending, next, Views, Within, Event, pass, silence, view_after_pass, move, Legal, passes}
use Rattle.settling.specs.Next.{NextLaws}
use Rattle.settling.specs.Count.{only, tally}
use Rattle.settling.proofs.Count.{only_yes, only_le, tally_yes, tally_no, tally_most, tally_le, sum_le, sum_lt}
use Rattle.settling.specs.Moves.{PassCase}
use Rattle.settling.proofs.Moves.{pass_case, pass_from, wrapped, next_le}
use Rattle.settling.specs.Runs.{Unsettled}
use Rattle.settling.proofs.Runs.{onward, last_or_inner}
use Rattle.settling.specs.PassesLeft.{Waits, waits?, Leads, leads?, Apart, apart?, apart, station_left, inner?, left}
use Rattle.settling.proofs.PassesLeft.{pairs, left_most}

-- equal views stay equal, so that an event puts no station apart from another
apart_kept : (ns : List ℕ) (smallest : ℕ) (views : Views) (event : Event) (i k : ℕ)
    → Apart smallest (move ns views event) i k → Apart smallest views i k
apart_kept ns smallest views (pass x) i k p = (p.0, (p.1.0, λ e. p.1.1 (ap (view_after_pass ns x) e)))
apart_kept ns smallest views silence i k p = (p.0, (p.1.0, λ e. p.1.1 (ap (next ns) e)))

apart_falls : (ns : List ℕ) (smallest : ℕ) (views : Views) (event : Event) (i : ℕ)
    → apart ns smallest (move ns views event) i ≤ apart ns smallest views i
unfolding apart
apart_falls ns smallest views event i =
    sum_le _ _ ns (λ k m. tally_le (apart? smallest (move ns views event) i k) (apart? smallest views i k) (apart_kept ns smallest views event i k))

-- a station with no more left to do makes the count no larger
left_at : (ns : List ℕ) (smallest largest : ℕ) (old new : Views) (i : ℕ) → station_left ns smallest new i ≤ station_left ns smallest old i
    → only (inner? smallest largest i) (station_left ns smallest new i) ≤ only (inner? smallest largest i) (station_left ns smallest old i)
left_at ns smallest largest old new i h =
    only_le (inner? smallest largest i) (inner? smallest largest i) (station_left ns smallest new i) (station_left ns smallest old i) (λ p. p) (λ p. h)

module _ {ns : List ℕ} {smallest largest : ℕ} (laws : NextLaws ns (next ns) smallest largest) where
  -- a pass by a station x that is neither the smallest nor the largest
  module _ (views : Views) (w : Within ns views) (x : ℕ) (m : x ∈ ns) (holds : views x ≡ x) (low : smallest < x) (high : x < largest) where
    abbrev moved : Views
    moved = move ns views (pass x)

    up : x < next ns x
    up = laws.up x high

    case_of : (y : ℕ) → y ∈ ns → PassCase ns x (views y)
    case_of y k = pass_case laws x (views y) high (w y k)

    leads_falls : (i : ℕ) → i ∈ ns → tally (leads? smallest moved i) ≤ tally (leads? smallest views i)
    leads_falls i k = tally_le (leads? smallest moved i) (leads? smallest views i) (go (case_of smallest laws.smallest_in) (case_of i k))
      where
        go : PassCase ns x (views smallest) → PassCase ns x (views i) → Leads smallest moved i → Leads smallest views i
        go (inl a) (inl b) p = omega arith
        go (inl a) (inr b) p = omega arith
        go (inr a) (inl b) p = absurd (omega (arith, up))
        go (inr a) (inr b) p = absurd (omega arith)

    waits_falls : (i : ℕ) → i ∈ ns → (views i < x) ⊎ (views i ≤ i) → tally (waits? smallest moved i) ≤ tally (waits? smallest views i)
    waits_falls i k h = tally_le (waits? smallest moved i) (waits? smallest views i) (go h (case_of smallest laws.smallest_in) (case_of i k))
      where
        go : (views i < x) ⊎ (views i ≤ i) → PassCase ns x (views smallest) → PassCase ns x (views i)
            → Waits smallest moved i → Waits smallest views i
        go h (inl a) (inl b) p = omega arith
        go h (inr a) (inl b) p = omega arith
        go (inl h) a (inr b) p = absurd (omega arith)
        go (inr h) a (inr b) p = omega arith

    -- a station above x whose view is above its own number comes together with x
    apart_drops : (i : ℕ) → i ∈ ns → x < i → i < views i → apart ns smallest moved i < apart ns smallest views i
    unfolding apart
    apart_drops i k l h =
        sum_lt _ _ ns (λ j n. tally_le (apart? smallest moved i j) (apart? smallest views i j) (apart_kept ns smallest views (pass x) i j)) x m
        (omega (
          arith,
          tally_no (apart? smallest moved i x) (λ p. p.1.1 together),
          tally_yes (apart? smallest views i x) (low, (l, λ e. omega (arith, holds, e))),
        ))
      where
        together : moved x ≡ moved i
        together =
            pass_from laws x (views x) high (w x m) (omega (arith, holds))
            ∙ sym (pass_from laws x (views i) high (w i k) (omega arith))

    -- No station has more left to do after the pass: where a station waits that did not wait before, its view has come down to the
    -- destination, and it has come together with x.
    station_falls : (i : ℕ) → i ∈ ns → station_left ns smallest moved i ≤ station_left ns smallest views i
    unfolding station_left
    station_falls i k = go (case_of i k) (dec_le (views i) i) (dec_le (next ns x) i)
      where
        even : tally (waits? smallest moved i) ≤ tally (waits? smallest views i)
            → station_left ns smallest moved i ≤ station_left ns smallest views i
        even e = omega (arith, leads_falls i k, apart_falls ns smallest views (pass x) i)

        go : PassCase ns x (views i) → Dec (views i ≤ i) → Dec (next ns x ≤ i)
            → station_left ns smallest moved i ≤ station_left ns smallest views i
        go (inl a) d e = even (waits_falls i k (inl a.0))
        go (inr a) (yes d) e = even (waits_falls i k (inr d))
        go (inr a) (no d) (no e) = even (omega (arith, tally_no (waits? smallest moved i) (λ p. omega arith)))
        go (inr a) (no d) (yes e) =
            omega (arith, leads_falls i k, tally_most (waits? smallest moved i), apart_drops i k (omega (arith, up)) (omega arith))

    -- and the station that passes has less: it waited, and waits no more
    sender_falls : station_left ns smallest moved x < station_left ns smallest views x
    unfolding station_left
    sender_falls =
        let gone : moved x ≡ next ns x = pass_from laws x (views x) high (w x m) (omega (arith, holds)) in
        omega (
          arith,
          leads_falls x m,
          apart_falls ns smallest views (pass x) x,
          tally_no (waits? smallest moved x) (λ p. omega (arith, p.0, up)),
          tally_yes (waits? smallest views x) (omega arith),
        )

    pass_lowers : left ns smallest largest moved < left ns smallest largest views
    unfolding left
    pass_lowers =
        sum_lt _ _ ns (λ i k. left_at ns smallest largest views moved i (station_falls i k)) x m
        (omega (
          arith,
          only_yes (inner? smallest largest x) (station_left ns smallest moved x) (low, high),
          only_yes (inner? smallest largest x) (station_left ns smallest views x) (low, high),
          sender_falls,
        ))

  -- A silence leaves no station more to do: where a view goes from the largest to the smallest, the station may wait, and the
  -- smallest leads it no more.
  silence_station : (views : Views) → Within ns views → Legal ns views silence → (i : ℕ) → i ∈ ns
      → station_left ns smallest (move ns views silence) i ≤ station_left ns smallest views i
  unfolding station_left
  silence_station views w l i k = go (dec_lt (views i) largest) (dec_lt z largest)
    where
      moved' : Views
      moved' = move ns views silence

      z : ℕ
      z = views smallest

      z_in : z ∈ ns
      z_in = w smallest laws.smallest_in

      away : smallest < z
      away = let e : ¬ (z ≡ smallest) = l smallest laws.smallest_in in omega (arith, laws.least z z_in)

      leads_before : Dec (z < largest) → Dec (z < views i) → Leads smallest moved' i → Leads smallest views i
      leads_before d (yes c) p = (away, c)
      leads_before (yes b) (no c) p = absurd (omega (arith, next_le laws (views i) z z_in (omega arith) b))
      leads_before (no b) (no c) p = absurd (omega (arith, wrapped laws z z_in b))

      go : Dec (views i < largest) → Dec (z < largest) → station_left ns smallest moved' i ≤ station_left ns smallest views i
      go (yes a) d =
          omega (
            arith,
            apart_falls ns smallest views silence i,
            tally_le (waits? smallest moved' i) (waits? smallest views i) (λ p. omega (arith, p.0, laws.up (views i) a, away)),
            tally_le (leads? smallest moved' i) (leads? smallest views i) (leads_before d (dec_lt z (views i))),
          )
      go (no a) (yes b) =
          omega (
            arith,
            apart_falls ns smallest views silence i,
            tally_most (waits? smallest moved' i),
            tally_no (leads? smallest moved' i) (λ p. omega (arith, p, wrapped laws (views i) (w i k) a)),
            tally_yes (leads? smallest views i) (away, omega arith),
          )
      go (no a) (no b) =
          omega (
            arith,
            apart_falls ns smallest views silence i,
            tally_no (waits? smallest moved' i) (λ p. omega (arith, p.1, wrapped laws (views i) (w i k) a, wrapped laws z z_in b)),
            tally_no (leads? smallest moved' i) (λ p. omega (arith, p, wrapped laws (views i) (w i k) a)),
          )

  silence_keeps : (views : Views) → Within ns views → Legal ns views silence
      → left ns smallest largest (move ns views silence) ≤ left ns smallest largest views
  unfolding left
  silence_keeps views w l = sum_le _ _ ns (λ i k. left_at ns smallest largest views (move ns views silence) i (silence_station views w l i k))

  -- of the passes up to the first agreement the last may make the views agree, and the others lower the count
  passes_most : {views : Views} (events : List Event) → Unsettled ns views events → passes events ≤ left ns smallest largest views + 1
  passes_most [] u = omega arith
  passes_most {views} (pass x ∷ events) u = go (passes_most {views = move ns views (pass x)} events (onward laws u)) (last_or_inner laws u)
    where
      go : passes events ≤ left ns smallest largest (move ns views (pass x)) + 1 → (events ≡ []) ⊎ ((smallest < x) × (x < largest))
          → suc (passes events) ≤ left ns smallest largest views + 1
      go rest (inl e) = omega (arith, ap passes e)
      go rest (inr h) = omega (arith, pass_lowers views u.within x u.run.0.0 u.run.0.1 h.0 h.1)
  passes_most {views} (silence ∷ events) u = omega (arith, passes_most events (onward laws u), silence_keeps views u.within u.run.0)

  -- at most n(n - 1)/2 passes
  pub few_passes : Ascending ns → {views : Views} (events : List Event) → Unsettled ns views events
      → 2 * passes events + length ns ≤ length ns * length ns
  few_passes a [] u = omega (arith, pairs ns a)
  few_passes a {views} (event ∷ events) u = go (dec_lt smallest largest)
    where
      one : ¬ (smallest < largest) → (y : ℕ) → y ∈ ns → views y ≡ smallest
      one l y k = omega (arith, laws.least (views y) (u.within y k), laws.most (views y) (u.within y k))

      go : Dec (smallest < largest) → 2 * passes (event ∷ events) + length ns ≤ length ns * length ns
      go (yes l) = omega (arith, passes_most (event ∷ events) u, left_most laws a l views, pairs ns a)
      go (no l) = absurd (u.differing.0 (λ y z i j. one l y i ∙ sym (one l z j)))

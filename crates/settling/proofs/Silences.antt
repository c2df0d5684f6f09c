-- How many silences can come before the views agree: at most 2n - 3.
-- The station with the smallest number decides it. While it names itself it holds, and no silence can come. Else each silence moves
-- its view up, until it names the largest number, and then itself.
use Rattle.laws.specs.Usual.{[], refl, sym, ap, ◌∙◌, List, ℕ, suc, arith, length}
use Rattle.std.specs.Prelude.{◌≡◌, ◌∷◌, ◌+◌, ◌-◌, ◌*◌, ◌<◌, ◌≤◌, ◌⊎◌}
use Rattle.std.proofs.Common.{inl, inr}
use Rattle.std.proofs.Math.Decide.{dec_lt}
use Rattle.settling.specs.Ring.{◌∈◌, next, Views, Within, Event, pass, silence, view_after_pass, move, silences}
use Rattle.settling.specs.Next.{NextLaws}
use Rattle.settling.proofs.Count.{above, above_falls, above_below_length}
use Rattle.settling.proofs.Moves.{pass_case, wrapped, next_le}
use Rattle.settling.specs.Moves.{PassCase}
use Rattle.settling.proofs.Runs.{onward, last_or_inner}
use Rattle.settling.specs.Runs.{Unsettled}
use Rattle.settling.specs.Silences.{SeesMost, NoneBelow}

module _ {ns : List ℕ} {smallest largest : ℕ} (laws : NextLaws ns (next ns) smallest largest) where
  view_in : {views : Views} {events : List Event} → Unsettled ns views events → views smallest ∈ ns
  view_in u = u.within smallest laws.smallest_in

  -- the smallest names itself: no silence comes
  names_itself : {views : Views} (events : List Event) → Unsettled ns views events → views smallest ≡ smallest → silences events ≡ 0
  names_itself [] u z = refl
  names_itself {views} (pass x ∷ events) u z = go (names_itself {views = move ns views (pass x)} events (onward laws u)) (last_or_inner laws u)
    where
      kept : PassCase ns x (views smallest) → smallest < x → view_after_pass ns x (views smallest) ≡ smallest
      kept (inl c) l = c.1 ∙ z
      kept (inr c) l = absurd (omega arith)

      go : (view_after_pass ns x (views smallest) ≡ smallest → silences events ≡ 0) → (events ≡ []) ⊎ ((smallest < x) × (x < largest))
          → silences events ≡ 0
      go more (inl e) = ap silences e
      go more (inr h) = more (kept (pass_case laws x (views smallest) h.1 (view_in u)) h.0)
  names_itself (silence ∷ events) u z = absurd (u.run.0 smallest laws.smallest_in z)

  -- a pass that takes the view of the smallest to the destination leaves no view above the destination
  pass_gathers : (views : Views) → Within ns views → (x : ℕ) → x < largest → x ≤ views smallest
      → SeesMost ns smallest (move ns views (pass x))
  pass_gathers views w x h l y k =
      go (pass_case laws x (views smallest) h (w smallest laws.smallest_in)) (pass_case laws x (views y) h (w y k))
    where
      go : PassCase ns x (views smallest) → PassCase ns x (views y) → view_after_pass ns x (views y) ≤ view_after_pass ns x (views smallest)
      go (inl a) c = absurd (omega arith)
      go (inr a) (inl c) = omega (arith, laws.up x h)
      go (inr a) (inr c) = omega arith

  -- The smallest sees the largest view and no view is below b: each silence moves all views up, so that at most as many come as there
  -- are numbers above b.
  sees_most : {views : Views} (events : List Event) → Unsettled ns views events → (b : ℕ) → b ∈ ns → NoneBelow ns b views
      → SeesMost ns smallest views → silences events ≤ above ns b
  sees_most [] u b m low high = omega arith
  sees_most {views} (pass x ∷ events) u b m low high = go (sees_most {views = move ns views (pass x)} events (onward laws u) b m) (last_or_inner laws u)
    where
      own : x ≤ views x
      own = omega (arith, u.run.0.1)

      low_stays : x < largest → (y : ℕ) → PassCase ns x (views y) → b ≤ views y → b ≤ view_after_pass ns x (views y)
      low_stays h y (inl c) l = omega arith
      low_stays h y (inr c) l = omega (arith, laws.up x h, low x u.run.0.0, u.run.0.1)

      go : (NoneBelow ns b (move ns views (pass x)) → SeesMost ns smallest (move ns views (pass x)) → silences events ≤ above ns b)
          → (events ≡ []) ⊎ ((smallest < x) × (x < largest)) → silences events ≤ above ns b
      go more (inl e) = omega (arith, ap silences e)
      go more (inr h) =
          more (λ y k. low_stays h.1 y (pass_case laws x (views y) h.1 (u.within y k)) (low y k))
          (pass_gathers views u.within x h.1 (omega (arith, own, high x u.run.0.0)))
  sees_most {views} (silence ∷ events) u b m low high =
      go (sees_most events (onward laws u) (next ns b) (laws.stays_in b m)) (names_itself events (onward laws u))
      (dec_lt (views smallest) largest) (dec_lt b largest)
    where
      go : (NoneBelow ns (next ns b) (move ns views silence) → SeesMost ns smallest (move ns views silence)
          → silences events ≤ above ns (next ns b))
          → (next ns (views smallest) ≡ smallest → silences events ≡ 0) → Dec (views smallest < largest) → Dec (b < largest)
          → suc (silences events) ≤ above ns b
      go more itself (yes h) d =
          let room : b < largest = omega (arith, low smallest laws.smallest_in) in
          let rest : silences events ≤ above ns (next ns b) =
          more (λ y k. next_le laws b (views y) (u.within y k) (low y k) (omega (arith, high y k)))
          (λ y k. next_le laws (views y) (views smallest) (view_in u) (high y k) h) in
          omega (arith, above_falls ns b (next ns b) (laws.stays_in b m) (laws.up b room))
      go more itself (no h) (yes room) =
          omega (arith, itself (wrapped laws (views smallest) (view_in u) h), above_falls ns b largest laws.largest_in room)
      go more itself (no h) (no full) = absurd (u.differing.0 (λ y z i j. top y i ∙ sym (top z j)))
        where
          top : (y : ℕ) → y ∈ ns → views y ≡ largest
          top y k = omega (arith, low y k, laws.most (views y) (u.within y k))

  -- the smallest names another: each silence moves its view up
  names_another : {views : Views} (events : List Event) → Unsettled ns views events → smallest < views smallest
      → silences events ≤ above ns smallest + above ns (views smallest)
  names_another [] u z = omega arith
  names_another {views} (pass x ∷ events) u z =
      go (names_another {views = move ns views (pass x)} events (onward laws u))
      (sees_most events (onward laws u) smallest laws.smallest_in (λ y k. laws.least (moved y) ((onward laws u).within y k)))
      (last_or_inner laws u)
    where
      moved : Views
      moved = move ns views (pass x)

      inner : (smallest < moved smallest → silences events ≤ above ns smallest + above ns (moved smallest))
          → (SeesMost ns smallest moved → silences events ≤ above ns smallest) → x < largest → PassCase ns x (views smallest)
          → silences events ≤ above ns smallest + above ns (views smallest)
      inner more together h (inl c) = omega (arith, more (omega arith), ap (above ns) c.1)
      inner more together h (inr c) = omega (arith, together (pass_gathers views u.within x h c.0))

      go : (smallest < moved smallest → silences events ≤ above ns smallest + above ns (moved smallest))
          → (SeesMost ns smallest moved → silences events ≤ above ns smallest) → (events ≡ []) ⊎ ((smallest < x) × (x < largest))
          → silences events ≤ above ns smallest + above ns (views smallest)
      go more together (inl e) = omega (arith, ap silences e)
      go more together (inr h) = inner more together h.1 (pass_case laws x (views smallest) h.1 (view_in u))
  names_another {views} (silence ∷ events) u z =
      go (names_another events (onward laws u)) (names_itself events (onward laws u)) (dec_lt (views smallest) largest)
    where
      n : ℕ
      n = next ns (views smallest)

      go : (smallest < n → silences events ≤ above ns smallest + above ns n) → (n ≡ smallest → silences events ≡ 0)
          → Dec (views smallest < largest) → suc (silences events) ≤ above ns smallest + above ns (views smallest)
      go more itself (yes h) =
          let up : views smallest < n = laws.up (views smallest) h in
          omega (arith, more (omega arith), above_falls ns (views smallest) n (laws.stays_in (views smallest) (view_in u)) up)
      go more itself (no h) =
          let room : smallest < largest = omega (arith, laws.most (views smallest) (view_in u)) in
          omega (arith, itself (wrapped laws (views smallest) (view_in u) h), above_falls ns smallest largest laws.largest_in room)

  -- at most 2n - 3 silences, and none for one station
  pub few_silences : {views : Views} (events : List Event) → Unsettled ns views events → silences events ≤ 2 * length ns - 3
  few_silences {views} events u = go (dec_lt smallest (views smallest))
    where
      go : Dec (smallest < views smallest) → silences events ≤ 2 * length ns - 3
      go (yes l) =
          omega (
            arith,
            names_another events u l,
            above_falls ns smallest (views smallest) (view_in u) l,
            above_below_length ns smallest laws.smallest_in,
          )
      go (no l) = omega (arith, names_itself events u (omega (arith, laws.least (views smallest) (view_in u))))

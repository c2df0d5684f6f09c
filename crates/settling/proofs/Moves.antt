-- What an event does to one view, by cases, in a ring with the laws of next.
use Rattle.std.specs.Prelude.{◌≡◌, ◌<◌, ◌≤◌}
use Rattle.laws.specs.Usual.{refl, sym, ap, ◌∙◌, List, ℕ, arith}
use Rattle.std.proofs.Common.{inl, inr}
use mathlib.Core.List.Memᴰ
use Rattle.std.proofs.Math.Decide.{dec_lt}
use Rattle.settling.specs.Ring.{◌∈◌, next, Views, Within, Agreed, Event, pass, silence, view_after_pass, move, Legal}
use Rattle.settling.proofs.Next.{by_eqb}
use Rattle.settling.specs.Next.{NextLaws}
use Rattle.settling.specs.Moves.{PassCase}

module _ {ns : List ℕ} {smallest largest : ℕ} (laws : NextLaws ns (next ns) smallest largest) where
  -- next goes from the largest to the smallest
  pub wrapped : (u : ℕ) → u ∈ ns → ¬ (u < largest) → next ns u ≡ smallest
  wrapped u m h = let top : u ≡ largest = omega (arith, laws.most u m) in ap (next ns) top ∙ laws.wraps

  -- next keeps the order of the numbers below the largest
  pub next_le : (u w : ℕ) → w ∈ ns → u ≤ w → w < largest → next ns u ≤ next ns w
  next_le u w m l h = laws.closest u (next ns w) (laws.stays_in w m) (omega (arith, laws.up w h))

  -- a pass by any but the largest
  pub pass_case : (x u : ℕ) → x < largest → u ∈ ns → PassCase ns x u
  pass_case x u h m = go (dec_lt u x)
    where
      go : Dec (u < x) → PassCase ns x u
      go (yes l) = inl (l, by_eqb (λ r. r ≡ u) u x (λ e. absurd (omega arith)) (λ n. omega (arith, laws.up x h)))
      go (no l) = inr (
        omega arith,
        by_eqb (λ r. r ≡ next ns x) u x (λ e. refl) (λ n.
            let near : next ns x ≤ u = laws.closest x u m (omega arith) in omega arith),
      )

  -- a view that is not below x goes to the destination
  pub pass_from : (x u : ℕ) → x < largest → u ∈ ns → x ≤ u → view_after_pass ns x u ≡ next ns x
  pass_from x u h m l = go (pass_case x u h m)
    where
      go : PassCase ns x u → view_after_pass ns x u ≡ next ns x
      go (inl c) = absurd (omega arith)
      go (inr c) = c.1

  -- a pass by the largest takes every view to the smallest
  pass_top : (x u : ℕ) → x ∈ ns → ¬ (x < largest) → u ∈ ns → view_after_pass ns x u ≡ smallest
  pass_top x u m h k = by_eqb (λ r. r ≡ smallest) u x (λ e. wrapped x m h) (λ n. omega (arith, wrapped x m h, laws.least u k))

  -- so a pass by the largest, and one by the smallest, makes all views equal
  pub top_agrees : (views : Views) (x : ℕ) → Within ns views → x ∈ ns → ¬ (x < largest) → Agreed ns (move ns views (pass x))
  top_agrees views x w m h a b i j = pass_top x (views a) m h (w a i) ∙ sym (pass_top x (views b) m h (w b j))

  pub bottom_agrees : (views : Views) (x : ℕ) → Within ns views → x ≤ smallest → x < largest → Agreed ns (move ns views (pass x))
  bottom_agrees views x w l h a b i j = to a i ∙ sym (to b j)
    where
      to : (y : ℕ) → y ∈ ns → view_after_pass ns x (views y) ≡ next ns x
      to y k = pass_from x (views y) h (w y k) (omega (arith, laws.least (views y) (w y k)))

  -- every view stays among the numbers of the ring
  view_stays : (x u : ℕ) → x ∈ ns → u ∈ ns → view_after_pass ns x u ∈ ns
  view_stays x u m k = go (dec_lt x largest)
    where
      below_top : PassCase ns x u → view_after_pass ns x u ∈ ns
      below_top (inl c) = Memᴰ.cast c.1 k
      below_top (inr c) = Memᴰ.cast c.1 (laws.stays_in x m)

      go : Dec (x < largest) → view_after_pass ns x u ∈ ns
      go (yes h) = below_top (pass_case x u h k)
      go (no h) = Memᴰ.cast (pass_top x u m h k) laws.smallest_in

  pub within_stays : (views : Views) (event : Event) → Within ns views → Legal ns views event → Within ns (move ns views event)
  within_stays views (pass x) w l y m = view_stays x (views y) l.0 (w y m)
  within_stays views silence w l y m = laws.stays_in (views y) (w y m)

-- From the first agreement on: no silence comes, and n passes in a row give each station the token once.
use Rattle.laws.specs.Usual.{[], refl, sym, ap, ◌∙◌, cond, List, ℕ, suc, arith, length, eqb}
use Rattle.std.specs.Prelude.{◌≡◌, ◌∷◌, ◌+◌, ◌*◌, ◌<◌, ◌≤◌, zero}
use Rattle.std.proofs.Common.{zero-mul, one-mul, suc-mul}
use Rattle.std.proofs.Math.Decide.{dec_le, dec_lt, ℕ_discrete}
use Rattle.settling.specs.Ring.{◌∈◌, Ascending, next, Views, Within, Agreed, Event, pass, silence, view_after_pass, move, Legal, views_after, passes, silences, given}
use Rattle.settling.proofs.Next.{by_eqb}
use Rattle.settling.specs.Next.{NextLaws}
use Rattle.settling.proofs.Count.{tally_yes, tally_no, tally_le, tally_most, same, same_yes, same_no, same_cond, once, sum_le, sum_lt, sum_eq, sum_add, sum_const, sum_at}
use Rattle.settling.specs.Count.{tally, sum}
use Rattle.settling.proofs.Moves.{wrapped}
use Rattle.settling.proofs.Runs.{settled_onward, within_after}
use Rattle.settling.specs.Runs.{Settled}

-- 1 where x is at most h, and 0 where it is larger
reached : ℕ → ℕ → ℕ
reached h x = tally (dec_le x h)

reached_yes : (h x : ℕ) → x ≤ h → reached h x ≡ 1
unfolding reached
reached_yes h x l = tally_yes (dec_le x h) l

reached_no : (h x : ℕ) → h < x → reached h x ≡ 0
unfolding reached
reached_no h x l = tally_no (dec_le x h) (λ k. omega arith)

-- how many numbers are reached at h: the larger h, the more
extent : List ℕ → ℕ → ℕ
extent ns h = sum (reached h) ns

extent_grows : (ns : List ℕ) (h k : ℕ) → k ∈ ns → h < k → extent ns h < extent ns k
unfolding extent reached
extent_grows ns h k m l =
    sum_lt (reached h) (reached k) ns (λ x i. tally_le (dec_le x h) (dec_le x k) (λ j. omega arith)) k m
    (omega (arith, reached_no h k l, reached_yes k k (omega arith)))

extent_some : (ns : List ℕ) (h : ℕ) → h ∈ ns → 1 ≤ extent ns h
unfolding extent
extent_some ns h m = omega (arith, sum_at (reached h) ns h m, reached_yes h h (omega arith))

extent_most : (ns : List ℕ) (h : ℕ) → extent ns h ≤ length ns
unfolding extent reached
extent_most ns h = omega (arith, sum_le (reached h) (λ x. 1) ns (λ x m. tally_most (dec_le x h)), sum_const 1 ns)

module _ {ns : List ℕ} {smallest largest : ℕ} (laws : NextLaws ns (next ns) smallest largest) where
  -- where all views are equal, the station that they name holds, and no silence can come
  silence_ruled_out : {views : Views} → Within ns views → Agreed ns views → ¬ Legal ns views silence
  silence_ruled_out {views} w a l =
      let named : views smallest ∈ ns = w smallest laws.smallest_in in
      l (views smallest) named (a (views smallest) smallest named laws.smallest_in)

  pub no_silence : {views : Views} (events : List Event) → Settled ns views events → silences events ≡ 0
  no_silence [] s = refl
  no_silence {views = views} (pass x ∷ events) s = no_silence {views = move ns views (pass x)} events (settled_onward laws s)
  no_silence (silence ∷ events) s = absurd (silence_ruled_out s.within s.agreed s.run.0)

  -- A pass by h adds x to the numbers that are reached just where it gives x the token; but the pass by the largest, which gives
  -- the token to the smallest, takes all but the smallest away.
  one_pass : (h x : ℕ) → h ∈ ns → x ∈ ns → same (next ns h) x + reached h x ≡ reached (next ns h) x + same (next ns h) smallest
  one_pass h x m k = go (dec_lt h largest) (ℕ_discrete n x) (dec_le x h)
    where
      n : ℕ
      n = next ns h

      not_smallest : h < n → same n smallest ≡ 0
      not_smallest l = same_no n smallest (λ e. omega (arith, laws.least h m))

      go : Dec (h < largest) → Dec (n ≡ x) → Dec (x ≤ h) → same n x + reached h x ≡ reached n x + same n smallest
      go (yes l) d (yes i) =
          let up : h < n = laws.up h l in
          omega (arith, same_no n x (λ e. omega arith), reached_yes h x i, reached_yes n x (omega arith), not_smallest up)
      go (yes l) (yes e) (no i) =
          omega (arith, same_yes n x e, reached_no h x (omega arith), reached_yes n x (omega arith), not_smallest (laws.up h l))
      go (yes l) (no e) (no i) =
          let near : n ≤ x = laws.closest h x k (omega arith) in
          omega (arith, same_no n x e, reached_no h x (omega arith), reached_no n x (omega arith), not_smallest (laws.up h l))
      go (no l) (yes e) i =
          omega (
            arith,
            same_yes n x e,
            reached_yes h x (omega (arith, laws.most h m, laws.most x k)),
            reached_yes n x (omega arith),
            same_yes n smallest (wrapped laws h m l),
          )
      go (no l) (no e) i =
          let wraps : n ≡ smallest = wrapped laws h m l in
          omega (
            arith,
            same_no n x e,
            reached_yes h x (omega (arith, laws.most h m, laws.most x k)),
            reached_no n x (omega (arith, laws.least x k)),
            same_yes n smallest wraps,
          )

  -- Over a list of passes: how often x is given the token, with what was reached at the start, is what is reached in the end with
  -- how often the smallest is given the token.
  all_passes : {views : Views} (events : List Event) → Settled ns views events → (x : ℕ) → x ∈ ns
      → given ns x events + reached (views smallest) x ≡ reached (views_after ns views events smallest) x + given ns smallest events
  all_passes [] s x k = omega arith
  all_passes {views} (pass h ∷ events) s x k =
      let m : h ∈ ns = s.run.0.0 in
      let named : views smallest ≡ h = s.agreed smallest h laws.smallest_in m ∙ s.run.0.1 in
      let moved : view_after_pass ns h (views smallest) ≡ next ns h =
      by_eqb (λ u. u ≡ next ns h) (views smallest) h (λ e. refl) (λ differs. absurd (differs named)) in
      omega (
        arith,
        same_cond (next ns h) x,
        same_cond (next ns h) smallest,
        one_pass h x m k,
        ap (λ u. reached u x) named,
        ap (λ u. reached u x) moved,
        all_passes {views = move ns views (pass h)} events (settled_onward laws s) x k,
      )
  all_passes (silence ∷ events) s x k = absurd (silence_ruled_out s.within s.agreed s.run.0)

  -- each pass gives the token to one station
  gives_one : Ascending ns → {views : Views} (events : List Event) → Settled ns views events → sum (λ x. given ns x events) ns ≡ passes events
  gives_one a [] s = sum_const 0 ns ∙ zero-mul (length ns)
  gives_one a {views = views} (pass h ∷ events) s =
      let first : sum (λ x. cond (eqb (next ns h) x) 1 0) ns ≡ 1 =
      sum_eq _ _ ns (λ x m. same_cond (next ns h) x) ∙ once ns a (next ns h) (laws.stays_in h s.run.0.0) in
      omega (arith, sum_add (λ x. cond (eqb (next ns h) x) 1 0) (λ x. given ns x events) ns, first, gives_one a {views = move ns views (pass h)} events (settled_onward laws s))
  gives_one a (silence ∷ events) s = gives_one a events (settled_onward laws s)

  -- n passes give each station the token once
  pub full_turn : Ascending ns → {views : Views} (events : List Event) → Settled ns views events → passes events ≡ length ns
      → (x : ℕ) → x ∈ ns → given ns x events ≡ 1
  unfolding extent
  full_turn a {views} events s full x m = go (given ns smallest events) refl
    where
      start : ℕ
      start = views smallest

      end : ℕ
      end = views_after ns views events smallest

      start_in : start ∈ ns
      start_in = s.within smallest laws.smallest_in

      end_in : end ∈ ns
      end_in = within_after laws events s.within s.run smallest laws.smallest_in

      -- the sum of `all_passes` over the ring
      balance : sum (λ y. given ns y events) ns + extent ns start ≡ extent ns end + given ns smallest events * length ns
      balance =
          sym (sum_add (λ y. given ns y events) (reached start) ns)
          ∙ sum_eq _ _ ns (λ y k. all_passes events s y k)
          ∙ sum_add (reached end) (λ y. given ns smallest events) ns
          ∙ ap (λ c. extent ns end + c) (sum_const (given ns smallest events) ns)

      total : length ns + extent ns start ≡ extent ns end + given ns smallest events * length ns
      total = omega (arith, balance, gives_one a events s, full)

      -- the passes end where they began
      closed : extent ns start ≡ extent ns end → Dec (start < end) → Dec (end < start) → start ≡ end
      closed e (yes l) d = absurd (omega (arith, extent_grows ns start end end_in l))
      closed e (no l) (yes k) = absurd (omega (arith, extent_grows ns end start start_in k))
      closed e (no l) (no k) = omega arith

      -- the smallest is given the token once, neither never nor twice
      go : (rounds : ℕ) → given ns smallest events ≡ rounds → given ns x events ≡ 1
      go zero e =
          absurd (omega (arith, total, ap (λ c. c * length ns) e, zero-mul (length ns), extent_some ns start start_in, extent_most ns end))
      go (suc zero) e =
          let level : extent ns start ≡ extent ns end = omega (arith, total, ap (λ c. c * length ns) e, one-mul (length ns)) in
          let back : start ≡ end = closed level (dec_lt start end) (dec_lt end start) in
          omega (arith, all_passes events s x m, ap (λ u. reached u x) back, e)
      go (suc (suc k)) e =
          absurd (omega (
            arith,
            total,
            ap (λ c. c * length ns) e,
            suc-mul (suc k) (length ns),
            suc-mul k (length ns),
            extent_some ns end end_in,
            extent_most ns start,
          ))

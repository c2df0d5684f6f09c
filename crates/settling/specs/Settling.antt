-- The settling of token views: the final statements.
use Rattle.std.specs.Prelude.{◌≡◌, ◌++◌, ◌+◌, ◌-◌, ◌*◌, ◌≤◌}
use Rattle.laws.specs.Usual.{[], List, ℕ, length}
use Rattle.settling.specs.Ring.{◌∈◌, Views, Agreed, Event, views_after, passes, silences, given}

-- What holds of a list of events whose first part, up to the first time that all views are equal, is `before`, and whose rest is
-- `later`. n is the number of stations.
pub record Settles (ns : List ℕ) (views : Views) (before later : List Event) : Type 0 where
  -- "the list has at most n×n×n passes and (n-1)×(n-1) silences up to the first time that they all name one holder, or to its end
  -- if they never do"
  pub passes_loose : passes before ≤ length ns * length ns * length ns
  pub silences_loose : silences before ≤ (length ns - 1) * (length ns - 1)
  -- sharper: at most n(n-1)/2 passes, at most 2n-3 silences, and none for one station
  pub passes_sharp : 2 * passes before ≤ length ns * (length ns - 1)
  pub silences_sharp : 2 ≤ length ns → silences before + 3 ≤ 2 * length ns
  pub silences_alone : length ns ≡ 1 → silences before ≡ 0
  -- Where the list goes on after `before`, they all name one holder then.
  pub agreed : ¬ (later ≡ []) → Agreed ns (views_after ns views before)
  -- "from that first time on they all name one holder after every event": after every part of `later` from its start
  pub stays : Agreed ns (views_after ns views before) → (start rest : List Event) → later ≡ start ++ rest
      → Agreed ns (views_after ns views (before ++ start))
  -- and no silence comes
  pub no_silence : silences later ≡ 0
  -- "any n passes in a row give each station the token exactly once". (A stretch of `later` has no silence: with n passes it is n
  -- passes in a row.)
  pub turns : (start window rest : List Event) → later ≡ start ++ (window ++ rest) → passes window ≡ length ns
      → (x : ℕ) → x ∈ ns → given ns x window ≡ 1

-- The first agreement in a list of inputs, as a split of the list; that there is one such split of every list, and only one.
-- For any kind of state and input: the ring of views has it with views and events (`Ring`).
use Rattle.laws.specs.Usual.{[], List}
use Rattle.std.specs.Prelude.{◌≡◌, ◌++◌, ◌⊎◌}
use mathlib.Core.List.Memᴰ
use mathlib.Core.List.{nil≢cons, head-eq_of_cons-eq, tail-eq_of_cons-eq}
use Rattle.settling.specs.Steps.{after_all, EachFinds}

-- `before` is the part of the list "up to the first time that they all name one holder, or to its end if they never do", and
-- `later` is the rest. `AllName s` says that in the state s they all name one holder.
pub record FirstAgreement {S I : Type 0} (after : S → I → S) (AllName : S → Type 0) (s : S) (inputs before later : List I) : Type 0 where
  pub split : inputs ≡ before ++ later
  -- each input of `before` finds that they do not all name one holder
  pub differing : EachFinds after (λ state input. ¬ AllName state) s before
  pub reached : (later ≡ []) ⊎ AllName (after_all after s before)

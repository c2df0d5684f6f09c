-- The panel's counters, which stop at 65,536 ticks and at 2 takings, against the plain times of the takings. Assumes nothing.
use Rattle.std.specs.Prelude.{◌≡◌, ◌∷◌, ◌-◌, ◌≤◌}
use Rattle.laws.specs.Usual.{[], refl, ap, Bool, true, false, cond, List, ℕ, suc, min, arith, ltb}
use Rattle.std.proofs.Common.{lt-ltb, ltb-true, ltb-false}
use Rattle.panel.specs.Panel.{ticked, after_taking, figure_of}
use Rattle.panel.specs.declared.Panel.{Panel}
use Rattle.station.specs.Panel.History.{Step, is_tick, is_taking, begins, clock, noted, takings, gap_shown, last_gap}
use Rattle.station.specs.Panel.Counts.{Running, Counts, Falling}

running_tick : (now last : ℕ) (panel : Panel) → Running now last panel → Running (suc now) last (ticked panel)
running_tick now last panel r = record { past = omega arith; running = omega arith }

running_taken : (now : ℕ) (panel : Panel) → Running now now (after_taking panel)
running_taken now panel = record { past = omega arith; running = omega arith }

-- a tick more
pub counts_tick : (now : ℕ) (times : List ℕ) (panel : Panel) → Counts now times panel → Counts (suc now) times (ticked panel)
counts_tick now [] panel c = c
counts_tick now (last ∷ []) panel c = (c.0, running_tick now last panel c.1)
counts_tick now (last ∷ previous ∷ rest) panel c = (c.0, running_tick now last panel c.1, c.2)

-- a taking more
pub counts_taken : (now : ℕ) (times : List ℕ) (panel : Panel) → Counts now times panel → Counts now (now ∷ times) (after_taking panel)
counts_taken now [] panel c = (rw c, running_taken now panel)
counts_taken now (last ∷ []) panel c = (rw c.0, running_taken now panel, c.1.running)
counts_taken now (last ∷ previous ∷ rest) panel c = (rw c.0, running_taken now panel, c.1.running)

-- 65,536 is over as well as any greater number
gap_shown_lem : (ticks : ℕ) → gap_shown (min 65536 ticks) ≡ gap_shown ticks
gap_shown_lem ticks = by (ltb 65535 ticks) refl
  where
    by : (over : Bool) → ltb 65535 ticks ≡ over → gap_shown (min 65536 ticks) ≡ gap_shown ticks
    by true e =
        let more = ltb-true 65535 ticks e in
        rw (e, lt-ltb 65535 (min 65536 ticks) (omega arith))
    by false e =
        let less = ltb-false 65535 ticks e in
        let same : min 65536 ticks ≡ ticks = omega arith in
        ap gap_shown same

-- what the counters show
pub counts_shown : (now : ℕ) (times : List ℕ) (panel : Panel) → Counts now times panel → figure_of panel ≡ last_gap times
counts_shown now [] panel c = rw c
counts_shown now (last ∷ []) panel c = rw c.0
counts_shown now (last ∷ previous ∷ rest) panel c = rw (c.0, c.2) (gap_shown_lem (last - previous))

falling_on : (now later : ℕ) (times : List ℕ) → now ≤ later → Falling now times → Falling later times
falling_on now later [] up f = tt
falling_on now later (last ∷ earlier) up f = let past = f.0 in (omega arith, f.1)

pub takings_fall : (steps : List Step) → Falling (clock steps) (takings steps)
takings_fall [] = tt
takings_fall (step ∷ earlier) =
    by (is_taking step) (begins step.before step.left) (is_tick step.call) (clock earlier) (takings earlier) (takings_fall earlier)
  where
    since : (begun ticks : Bool) (now : ℕ) (times : List ℕ) → Falling now times → Falling (cond ticks (suc now) now) (cond begun [] times)
    since true ticks now times f = tt
    since false true now times f = falling_on now (suc now) times (omega arith) f
    since false false now times f = f

    by : (taking begun ticks : Bool) (now : ℕ) (times : List ℕ) → Falling now times →
        Falling (cond ticks (suc now) now) (noted taking (cond ticks (suc now) now) (cond begun [] times))
    by true begun ticks now times f = (omega arith, since begun ticks now times f)
    by false begun ticks now times f = since begun ticks now times f

use Rattle.std.specs.Prelude.{◌≡◌}
use Rattle.laws.specs.Usual.{refl, sym, ap, ◌∙◌, ℕ, arith}
use Rattle.ticking_quiet.specs.Many.{after_ticks}
use Rattle.ticking_quiet.proofs.ManyLaws.{ticks_station, ticks_answer}
use Rattle.ticking_jump.specs.JumpTicks.{tick_on}
use Rattle.ticking_many.proofs.ticks.Given as goal

abbrev pub invariant-loop-left : goal.invariant-loop-left
invariant-loop-left l =
    after_ticks l.left l.after ≡ after_ticks l.count l.initial.after

abbrev pub decreases-loop-left : goal.decreases-loop-left
decreases-loop-left l =
    l.left

-- `boundary_new::new` meets its contract.
use Rattle.laws.specs.Usual.{replicate}
use Rattle.boundary_places.proofs.Laws.{put_in}
use Rattle.boundary_places.specs.Places.{kept}
use Rattle.station.specs.Rules.State.{never}
use Rattle.boundary_new.proofs.new.Goals as goal

pub returns : goal.returns
unfolding kept
returns c =
    let done = c.new.ensures in
    let numbers = put_in (replicate 18 0) _ _ never done.value c.keep.ensures.numbers_after c.keep.ensures.numbers_after_2 in record { core_after = numbers.0; core_after_2 = numbers.1; misses_after = done.misses_after }

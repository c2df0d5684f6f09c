-- `boundary_frames::hear_seldom` meets its contract.
use Rattle.laws.specs.Usual.{ap, ◌∙◌}
use Rattle.boundary_answers.specs.declared.Answer.{Answer}
use Rattle.boundary_core.specs.Crossing.{station_in}
use Rattle.boundary_places.proofs.Laws.{put_in}
use Rattle.boundary_told.specs.Told.{route_of, with_frame}
use Rattle.station.specs.Rules.Hearing.{enters}
use Rattle.boundary_frames.proofs.hear_seldom.Goals as goal

pub returns : goal.returns
returns c =
    let a = c.args in
    let done = c.hear-heard.ensures in
    let station = station_in a.state a.listed.now a.areas.now a.watch.now a.misses.now in
    let numbers = put_in _ _ _ (enters a.state.phase a.frame.code station a.frame) done.core_value c.keep.ensures.numbers_after c.keep.ensures.numbers_after_2 in
    record { core_after = numbers.0; core_after_2 = numbers.1; value = c.tell_read.ensures ∙ ap (λ (t : Answer). with_frame t (route_of a.frame)) done.answer_value; misses_after = done.misses_after }

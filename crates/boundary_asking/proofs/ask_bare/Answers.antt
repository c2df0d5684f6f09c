-- `boundary_asking::ask_bare` meets its contract.
use Rattle.laws.specs.Usual.{◌∙◌, rules}
use Rattle.boundary_bare.specs.Bare.{bare_fields, after_bare, sent_bare}
use Rattle.boundary_lists.specs.Lists.{members_in}
use Rattle.boundary_places.proofs.Laws.{put_in}
use Rattle.boundary_told.specs.Routes.{told_asked}
use Rattle.boundary_asking.proofs.ask_bare.Goals as goal

pub returns : goal.returns
returns c =
    let a = c.args in
    let after = after_bare a.state (members_in a.listed.now a.areas.now a.watch.now a.misses.now) in
    let asking = sent_bare after (bare_fields a.state) a.output.now a.output.now in
    let done = c.send-asked.ensures in
    let numbers = put_in _ _ _ after done.core_value c.keep.ensures.numbers_after c.keep.ensures.numbers_after_2 in
    record { core_after = numbers.0; core_after_2 = numbers.1; value = c.tell_written.ensures ∙ told_asked asking done.output_after done.answer_value; output_after = done.output_after; misses_after = done.misses_after }

-- `boundary_asking::ask_block` meets its contract.
use Rattle.laws.specs.Usual.{sym, ap, rules}
use Rattle.boundary_core.specs.Crossing.{station_of}
use Rattle.boundary_lists.specs.Lists.{members_in}
use Rattle.boundary_holder.specs.Held.{held_asked}
use Rattle.boundary_places.proofs.Laws.{put_in}
use Rattle.station.specs.Rules.Asking.{Asking, ask_of}
use Rattle.boundary_asking.proofs.ask_block.Goals as goal

pub returns : goal.returns
returns c =
    let a = c.args in
    let pre = c.requires in
    let done = c.ask-asked.ensures in
    let members = members_in a.listed.now a.areas.now a.watch.now a.misses.now in
    let law = held_asked a.state members a.memory.now a.turn.now a.output.now pre.state_value pre.output_value in
    let asking = ask_of (station_of a.state members) a.memory.now a.turn.now a.output.now in
    let numbers = put_in _ _ _ asking.station done.core_value_2 c.keep.ensures.numbers_after c.keep.ensures.numbers_after_2 in
    record { core_after = numbers.0; core_after_2 = numbers.1; value = done.answer_value; turn_after = done.turn_after; output_after = done.output_after; misses_after = sym (ap (λ (t : Asking). t.station.members) law) }

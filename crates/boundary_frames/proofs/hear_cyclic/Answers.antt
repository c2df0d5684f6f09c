-- `boundary_frames::hear_cyclic` meets its contract.
use Rattle.laws.specs.Usual.{refl}
use Rattle.boundary_core.specs.Crossing.{station_in}
use Rattle.boundary_places.proofs.Laws.{put_in}
use Rattle.station.specs.Rules.Hearing.{hear_of}
use Rattle.boundary_frames.proofs.hear_cyclic.Goals as goal

pub hear-heard-requires : goal.hear-heard-requires
hear-heard-requires c =
    let pre = c.requires in
    record { frame_value = pre.frame_value; assembly_value = pre.assembly_value; octets_value = pre.octets_value; source_value = refl; destination_value = refl }

pub returns : goal.returns
returns c =
    let a = c.args in
    let done = c.hear-heard.ensures in
    let station = station_in a.state a.listed.now a.areas.now a.watch.now a.misses.now in
    let numbers = put_in _ _ _ (hear_of station a.octets.now a.memory.now a.assembly.now).station done.core_value c.keep.ensures.numbers_after c.keep.ensures.numbers_after_2 in
    record { core_after = numbers.0; core_after_2 = numbers.1; value = done.answer_value; memory_after = done.memory_after; assembly_after = done.assembly_after; misses_after = done.misses_after }

-- `message_asking::ask_block` meets its contract.
use Rattle.laws.specs.Usual.{ap, ◌∙◌}
use Rattle.boundary_core.specs.Crossing.{station_of, station_kept}
use Rattle.boundary_core.specs.declared.Core.{Core}
use Rattle.boundary_lists.specs.Lists.{members_in}
use Rattle.boundary_places.specs.Places.{core_in}
use Rattle.message_taking.specs.Taking.{is_holder}
use Rattle.station.specs.Rules.Asking.{ask_of}
use Rattle.message_asking.specs.Meets.{block_meets}
use Rattle.message_asking.specs.Token.{ended_told, sized}
use Rattle.message_asking.proofs.ask_block.Goals as goal

pub carry_where-requires : goal.carry_where-requires
carry_where-requires c =
    let a = c.args in
    let members = members_in a.listed.now a.areas.now a.watch.now a.misses.now in
    let station = station_of (core_in a.core.now) members in
    let left = ask_of station a.memory.now a.turn.now a.output.now in
    let base = c.ask-answer.ensures in let both = sized station a.memory.now a.turn.now a.output.now
    (c.is_holder-held.ensures members) (ended_told left base.value (c.core_in.ensures.value ∙ base.core_after)) base.value base.output_after in
    record { le_octets = both.0; octets_bound = both.1.0; octets_in_bounds = both.1.1 }

pub returns : goal.returns
returns c =
    let a = c.args in
    let members = members_in a.listed.now a.areas.now a.watch.now a.misses.now in
    let station = station_of (core_in a.core.now) members in
    let left = ask_of station a.memory.now a.turn.now a.output.now in
    let base = c.ask-answer.ensures in
    let ended = ended_told left base.value (c.core_in.ensures.value ∙ base.core_after) in
    let holding = c.is_holder.ensures left.station.members ∙ ap (λ (k : Core). is_holder (station_of k left.station.members)) base.core_after ∙ ap is_holder (station_kept left.station) in let both = block_meets a.core.now a.listed.now a.areas.now a.watch.now a.misses.now a.outgoing.now a.owed.now
    a.memory.now a.turn.now a.output.now
    base.core_after base.core_after_2 base.value base.turn_after base.output_after base.misses_after
    (c.is_holder-held.ensures members) holding ended c.turn.ensures.sources_after c.turn.ensures.numbers_after (c.carry_where.ensures.value, (c.carry_where.ensures.output_after, (c.carry_where.ensures.owed_after, c.carry_where.ensures.owed_after_2))) in
    record { core_after = both.0; core_after_2 = both.1.0; misses_after = both.1.1.0; sources_after = both.1.1.1.0; outgoing_after = both.1.1.1.1.0; owed_after = both.1.1.1.1.1.0; turn_after = both.1.1.1.1.1.1.0; output_after = both.1.1.1.1.1.1.1.0; value = both.1.1.1.1.1.1.1.1 }

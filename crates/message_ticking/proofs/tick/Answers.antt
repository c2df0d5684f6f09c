-- `message_ticking::tick` meets its contract.
use Rattle.std.specs.Prelude.{◌&&◌}
use Rattle.laws.specs.Usual.{sym, ap, ap₂, ◌∙◌, Bool, not}
use Rattle.boundary_core.specs.Crossing.{station_in}
use Rattle.boundary_places.specs.Places.{core_in}
use Rattle.message_places.specs.Outgoing.{outgoing_of, messages_of}
use Rattle.message_places.specs.Places.{outgoing_in, kept_outgoing}
use Rattle.message_rules.specs.Rules.Again.{ticked, turned}
use Rattle.message_taking.specs.Taking.{taken_by_lem, held_after}
use Rattle.station.specs.Rules.Ticking.{tick_of}
use Rattle.message_ticking.proofs.tick.Goals as goal

pub returns : goal.returns
returns c =
    let a = c.args in
    let station = station_in (core_in a.core.now) a.listed.now a.areas.now a.watch.now a.misses.now in
    let left = (tick_of station).station in
    let taking =
    ap₂ (λ (held : Bool) (before : Bool). held && not before)
    (c.is_holder.ensures left.members ∙ held_after _ left c.tick-answer.ensures.core_after)
    (c.is_holder-held.ensures station.members)
    ∙ sym (taken_by_lem station left) in
    record {
      core_after = c.tick-answer.ensures.core_after;
      core_after_2 = c.tick-answer.ensures.core_after_2;
      value = c.tick-answer.ensures.value;
      misses_after = c.tick-answer.ensures.misses_after;
      sources_after = λ owed sources.
          c.tick.ensures.sources_after owed sources
          ∙ ap (λ (t : Bool). turned t (ticked (messages_of (outgoing_in a.outgoing.now) owed sources))) taking;
      outgoing_after = λ owed sources.
          c.tick.ensures.numbers_after owed sources
          ∙ ap (λ (t : Bool). kept_outgoing a.outgoing.now (outgoing_of (turned t (ticked (messages_of (outgoing_in a.outgoing.now) owed sources))))) taking;
    }

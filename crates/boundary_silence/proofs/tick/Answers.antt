-- `boundary_silence::tick` meets its contract.
use Rattle.laws.specs.Usual.{sym, ap, ap₂, ◌∙◌}
use Rattle.boundary_answers.specs.Numbers.{ticked_answer}
use Rattle.boundary_core.specs.Crossing.{core_of}
use Rattle.boundary_lists.specs.Laws.{next_in_lem}
use Rattle.boundary_lists.specs.Lists.{members_in}
use Rattle.boundary_silence.specs.Silence.{silenced_core, silence_tick, silence_core}
use Rattle.station.specs.Rules.Ticking.{Ticking}
use Rattle.boundary_silence.proofs.tick.Goals as goal

pub returns : goal.returns
returns c =
    let a = c.args in
    let pre = c.requires in
    let members = members_in a.listed.now a.areas.now a.watch.now a.misses.now in
    let next = c.next_after-next.ensures ∙ next_in_lem a.listed.now a.areas.now a.watch.now a.misses.now a.core.own.number a.core.view in
    let law = silence_tick a.core members pre.phase_value pre.misses_value in record {
      core_value = c.silence.ensures
          ∙ ap₂ (silenced_core a.core) next c.entry_at-entry.ensures
          ∙ sym (silence_core a.core members)
          ∙ sym (ap (λ (t : Ticking). core_of t.station) law);
      answer_value = c.done.ensures ∙ sym (ap (λ (t : Ticking). ticked_answer t.answer) law);
      misses_after = c.miss.ensures ∙ sym (ap (λ (t : Ticking). t.station.members) law);
    }

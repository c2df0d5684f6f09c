-- `message_switching::start` meets its contract.
use Rattle.std.specs.Prelude.{◌≡◌}
use Rattle.laws.specs.Usual.{ap, ap₂, ◌∙◌, Bool, eqb}
use Rattle.boundary_answers.specs.declared.Answer.{Answer}
use Rattle.boundary_core.specs.Crossing.{station_in}
use Rattle.boundary_places.specs.Places.{core_in}
use Rattle.message_beginning.specs.Begun.{begun_where}
use Rattle.message_places.specs.Outgoing.{outgoing_of}
use Rattle.message_places.specs.Owed.{kept_owed}
use Rattle.message_places.specs.Places.{kept_outgoing, messages_lent}
use Rattle.message_places.specs.declared.Outgoing.{Outgoing}
use Rattle.message_rules.specs.Rules.State.{Messages}
use Rattle.station.specs.Rules.Starting.{start_of}
use Rattle.message_switching.specs.Switched.{messages_started, done_word}
use Rattle.message_switching.proofs.start.Goals as goal

pub returns : goal.returns
returns c =
    let a = c.args in
    let station = station_in (core_in a.core.now) a.listed.now a.areas.now a.watch.now a.misses.now in
    let messages = messages_lent a.outgoing.now a.owed.now a.versions.now a.one_to_one.now a.to_all.now in
    let base = c.start-answer.ensures in
    let done = c.begin_where.ensures in
    let same : begun_where (eqb c.start-answer.result.word 1) c.begun-begun.result messages ≡ messages_started station messages a.own a.allowance =
    ap₂ (λ (t : Bool) (o : Outgoing). begun_where t o messages)
    (ap (λ (r : Answer). eqb r.word 1) base.value ∙ done_word (start_of station a.own).answer) c.begun-begun.ensures in record { core_after = base.core_after; core_after_2 = base.core_after_2; value = base.value; misses_after = base.misses_after; to_all_after = done.to_all_after ∙ same; outgoing_after = done.outgoing_after ∙ ap (λ (m : Messages). kept_outgoing a.outgoing.now (outgoing_of m)) same; owed_after = done.owed_after ∙ ap (λ (m : Messages). kept_owed a.owed.now m.owed) same }

-- `message_frames_heard::hear` meets its contract.
use Rattle.std.specs.Prelude.{◌≡◌, ◌&&◌}
use Rattle.laws.specs.Usual.{sym, ap, ap₂, ◌∙◌, Bool, true, false, not, ℕ, eqb}
use Rattle.boundary_answers.specs.declared.Answer.{Answer}
use Rattle.boundary_core.specs.Crossing.{station_in}
use Rattle.boundary_core.specs.declared.Core.{Core}
use Rattle.boundary_places.specs.Places.{core_in}
use Rattle.boundary_refused.specs.Taken.{participating_in}
use Rattle.message_beginning.specs.Begun.{begun_where}
use Rattle.message_owed.specs.Laws.{owed_same}
use Rattle.message_places.specs.Outgoing.{outgoing_of}
use Rattle.message_places.specs.Owed.{owed_in, kept_owed}
use Rattle.message_places.specs.Places.{kept_outgoing, messages_lent}
use Rattle.message_places.specs.declared.Outgoing.{Outgoing}
use Rattle.message_rules.specs.Rules.Again.{turned}
use Rattle.message_rules.specs.Rules.Calls.{turns_off}
use Rattle.message_rules.specs.Rules.State.{Messages}
use Rattle.message_taking.specs.Taking.{taken_by_lem, held_after}
use Rattle.station.specs.Rules.Hearing.{hear_of}
use Rattle.station.specs.Rules.State.{is_off}
use Rattle.station.specs.declared.Phase.{Phase}
use Rattle.message_frames_heard.specs.Heard.{messages_heard, read_in, cyclic_word, phase_after, forgotten, still_on}
use Rattle.station.specs.Rules.Answers.{phase_number}
use Rattle.message_frames_heard.proofs.hear.Goals as goal

pub returns-then-turned_off : goal.returns-then-turned_off
returns-then-turned_off c =
    let a = c.args in
    let station = station_in (core_in a.core.now) a.listed.now a.areas.now a.watch.now a.misses.now in
    let messages = messages_lent a.outgoing.now a.owed.now a.versions.now a.one_to_one.now a.to_all.now in
    let left = (hear_of station a.octets.now a.memory.now a.assembly.now).station in
    let base = c.hear-answer.ensures in
    let done = c.begin_where.ensures in
    let off : turns_off station left ≡ true =
    ap₂ (λ (k : Core) (p : Phase). not (is_off k.phase) && is_off p) (sym c.core_in-before.ensures.value)
    (sym (phase_after _ left (c.core_in.ensures.value ∙ base.core_after)))
    ∙ sym c.turned_off.ensures ∙ c.if-turned_off.true in
    let same : begun_where true c.nothing-nothing.result messages ≡ messages_heard station messages a.octets.now a.memory.now a.assembly.now =
    ap (λ (o : Outgoing). begun_where true o messages) c.nothing-nothing.ensures
    ∙ sym (forgotten station messages a.octets.now a.memory.now a.assembly.now off) in record { core_after = base.core_after; core_after_2 = base.core_after_2; value = base.value; memory_after = base.memory_after; assembly_after = base.assembly_after; misses_after = base.misses_after; to_all_after = done.to_all_after ∙ same; outgoing_after = done.outgoing_after ∙ ap (λ (m : Messages). kept_outgoing a.outgoing.now (outgoing_of m)) same; owed_after = done.owed_after ∙ ap (λ (m : Messages). kept_owed a.owed.now m.owed) same }

pub returns : goal.returns
returns c =
    let a = c.args in
    let read = core_in a.core.now in
    let station = station_in read a.listed.now a.areas.now a.watch.now a.misses.now in
    let messages = messages_lent a.outgoing.now a.owed.now a.versions.now a.one_to_one.now a.to_all.now in
    let heard = hear_of station a.octets.now a.memory.now a.assembly.now in
    let left = heard.station in
    let base = c.hear-answer.ensures in
    let on : turns_off station left ≡ false =
    ap₂ (λ (k : Core) (p : Phase). not (is_off k.phase) && is_off p) (sym c.core_in-before.ensures.value)
    (sym (phase_after _ left (c.core_in.ensures.value ∙ base.core_after)))
    ∙ sym c.turned_off.ensures ∙ c.if-turned_off.false in
    let taking =
    ap₂ (λ (held : Bool) (before : Bool). held && not before)
    (c.is_holder.ensures left.members ∙ held_after _ left base.core_after)
    (c.is_holder-held.ensures station.members)
    ∙ sym (taken_by_lem station left) in
    let may =
    ap₂ (λ (t : Bool) (u : Bool). t && u)
    (c.is_in.ensures ∙ ap (λ (k : Core). eqb (phase_number k.phase) 4) c.core_in-before.ensures.value ∙ sym (participating_in read.phase))
    (ap (λ (r : Answer). eqb r.word 2) base.value ∙ cyclic_word a.octets.now heard.answer) in
    let own : c.core_in-before.result.own.number ≡ read.own.number = ap (λ (k : Core). k.own.number) c.core_in-before.ensures.value in
    let same = still_on station messages a.octets.now a.memory.now a.assembly.now _ _ on may taking in
    let done = c.frame_turned.ensures in
    let by : turned (c.is_holder.result && not c.is_holder-held.result) (read_in (c.is_in.result && eqb c.hear-answer.result.word 2) c.core_in-before.result.own.number a.octets.now messages)
    ≡ messages_heard station messages a.octets.now a.memory.now a.assembly.now =
    ap (λ (n : ℕ). turned (c.is_holder.result && not c.is_holder-held.result) (read_in (c.is_in.result && eqb c.hear-answer.result.word 2) n a.octets.now messages)) own
    ∙ same in record {
      core_after = base.core_after;
      core_after_2 = base.core_after_2;
      value = base.value;
      memory_after = base.memory_after;
      assembly_after = base.assembly_after;
      misses_after = base.misses_after;
      to_all_after = done.sources_after (owed_in a.owed.now) messages.sources ∙ by;
      outgoing_after = done.outgoing_after (owed_in a.owed.now) messages.sources ∙ ap (λ (m : Messages). kept_outgoing a.outgoing.now (outgoing_of m)) by;
      owed_after = sym (owed_same a.owed.now c.leave.ensures)
          ∙ ap (λ (m : Messages). kept_owed a.owed.now m.owed) (done.sources_after (owed_in a.owed.now) messages.sources ∙ by);
    }

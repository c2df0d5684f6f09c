-- `boundary_frames::hear_frame` meets its contract.
use Rattle.std.specs.Prelude.{◌≡◌, ◌&&◌, ◌<◌}
use Rattle.laws.specs.Usual.{refl, sym, ap, ap₂, ◌∙◌, Bool, false, arith}
use Rattle.boundary_answers.specs.declared.Answer.{Answer}
use Rattle.boundary_core.specs.Crossing.{station_in, station_of}
use Rattle.boundary_core.specs.declared.Core.{Core}
use Rattle.boundary_entering.specs.Entering.{for_participant, not_for_participant}
use Rattle.boundary_frames.specs.Carried.{carried, entered_leaves}
use Rattle.boundary_lists.specs.Laws.{listed_in}
use Rattle.boundary_lists.specs.Lists.{members_in}
use Rattle.boundary_places.proofs.Laws.{core_in_back, left_alone}
use Rattle.boundary_places.specs.Places.{core_in}
use Rattle.boundary_refused.specs.Leaves.{heard_leaves}
use Rattle.boundary_refused.specs.Strange.{is_strange, strange_heard}
use Rattle.boundary_refused.specs.Taken.{is_taken_by}
use Rattle.boundary_told.specs.Routes.{told_read}
use Rattle.boundary_told.specs.Told.{route_of, with_frame}
use Rattle.frame.specs.Codes.{is_cyclic}
use Rattle.members.specs.Members.{is_listed}
use Rattle.station.specs.Rules.Hearing.{Hearing, hear_of}
use Rattle.boundary_frames.proofs.hear_frame.Goals as goal

pub returns-then-not-is_in : goal.returns-then-not-is_in
returns-then-not-is_in c =
    let a = c.args in
    let pre = c.requires in
    let core = c.core_in-state.ensures.value in
    let state = c.core_in-state.result in
    let members = members_in a.listed.now a.areas.now a.watch.now a.misses.now in
    let call : Core → Hearing = λ (k : Core). hear_of (station_of k members) a.octets.now a.memory.now a.assembly.now in
    let other : for_participant state a.frame ≡ false = ap (λ (phase : Bool). phase && is_cyclic a.frame.code) (sym c.is_in.ensures ∙ c.if-not-is_in.true) in
    let free = ap (λ (k : Core). is_taken_by k a.frame) core ∙ pre.frame_value in
    let e = c.hear_seldom.ensures in
    let done = entered_leaves state members a.octets.now a.memory.now a.assembly.now a.core.now a.frame free other pre.assembly_value pre.octets_value
    (e.core_after, (e.core_after_2, (e.value, e.misses_after))) in
    let left = carried call a.octets.now a.core.now core done in
    record { core_after = left.0; core_after_2 = left.1.0; value = left.1.1.0; memory_after = left.1.1.1.0; assembly_after = left.1.1.1.1.0; misses_after = left.1.1.1.1.1 }

pub hear_cyclic-requires : goal.hear_cyclic-requires
hear_cyclic-requires c =
    let told = rw (c.is_listed-sender.ensures, c.is_listed-taker.ensures) at c.is_accepted.ensures in
    record { frame_value = sym told ∙ c.if-is_accepted.true; assembly_value = c.requires.assembly_value; octets_value = c.requires.octets_value }

pub returns-then-is_accepted : goal.returns-then-is_accepted
returns-then-is_accepted c =
    let a = c.args in
    let call : Core → Hearing = λ (k : Core). hear_of (station_in k a.listed.now a.areas.now a.watch.now a.misses.now) a.octets.now a.memory.now a.assembly.now in
    let e = c.hear_cyclic.ensures in
    let left = carried call a.octets.now a.core.now c.core_in-state.ensures.value
    (e.core_after, (e.core_after_2, (e.value, (e.memory_after, (e.assembly_after, e.misses_after))))) in
    record { core_after = left.0; core_after_2 = left.1.0; value = left.1.1.0; memory_after = left.1.1.1.0; assembly_after = left.1.1.1.1.0; misses_after = left.1.1.1.1.1 }

pub returns-then-is_strange : goal.returns-then-is_strange
returns-then-is_strange c =
    let a = c.args in
    let pre = c.requires in
    let core = c.core_in-state.ensures in
    let frame = a.frame in
    let state = core_in a.core.now in
    let members = members_in a.listed.now a.areas.now a.watch.now a.misses.now in
    let source : frame.source < 256 = omega arith in
    let destination : frame.destination < 256 = omega arith in
    let sender = c.is_listed-sender.ensures ∙ sym (listed_in a.listed.now a.areas.now a.watch.now a.misses.now frame.source source) in
    let taker = c.is_listed-taker.ensures ∙ sym (listed_in a.listed.now a.areas.now a.watch.now a.misses.now frame.destination destination) in
    let told = c.is_strange.ensures ∙ ap₂ (λ (s d : Bool). is_strange c.core_in-state.result s d frame) sender taker in
    let strange = ap (λ (k : Core). is_strange k (is_listed members frame.source) (is_listed members frame.destination) frame) (sym core.value) ∙ sym told ∙ c.if-is_strange.true in
    let law = strange_heard state members a.octets.now a.memory.now a.assembly.now frame strange pre.assembly_value pre.octets_value in
    let left = heard_leaves (station_of state members) _ a.memory.now a.assembly.now _ law state _ members (sym (core_in_back a.core.now members)) c.refused.ensures refl in
    let heard = hear_of (station_of state members) a.octets.now a.memory.now a.assembly.now in
    let numbers = left_alone a.core.now heard.station core.numbers_len left.0 in
    let answer = c.tell_read.ensures ∙ ap (λ (t : Answer). with_frame t (route_of frame)) left.1.0 ∙ told_read a.octets.now frame heard.answer pre.octets_value in
    record { core_after = numbers.0; core_after_2 = numbers.1; value = answer; memory_after = left.1.1.0; assembly_after = left.1.1.1.0; misses_after = left.1.1.1.1 }

pub returns : goal.returns
returns c =
    let a = c.args in
    let pre = c.requires in
    let core = c.core_in-state.ensures.value in
    let state = c.core_in-state.result in
    let members = members_in a.listed.now a.areas.now a.watch.now a.misses.now in
    let call : Core → Hearing = λ (k : Core). hear_of (station_of k members) a.octets.now a.memory.now a.assembly.now in
    let free = ap (λ (k : Core). is_taken_by k a.frame) core ∙ pre.frame_value in
    let accepted = rw (c.is_listed-sender.ensures, c.is_listed-taker.ensures) at c.is_accepted.ensures in
    let strange = rw (c.is_listed-sender.ensures, c.is_listed-taker.ensures) at c.is_strange.ensures in
    let other = not_for_participant state _ _ a.frame free (sym accepted ∙ c.if-is_accepted.false) (sym strange ∙ c.if-is_strange.false) in
    let e = c.hear_seldom-2.ensures in
    let done = entered_leaves state members a.octets.now a.memory.now a.assembly.now a.core.now a.frame free other pre.assembly_value pre.octets_value
    (e.core_after, (e.core_after_2, (e.value, e.misses_after))) in
    let left = carried call a.octets.now a.core.now core done in
    record { core_after = left.0; core_after_2 = left.1.0; value = left.1.1.0; memory_after = left.1.1.1.0; assembly_after = left.1.1.1.1.0; misses_after = left.1.1.1.1.1 }

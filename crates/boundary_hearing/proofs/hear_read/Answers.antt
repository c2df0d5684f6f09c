-- `boundary_hearing::hear_read` meets its contract.
use Rattle.std.specs.Prelude.{◌&&◌}
use Rattle.laws.specs.Usual.{refl, sym, ap, ◌∙◌, Bool, not, length}
use borrow.Author.Tests.{not-true}
use Rattle.boundary_core.specs.Crossing.{station_of}
use Rattle.boundary_core.specs.declared.Core.{Core}
use Rattle.boundary_lists.specs.Lists.{members_in}
use Rattle.boundary_places.proofs.Laws.{core_in_back, left_alone}
use Rattle.boundary_places.specs.Places.{core_in}
use Rattle.boundary_refused.specs.Leaves.{heard_leaves}
use Rattle.boundary_refused.specs.Taken.{is_taken_by, body_refused}
use Rattle.boundary_refused.specs.Unheard.{read_on}
use Rattle.boundary_told.specs.Routes.{told_header, told_unread, body_unread}
use Rattle.frame_round_trip.proofs.Accepted.{bodied}
use Rattle.laws.specs.Tests.{first, second}
use Rattle.station.specs.Rules.Hearing.{lent_right, hear_of}
use Rattle.boundary_hearing.proofs.hear_read.Goals as goal

pub hear_frame-requires : goal.hear_frame-requires
hear_frame-requires c =
    let a = c.args in
    let pre = c.requires in
    let both = c.if-lent-is_taken.true in
    let lent = lent_right a.memory.now a.assembly.now in
    let other = not c.is_taken.result in
    let taken = c.is_taken.ensures ∙ ap (λ (k : Core). is_taken_by k a.header) c.core_in-state.ensures.value in
    let body = sym c.read_body.ensures ∙ c.in-Ok.is in
    let free = ap (is_taken_by (core_in a.core.now)) (sym (bodied (length a.octets.now) a.header _ body).is_same) ∙ sym taken ∙ not-true _ (second lent other both) in
    record { frame_value = free; assembly_value = first lent other both; octets_value = read_on a.octets.now a.header _ pre body }

pub returns-in-Err : goal.returns-in-Err
returns-in-Err c =
    let a = c.args in
    let pre = c.requires in
    let core = c.core_in-state.ensures in
    let state = core_in a.core.now in
    let members = members_in a.listed.now a.areas.now a.watch.now a.misses.now in
    let station = station_of state members in
    let both = c.if-lent-is_taken.true in
    let lent = lent_right a.memory.now a.assembly.now in
    let other = not c.is_taken.result in
    let taken = c.is_taken.ensures ∙ ap (λ (k : Core). is_taken_by k a.header) core.value in
    let body = sym c.read_body.ensures ∙ c.in-Err.is in
    let law = body_refused state members a.octets.now a.memory.now a.assembly.now a.header (first lent other both) pre _ (sym taken ∙ not-true _ (second lent other both)) body in
    let left = heard_leaves station _ a.memory.now a.assembly.now _ law state _ members (sym (core_in_back a.core.now members)) c.refused.ensures refl in
    let heard = hear_of station a.octets.now a.memory.now a.assembly.now in
    let numbers = left_alone a.core.now heard.station core.numbers_len left.0 in
    let unread = body_unread a.octets.now a.header _ pre body in
    record { core_after = numbers.0; core_after_2 = numbers.1; value = told_unread a.octets.now _ heard.answer unread left.1.0; memory_after = left.1.1.0; assembly_after = left.1.1.1.0; misses_after = left.1.1.1.1 }

pub hear_barred-answer-requires : goal.hear_barred-answer-requires
hear_barred-answer-requires c =
    let a = c.args in
    let lent = lent_right a.memory.now a.assembly.now in
    let taken = c.is_taken.ensures ∙ ap (λ (k : Core). is_taken_by k a.header) c.core_in-state.ensures.value in
    record { header_value = ap (λ (taken : Bool). lent && not taken) (sym taken) ∙ c.if-lent-is_taken.false; octets_value = c.requires }

pub returns : goal.returns
returns c =
    let a = c.args in
    let done = c.hear_barred-answer.ensures in
    let members = members_in a.listed.now a.areas.now a.watch.now a.misses.now in
    let heard = hear_of (station_of (core_in a.core.now) members) a.octets.now a.memory.now a.assembly.now in
    let told = c.tell_header.ensures ∙ told_header a.octets.now a.header heard.answer c.requires done.value in
    record { core_after = done.core_after; core_after_2 = done.core_after_2; value = told; memory_after = done.memory_after; assembly_after = done.assembly_after; misses_after = done.misses_after }

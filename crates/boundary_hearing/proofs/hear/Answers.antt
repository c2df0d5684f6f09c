-- `boundary_hearing::hear` meets its contract.
use Rattle.laws.specs.Usual.{sym, ap, ◌∙◌, arith}
use Rattle.boundary_answers.specs.Numbers.{refused_answer, heard_answer}
use Rattle.boundary_core.specs.Crossing.{core_of, station_of}
use Rattle.boundary_lists.specs.Lists.{members_in}
use Rattle.boundary_places.proofs.Laws.{core_in_back, left_alone}
use Rattle.boundary_places.specs.Places.{core_in}
use Rattle.boundary_refused.specs.Unheard.{header_refused}
use Rattle.boundary_told.specs.Routes.{told_unread, header_unread}
use Rattle.station.specs.Rules.Hearing.{Hearing, hear_of}
use Rattle.boundary_hearing.proofs.hear.Goals as goal

pub hear_read-requires : goal.hear_read-requires
hear_read-requires c = sym c.read_header.ensures ∙ c.in-Ok.is

pub returns-in-Err : goal.returns-in-Err
returns-in-Err c =
    let a = c.args in
    let read = sym c.read_header.ensures ∙ c.in-Err.is in
    let members = members_in a.listed.now a.areas.now a.watch.now a.misses.now in
    let station = station_of (core_in a.core.now) members in
    let law = header_refused station a.octets.now a.memory.now a.assembly.now _ read in
    let heard = hear_of station a.octets.now a.memory.now a.assembly.now in
    let numbers = left_alone a.core.now heard.station (omega arith) (sym (core_in_back a.core.now members) ∙ sym (ap (λ (h : Hearing). core_of h.station) law)) in
    let answer = c.refused.ensures ∙ ap refused_answer c.heard_refusal.ensures ∙ sym (ap (λ (t : Hearing). heard_answer t.answer) law) in record { core_after = numbers.0; core_after_2 = numbers.1; value = told_unread a.octets.now _ heard.answer (header_unread a.octets.now _ read) answer; memory_after = sym (ap (λ (t : Hearing). t.memory) law); assembly_after = sym (ap (λ (t : Hearing). t.assembly) law); misses_after = sym (ap (λ (t : Hearing). t.station.members) law) }

-- `boundary_sending::ask` meets its contract.
use Rattle.boundary_holder.specs.Held.{sent_core, held_placed, held_asked}
use Rattle.boundary_answers.specs.Numbers.{frame_answer, asked_answer}
use Rattle.boundary_core.specs.Crossing.{core_of, station_of}
use Rattle.boundary_told.specs.Routes.{told_asked}
use Rattle.frame_writing.specs.Writing.{whole_length, output_of}
use Rattle.station.specs.Rules.Asking.{next_fields, turn_for, Asking, ask_of}
use Rattle.block.specs.Blocks.{start_of}
use Rattle.std.specs.Prelude.{◌&&◌, ◌+◌}
use Rattle.laws.specs.Usual.{sym, ap, ◌∙◌, ℕ, length, drop, eqb, leb, rules}
use borrow.Author.Tests.{eqb-true, leb-true}
use Rattle.laws.specs.Tests.{first, second}
use Rattle.boundary_lists.specs.Laws.{next_in_lem}
use Rattle.boundary_lists.specs.Lists.{members_in}
use Rattle.boundary_sending.proofs.ask.Goals as goal

pub sent_block-requires : goal.sent_block-requires
sent_block-requires c = c.requires.core_value

pub returns : goal.returns
returns c =
    let a = c.args in
    let pre = c.requires in
    let own = a.core.own in
    let block = a.core.block in
    let members = members_in a.listed.now a.areas.now a.watch.now a.misses.now in
    let law = held_asked a.core members a.memory.now a.turn.now a.output.now pre.core_value pre.output_value in
    let next = c.next_after_ours-next.ensures ∙ next_in_lem a.listed.now a.areas.now a.watch.now a.misses.now own.number own.number in
    let done = c.send_next-octets.ensures in
    let from = drop (start_of (block + 1)) (turn_for own.areas block a.memory.now a.turn.now) in
    let asking = ask_of (station_of a.core members) a.memory.now a.turn.now a.output.now in
    let written = done.output_after ∙ ap (λ (n : ℕ). output_of (next_fields own block n) from a.output.now) next ∙ sym (ap (λ (t : Asking). t.output) law) in
    let octets = c.frame_answer.ensures
    ∙ ap frame_answer (done.value ∙ ap (λ (n : ℕ). whole_length (next_fields own block n)) next)
    ∙ sym (ap (λ (t : Asking). asked_answer t.answer) law) in record { core_value_2 = c.sent_block.ensures ∙ ap (sent_core a.core) next ∙ sym (ap (λ (t : Asking). core_of t.station) law); answer_value = c.tell_written-answer.ensures ∙ told_asked asking written octets; turn_after = done.turn_after ∙ sym (ap (λ (t : Asking). t.turn) law); output_after = written }

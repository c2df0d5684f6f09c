-- `boundary_asking::ask` meets its contract.
use Rattle.std.specs.Prelude.{◌≡◌, ◌&&◌}
use Rattle.laws.specs.Usual.{refl, sym, ap, ap₂, ◌∙◌, false, length, eqb, leb, rules}
use borrow.Author.Tests.{leb-true}
use Rattle.boundary_answers.specs.Numbers.{refused_answer}
use Rattle.boundary_asking.specs.Carried.{carried, carried_known}
use Rattle.boundary_bare.specs.Bare.{bare_asked}
use Rattle.boundary_core.specs.Crossing.{core_of, station_in, station_of}
use Rattle.boundary_core.specs.declared.Core.{Core}
use Rattle.boundary_lists.specs.Lists.{members_in}
use Rattle.boundary_holder.specs.Held.{holds_block}
use Rattle.boundary_places.proofs.Laws.{core_in_back, left_alone}
use Rattle.boundary_places.specs.Places.{core_in}
use Rattle.boundary_due.specs.Due.{due_core, ask_refusal, refused_asked}
use Rattle.boundary_told.specs.Told.{asked_told}
use Rattle.laws.specs.Tests.{first, second}
use Rattle.station.specs.Rules.Asking.{Asking, lent_right, ask_of}
use Rattle.boundary_asking.proofs.ask.Goals as goal

pub ask_block-requires : goal.ask_block-requires
ask_block-requires c =
    let held = c.holds_block.result in
    let lent = c.is_lent_right-lent.result in
    let both = c.if-holds_block-lent.true in
    record { state_value = sym c.holds_block.ensures ∙ first held lent both; output_value = sym c.is_lent_right-lent.ensures ∙ second held lent both }

pub returns-then-holds_block-lent : goal.returns-then-holds_block-lent
returns-then-holds_block-lent c =
    let a = c.args in
    let call : Core → Asking = λ (k : Core). ask_of (station_in k a.listed.now a.areas.now a.watch.now a.misses.now) a.memory.now a.turn.now a.output.now in
    let whole = carried call a.core.now c.core_in-state.ensures.value (c.ask_block.ensures.core_after, (c.ask_block.ensures.core_after_2, (c.ask_block.ensures.value, (c.ask_block.ensures.turn_after, (c.ask_block.ensures.output_after, c.ask_block.ensures.misses_after))))) in
    record { core_after = whole.0; core_after_2 = whole.1.0; value = whole.1.1.0; turn_after = whole.1.1.1.0; output_after = whole.1.1.1.1.0; misses_after = whole.1.1.1.1.1 }

pub returns-then-not-lent-is_due : goal.returns-then-not-lent-is_due
returns-then-not-lent-is_due c =
    let a = c.args in
    let core = c.core_in-state.ensures in
    let members = members_in a.listed.now a.areas.now a.watch.now a.misses.now in
    let station = station_of (core_in a.core.now) members in
    let due = c.is_due.ensures ∙ ap due_core core.value in
    let no : (lent_right a.memory.now a.turn.now a.output.now && due_core (core_in a.core.now)) ≡ false =
    rw (← c.is_lent_right-lent.ensures, ← due) c.if-not-lent-is_due.true in
    let law = refused_asked (core_in a.core.now) members a.memory.now a.turn.now a.output.now no in
    let asking = ask_of station a.memory.now a.turn.now a.output.now in
    let numbers = left_alone a.core.now asking.station core.numbers_len (sym (core_in_back a.core.now members) ∙ sym (ap (λ (t : Asking). core_of t.station) law)) in
    let refusal = c.ask_refusal.ensures ∙ ap ask_refusal c.is_lent_right-lent.ensures in record { core_after = numbers.0; core_after_2 = numbers.1; value = c.refused.ensures ∙ ap refused_answer refusal ∙ sym (ap (λ (t : Asking). asked_told t.output t.answer) law); turn_after = sym (ap (λ (t : Asking). t.turn) law); output_after = sym (ap (λ (t : Asking). t.output) law); misses_after = sym (ap (λ (t : Asking). t.station.members) law) }

pub ask_bare-requires : goal.ask_bare-requires
ask_bare-requires c =
    let a = c.args in
    let lent = c.is_lent_right-lent in
    let right = sym lent.ensures ∙ first lent.result c.is_due.result c.if-not-lent-is_due.false in
    leb-true 1088 (length a.output.now) (second (eqb (length a.memory.now) 17408 && eqb (length a.turn.now) 17408) (leb 1088 (length a.output.now)) right)

pub returns : goal.returns
returns c =
    let a = c.args in
    let state = c.core_in-state.result in
    let members = members_in a.listed.now a.areas.now a.watch.now a.misses.now in
    let lent = c.is_lent_right-lent in
    let due = c.is_due in
    let both = c.if-not-lent-is_due.false in
    let free : (holds_block state && lent_right a.memory.now a.turn.now a.output.now) ≡ false =
    ap₂ ◌&&◌ (sym c.holds_block.ensures) (sym lent.ensures) ∙ c.if-holds_block-lent.false in
    let law = bare_asked state members a.memory.now a.turn.now a.output.now (sym due.ensures ∙ second lent.result due.result both) (sym lent.ensures ∙ first lent.result due.result both) free in
    let call : Core → Asking = λ (k : Core). ask_of (station_in k a.listed.now a.areas.now a.watch.now a.misses.now) a.memory.now a.turn.now a.output.now in
    let done = c.ask_bare.ensures in
    let whole = carried_known call a.core.now c.core_in-state.ensures.value law (done.core_after, (done.core_after_2, (done.value, (refl, (done.output_after, done.misses_after))))) in
    record { core_after = whole.0; core_after_2 = whole.1.0; value = whole.1.1.0; turn_after = whole.1.1.1.0; output_after = whole.1.1.1.1.0; misses_after = whole.1.1.1.1.1 }

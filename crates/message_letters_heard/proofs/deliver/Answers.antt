-- `message_letters_heard::deliver` meets its contract.
use Rattle.laws.specs.Usual.{refl, sym, ap, ◌∙◌}
use Rattle.boundary_answers.specs.declared.Answer.{Answer}
use Rattle.message_letter_tests.specs.Tests.{passed_by}
use Rattle.message_owed.specs.Laws.{owed_same}
use Rattle.message_places.specs.Owed.{owed_in}
use Rattle.message_receiving.specs.Laws.{meets}
use Rattle.message_receiving.specs.Receiving.{taken_by}
use Rattle.message_rules.specs.Rules.State.{no_message}
use Rattle.message_sources.specs.Sources.{sources_in}
use Rattle.message_letters_heard.specs.Heard.{delivered_by}
use Rattle.message_letters_heard.specs.Laws.{received_by, passed_by_lem}
use Rattle.message.specs.declared.Received.TheVariants as received
use Rattle.message_letters_heard.proofs.deliver.Goals as goal

pub returns-then-is_received : goal.returns-then-is_received
returns-then-is_received c =
    let a = c.args in
    let numbers = a.owed.now in
    let sources = sources_in a.versions.now a.one_to_one.now a.to_all.now in
    let done = c.receive.ensures in
    let both = meets numbers _ (delivered_by a.core a.known a.given (owed_in numbers) sources a.letter) (taken_by (owed_in numbers) sources a.letter) _ _ _ _
    (received_by a.core a.known a.given (owed_in numbers) sources a.letter (sym c.is_received.ensures ∙ c.if-is_received.true))
    done.value
    (done.owed_after, done.owed_after_2)
    (done.versions_after, (done.one_to_one_after, done.to_all_after)) in
    record { value = both.0; owed_after = both.1.0; owed_after_2 = both.1.1.0; versions_after = both.1.1.1.0; one_to_one_after = both.1.1.1.1.0; to_all_after = both.1.1.1.1.1 }

pub returns : goal.returns
returns c =
    let a = c.args in
    let numbers = a.owed.now in
    let sources = sources_in a.versions.now a.one_to_one.now a.to_all.now in
    let both = meets numbers numbers (delivered_by a.core a.known a.given (owed_in numbers) sources a.letter)
    (record { owed = owed_in numbers; sources = sources; answer = received.Told (passed_by a.core a.known a.given a.letter) }) _
    a.versions.now a.one_to_one.now a.to_all.now
    (passed_by_lem a.core a.known a.given (owed_in numbers) sources a.letter (sym c.is_received.ensures ∙ c.if-is_received.false))
    (c.told.ensures ∙ ap (λ (answer : Answer). record { answer = answer; message = no_message }) c.answer_to.ensures)
    (refl, sym (owed_same numbers c.leave.ensures))
    (refl, (refl, refl)) in
    record { value = both.0; owed_after = both.1.0; owed_after_2 = both.1.1.0; versions_after = both.1.1.1.0; one_to_one_after = both.1.1.1.1.0; to_all_after = both.1.1.1.1.1 }

-- `message_letters_heard::hear_letter` meets its contract.
use Rattle.std.specs.Prelude.{◌≡◌, ◌<◌}
use Rattle.laws.specs.Usual.{refl, sym, ap, ap₂, ◌∙◌, true, List, arith, length}
use Rattle.boundary_answers.specs.declared.Answer.{Answer}
use Rattle.boundary_core.specs.Crossing.{core_of, station_of}
use Rattle.boundary_core.specs.declared.Core.{Core}
use Rattle.boundary_lists.specs.Laws.{listed_in}
use Rattle.boundary_lists.specs.Lists.{members_in}
use Rattle.boundary_places.proofs.Laws.{core_in_back, left_alone}
use Rattle.boundary_places.specs.Places.{core_in}
use Rattle.message.specs.declared.Confirmation.{Confirmation}
use Rattle.message.specs.declared.Letter.{Letter}
use Rattle.message_frames.specs.Frames.{letter_in}
use Rattle.message_letter_tests.specs.Laws.{turned_off}
use Rattle.message_letter_tests.specs.Tests.{turns_off_by}
use Rattle.message_places.proofs.Laws.{outgoing_same}
use Rattle.message_places.specs.Outgoing.{messages_of}
use Rattle.message_places.specs.Owed.{owed_in}
use Rattle.message_places.specs.Places.{outgoing_in, messages_in}
use Rattle.message_rules.specs.Rules.Hearing.{letter_heard}
use Rattle.message_rules.specs.Rules.State.{no_message, no_messages, Sources}
use Rattle.message_sources.specs.Sources.{sources_in}
use Rattle.station.specs.Rules.Starting.{stop_of}
use Rattle.message_letters_heard.specs.Heard.{delivered_by}
use Rattle.message_letters_heard.specs.Laws.{delivered_heard, known_after, meets}
use Rattle.frame.specs.declared.Refusal.TheVariants as refusals
use Rattle.message.specs.declared.Received.TheVariants as received
use Rattle.station.specs.declared.Heard.TheVariants as heard
use Rattle.message_letters_heard.proofs.hear_letter.Goals as goal

pub returns-then-turns_off : goal.returns-then-turns_off
returns-then-turns_off c =
    let a = c.args in
    let octets = a.octets.now in
    let members = members_in a.listed.now a.areas.now a.watch.now a.misses.now in
    let sources = sources_in a.versions.now a.one_to_one.now a.to_all.now in
    let station = station_of (core_in a.core.now) members in
    let messages = messages_in a.outgoing.now a.owed.now sources in
    let turns : turns_off_by (core_in a.core.now) (letter_in octets) ≡ true =
    ap₂ turns_off_by (sym c.core_in-state.ensures.value) (sym c.letter_in-letter.ensures) ∙ sym c.turns_off.ensures ∙ c.if-turns_off.true in
    let off = c.turn_off.ensures in
    let both = meets a.core.now a.outgoing.now a.owed.now (letter_heard station messages (length octets) (letter_in octets)) (stop_of station).station no_messages
    (received.Told (heard.Refused refusals.Taken)) _ _ _ _ _ _
    (turned_off (core_in a.core.now) members (length octets) (letter_in octets) messages turns)
    (off.core_after, off.core_after_2)
    off.misses_after
    off.to_all_after
    off.outgoing_after
    off.owed_after
    (c.told.ensures ∙ ap (λ (answer : Answer). record { answer = answer; message = no_message }) c.refused.ensures) in
    record { core_after = both.0; core_after_2 = both.1.0; misses_after = both.1.1.0; to_all_after = both.1.1.1.0; outgoing_after = both.1.1.1.1.0; owed_after = both.1.1.1.1.1.0; value = both.1.1.1.1.1.1 }

pub returns : goal.returns
returns c =
    let a = c.args in
    let octets = a.octets.now in
    let members = members_in a.listed.now a.areas.now a.watch.now a.misses.now in
    let sources = sources_in a.versions.now a.one_to_one.now a.to_all.now in
    let outgoing = outgoing_in a.outgoing.now in
    let owed = owed_in a.owed.now in
    let messages = messages_of outgoing owed sources in
    let state = c.core_in-state.result in
    let letter = c.letter_in-letter.result in
    let known = c.is_listed-known.result in
    let small : letter.source < 256 = omega (arith, c.letter_in-letter.type_inv) in
    let listed = listed_in a.listed.now a.areas.now a.watch.now a.misses.now letter.source small ∙ sym c.is_listed-known.ensures in
    let after = delivered_by state known (length octets) owed sources letter in
    let done = c.deliver.ensures in
    let both = meets a.core.now a.outgoing.now a.owed.now (letter_heard (station_of (core_in a.core.now) members) messages (length octets) (letter_in octets))
    (station_of state members) (messages_of outgoing after.owed after.sources) after.answer _ a.core.now members a.outgoing.now _ _
    (ap₂ (λ (k : Core) (l : Letter). letter_heard (station_of k members) messages (length octets) l) (sym c.core_in-state.ensures.value) (sym c.letter_in-letter.ensures)
    ∙ delivered_heard state members (length octets) letter known listed owed sources outgoing (sym c.turns_off.ensures ∙ c.if-turns_off.false))
    (left_alone a.core.now (station_of state members) c.core_in-state.ensures.numbers_len
    (sym (core_in_back a.core.now members) ∙ ap (λ (k : Core). core_of (station_of k members)) (sym c.core_in-state.ensures.value)))
    refl
    (ap₂ (λ (w : List Confirmation) (s : Sources). messages_of outgoing w s) done.owed_after (known_after after.sources _ _ _ (done.versions_after, (done.one_to_one_after, done.to_all_after))))
    (sym (outgoing_same a.outgoing.now c.leave.ensures))
    done.owed_after_2
    done.value in
    record { core_after = both.0; core_after_2 = both.1.0; misses_after = both.1.1.0; to_all_after = both.1.1.1.0; outgoing_after = both.1.1.1.1.0; owed_after = both.1.1.1.1.1.0; value = both.1.1.1.1.1.1 }

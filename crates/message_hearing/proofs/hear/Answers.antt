-- `message_hearing::hear` meets its contract.
use Rattle.std.specs.Prelude.{◌≡◌}
use Rattle.laws.specs.Usual.{sym, ap, ◌∙◌, true, false, rules}
use Rattle.boundary_answers.specs.declared.Answer.{Answer}
use Rattle.boundary_core.specs.Crossing.{core_of, station_in}
use Rattle.boundary_places.specs.Places.{core_in, kept}
use Rattle.message_answers.specs.Numbers.{received_told}
use Rattle.message_places.specs.Outgoing.{outgoing_of}
use Rattle.message_places.specs.Owed.{kept_owed}
use Rattle.message_places.specs.Places.{kept_outgoing, messages_lent}
use Rattle.message_rules.specs.Rules.Calls.{Hearing}
use Rattle.message_rules.specs.Rules.Hearing.{is_letter, message_heard}
use Rattle.message_rules.specs.Rules.State.{no_message}
use Rattle.message_hearing.specs.Heard.{as_letter, as_frame, with_header, answered}
use Rattle.message_hearing.proofs.hear.Goals as goal

pub hear_letter-requires : goal.hear_letter-requires
hear_letter-requires c =
    with_header c.args.octets.now c.args.memory.now c.args.assembly.now (search rules)

pub returns-then-is_letter : goal.returns-then-is_letter
returns-then-is_letter c =
    let a = c.args in
    let station = station_in (core_in a.core.now) a.listed.now a.areas.now a.watch.now a.misses.now in
    let messages = messages_lent a.outgoing.now a.owed.now a.versions.now a.one_to_one.now a.to_all.now in
    let octets = a.octets.now in
    let memory = a.memory.now in
    let assembly = a.assembly.now in
    let is : is_letter octets memory assembly ≡ true = sym c.is_letter.ensures ∙ c.if-is_letter.true in
    let letter = c.hear_letter.ensures in
    let same = as_letter station messages octets memory assembly is in record { core_after = letter.core_after ∙ ap (λ (h : Hearing). core_of h.both.ring) same; core_after_2 = letter.core_after_2 ∙ ap (λ (h : Hearing). kept a.core.now (core_of h.both.ring)) same; value = letter.value ∙ answered octets memory assembly is (message_heard station messages octets).answer ∙ ap (λ (h : Hearing). received_told octets h.answer) same; memory_after = ap (λ (h : Hearing). h.memory) same; assembly_after = ap (λ (h : Hearing). h.assembly) same; misses_after = letter.misses_after ∙ ap (λ (h : Hearing). h.both.ring.members) same; to_all_after = letter.to_all_after ∙ ap (λ (h : Hearing). h.both.messages) same; outgoing_after = letter.outgoing_after ∙ ap (λ (h : Hearing). kept_outgoing a.outgoing.now (outgoing_of h.both.messages)) same; owed_after = letter.owed_after ∙ ap (λ (h : Hearing). kept_owed a.owed.now h.both.messages.owed) same }

pub returns : goal.returns
returns c =
    let a = c.args in
    let station = station_in (core_in a.core.now) a.listed.now a.areas.now a.watch.now a.misses.now in
    let messages = messages_lent a.outgoing.now a.owed.now a.versions.now a.one_to_one.now a.to_all.now in
    let octets = a.octets.now in
    let memory = a.memory.now in
    let assembly = a.assembly.now in
    let is : is_letter octets memory assembly ≡ false = sym c.is_letter.ensures ∙ c.if-is_letter.false in
    let frame = c.hear.ensures in
    let same = as_frame station messages octets memory assembly is in record { core_after = frame.core_after ∙ ap (λ (h : Hearing). core_of h.both.ring) same; core_after_2 = frame.core_after_2 ∙ ap (λ (h : Hearing). kept a.core.now (core_of h.both.ring)) same; value = c.told.ensures ∙ ap (λ (r : Answer). record { answer = r; message = no_message }) frame.value ∙ ap (λ (h : Hearing). received_told octets h.answer) same; memory_after = frame.memory_after ∙ ap (λ (h : Hearing). h.memory) same; assembly_after = frame.assembly_after ∙ ap (λ (h : Hearing). h.assembly) same; misses_after = frame.misses_after ∙ ap (λ (h : Hearing). h.both.ring.members) same; to_all_after = frame.to_all_after ∙ ap (λ (h : Hearing). h.both.messages) same; outgoing_after = frame.outgoing_after ∙ ap (λ (h : Hearing). kept_outgoing a.outgoing.now (outgoing_of h.both.messages)) same; owed_after = frame.owed_after ∙ ap (λ (h : Hearing). kept_owed a.owed.now h.both.messages.owed) same }

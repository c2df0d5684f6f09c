-- `message_posting::post` meets its contract.
use Rattle.std.specs.Prelude.{◌≡◌, ◌<◌}
use Rattle.laws.specs.Usual.{sym, ap, ap₂, ◌∙◌, true, false, List, ℕ, arith, length, leb}
use borrow.Author.Tests.{eq-eqb, ne_eqb, leb-true}
use Rattle.boundary_core.specs.Crossing.{station_in}
use Rattle.boundary_core.specs.declared.Core.{Core}
use Rattle.boundary_places.specs.Places.{core_in}
use Rattle.laws.specs.Tests.{first}
use Rattle.message_places.specs.Outgoing.{messages_of}
use Rattle.message_places.specs.Places.{outgoing_in}
use Rattle.message_places.specs.declared.Outgoing.{Outgoing}
use Rattle.message_rules.specs.Rules.Again.{is_open}
use Rattle.message_rules.specs.Rules.Posting.{waiting}
use Rattle.message_rules.specs.Rules.State.{Messages, with_slot}
use Rattle.station.specs.Rules.State.{is_off}
use Rattle.message_posting.specs.Sendable.{post_in, sendable_in, buffer_wrong, not_sendable, still_open, at_off, handed, meets, left_alone}
use Rattle.frame.specs.declared.Refusal.TheVariants as refusals
use Rattle.message.specs.declared.Posted.TheVariants as posted
use Rattle.message_posting.proofs.post.Goals as goal

pub returns-then-mail-ne-MAIL_OCTETS : goal.returns-then-mail-ne-MAIL_OCTETS
returns-then-mail-ne-MAIL_OCTETS c =
    let a = c.args in
    let read = core_in a.core.now in
    let before = outgoing_in a.outgoing.now in
    let posting = post_in read a.listed.now before a.message a.octets.now a.mail.now in
    let both = left_alone a.outgoing.now posting (posted.Refused refusals.Buffer) _ a.mail.now c.outgoing_in-state.ensures.numbers_len
    (λ areas watch misses owed sources.
    buffer_wrong (station_in read a.listed.now areas watch misses) (messages_of before owed sources) a.message a.octets.now a.mail.now
    (ne_eqb _ _ c.if-mail-ne-MAIL_OCTETS.true))
    c.refused.ensures in
    record { by_index = both.0; by_index_2 = both.1.0; by_index_3 = both.1.1.0; by_index_4 = both.1.1.1 }

pub returns-then-not-is_sendable : goal.returns-then-not-is_sendable
returns-then-not-is_sendable c =
    let a = c.args in
    let read = core_in a.core.now in
    let before = outgoing_in a.outgoing.now in
    let posting = post_in read a.listed.now before a.message a.octets.now a.mail.now in
    let small : a.message.destination < 256 = omega arith in
    let sendable = c.is_sendable.ensures in
    let both = left_alone a.outgoing.now posting (posted.Refused refusals.Message) _ a.mail.now c.outgoing_in-state.ensures.numbers_len
    (λ areas watch misses owed sources.
    not_sendable (station_in read a.listed.now areas watch misses) (messages_of before owed sources) a.message a.octets.now a.mail.now
    (eq-eqb _ _ c.if-mail-ne-MAIL_OCTETS.false) (sendable_in read a.listed.now areas watch misses a.message a.octets.now small ∙ sym sendable ∙ c.if-not-is_sendable.true))
    c.refused-then-not-is_sendable.ensures in
    record { by_index = both.0; by_index_2 = both.1.0; by_index_3 = both.1.1.0; by_index_4 = both.1.1.1 }

pub returns-then-is_open : goal.returns-then-is_open
returns-then-is_open c =
    let a = c.args in
    let read = core_in a.core.now in
    let before = outgoing_in a.outgoing.now in
    let posting = post_in read a.listed.now before a.message a.octets.now a.mail.now in
    let small : a.message.destination < 256 = omega arith in
    let sendable = c.is_sendable.ensures in
    let free : is_open before.slot.mail ≡ true = ap (λ (o : Outgoing). is_open o.slot.mail) (sym c.outgoing_in-state.ensures.value) ∙ sym c.is_open.ensures ∙ c.if-is_open.true in
    let both = left_alone a.outgoing.now posting (posted.Refused refusals.Waiting) _ a.mail.now c.outgoing_in-state.ensures.numbers_len
    (λ areas watch misses owed sources.
    still_open (station_in read a.listed.now areas watch misses) (messages_of before owed sources) a.message a.octets.now a.mail.now
    (eq-eqb _ _ c.if-mail-ne-MAIL_OCTETS.false) (sendable_in read a.listed.now areas watch misses a.message a.octets.now small ∙ sym sendable ∙ c.if-not-is_sendable.false) free)
    c.refused-then-is_open.ensures in
    record { by_index = both.0; by_index_2 = both.1.0; by_index_3 = both.1.1.0; by_index_4 = both.1.1.1 }

pub returns-then-is_off : goal.returns-then-is_off
returns-then-is_off c =
    let a = c.args in
    let read = core_in a.core.now in
    let before = outgoing_in a.outgoing.now in
    let posting = post_in read a.listed.now before a.message a.octets.now a.mail.now in
    let small : a.message.destination < 256 = omega arith in
    let sendable = c.is_sendable.ensures in
    let free : is_open before.slot.mail ≡ false = ap (λ (o : Outgoing). is_open o.slot.mail) (sym c.outgoing_in-state.ensures.value) ∙ sym c.is_open.ensures ∙ c.if-is_open.false in
    let out : is_off read.phase ≡ true =
    ap (λ (k : Core). is_off k.phase) (sym c.core_in.ensures.value) ∙ sym c.is_off.ensures ∙ c.if-is_off.true in
    let both = left_alone a.outgoing.now posting (posted.Off) _ a.mail.now c.outgoing_in-state.ensures.numbers_len
    (λ areas watch misses owed sources.
    at_off (station_in read a.listed.now areas watch misses) (messages_of before owed sources) a.message a.octets.now a.mail.now
    (eq-eqb _ _ c.if-mail-ne-MAIL_OCTETS.false) (sendable_in read a.listed.now areas watch misses a.message a.octets.now small ∙ sym sendable ∙ c.if-not-is_sendable.false) free out)
    c.off.ensures in
    record { by_index = both.0; by_index_2 = both.1.0; by_index_3 = both.1.1.0; by_index_4 = both.1.1.1 }

pub overflow_cast-octets : goal.overflow_cast-octets
overflow_cast-octets c =
    let few = leb-true (length c.args.octets.now) 1024 (first (leb (length c.args.octets.now) 1024) _ (sym c.is_sendable.ensures ∙ c.if-not-is_sendable.false)) in
    omega (arith, few)

pub copy_into-requires : goal.copy_into-requires
copy_into-requires c =
    let few = leb-true (length c.args.octets.now) 1024 (first (leb (length c.args.octets.now) 1024) _ (sym c.is_sendable.ensures ∙ c.if-not-is_sendable.false)) in
    omega (arith, few, c.if-mail-ne-MAIL_OCTETS.false)

pub returns : goal.returns
returns c =
    let a = c.args in
    let read = core_in a.core.now in
    let before = outgoing_in a.outgoing.now in
    let posting = post_in read a.listed.now before a.message a.octets.now a.mail.now in
    let small : a.message.destination < 256 = omega arith in
    let sendable = c.is_sendable.ensures in
    let free : is_open before.slot.mail ≡ false = ap (λ (o : Outgoing). is_open o.slot.mail) (sym c.outgoing_in-state.ensures.value) ∙ sym c.is_open.ensures ∙ c.if-is_open.false in
    let on : is_off read.phase ≡ false =
    ap (λ (k : Core). is_off k.phase) (sym c.core_in.ensures.value) ∙ sym c.is_off.ensures ∙ c.if-is_off.false in
    let both = meets a.outgoing.now posting c.handed_in-waiting.result posted.Done _ _ _
    (λ areas watch misses owed sources.
    handed (station_in read a.listed.now areas watch misses) (messages_of before owed sources) a.message a.octets.now a.mail.now
    (eq-eqb _ _ c.if-mail-ne-MAIL_OCTETS.false) (sendable_in read a.listed.now areas watch misses a.message a.octets.now small ∙ sym sendable ∙ c.if-not-is_sendable.false) free on
    ∙ ap₂ (λ (m : Messages) (b : List ℕ). record { messages = m; answer = posted.Done; mail = b })
    (sym (c.handed_in-waiting.ensures owed sources ∙ ap (λ (o : Outgoing). with_slot (messages_of o owed sources) (waiting a.message (length a.octets.now))) c.outgoing_in-state.ensures.value))
    (sym c.copy_into.ensures))
    c.keep.ensures.numbers_after c.keep.ensures.numbers_after_2 c.done.ensures in
    record { by_index = both.0; by_index_2 = both.1.0; by_index_3 = both.1.1.0; by_index_4 = both.1.1.1 }

-- `message_asking::ask` meets its contract.
use Rattle.std.specs.Prelude.{◌&&◌}
use Rattle.laws.specs.Usual.{sym, ap₂, ◌∙◌, [], length, eqb, leb}
use borrow.Author.Tests.{eq-eqb, ne_eqb, leb-true}
use Rattle.boundary_lists.specs.Lists.{members_in}
use Rattle.laws.specs.Tests.{first, second}
use Rattle.members.specs.Members.{no_members}
use Rattle.message_places.specs.Owed.{owed_in}
use Rattle.message_rules.specs.Rules.State.{no_sources}
use Rattle.message_asking.specs.Meets.{refused_meets, letter_meets, block_asked}
use Rattle.message_asking.proofs.ask.Goals as goal

pub returns-then-mail-ne-MAIL_OCTETS : goal.returns-then-mail-ne-MAIL_OCTETS
returns-then-mail-ne-MAIL_OCTETS c =
    let a = c.args in
    let many = c.leave.ensures in let both = refused_meets a.core.now a.listed.now a.areas.now a.watch.now a.misses.now a.outgoing.now a.owed.now
    a.memory.now a.turn.now a.output.now a.mail.now many.core_len many.outgoing_len many.owed_len (ne_eqb _ _ c.if-mail-ne-MAIL_OCTETS.true) c.refused.ensures in
    record { core_after = both.0; core_after_2 = both.1.0; misses_after = both.1.1.0; sources_after = both.1.1.1.0; outgoing_after = both.1.1.1.1.0; owed_after = both.1.1.1.1.1.0; turn_after = both.1.1.1.1.1.1.0; output_after = both.1.1.1.1.1.1.1.0; value = both.1.1.1.1.1.1.1.1 }

pub send-requires : goal.send-requires
send-requires c =
    let a = c.args in
    let lent = c.is_lent_right in
    let going = c.is_going in
    let right = sym lent.ensures ∙ first lent.result going.result c.if-is_lent_right-is_going.true in record { no_sources_value = sym (going.ensures no_members [] no_sources) ∙ second lent.result going.result c.if-is_lent_right-is_going.true; mail_len = c.if-mail-ne-MAIL_OCTETS.false; in_bounds = leb-true 1088 (length a.output.now) (second (eqb (length a.memory.now) 17408 && eqb (length a.turn.now) 17408) (leb 1088 (length a.output.now)) right) }

pub returns-then-is_lent_right-is_going : goal.returns-then-is_lent_right-is_going
returns-then-is_lent_right-is_going c =
    let a = c.args in
    let many = c.leave.ensures in
    let lent = c.is_lent_right in
    let going = c.is_going in
    let members = members_in a.listed.now a.areas.now a.watch.now a.misses.now in
    let done = c.send.ensures in let both = letter_meets a.core.now a.listed.now a.areas.now a.watch.now a.misses.now a.outgoing.now a.owed.now
    a.memory.now a.turn.now a.output.now a.mail.now many.core_len many.owed_len (eq-eqb _ _ c.if-mail-ne-MAIL_OCTETS.false)
    (sym lent.ensures ∙ first lent.result going.result c.if-is_lent_right-is_going.true)
    (λ s. sym (going.ensures members (owed_in a.owed.now) s) ∙ second lent.result going.result c.if-is_lent_right-is_going.true)
    done.value done.output_after done.sources_after done.outgoing_after in
    record { core_after = both.0; core_after_2 = both.1.0; misses_after = both.1.1.0; sources_after = both.1.1.1.0; outgoing_after = both.1.1.1.1.0; owed_after = both.1.1.1.1.1.0; turn_after = both.1.1.1.1.1.1.0; output_after = both.1.1.1.1.1.1.1.0; value = both.1.1.1.1.1.1.1.1 }

pub returns : goal.returns
returns c =
    let a = c.args in
    let members = members_in a.listed.now a.areas.now a.watch.now a.misses.now in let both = block_asked a.core.now a.listed.now a.areas.now a.watch.now a.misses.now a.outgoing.now a.owed.now
    a.memory.now a.turn.now a.output.now a.mail.now (eq-eqb _ _ c.if-mail-ne-MAIL_OCTETS.false)
    (λ s. ap₂ ◌&&◌ (sym c.is_lent_right.ensures) (sym (c.is_going.ensures members (owed_in a.owed.now) s)) ∙ c.if-is_lent_right-is_going.false)
    (c.ask_block.ensures.core_after, (c.ask_block.ensures.core_after_2, (c.ask_block.ensures.misses_after, (c.ask_block.ensures.sources_after, (c.ask_block.ensures.outgoing_after, (c.ask_block.ensures.owed_after, (c.ask_block.ensures.turn_after, (c.ask_block.ensures.output_after, c.ask_block.ensures.value)))))))) in
    record { core_after = both.0; core_after_2 = both.1.0; misses_after = both.1.1.0; sources_after = both.1.1.1.0; outgoing_after = both.1.1.1.1.0; owed_after = both.1.1.1.1.1.0; turn_after = both.1.1.1.1.1.1.0; output_after = both.1.1.1.1.1.1.1.0; value = both.1.1.1.1.1.1.1.1 }

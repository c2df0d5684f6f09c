-- `message_asked_letter::send` meets its contract.
use Rattle.std.specs.Prelude.{◌≡◌, ◌≤◌}
use Rattle.laws.specs.Usual.{ap, ap₂, ◌∙◌, List, [], arith}
use Rattle.boundary_core.specs.Crossing.{station_of}
use Rattle.boundary_core.specs.declared.Core.{Core}
use Rattle.boundary_places.specs.Places.{core_in}
use Rattle.members.specs.Members.{no_members}
use Rattle.message.specs.declared.Confirmation.{Confirmation}
use Rattle.message.specs.declared.Letter.{Letter}
use Rattle.message_frames.specs.Frames.{output_of}
use Rattle.message_places.specs.Outgoing.{outgoing_of, messages_of}
use Rattle.message_places.specs.Places.{outgoing_in, kept_outgoing}
use Rattle.message_places.specs.declared.Outgoing.{Outgoing}
use Rattle.message_rules.specs.Rules.Again.{gone, letter_going}
use Rattle.message_rules.specs.Rules.State.{Messages, Sources, no_sources}
use Rattle.message_asked_letter.specs.Letter.{goes_small, letter_told}
use Rattle.message_asked_letter.proofs.send.Goals as goal

pub write-requires : goal.write-requires
write-requires c =
    let a = c.args in
    let read = core_in a.core.now in
    let before = outgoing_in a.outgoing.now in
    let few : before.slot.octets ≤ 1024 = goes_small (station_of read no_members) (messages_of before [] no_sources) c.requires.no_sources_value in
    let size : c.letter_going-letter.result.octets ≡ before.slot.octets =
    ap (λ (l : Letter). l.octets) (c.letter_going-letter.ensures [] no_sources) ∙ ap (λ (o : Outgoing). o.slot.octets) c.outgoing_in-side.ensures.value in
    record { octets_in_bounds = omega (arith, few, size, c.requires.mail_len); octets_in_bounds_2 = omega (arith, few, size, c.requires.in_bounds) }

pub returns : goal.returns
returns c =
    let a = c.args in
    let before = outgoing_in a.outgoing.now in
    let letter : (owed : List Confirmation) (sources : Sources)
    → c.letter_going-letter.result ≡ letter_going (core_in a.core.now).own.number (messages_of before owed sources) =
    λ owed sources.
    c.letter_going-letter.ensures owed sources
    ∙ ap₂ (λ (k : Core) (o : Outgoing). letter_going k.own.number (messages_of o owed sources)) c.core_in.ensures.value c.outgoing_in-side.ensures.value in
    let left : (owed : List Confirmation) (sources : Sources) → messages_of c.gone.result owed sources ≡ gone (messages_of before owed sources) =
    λ owed sources. c.gone.ensures owed sources ∙ ap (λ (o : Outgoing). gone (messages_of o owed sources)) c.outgoing_in-side.ensures.value in
    record {
      value = λ owed sources.
          letter_told (letter owed sources) c.write.ensures c.frame_answer.ensures c.tell_written.ensures;
      output_after = λ owed sources. c.write.ensures ∙ ap (λ (l : Letter). output_of l a.mail.now a.output.now) (letter owed sources);
      sources_after = λ owed sources. ap (λ (o : Outgoing). messages_of o owed sources) c.keep.ensures.numbers_after_2 ∙ left owed sources;
      outgoing_after = λ owed sources. c.keep.ensures.numbers_after ∙ ap (λ (m : Messages). kept_outgoing a.outgoing.now (outgoing_of m)) (left owed sources);
    }

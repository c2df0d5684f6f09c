-- `message_frames_heard::frame_turned` meets its contract.
use Rattle.std.specs.Prelude.{◌≡◌, ◌&&◌}
use Rattle.laws.specs.Usual.{sym, ap, ◌∙◌, Bool, true, false, cond, arith}
use Rattle.frame.specs.Octets.{octet_at}
use Rattle.frame.specs.Positions.{SNA}
use Rattle.laws.specs.Tests.{second}
use Rattle.message.specs.declared.Confirmation.{Confirmation}
use Rattle.message_frames.specs.Confirmations.{confirms, confirmation_in}
use Rattle.message_frames_heard.specs.Heard.{read_in, enough}
use Rattle.message_places.specs.Outgoing.{outgoing_of, messages_of}
use Rattle.message_places.specs.Places.{outgoing_in, kept_outgoing}
use Rattle.message_rules.specs.Rules.Again.{turned}
use Rattle.message_rules.specs.Rules.Confirming.{confirmed}
use Rattle.message_rules.specs.Rules.State.{Messages}
use Rattle.message_frames_heard.proofs.frame_turned.Goals as goal

pub confirmation_in-confirmation-requires : goal.confirmation_in-confirmation-requires
confirmation_in-confirmation-requires c = enough c.args.octets.now (sym c.confirms.ensures ∙ second c.args.may _ c.if-may-confirms.true)

pub bounds-octets-11 : goal.bounds-octets-11
bounds-octets-11 c =
    let long = enough c.args.octets.now (sym c.confirms.ensures ∙ second c.args.may _ c.if-may-confirms.true) in
    omega (arith, long)

pub returns-then-may-confirms : goal.returns-then-may-confirms
returns-then-may-confirms c =
    let a = c.args in
    let has : (a.may && confirms a.octets.now) ≡ true = ap (λ (t : Bool). a.may && t) (sym c.confirms.ensures) ∙ c.if-may-confirms.true in
    let same : (m : Messages) → confirmed a.own m (octet_at a.octets.now SNA) c.confirmation_in-confirmation.result ≡ read_in a.may a.own a.octets.now m =
    λ (m : Messages).
    ap (λ (k : Confirmation). confirmed a.own m (octet_at a.octets.now SNA) k) c.confirmation_in-confirmation.ensures
    ∙ ap (λ (t : Bool). cond t (confirmed a.own m (octet_at a.octets.now SNA) (confirmation_in a.octets.now)) m) (sym has) in record {
      sources_after = λ owed sources. c.confirm.ensures.sources_after owed sources ∙ ap (turned a.taking) (same (messages_of (outgoing_in a.outgoing.now) owed sources));
      outgoing_after = λ owed sources.
          c.confirm.ensures.numbers_after owed sources
          ∙ ap (λ (m : Messages). kept_outgoing a.outgoing.now (outgoing_of (turned a.taking m))) (same (messages_of (outgoing_in a.outgoing.now) owed sources));
    }

pub returns-else-may-confirms : goal.returns-else-may-confirms
returns-else-may-confirms c =
    let a = c.args in
    let none : (a.may && confirms a.octets.now) ≡ false = ap (λ (t : Bool). a.may && t) (sym c.confirms.ensures) ∙ c.if-may-confirms.false in
    let same : (m : Messages) → m ≡ read_in a.may a.own a.octets.now m =
    λ (m : Messages).
    ap (λ (t : Bool). cond t (confirmed a.own m (octet_at a.octets.now SNA) (confirmation_in a.octets.now)) m) (sym none) in record {
      sources_after = λ owed sources. c.turn.ensures.sources_after owed sources ∙ ap (turned a.taking) (same (messages_of (outgoing_in a.outgoing.now) owed sources));
      outgoing_after = λ owed sources.
          c.turn.ensures.numbers_after owed sources
          ∙ ap (λ (m : Messages). kept_outgoing a.outgoing.now (outgoing_of (turned a.taking m))) (same (messages_of (outgoing_in a.outgoing.now) owed sources));
    }

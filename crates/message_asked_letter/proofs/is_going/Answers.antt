-- `message_asked_letter::is_going` meets its contract.
use Rattle.std.specs.Prelude.{◌≡◌, ◌&&◌}
use Rattle.laws.specs.Usual.{sym, ap, ap₂, ◌∙◌, Bool, false, eqb}
use Rattle.boundary_core.specs.Crossing.{station_of}
use Rattle.boundary_core.specs.declared.Core.{Core}
use Rattle.boundary_holder.specs.Held.{holds_block}
use Rattle.boundary_places.specs.Places.{core_in}
use Rattle.message_going.specs.Going.{may_go}
use Rattle.message_places.specs.Outgoing.{messages_of}
use Rattle.message_places.specs.Places.{outgoing_in}
use Rattle.message_places.specs.declared.Outgoing.{Outgoing}
use Rattle.message_rules.specs.Rules.Again.{is_open}
use Rattle.message_asked_letter.specs.Letter.{goes_on, closed_stays}
use Rattle.message_asked_letter.proofs.is_going.Goals as goal

pub returns-then-not-is_open : goal.returns-then-not-is_open
returns-then-not-is_open c =
    let a = c.args in
    let before = outgoing_in a.outgoing.now in
    let closed : is_open before.slot.mail ≡ false =
    ap (λ (o : Outgoing). is_open o.slot.mail) (sym c.outgoing_in-side.ensures.value) ∙ sym c.is_open.ensures ∙ c.if-not-is_open.true in
    λ members owed sources. sym (closed_stays (station_of (core_in a.core.now) members) (messages_of before owed sources) closed)

pub returns : goal.returns
returns c =
    let a = c.args in
    let state = c.core_in-state.result in
    λ members owed sources.
    ap₂ (λ (held lets : Bool). (held && eqb state.block 0) && lets) c.holds_block.ensures c.may_go.ensures
    ∙ ap₂ (λ (k : Core) (o : Outgoing). (holds_block k && eqb k.block 0) && may_go k.panel o) c.core_in-state.ensures.value c.outgoing_in-side.ensures.value
    ∙ sym (goes_on (core_in a.core.now) members (messages_of (outgoing_in a.outgoing.now) owed sources))

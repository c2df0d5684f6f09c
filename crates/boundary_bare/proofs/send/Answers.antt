-- `boundary_bare::send` meets its contract.
use Rattle.std.specs.Prelude.{◌≡◌}
use Rattle.laws.specs.Usual.{sym, ap, ◌∙◌, Bool, true, false, cond, []}
use Rattle.boundary_answers.specs.Numbers.{frame_answer}
use Rattle.boundary_core.specs.Crossing.{core_of}
use Rattle.boundary_lists.specs.Lists.{members_in}
use Rattle.boundary_requesting.specs.Requesting.{is_requesting, request_of, after_request, after_core, after_members}
use Rattle.frame.specs.declared.Fields.{Fields}
use Rattle.frame_round_trip.specs.Sent.{trigger_fields}
use Rattle.frame_writing.specs.Writing.{whole_length, output_of}
use Rattle.station.specs.Rules.State.{fresh}
use Rattle.station.specs.declared.Phase.TheVariants.{Startup}
use Rattle.station.specs.declared.Station.{Station}
use Rattle.boundary_bare.proofs.send.Goals as goal

pub returns-then-is_requesting : goal.returns-then-is_requesting
returns-then-is_requesting c =
    let a = c.args in
    let members = members_in a.listed.now a.areas.now a.watch.now a.misses.now in
    let e : true ≡ is_requesting a.core = sym (sym c.is_requesting.ensures ∙ c.if-is_requesting.true) in
    let fields = ap (λ (t : Bool). cond t (request_of a.core.own) (trigger_fields a.core.own.number)) e in
    let after = ap (λ (t : Bool). cond t (after_request a.core members) (fresh Startup a.core.own)) e in
    let done = c.send.ensures in record { core_value = done.core_value ∙ after_core a.core members ∙ ap core_of after; answer_value = done.answer_value ∙ ap (λ (f : Fields). frame_answer (whole_length f)) fields; output_after = done.output_after ∙ ap (λ (f : Fields). output_of f [] a.output.now) fields; misses_after = after_members a.core members ∙ ap (λ (s : Station). s.members) after }

pub returns : goal.returns
returns c =
    let a = c.args in
    let members = members_in a.listed.now a.areas.now a.watch.now a.misses.now in
    let e : false ≡ is_requesting a.core = sym (sym c.is_requesting.ensures ∙ c.if-is_requesting.false) in
    let fields = ap (λ (t : Bool). cond t (request_of a.core.own) (trigger_fields a.core.own.number)) e in
    let after = ap (λ (t : Bool). cond t (after_request a.core members) (fresh Startup a.core.own)) e in
    let done = c.trigger.ensures in record { core_value = done.core_value ∙ ap core_of after; answer_value = done.answer_value ∙ ap (λ (f : Fields). frame_answer (whole_length f)) fields; output_after = done.output_after ∙ ap (λ (f : Fields). output_of f [] a.output.now) fields; misses_after = done.misses_after ∙ ap (λ (s : Station). s.members) after }

-- `boundary_requesting::send` meets its contract.
use Rattle.laws.specs.Usual.{ap, ◌∙◌, []}
use Rattle.boundary_answers.specs.Numbers.{frame_answer}
use Rattle.frame.specs.declared.Fields.{Fields}
use Rattle.frame_writing.specs.Writing.{whole_length, output_of}
use Rattle.boundary_requesting.proofs.send.Goals as goal

pub returns : goal.returns
returns c =
    let output = c.args.output.now in
    let fields = c.request_fields.ensures in
    let done = c.write_bare-octets.ensures in
    record { core_value = c.after_request.ensures; answer_value = c.frame_answer.ensures ∙ ap frame_answer (done.value ∙ ap whole_length fields); output_after = done.output_after ∙ ap (λ (f : Fields). output_of f [] output) fields }

-- `decode::put_rest` meets its contract.
use Rattle.std.specs.Prelude.{◌≡◌}
use Rattle.laws.specs.Usual.{refl, sym, ◌∙◌, true, false}
use Rattle.copying.specs.Laws.{paste_nothing}
use Rattle.decode_line.specs.Gathering.{begun}
use Rattle.decode.proofs.put_rest.Goals as goal

pub returns-then-has_begun : goal.returns-then-has_begun
returns-then-has_begun c =
    let some : begun c.args.line ≡ true = sym c.has_begun.ensures ∙ c.if-has_begun.true in
    rw some (record { value = c.put_answer.ensures.value; text_after = c.put_answer.ensures.output_after })

pub returns : goal.returns
returns c =
    let nothing : begun c.args.line ≡ false = sym c.has_begun.ensures ∙ c.if-has_begun.false in
    rw nothing (record { value = refl; text_after = sym (paste_nothing c.args.text.now 0) })

-- `text::put_number` meets its contract.
use Rattle.std.specs.Prelude.{◌∷◌, ◌+◌, ◌<◌}
use Rattle.laws.specs.Usual.{ap, ◌∙◌, List, [], ℕ, arith, length}
use lib.ListN.{length-set}
use Rattle.copying.specs.Laws.{paste_one, paste_append}
use Rattle.copying.specs.Pasted.{pasted}
use Rattle.text.specs.Decimal.{decimal_of}
use Rattle.text.specs.Lines.{comma}
use Rattle.text.proofs.put_number.Goals as goal

pub put_decimal-requires : goal.put_decimal-requires
put_decimal-requires c = simp length-set (omega arith)

pub shape_of-output : goal.shape_of-output
shape_of-output c = let a = c.args in c.put_decimal.auto.output ∙ length-set a.output.now a.at comma

pub returns : goal.returns
returns c =
    let a = c.args in
    let room : a.at < length a.output.now = omega (arith, c.requires) in
    let done = c.put_decimal.ensures in record {
      value = omega (arith, done.value);
      output_after = done.output_after
          ∙ ap (λ (l : List ℕ). pasted l (a.at + 1) (decimal_of a.number)) (paste_one a.output.now a.at comma room)
          ∙ paste_append a.output.now (comma ∷ []) (decimal_of a.number) a.at (omega arith);
    }

use Rattle.std.specs.Prelude.{◌≡◌, ◌+◌}
use Rattle.laws.specs.Usual.{length, take}
use Rattle.copying.specs.Pasted.{pasted}
use Rattle.text.specs.Lines.{numbers_of}
use Rattle.text.proofs.put_numbers.Given as goal

abbrev pub invariant-loop-number : goal.invariant-loop-number
invariant-loop-number l = record {
  end : l.end ≡ l.at + length (numbers_of (take l.number-index l.numbers));
  output : l.output ≡ pasted l.initial.output l.at (numbers_of (take l.number-index l.numbers));
}

use Rattle.std.specs.Prelude.{◌≡◌, ◌≤◌}
use Rattle.laws.specs.Usual.{drop}
use Rattle.text_reading.specs.Values.{value_on}
use Rattle.text_reading.proofs.value_of.Given as goal

abbrev pub invariant-loop-octet : goal.invariant-loop-octet
invariant-loop-octet l = record {
  rest : value_on l.most l.value (drop l.octet-index l.octets) ≡ value_on l.most 0 l.octets;
  low : l.value ≤ l.most;
}

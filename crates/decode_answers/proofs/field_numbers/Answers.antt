-- `decode_answers::field_numbers` meets its contract.
use Rattle.std.proofs.Common.{rules}
use Rattle.decode_answers.specs.Answers.{field_numbers}
use Rattle.decode_answers.proofs.field_numbers.Goals as goal

pub returns : goal.returns
unfolding field_numbers
returns c = search rules

use Rattle.std.specs.Prelude.{◌≡◌}
use lib.Seq.{paste}
use Rattle.text_hexadecimal.specs.Octets.{octets_of}
use Rattle.text_octets.proofs.unspell.Given as goal

abbrev pub invariant-loop-i : goal.invariant-loop-i
invariant-loop-i l = l.output ≡ paste l.initial.output 0 (octets_of l.digits) l.i

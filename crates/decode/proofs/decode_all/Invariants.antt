use Rattle.std.specs.Prelude.{◌≡◌}
use Rattle.laws.specs.Usual.{List, ℕ, length}
use Rattle.decode_line.specs.Gathering.{fresh}
use Rattle.text_feeding.specs.Feeding.{fed_all}
use Rattle.decode.specs.Capture.{carried, decode}
use Rattle.decode.proofs.decode_all.Given as goal

abbrev pub invariant-loop : goal.invariant-loop
invariant-loop l = record {
  came : (input : List ℕ) × (carried l.line l.frame ≡ fed_all (decode (length l.initial.frame)) (carried fresh l.initial.frame) input);
}

-- `boundary_keeping::keep` meets its contract.
use Rattle.laws.specs.Usual.{arith, ap, ◌∙◌, rules}
use Rattle.boundary_places.proofs.Laws.{Fits, kept_core}
use Rattle.boundary_places.specs.Places.{core_in}
use Rattle.boundary_keeping.proofs.keep.Goals as goal

pub returns : goal.returns
returns c =
    record { numbers_after = c.put.ensures; numbers_after_2 = ap core_in c.put.ensures ∙ kept_core c.args.numbers.now c.args.core fits }
  where
    fits : Fits c.args.core
    fits = record {
      number = omega arith;
      address_one = omega arith;
      size_one = omega arith;
      address_two = omega arith;
      size_two = omega arith;
      watch = omega arith;
      view = omega arith;
      block = omega arith;
      rounds = omega arith;
      source = omega arith;
      blocks = omega arith;
      takings = omega arith;
    }

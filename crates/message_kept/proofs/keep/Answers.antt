-- `message_kept::keep` meets its contract.
use Rattle.laws.specs.Usual.{arith, ap, ◌∙◌}
use Rattle.message_places.proofs.Laws.{Fits, kept_outgoing_lem}
use Rattle.message_places.specs.Places.{outgoing_in}
use Rattle.message_kept.proofs.keep.Goals as goal

pub returns-clause-numbers_after_2 : goal.returns-clause-numbers_after_2
returns-clause-numbers_after_2 c = ap outgoing_in c.put.ensures ∙ kept_outgoing_lem c.args.numbers.now c.args.outgoing fits
  where
    fits : Fits c.args.outgoing
    fits = record {
      allowed = omega arith;
      destination = omega arith;
      code = omega arith;
      size = omega arith;
      result = omega arith;
      octets = omega arith;
      ticks = omega arith;
      takings = omega arith;
      resends = omega arith;
    }

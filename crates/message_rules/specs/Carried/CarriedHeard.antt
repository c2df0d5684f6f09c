-- A station of the base hears a cyclic frame with a confirmation in it as it hears it without: state, answer and buffers are the same. Assumes nothing.
use Rattle.std.specs.Prelude.{◌&&◌}
use Rattle.laws.specs.Usual.{cond, List, ℕ}
use Rattle.frame.specs.Codes.{is_cyclic}
use Rattle.frame.specs.declared.Fields.{Fields}
use Rattle.station.specs.Rules.Data.{gathered}
use Rattle.station.specs.Rules.Hearing.{Hearing, enters, enters_answer, participant_heard, is_taken, after_taken, is_stranger, lent_right, refused}
use Rattle.station.specs.Rules.State.{is_participating}
use Rattle.station.specs.declared.Station.{Station}
use Rattle.frame.specs.declared.Refusal.TheVariants as refusals

-- what is heard of a frame of these fields and data: nothing else of the octets is looked at
abbrev pub heard_as : Station → Fields → List ℕ → List ℕ → List ℕ → Hearing
heard_as station frame octets memory assembly =
    cond (lent_right memory assembly)
    (cond (is_taken station frame)
    (refused (after_taken station) memory assembly refusals.Taken)
    (cond (is_stranger station frame)
    (refused station memory assembly refusals.Stranger)
    (cond (is_participating station.phase && is_cyclic frame.code)
    (participant_heard station frame (gathered station frame octets assembly memory))
    (record {
      station = enters station.phase frame.code station frame;
      answer = enters_answer station.phase frame.code;
      memory = memory;
      assembly = assembly;
    }))))
    (refused station memory assembly refusals.Buffer)

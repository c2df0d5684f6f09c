-- `replay_commands::poke_by` meets its contract.
use Rattle.std.specs.Prelude.{◌+◌}
use Rattle.laws.specs.Usual.{arith}
use borrow.Author.Tests.{lt-ltb, le-leb, lt-leb}
use Rattle.replay_commands.proofs.poke_by.Goals as goal

pub returns-then-at-gt-MEMORY_OCTETS : goal.returns-then-at-gt-MEMORY_OCTETS
returns-then-at-gt-MEMORY_OCTETS c = let a = c.args in simp (lt-leb (a.at + a.count) 17408 (omega arith))

pub returns-then-at-count : goal.returns-then-at-count
returns-then-at-count c = let a = c.args in simp (lt-leb (a.at + a.count) 17408 (omega arith))

pub returns-then-count-eq0 : goal.returns-then-count-eq0
returns-then-count-eq0 c = let a = c.args in rw (c.if-count-eq0.true, le-leb (a.at + 0) 17408 (omega arith))

pub returns : goal.returns
returns c = let a = c.args in simp (le-leb (a.at + a.count) 17408 (omega arith), lt-ltb 0 a.count (omega arith))

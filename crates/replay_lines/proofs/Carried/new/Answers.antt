-- `replay_lines::Carried::new` meets its contract.
use Rattle.laws.specs.Usual.{ap₂, replicate}
use Rattle.replay_input.specs.declared.Line.{Line}
use Rattle.replay_lines.specs.Replay.{held}
use Rattle.station.specs.declared.Station.{Station}
use Rattle.replay_lines.proofs.Carried.new.Goals as goal

pub returns : goal.returns
returns c =
    ap₂ (λ (s : Station) (l : Line). held s l (replicate 34823 0) (replicate 17408 0) (replicate 17408 0) (replicate 17408 0) (replicate 1088 0))
    c.never.ensures c.begin.ensures

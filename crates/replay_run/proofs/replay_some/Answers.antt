-- `replay_run::replay_some` meets its contract.
use Rattle.laws.specs.Usual.{ap, ◌∙◌, rules}
use Rattle.text_feeding.proofs.Scan.{read_arrived, read_taken}
use Rattle.replay_lines.specs.Replay.{after}
use Rattle.replay_run.proofs.replay_some.Goals as goal

pub shape_of-part : goal.shape_of-part
shape_of-part c = c.read_some-read.auto.part

pub returns : goal.returns
returns c =
    let a = c.args in
    let read = c.read_some-read in
    let done = c.replay_part-going in record {
      carried_after = done.ensures.carried_after
          ∙ ap (after a.carried.now)
          (read_taken read.new.part read.result done.result.at done.result.on read.ensures.count.0 done.ensures.taken);
      arrived = read_arrived read.new.part read.result done.result.at done.result.on read.ensures.count.0 done.ensures.taken;
    }

-- `replay_run::replay_input` meets its contract.
use Rattle.laws.specs.Usual.{ap, ◌∙◌, List, ℕ}
use Rattle.replay_lines.specs.Replay.{after}
use Rattle.replay_lines.specs.declared.Carried.{Carried}
use Rattle.replay_run.proofs.replay_input.Goals as goal

pub returns : goal.returns
returns c =
    let all = c.replay_all.ensures in
    (all.0, all.1 ∙ ap (λ (s : Carried). after s all.0) c.new-carried.ensures)

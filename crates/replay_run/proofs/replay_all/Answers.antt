-- `replay_run::replay_all` meets its contract.
use Rattle.std.specs.Prelude.{◌≡◌, ◌++◌}
use Rattle.laws.specs.Usual.{refl, sym, ap, ◌∙◌, List, [], ℕ, length, take}
use Rattle.text_feeding.proofs.Fed.{fed_parts}
use Rattle.replay_lines.specs.declared.Carried.{Carried}
use Rattle.replay_lines.specs.Replay.{replay, after}
use Rattle.replay_run.proofs.replay_all.Goals as goal

pub loop-preserved : goal.loop-preserved
loop-preserved c =
    let done = c.replay_some-going in
    let more = take done.result.at done.new.part in
    let input = c.loop.invariant.0.0 in (
      (input ++ more, done.ensures.carried_after ∙ ap (λ (s : Carried). after s more) c.loop.invariant.0.1 ∙ sym (fed_parts replay input more c.args.carried.now)),
      done.auto.part ∙ c.loop.invariant.1,
    )

pub returns-then-not-going : goal.returns-then-not-going
returns-then-not-going c =
    let done = c.replay_some-going in
    let more = take done.result.at done.new.part in
    let input = c.loop.invariant.0.0 in
    (input ++ more, done.ensures.carried_after ∙ ap (λ (s : Carried). after s more) c.loop.invariant.0.1 ∙ sym (fed_parts replay input more c.args.carried.now))

-- `replay_run::replay_next` meets its contract.
use Rattle.std.specs.Prelude.{Option, ◌≡◌}
use Rattle.std.specs.Option.{is_some, unwrap_or}
use Rattle.laws.specs.Usual.{sym, ap, ◌∙◌, ℕ, replicate}
use Rattle.text_feeding.specs.Feeding.{between}
use Rattle.text_feeding.proofs.Front.{front_within, front_read}
use Rattle.text_feeding.proofs.Scan.{ended_onward, open_onward}
use Rattle.replay_lines.specs.Replay.{answers}
use Rattle.replay_run.proofs.replay_next.Goals as goal

pub slice_bounds-write_answer-end : goal.slice_bounds-write_answer-end
slice_bounds-write_answer-end c =
    let a = c.args in
    let next = c.take_next-next in
    let told = ap (λ (o : Option ℕ). unwrap_or o 0) (sym c.in-Some.is) ∙ next.ensures.length_value in
    front_within (replicate 40000 0) (answers a.carried.now (between a.at next.result.at a.part.now)) told next.ensures.answer_after

pub write_answer-on-requires : goal.write_answer-on-requires
write_answer-on-requires c =
    let a = c.args in
    let next = c.take_next-next in
    let before = a.carried.now in
    let told = ap (λ (o : Option ℕ). unwrap_or o 0) (sym c.in-Some.is) ∙ next.ensures.length_value in
    record {
      stored = before.stored;
      memory = before.kept.memory;
      assembly = before.kept.assembly;
      turn = before.kept.turn;
      frame = before.kept.frame;
      answered = front_read (replicate 40000 0) (answers before (between a.at next.result.at a.part.now)) told next.ensures.answer_after;
    }

pub returns-in-Some : goal.returns-in-Some
returns-in-Some c =
    let next = c.take_next-next in
    let ended = sym next.ensures.ended_value ∙ ap (λ (o : Option ℕ). is_some o) c.in-Some.is in
    record { carried_after = next.ensures.carried_after; onward = ended_onward (next.ensures.forward c.requires) ended c.write_answer-on.result }

pub returns-in-None : goal.returns-in-None
returns-in-None c =
    let next = c.take_next-next in
    record { carried_after = next.ensures.carried_after; onward = open_onward (next.ensures.forward c.requires) }

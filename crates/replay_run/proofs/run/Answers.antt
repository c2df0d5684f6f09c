-- `replay_run::run` meets its contract.
use Rattle.laws.specs.Usual.{replicate, rules}
use Rattle.text_feeding.proofs.Front.{front_within, front_read}
use Rattle.replay_end.specs.End.{answer_to_rest}
use Rattle.replay_run.proofs.run.Goals as goal

pub slice_bounds-write_rest-end : goal.slice_bounds-write_rest-end
slice_bounds-write_rest-end c =
    let put = c.put_rest-end.ensures in
    front_within (replicate 40 0) (answer_to_rest c.replay_input-carried.result.line) put.value put.text_after

pub write_rest-requires : goal.write_rest-requires
write_rest-requires c =
    let put = c.put_rest-end.ensures in
    front_read (replicate 40 0) (answer_to_rest c.replay_input-carried.result.line) put.value put.text_after

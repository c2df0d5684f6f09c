-- `replay_words::word_end` meets its contract.
use Rattle.replay_words.proofs.word_end.Goals as goal

pub returns : goal.returns
returns c = c.place_from.ensures

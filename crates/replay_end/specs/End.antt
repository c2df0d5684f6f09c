-- What is answered where the input ends.
use Rattle.laws.specs.Usual.{cond, List, [], ℕ, ltb}
use Rattle.replay_input.specs.declared.Line.{Line}
use Rattle.replay_reply_words.specs.Answers.{bad_text}

-- what is answered to a line without its line feed, at the end of the input
abbrev pub answer_to_rest : Line → List ℕ
answer_to_rest line = cond (ltb 0 line.count) bad_text []

-- A text that comes octet by octet to a program that answers it line by line.
use Rattle.std.specs.Prelude.{◌≡◌, ◌&&◌, ◌∷◌, ◌++◌, ◌-◌, ◌<◌, ◌≤◌}
use Rattle.laws.specs.Usual.{[], Bool, true, false, cond, List, ℕ, length, get_or, take, drop, eqb, ltb}
use Rattle.text.specs.Lines.{line_feed}
use Rattle.text_scanning.specs.Scanning.{push_all}

-- such a program: the state after one more octet of a line, the state behind the end of a line, and what is answered to that line
pub record Program (State : Type 0) : Type 0 where
  pub pushed : State → ℕ → State
  pub ended : State → State
  pub answer : State → List ℕ

-- one octet more: a line feed ends the line, any other octet is one more of the line
abbrev pub fed : {State : Type 0} → Program State → State → ℕ → State
fed program state octet = cond (eqb octet line_feed) (program.ended state) (program.pushed state octet)

-- and what is answered then
abbrev pub answered : {State : Type 0} → Program State → State → ℕ → List ℕ
answered program state octet = cond (eqb octet line_feed) (program.answer state) []

-- all octets of a text, one by one
abbrev pub fed_all : {State : Type 0} → Program State → State → List ℕ → State
fed_all program state [] = state
fed_all program state (octet ∷ rest) = fed_all program (fed program state octet) rest

-- and all that is answered to them
abbrev pub answered_all : {State : Type 0} → Program State → State → List ℕ → List ℕ
answered_all program state [] = []
answered_all program state (octet ∷ rest) = answered program state octet ++ answered_all program (fed program state octet) rest

-- all octets of a line, which has no line feed
abbrev pub pushed_all : {State : Type 0} → Program State → State → List ℕ → State
pushed_all program state line = push_all program.pushed state line

-- the octets of a part of a text from one place to another
abbrev pub between : ℕ → ℕ → List ℕ → List ℕ
between from to part = take (to - from) (drop from part)

-- whether what was taken of a part from one place to another ends a line: there is something, and its last octet is a line feed
abbrev pub ended : List ℕ → ℕ → ℕ → Bool
ended part from to = ltb from to && eqb (get_or part (to - 1) 0) line_feed

-- a part of a text was taken on from one place to another
pub record Forward (part : List ℕ) (from to : ℕ) : Type 0 where
  pub further : from < to
  pub within : to ≤ length part

-- and, where the program is not to go on, that ends a line
pub record Onward (part : List ℕ) (from to : ℕ) (on : Bool) : Type 0 where
  pub forward : Forward part from to
  pub behind : on ≡ false → ended part from to ≡ true

-- how far a whole part was taken: to its end, or, where the program is not to go on, to the end of a line
pub record Taken (part : List ℕ) (to : ℕ) (on : Bool) : Type 0 where
  pub all : on ≡ true → to ≡ length part
  pub some : on ≡ false → Onward part 0 to on

-- one reading: how many octets came to the front of the part, and whether all answers to them could be written, are free. What came was
-- taken, and the program goes on unless an answer could not be written or nothing came.
pub record Arrived (part : List ℕ) (to : ℕ) (on : Bool) : Type 0 where
  pub read : ℕ
  pub within : read ≤ length part
  pub wrote : Bool
  pub taken : Taken (take read part) to wrote
  pub goes_on : on ≡ (wrote && ltb 0 read)

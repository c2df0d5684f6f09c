-- A text that is taken octet by octet, up to its next line feed. What has come so far is a state, and what is stored of it a buffer.
use Rattle.std.specs.Prelude.{◌≡◌, ◌∷◌, ◌+◌}
use Rattle.laws.specs.Usual.{Bool, true, false, cond, List, [], ℕ, eqb}
use Rattle.text.specs.Lines.{line_feed}

-- the octets have no line feed among them
abbrev pub NoFeed : List ℕ → Type 0
NoFeed [] = Unit {0}
NoFeed (octet ∷ line) = (eqb octet line_feed ≡ false) × NoFeed line

-- all octets of a line, one by one, and the buffer then
abbrev pub push_all : {State : Type 0} → (State → ℕ → State) → State → List ℕ → State
push_all push state [] = state
push_all push state (octet ∷ line) = push_all push (push state octet) line

abbrev pub store_all : {State : Type 0} → (State → ℕ → State) → (State → List ℕ → ℕ → List ℕ) → State → List ℕ → List ℕ → List ℕ
store_all push store state buffer [] = buffer
store_all push store state buffer (octet ∷ line) = store_all push store (push state octet) (store state buffer octet) line

-- the octets of a text from place `at` on, up to its next line feed or its end: made of what has come then, of the place behind, and of
-- whether the line has ended
abbrev pub scan_of : {State Made : Type 0} → (State → ℕ → State) → (State → ℕ → Bool → Made) → State → ℕ → List ℕ → Made
scan_of push made state at [] = made state at false
scan_of push made state at (octet ∷ rest) = cond (eqb octet line_feed) (made state (at + 1) true) (scan_of push made (push state octet) (at + 1) rest)

-- and the buffer then
abbrev pub buffer_of : {State : Type 0} → (State → ℕ → State) → (State → List ℕ → ℕ → List ℕ) → State → List ℕ → List ℕ → List ℕ
buffer_of push store state buffer [] = buffer
buffer_of push store state buffer (octet ∷ rest) = cond (eqb octet line_feed) buffer (buffer_of push store (push state octet) (store state buffer octet) rest)

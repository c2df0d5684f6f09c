-- A text as its lines, and what whole lines mean. Assumes nothing.
use Rattle.std.specs.Prelude.{◌≡◌, ◌∷◌, ◌++◌}
use Rattle.laws.specs.Usual.{cond, List, [], ℕ, eqb}
use Rattle.text.specs.Lines.{line_feed}
use Rattle.text_scanning.specs.Scanning.{NoFeed}

-- the lines of a text, each without its line feed, and what stands behind the last line feed
pub record Text : Type 0 where
  pub lines : List (List ℕ)
  pub rest : List ℕ

abbrev pub in_front : ℕ → List (List ℕ) → List ℕ → Text
in_front octet [] rest = record { lines = []; rest = octet ∷ rest }
in_front octet (line ∷ lines) rest = record { lines = (octet ∷ line) ∷ lines; rest = rest }

unfoldable pub parted : List ℕ → Text
parted [] = record { lines = []; rest = [] }
parted (octet ∷ octets) =
    cond (eqb octet line_feed)
    (record { lines = [] ∷ (parted octets).lines; rest = (parted octets).rest })
    (in_front octet (parted octets).lines (parted octets).rest)

-- a text put together again
abbrev pub joined : List (List ℕ) → List ℕ → List ℕ
joined [] rest = rest
joined (line ∷ lines) rest = line ++ (line_feed ∷ joined lines rest)

abbrev pub NoFeeds : List (List ℕ) → Type 0
NoFeeds [] = Unit {0}
NoFeeds (line ∷ lines) = NoFeed line × NoFeeds lines

-- a text is its lines, each with its line feed, and the rest, and there is no other line feed in it
pub record Joins (text : Text) (octets : List ℕ) : Type 0 where
  pub whole : joined text.lines text.rest ≡ octets
  pub none : NoFeeds text.lines
  pub none_behind : NoFeed text.rest

-- what whole lines mean: what is kept after a line, and the line's answer
pub record Meaning (Kept : Type 0) : Type 0 where
  pub after : Kept → List ℕ → Kept
  pub reply : Kept → List ℕ → List ℕ

-- each line meets what the one before it left
abbrev pub after_all : {Kept : Type 0} → Meaning Kept → Kept → List (List ℕ) → Kept
after_all meaning kept [] = kept
after_all meaning kept (line ∷ lines) = after_all meaning (meaning.after kept line) lines

abbrev pub replies_to : {Kept : Type 0} → Meaning Kept → Kept → List (List ℕ) → List ℕ
replies_to meaning kept [] = []
replies_to meaning kept (line ∷ lines) = meaning.reply kept line ++ replies_to meaning (meaning.after kept line) lines

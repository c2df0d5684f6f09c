-- A scan takes a line octet by octet, wherever the text is cut into parts. Assumes nothing.
use Rattle.std.specs.Prelude.{◌≡◌, ◌∷◌, ◌++◌, ◌+◌, ◌<◌}
use Rattle.laws.specs.Usual.{refl, sym, ap, ◌∙◌, Bool, true, false, List, [], ℕ, arith, length, get_or, drop}
use Rattle.std.proofs.Common.{add-one, drop-cons, ne_eqb}
use Rattle.text.specs.Lines.{line_feed}
use Rattle.text_scanning.specs.Scanning.{NoFeed, push_all, store_all, scan_of, buffer_of}

-- the octet at a place, and those behind it
split : (text : List ℕ) (at : ℕ) → at < length text → drop at text ≡ get_or text at 0 ∷ drop (at + 1) text
split text at inside = drop-cons text at 0 inside ∙ ap (λ (k : ℕ). get_or text at 0 ∷ drop k text) (sym (add-one at))

module _ {State Made : Type 0} (push : State → ℕ → State) (made : State → ℕ → Bool → Made) where
  -- a part with no line feed is pushed octet by octet
  pub scan_part : (line : List ℕ) (state : State) (at : ℕ) → NoFeed line → scan_of push made state at line ≡ made (push_all push state line) (at + length line) false
  scan_part [] state at none = ap (λ (k : ℕ). made state k false) (omega arith)
  scan_part (octet ∷ line) state at none =
      rw none.0 (scan_part line (push state octet) (at + 1) none.1 ∙ ap (λ (k : ℕ). made (push_all push (push state octet) line) k false) (omega arith))

  -- a line with its line feed is pushed octet by octet too, and the scan ends behind it
  pub scan_line : (line : List ℕ) (state : State) (at : ℕ) (rest : List ℕ) → NoFeed line →
      scan_of push made state at (line ++ (line_feed ∷ rest)) ≡ made (push_all push state line) (at + length line + 1) true
  scan_line [] state at rest none = ap (λ (k : ℕ). made state k true) (omega arith)
  scan_line (octet ∷ line) state at rest none =
      rw none.0 (scan_line line (push state octet) (at + 1) rest none.1 ∙ ap (λ (k : ℕ). made (push_all push (push state octet) line) k true) (omega arith))

  module _ (state : State) (at : ℕ) (text : List ℕ) (inside : at < length text) where
    -- one octet that is no line feed, and a line feed
    pub scan_on : ¬ (get_or text at 0 ≡ line_feed) → scan_of push made state at (drop at text) ≡ scan_of push made (push state (get_or text at 0)) (at + 1) (drop (at + 1) text)
    scan_on other = rw (split text at inside, ne_eqb (get_or text at 0) line_feed other)

    pub scan_ended : get_or text at 0 ≡ line_feed → scan_of push made state at (drop at text) ≡ made state (at + 1) true
    scan_ended feed = rw (split text at inside, feed)

-- the same of the buffer
module _ {State : Type 0} (push : State → ℕ → State) (store : State → List ℕ → ℕ → List ℕ) where
  pub buffer_part : (line : List ℕ) (state : State) (buffer : List ℕ) → NoFeed line → buffer_of push store state buffer line ≡ store_all push store state buffer line
  buffer_part [] state buffer none = refl
  buffer_part (octet ∷ line) state buffer none = rw none.0 (buffer_part line (push state octet) (store state buffer octet) none.1)

  pub buffer_line : (line : List ℕ) (state : State) (buffer rest : List ℕ) → NoFeed line → buffer_of push store state buffer (line ++ (line_feed ∷ rest)) ≡ store_all push store state buffer line
  buffer_line [] state buffer rest none = refl
  buffer_line (octet ∷ line) state buffer rest none = rw none.0 (buffer_line line (push state octet) (store state buffer octet) rest none.1)

  module _ (state : State) (buffer : List ℕ) (at : ℕ) (text : List ℕ) (inside : at < length text) where
    pub buffer_on : ¬ (get_or text at 0 ≡ line_feed)
        → buffer_of push store state buffer (drop at text) ≡ buffer_of push store (push state (get_or text at 0)) (store state buffer (get_or text at 0)) (drop (at + 1) text)
    buffer_on other = rw (split text at inside, ne_eqb (get_or text at 0) line_feed other)

    pub buffer_ended : get_or text at 0 ≡ line_feed → buffer_of push store state buffer (drop at text) ≡ buffer
    buffer_ended feed = rw (split text at inside, feed)

  -- a line that came in two parts came whole
  pub pushed_parts : (first second : List ℕ) (state : State) → push_all push state (first ++ second) ≡ push_all push (push_all push state first) second
  pushed_parts [] second state = refl
  pushed_parts (octet ∷ first) second state = pushed_parts first second (push state octet)

  pub stored_parts : (first second : List ℕ) (state : State) (buffer : List ℕ)
      → store_all push store state buffer (first ++ second) ≡ store_all push store (push_all push state first) (store_all push store state buffer first) second
  stored_parts [] second state buffer = refl
  stored_parts (octet ∷ first) second state buffer = stored_parts first second (push state octet) (store state buffer octet)

-- A text may come in whatever parts; a line may come in whatever parts. Assumes nothing.
use Rattle.std.specs.Prelude.{◌≡◌, ◌∷◌, ◌++◌}
use Rattle.laws.specs.Usual.{[], refl, sym, ap, ◌∙◌, Bool, cond, List, ℕ}
use Rattle.std.proofs.Common.{append_assoc}
use Rattle.text.specs.Lines.{line_feed}
use Rattle.text_scanning.specs.Scanning.{NoFeed}
use Rattle.text_feeding.specs.Feeding.{Program, fed, answered, fed_all, answered_all, pushed_all}

module _ {State : Type 0} (program : Program State) where
  -- a text that came in two parts came whole
  pub fed_parts : (first second : List ℕ) (state : State) → fed_all program state (first ++ second) ≡ fed_all program (fed_all program state first) second
  fed_parts [] second state = refl
  fed_parts (octet ∷ first) second state = fed_parts first second (fed program state octet)

  pub answered_parts : (first second : List ℕ) (state : State) →
      answered_all program state (first ++ second) ≡ answered_all program state first ++ answered_all program (fed_all program state first) second
  answered_parts [] second state = refl
  answered_parts (octet ∷ first) second state =
      ap (λ (l : List ℕ). answered program state octet ++ l) (answered_parts first second (fed program state octet))
      ∙ sym (append_assoc (answered program state octet) (answered_all program (fed program state octet) first) (answered_all program (fed_all program (fed program state octet) first) second))

  -- a part with no line feed is pushed, and nothing is answered
  pub fed_part : (line : List ℕ) (state : State) → NoFeed line → fed_all program state line ≡ pushed_all program state line
  fed_part [] state none = refl
  fed_part (octet ∷ line) state none = rw none.0 (fed_part line (program.pushed state octet) none.1)

  pub answered_part : (line : List ℕ) (state : State) → NoFeed line → answered_all program state line ≡ []
  answered_part [] state none = refl
  answered_part (octet ∷ line) state none = rw none.0 (answered_part line (program.pushed state octet) none.1)

  -- a line with its line feed is pushed, and ended; the rest comes to what it left
  pub fed_line : (line rest : List ℕ) (state : State) → NoFeed line →
      fed_all program state (line ++ (line_feed ∷ rest)) ≡ fed_all program (program.ended (pushed_all program state line)) rest
  fed_line [] rest state none = refl
  fed_line (octet ∷ line) rest state none =
      ap (λ (t : Bool). fed_all program (cond t (program.ended state) (program.pushed state octet)) (line ++ (line_feed ∷ rest))) none.0
      ∙ fed_line line rest (program.pushed state octet) none.1

  pub answered_line : (line rest : List ℕ) (state : State) → NoFeed line →
      answered_all program state (line ++ (line_feed ∷ rest))
      ≡ program.answer (pushed_all program state line) ++ answered_all program (program.ended (pushed_all program state line)) rest
  answered_line [] rest state none = refl
  answered_line (octet ∷ line) rest state none = rw none.0 (answered_line line rest (program.pushed state octet) none.1)

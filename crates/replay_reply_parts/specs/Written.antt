-- Texts that are written one behind the other. Assumes nothing.
use Rattle.std.specs.Prelude.{◌≡◌, ◌++◌, ◌+◌, ◌≤◌}
use Rattle.laws.specs.Usual.{ap₂, ◌∙◌, List, ℕ, arith, length}
use Rattle.std.proofs.Common.{zero-add, length-append}
use Rattle.copying.specs.Laws.{paste_append}
use Rattle.copying.specs.Pasted.{pasted}

-- a text was put into a buffer from one octet on, and ends before another
abbrev pub Written : List ℕ → ℕ → List ℕ → List ℕ → ℕ → Type 0
Written before at text after end = (end ≡ at + length text) × (after ≡ pasted before at text)

-- a second text right behind the first
pub then : (before : List ℕ) (at : ℕ) (s t : List ℕ) {middle after : List ℕ} {next end : ℕ} → at + length s ≤ length before
    → Written before at s middle next
    → Written middle next t after end
    → Written before at (s ++ t) after end
then before at s t {middle} {after} {next} {end} room first second = (
  rw (length-append s t) (omega (arith, first.0, second.0)),
  second.1 ∙ ap₂ (λ (l : List ℕ) (k : ℕ). pasted l k t) first.1 first.0 ∙ paste_append before s t at room,
)

-- in front of a buffer a text ends at its length
pub in_front : (before text : List ℕ) {after : List ℕ} {end : ℕ} → Written before 0 text after end
    → (end ≡ length text) × (after ≡ pasted before 0 text)
in_front before text (long, put) = (long ∙ zero-add (length text), put)

-- `replay_words::begins` meets its contract.
use Rattle.std.specs.Prelude.{◌≡◌, ◌∷◌, ◌&&◌}
use Rattle.laws.specs.Usual.{refl, sym, ap₂, ◌∙◌, Bool, List, [], ℕ, eqb}
use Rattle.std.proofs.Common.{eq-eqb, ne_eqb}
use Rattle.std.proofs.Math.Decide.{ℕ_discrete}
use Rattle.std.specs.List.{starts_with}
use Rattle.replay_words.specs.Words.{begins}
use Rattle.replay_words.proofs.begins.Goals as goal

-- the library compares the letter with the octet, and the definition the octet with the letter
turned : (letter octet : ℕ) → eqb letter octet ≡ eqb octet letter
turned letter octet = by (ℕ_discrete letter octet)
  where
    by : Dec (letter ≡ octet) → eqb letter octet ≡ eqb octet letter
    by (yes e) = eq-eqb letter octet e ∙ sym (eq-eqb octet letter (sym e))
    by (no n) = ne_eqb letter octet n ∙ sym (ne_eqb octet letter (λ e. n (sym e)))

begins_lem : (word line : List ℕ) → starts_with eqb line word ≡ begins word line
begins_lem [] line = refl
begins_lem (letter ∷ word) [] = refl
begins_lem (letter ∷ word) (octet ∷ line) = ap₂ (λ (s t : Bool). s && t) (turned letter octet) (begins_lem word line)

pub returns : goal.returns
returns c = c.starts_with.ensures.value ∙ begins_lem c.args.word.now c.args.line.now

-- Laws of lists. Assumes nothing.
use Rattle.std.specs.Prelude.{◌≡◌, ◌-◌}
use Rattle.laws.specs.Usual.{sym, ◌∙◌, List, map, ℕ, length, take, drop}
use Rattle.std.proofs.Common.{le_refl, length-drop, take_all}
use Rattle.std.proofs.lemmas.List.{length-map}

-- the part of a list from a place to its end
pub to_end : (l : List ℕ) (start : ℕ) → take (length l - start) (drop start l) ≡ drop start l
to_end l start = take_all (length l - start) (drop start l) (rw length-drop (le_refl _))

-- the length of an array of structs, which the logic tells of the list of their fields
pub unmapped : {A B : Type 0} (f : A → B) (l : List A) (n : ℕ) → length (map f l) ≡ n → length l ≡ n
unmapped f l n e = sym (length-map l f) ∙ e

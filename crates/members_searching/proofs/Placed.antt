-- The search as the library makes it: a place in the list from a number on. Assumes nothing.
use Rattle.laws.specs.Usual.{refl, sym, ap, ◌∙◌, Bool, true, false, cond, List, [], ℕ, suc, ltb, length, arith}
use Rattle.std.specs.Prelude.{◌≡◌, ◌∷◌, ◌+◌, None, Some}
use Rattle.std.specs.List.{position_or_len, position}
use Rattle.std.specs.Option.{option_map}
use Rattle.std.proofs.Common.{add-zero, lt-ltb, le-ltb, ltb-true, ltb-false}
use Rattle.members.specs.Members.{numbers_from}
use Rattle.members_searching.specs.Search.{first_in}
use Rattle.members.specs.declared.Entry.{Entry}

abbrev pub listed : Entry → Bool
listed entry = entry.listed

pub first_placed : (from : ℕ) (entries : List Entry) → first_in (numbers_from from entries) ≡ option_map (λ k. from + k) (position listed entries)
first_placed from [] = refl
first_placed from (entry ∷ rest) = by entry.listed refl (first_placed (suc from) rest)
  where
    next : (p n : ℕ) (t : Bool) → ltb p n ≡ t
        → option_map (λ k. suc from + k) (cond (ltb p n) (Some p) None) ≡ option_map (λ k. from + k) (cond (ltb (1 + p) (suc n)) (Some (1 + p)) None)
    next p n true e = let h = ltb-true p n e in rw (e, lt-ltb (1 + p) (suc n) (omega arith)) (ap Some (omega arith))
    next p n false e = let h = ltb-false p n e in rw (e, le-ltb (1 + p) (suc n) (omega arith))

    by : (t : Bool) → entry.listed ≡ t
        → first_in (numbers_from (suc from) rest) ≡ option_map (λ k. suc from + k) (position listed rest)
        → first_in (numbers_from from (entry ∷ rest)) ≡ option_map (λ k. from + k) (position listed (entry ∷ rest))
    by true e ih = rw (e, lt-ltb 0 (suc (length rest)) (omega arith)) (ap Some (sym (add-zero from)))
    by false e ih = rw e (ih ∙ next (position_or_len listed rest) (length rest) (ltb (position_or_len listed rest) (length rest)) refl)

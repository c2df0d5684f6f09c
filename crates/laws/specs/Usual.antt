-- The names of the logic that nearly every file uses, handed on, so that one line brings them.
pub use Rattle.std.specs.Prelude.{◌≡◌, refl, Bool, true, false, cond, not, ◌&&◌, ◌||◌, List, [], ◌∷◌, ◌++◌, map, ℕ, suc, ◌+◌, ◌-◌, ◌*◌, ◌/◌, ◌%◌, ◌<◌, ◌≤◌, min, max, length, get_or, take, drop, set, replicate, eqb, leb, ltb}
pub use Rattle.std.proofs.Common.{sym, ap, ap₂, subst, ◌∙◌, arith, rules}
pub use Rattle.std.proofs.lemmas.Bool.{false≢true}

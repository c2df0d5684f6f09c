-- `boundary_keeping::put` meets its contract.
use Rattle.std.specs.Prelude.{◌∷◌}
use Rattle.laws.specs.Usual.{refl, ap₂}
use Rattle.boundary_places.specs.Places.{kept}
use borrow.Author.Rules.{rules}
use Rattle.boundary_keeping.proofs.put.Goals as goal

pub returns : goal.returns
unfolding kept
returns c =
    ap₂ ◌∷◌ c.with_phase.ensures
    (ap₂ ◌∷◌ c.with_octet.ensures
    (ap₂ ◌∷◌ c.with_octets.ensures
    (ap₂ ◌∷◌ c.with_octets-2.ensures
    (ap₂ ◌∷◌ c.with_octets-3.ensures
    (ap₂ ◌∷◌ c.with_octets-4.ensures
    (ap₂ ◌∷◌ c.with_octet-2.ensures
    (ap₂ ◌∷◌ c.with_octet-3.ensures
    (ap₂ ◌∷◌ c.with_octet-4.ensures
    (ap₂ ◌∷◌ refl
    (ap₂ ◌∷◌ refl
    (ap₂ ◌∷◌ c.with_octet-5.ensures
    (ap₂ ◌∷◌ c.with_flag.ensures
    (ap₂ ◌∷◌ c.with_octet-6.ensures
    (ap₂ ◌∷◌ c.with_octet-7.ensures
    (ap₂ ◌∷◌ c.with_octet-8.ensures
    (ap₂ ◌∷◌ refl
    (ap₂ ◌∷◌ refl
    (refl))))))))))))))))))

-- The paper's worked run, made by the definition.
use Rattle.std.specs.Prelude.{◌≡◌, ◌∷◌}
use Rattle.laws.specs.Usual.{[], refl}
use Rattle.settling.specs.Ring.{pass, silence}
use Rattle.settle_run.specs.Run.{run_from, run_of}
use Rattle.settle_run.specs.Examples.{shown}

-- "S,0,0,2", then "P,1,2,1"
played : run_of shown ≡ silence ∷ pass 1 ∷ []
unfolding run_from
played = refl

-- The paper's worked run, made by the definition.
use Rattle.std.specs.Prelude.{◌∷◌, ◌++◌}
use Rattle.laws.specs.Usual.{[], replicate}
use Rattle.settle_views.specs.declared.Ring.{Ring}

-- the stations 1, 2, 3 with the views 3, 3, 1
abbrev pub shown : Ring
shown = record { views = (0 ∷ 3 ∷ 3 ∷ 1 ∷ []) ++ replicate 252 0 }

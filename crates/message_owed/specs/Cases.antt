-- The numbers of what is owed, worked out for single confirmations. Assumes nothing.
use Rattle.std.specs.Prelude.{◌≡◌, ◌∷◌}
use Rattle.laws.specs.Usual.{refl, true, false, List, [], ℕ, drop, replicate}
use Rattle.message.specs.declared.Confirmation.{Confirmation}
use Rattle.message_places.specs.Owed.{owed_in, kept_owed}
use Rattle.message_owed.specs.Owing.{owing_where_free, is_owing}

abbrev numbered : ℕ → Confirmation
numbered number = record { status = 1; source = 2; code = 3; version = 7; number = number }

-- 1 + 256 * 2 + 65536 * 3; a fourth stands behind them, that is owed no longer
abbrev three : List ℕ
three = 3 ∷ 197121 ∷ 7 ∷ 1 ∷ 197121 ∷ 7 ∷ 2 ∷ 197121 ∷ 7 ∷ 3 ∷ 197121 ∷ 7 ∷ 4 ∷ replicate 12 0

held : (owed_in three ≡ numbered 1 ∷ numbered 2 ∷ numbered 3 ∷ []) × (is_owing (owed_in three) ≡ true) × (is_owing (owed_in (replicate 25 0)) ≡ false)
unfolding owed_in
held = (refl, refl, refl)

-- one more, one that is owed already, and the oldest dropped
changed : (kept_owed three (owing_where_free (numbered 5) (owed_in three)) ≡ 4 ∷ 197121 ∷ 7 ∷ 1 ∷ 197121 ∷ 7 ∷ 2 ∷ 197121 ∷ 7 ∷ 3 ∷ 197121 ∷ 7 ∷ 5 ∷ replicate 12 0)
    × (kept_owed three (owing_where_free (numbered 2) (owed_in three)) ≡ three)
    × (kept_owed three (drop 1 (owed_in three)) ≡ 2 ∷ 197121 ∷ 7 ∷ 2 ∷ 197121 ∷ 7 ∷ 3 ∷ 197121 ∷ 7 ∷ 3 ∷ 197121 ∷ 7 ∷ 4 ∷ replicate 12 0)
unfolding owed_in kept_owed owing_where_free
changed = (refl, refl, refl)

-- above eight counts as eight, and a ninth changes nothing
abbrev eight : List Confirmation
eight = numbered 1 ∷ numbered 2 ∷ numbered 3 ∷ numbered 4 ∷ numbered 5 ∷ numbered 6 ∷ numbered 7 ∷ numbered 8 ∷ []

full : (owed_in (9 ∷ drop 1 (kept_owed (replicate 25 0) eight)) ≡ eight) × (owing_where_free (numbered 9) eight ≡ eight)
unfolding owed_in kept_owed owing_where_free
full = (refl, refl)

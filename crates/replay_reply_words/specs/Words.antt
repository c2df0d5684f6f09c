-- The words of the answers, in ASCII.
use Rattle.std.specs.Prelude.{◌∷◌}
use Rattle.laws.specs.Usual.{List, [], ℕ}

-- "done"
abbrev pub done_word : List ℕ
done_word = 0x64 ∷ 0x6f ∷ 0x6e ∷ 0x65 ∷ []

-- "off"
abbrev pub off_word : List ℕ
off_word = 0x6f ∷ 0x66 ∷ 0x66 ∷ []

-- "bad"
abbrev pub bad_word : List ℕ
bad_word = 0x62 ∷ 0x61 ∷ 0x64 ∷ []

-- "refused"
abbrev pub refused_word : List ℕ
refused_word = 0x72 ∷ 0x65 ∷ 0x66 ∷ 0x75 ∷ 0x73 ∷ 0x65 ∷ 0x64 ∷ []

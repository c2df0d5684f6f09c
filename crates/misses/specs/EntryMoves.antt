-- What a listing, an accepted cyclic frame and an ending of our watch do to one station's entry. Assumes nothing.
use Rattle.std.specs.Prelude.{◌≡◌, ◌≤◌}
use Rattle.laws.specs.Usual.{[], Bool, true, false, not, ℕ}
use Rattle.members.specs.Members.{strikes}
use Rattle.station.specs.Types.{Entry}
use Rattle.misses.specs.MissHistory.{misses_after, is_third}

-- an entry that carries the misses that the history says, and may yet get one
pub record Carries (said : ℕ) (entry : Entry) : Type 0 where
  pub misses : entry.misses ≡ said
  pub few : said ≤ 2

-- what a step does to a station's entry, by whether we participate before it and it is no stop, and what it is to the station: a listing, an
-- accepted cyclic frame, an ending of our watch with it in view
pub record Moves (stays listed accepted ended : Bool) (before left : Entry) : Type 0 where
  pub counts : (said : ℕ) → (before.listed ≡ true → Carries said before) → left.listed ≡ true → Carries (misses_after listed accepted ended said) left
  pub strikes : (said : ℕ) → stays ≡ true → before.listed ≡ true → Carries said before
      → left.listed ≡ not (is_third ended (misses_after listed accepted ended said))
  pub unlisted : listed ≡ false → before.listed ≡ false → left.listed ≡ false

-- A count of what a ring has left to do before its views agree, and how large it can be. Each pass that does not make the views
-- agree lowers the count, and no silence raises it (`Passes`).
use Rattle.std.specs.Prelude.{◌≡◌, ◌+◌, ◌<◌, ◌≤◌}
use Rattle.laws.specs.Usual.{[], List, ℕ, max}
use Rattle.std.proofs.Math.Logic.Dec as decide
use Rattle.std.proofs.Math.Decide.{dec_le, dec_lt, ℕ_discrete}
use Rattle.settling.specs.Ring.{Views}
use Rattle.settling.specs.Count.{only, tally, sum}

-- The station i waits: its view may still come up to i. (Not where it and the smallest both name the smallest.)
abbrev pub Waits : ℕ → Views → ℕ → Type 0
Waits smallest views i = (views i ≤ i) × (smallest < max (views i) (views smallest))

pub waits? : (smallest : ℕ) (views : Views) (i : ℕ) → Dec (Waits smallest views i)
waits? smallest views i = decide.and (dec_le (views i) i) (dec_lt smallest (max (views i) (views smallest)))

-- the smallest names another, below the view of i
abbrev pub Leads : ℕ → Views → ℕ → Type 0
Leads smallest views i = (smallest < views smallest) × (views smallest < views i)

pub leads? : (smallest : ℕ) (views : Views) (i : ℕ) → Dec (Leads smallest views i)
leads? smallest views i = decide.and (dec_lt smallest (views smallest)) (dec_lt (views smallest) (views i))

-- k is below i, is not the smallest, and its view differs from the view of i
abbrev pub Apart : ℕ → Views → ℕ → ℕ → Type 0
Apart smallest views i k = (smallest < k) × ((k < i) × ¬ (views k ≡ views i))

pub apart? : (smallest : ℕ) (views : Views) (i k : ℕ) → Dec (Apart smallest views i k)
apart? smallest views i k = decide.and (dec_lt smallest k) (decide.and (dec_lt k i) (decide.not (ℕ_discrete (views k) (views i))))

-- how many are apart from i
unfoldable pub apart : List ℕ → ℕ → Views → ℕ → ℕ
apart ns smallest views i = sum (λ k. tally (apart? smallest views i k)) ns

-- what the station i has left to do
unfoldable pub station_left : List ℕ → ℕ → Views → ℕ → ℕ
station_left ns smallest views i = tally (waits? smallest views i) + tally (leads? smallest views i) + apart ns smallest views i

-- i is neither the smallest nor the largest
pub inner? : (smallest largest i : ℕ) → Dec ((smallest < i) × (i < largest))
inner? smallest largest i = decide.and (dec_lt smallest i) (dec_lt i largest)

-- what all stations but the smallest and the largest have left to do
unfoldable pub left : List ℕ → ℕ → ℕ → Views → ℕ
left ns smallest largest views = sum (λ i. only (inner? smallest largest i) (station_left ns smallest views i)) ns

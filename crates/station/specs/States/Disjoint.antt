-- No overlap between listed areas, nor between them and ours once our request has fallen due: the definition, and what the operations on the
-- list keep of it. Assumes nothing.
use Rattle.std.specs.Prelude.{◌≡◌}
use Rattle.laws.specs.Usual.{[], true, false, ℕ}
use Rattle.area.specs.Overlap.{areas_overlap}
use Rattle.members.specs.Members.{entry_of, is_listed}
use Rattle.station.specs.Rules.Starting.{request_fallen}
use Rattle.station.specs.Types.{Areas, Members, Station}

-- the areas of two different listed stations do not overlap
abbrev pub Disjoint : Members → Type 0
Disjoint members =
    (m n : ℕ) → ¬ (m ≡ n) → is_listed members m ≡ true → is_listed members n ≡ true
    → areas_overlap (entry_of members m).areas (entry_of members n).areas ≡ false

-- these areas overlap no listed ones
abbrev pub Clear : Areas → Members → Type 0
Clear areas members = (number : ℕ) → is_listed members number ≡ true → areas_overlap areas (entry_of members number).areas ≡ false

pub record Apart (station : Station) : Type 0 where
  -- no two listed stations' areas overlap
  pub listed : Disjoint station.members
  -- nor do a listed station's and ours, once our request has fallen due
  pub ours : request_fallen station.phase station ≡ true → Clear station.own.areas station.members

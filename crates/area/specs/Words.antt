-- Two parts of an area overlap just where some word belongs to both. Assumes nothing.
use Rattle.std.specs.Prelude.{◌≡◌, ◌&&◌, ◌+◌, ◌<◌, ◌≤◌}
use Rattle.laws.specs.Usual.{true, ℕ, max, arith}
use Rattle.std.proofs.Common.{lt-ltb, ltb-true}
use Rattle.laws.specs.Tests.{first, second}
use Rattle.area.specs.Overlap.{filled, starts_before_end, parts_overlap}
use Rattle.area.specs.declared.Part.{Part}

-- the word belongs to the part
pub record Holds (part : Part) (word : ℕ) : Type 0 where
  pub from : part.address ≤ word
  pub before : word < part.address + part.size

pub shared_overlap : {a b : Part} {word : ℕ} → Holds a word → Holds b word → parts_overlap a b ≡ true
shared_overlap {a} {b} p q =
    let fa : 0 < a.size = omega arith in
    let fb : 0 < b.size = omega arith in
    let ab : a.address < b.address + b.size = omega arith in
    let ba : b.address < a.address + a.size = omega arith in
    simp (lt-ltb _ _ fa, lt-ltb _ _ fb, lt-ltb _ _ ab, lt-ltb _ _ ba)

pub overlap_shared : (a b : Part) → parts_overlap a b ≡ true → (word : ℕ) × Holds a word × Holds b word
overlap_shared a b e =
    let sizes = first (filled a && filled b) (starts_before_end a b && starts_before_end b a) e in
    let starts = second (filled a && filled b) (starts_before_end a b && starts_before_end b a) e in
    let fa : 0 < a.size = ltb-true 0 a.size (first (filled a) (filled b) sizes) in
    let fb : 0 < b.size = ltb-true 0 b.size (second (filled a) (filled b) sizes) in
    let ab : a.address < b.address + b.size = ltb-true a.address (b.address + b.size) (first (starts_before_end a b) (starts_before_end b a) starts) in
    let ba : b.address < a.address + a.size = ltb-true b.address (a.address + a.size) (second (starts_before_end a b) (starts_before_end b a) starts) in
    (max a.address b.address, record { from = omega arith; before = omega arith }, record { from = omega arith; before = omega arith })

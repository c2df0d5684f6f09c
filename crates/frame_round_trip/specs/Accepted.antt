-- A list of octets is read as fields just where it passes every test, and the fields are those that stand in it. Assumes nothing.
use Rattle.std.specs.Prelude.{Some, ◌≡◌, ◌||◌}
use Rattle.laws.specs.Usual.{true, not, List, ℕ, length}
use Rattle.frame.specs.Codes.{code_of, is_cyclic}
use Rattle.frame.specs.Octets.{word_at}
use Rattle.frame.specs.Positions.{TCD}
use Rattle.frame.specs.declared.Fields.{Fields}
use Rattle.frame_reading.specs.Reading.{whole, marked, long, fields_of, addressed, ranged, blocked}

-- the octets pass each test, in the order of the refusals, and hold the fields
pub record Accepted (s : List ℕ) (fields : Fields) : Type 0 where
  pub is_whole : whole s ≡ true
  pub is_marked : marked s ≡ true
  pub is_long : long s ≡ true
  pub is_coded : code_of (word_at s TCD) ≡ Some fields.code
  pub holds : fields_of fields.code s ≡ fields
  pub is_addressed : addressed fields ≡ true
  pub is_ranged : ranged fields ≡ true
  pub is_blocked : (not (is_cyclic fields.code) || blocked (length s) fields) ≡ true

-- what refusals 1 to 5 let through
pub record Headed (s : List ℕ) (fields : Fields) : Type 0 where
  pub is_whole : whole s ≡ true
  pub is_marked : marked s ≡ true
  pub is_long : long s ≡ true
  pub is_coded : code_of (word_at s TCD) ≡ Some fields.code
  pub holds : fields_of fields.code s ≡ fields
  pub is_addressed : addressed fields ≡ true

-- what refusals 7, 14, 15 and 8 let through
pub record Bodied (given : ℕ) (header fields : Fields) : Type 0 where
  pub is_same : header ≡ fields
  pub is_ranged : ranged fields ≡ true
  pub is_blocked : (not (is_cyclic fields.code) || blocked given fields) ≡ true

-- What each test of the reading shows of the fields. Assumes nothing.
use Rattle.std.specs.Prelude.{◌≡◌, ◌&&◌, ◌||◌, ◌-◌, ◌≤◌}
use Rattle.laws.specs.Usual.{refl, Bool, true, not, false≢true, List, ℕ, length, eqb, leb}
use Rattle.std.proofs.Common.{leb-true, eqb-true}
use Rattle.laws.specs.Tests.{first, second, implied}
use Rattle.area.specs.Areas.{in_range}
use Rattle.block.specs.Blocks.{blocks_of, length_of}
use Rattle.frame.specs.Codes.{is_token, is_cyclic, carries_areas}
use Rattle.frame.specs.Octets.{long_at}
use Rattle.frame.specs.Positions.{TFL}
use Rattle.frame.specs.declared.Code.{Code}
use Rattle.frame.specs.declared.Code.TheVariants.{Token, Cyclic, Request, Trigger}
use Rattle.frame.specs.declared.Fields.{Fields}
use Rattle.frame_round_trip.specs.Accepted.{Accepted}
use Rattle.frame_reading.specs.Reading.{is_station, totalled, numbered, measured, blocked}

-- a cyclic frame carries areas
pub cyclic_carries : (code : Code) → is_cyclic code ≡ true → carries_areas code ≡ true
cyclic_carries Token e = refl
cyclic_carries Cyclic e = refl
cyclic_carries Request e = absurd (false≢true e)
cyclic_carries Trigger e = absurd (false≢true e)

-- the block fields of a cyclic frame
pub record Blocked (given : ℕ) (fields : Fields) : Type 0 where
  pub total : fields.blocks ≡ blocks_of fields.areas
  pub from : 1 ≤ fields.block
  pub to : fields.block ≤ fields.blocks
  pub size : fields.size ≡ length_of fields.areas fields.block
  pub least : 64 ≤ given - fields.size
  pub most : given - fields.size ≤ 96

module _ (given : ℕ) (fields : Fields) (e : blocked given fields ≡ true) where
  abbrev headed : Bool
  headed = leb 64 (given - fields.size) && leb (given - fields.size) 96

  abbrev sized : Bool
  sized = eqb fields.size (length_of fields.areas fields.block)

  pub is_blocked : Blocked given fields
  is_blocked =
      let rest = second (totalled fields) (numbered fields && measured given fields) e in
      let number = first (numbered fields) (measured given fields) rest in
      let after = second (numbered fields) (measured given fields) rest in
      let header = second sized headed after in
      record {
        total = eqb-true _ _ (first (totalled fields) (numbered fields && measured given fields) e);
        from = leb-true _ _ (first (leb 1 fields.block) (leb fields.block fields.blocks) number);
        to = leb-true _ _ (second (leb 1 fields.block) (leb fields.block fields.blocks) number);
        size = eqb-true _ _ (first sized headed after);
        least = leb-true _ _ (first (leb 64 (given - fields.size)) (leb (given - fields.size) 96) header);
        most = leb-true _ _ (second (leb 64 (given - fields.size)) (leb (given - fields.size) 96) header);
      }

module _ {s : List ℕ} {fields : Fields} (a : Accepted s fields) where
  pub source_is : is_station fields.source ≡ true
  source_is = first (is_station fields.source) (not (is_token fields.code) || is_station fields.destination) a.is_addressed

  pub destination_is : is_token fields.code ≡ true → is_station fields.destination ≡ true
  destination_is =
      implied (is_token fields.code) (is_station fields.destination)
      (second (is_station fields.source) (not (is_token fields.code) || is_station fields.destination) a.is_addressed)

  pub areas_are : carries_areas fields.code ≡ true → in_range fields.areas ≡ true
  areas_are = implied (carries_areas fields.code) (in_range fields.areas) a.is_ranged

  pub block_is : is_cyclic fields.code ≡ true → Blocked (length s) fields
  block_is e = is_blocked (length s) fields (implied (is_cyclic fields.code) (blocked (length s) fields) a.is_blocked e)

  pub length_is : long_at s TFL ≡ length s
  length_is = eqb-true (long_at s TFL) (length s) a.is_long

use Rattle.std.specs.Prelude.{◌≡◌, ◌+◌, ◌≤◌, max}
use Rattle.laws.specs.Usual.{length, drop}
use Rattle.text_reading.specs.Marks.{before}
use Rattle.text_places.proofs.place_from.Given as goal

-- the place reached and what stands before the mark from there on make the place of the mark
abbrev pub invariant-loop-place : goal.invariant-loop-place
invariant-loop-place l = record {
  same : l.place + before l.mark (drop l.place l.octets) ≡ l.from + before l.mark (drop l.from l.octets);
  within : l.place ≤ max l.from (length l.octets);
}

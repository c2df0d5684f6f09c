-- Of octets that are longer than any frame, the first 1121 are heard as all of them are. Assumes nothing.
use Rattle.std.specs.Prelude.{Err, ◌≡◌, ◌<◌, ◌≤◌}
use Rattle.laws.specs.Usual.{ap, List, ℕ, arith, length, take}
use Rattle.std.proofs.Math.Decide.{dec_le}
use Rattle.std.proofs.Common.{length-take-le, take_all, le-leb}
use Rattle.std.proofs.lemmas.Bool.{lt-leb}
use Rattle.frame.specs.declared.Refusal.TheVariants.{Cut}
use Rattle.frame_reading.specs.Reading.{read_header_of}
use Rattle.station.specs.Rules.Hearing.{hear_of}
use Rattle.station.specs.declared.Station.{Station}

-- more than 1120 octets are refused by number 1
cut_off : (octets : List ℕ) → 1120 < length octets → read_header_of octets ≡ Err Cut
cut_off octets h = simp (le-leb 64 (length octets) (omega arith), lt-leb (length octets) 1120 h)

pub hear_cut : (station : Station) (octets memory assembly : List ℕ) → hear_of station (take 1121 octets) memory assembly ≡ hear_of station octets memory assembly
hear_cut station octets memory assembly = by (dec_le (length octets) 1121)
  where
    by : Dec (length octets ≤ 1121) → hear_of station (take 1121 octets) memory assembly ≡ hear_of station octets memory assembly
    by (yes all) = ap (λ (o : List ℕ). hear_of station o memory assembly) (take_all 1121 octets all)
    by (no more) =
        let long : length (take 1121 octets) ≡ 1121 = length-take-le 1121 octets (omega arith) in
        let first = cut_off (take 1121 octets) (rw long (omega arith)) in
        let whole = cut_off octets (omega arith) in
        rw (first, whole)

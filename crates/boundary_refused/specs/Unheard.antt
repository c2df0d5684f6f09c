-- A frame whose header is refused (11, then 1 to 5): hearing it looks neither at the state nor at the list. Assumes nothing.
use Rattle.std.specs.Prelude.{Ok, Err, ◌≡◌}
use Rattle.laws.specs.Usual.{refl, Bool, true, false, cond, List, ℕ, length}
use Rattle.frame.specs.declared.Refusal.TheVariants.{Buffer}
use Rattle.frame_reading.specs.Reading.{read_header_of, read_body_of, read_of}
use Rattle.station.specs.Rules.Hearing.{lent_right, refused, header_heard, hear_of}
use Rattle.station.specs.Types.{Fields, Refusal}
use Rattle.station.specs.declared.Station.{Station}

-- 11 comes first
abbrev pub heard_refusal : Bool → Refusal → Refusal
heard_refusal lent refusal = cond lent refusal Buffer

pub header_refused : (station : Station) (octets memory assembly : List ℕ) (refusal : Refusal) → read_header_of octets ≡ Err refusal
    → hear_of station octets memory assembly ≡ refused station memory assembly (heard_refusal (lent_right memory assembly) refusal)
header_refused station octets memory assembly refusal e = by (lent_right memory assembly)
  where
    by : (lent : Bool) → cond lent (header_heard station octets memory assembly (read_header_of octets)) (refused station memory assembly Buffer)
        ≡ refused station memory assembly (heard_refusal lent refusal)
    by true = rw e
    by false = refl

-- 11 alone
pub unlent : (station : Station) (octets memory assembly : List ℕ) → lent_right memory assembly ≡ false
    → hear_of station octets memory assembly ≡ refused station memory assembly Buffer
unlent station octets memory assembly e = rw e

-- a frame that is read in two parts
pub read_on : (octets : List ℕ) (header frame : Fields) → read_header_of octets ≡ Ok header → read_body_of (length octets) header ≡ Ok frame
    → read_of octets ≡ Ok frame
unfolding read_of
read_on octets header frame h b = rw h b

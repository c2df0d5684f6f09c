-- A list of octets is read as fields just where it passes every test, and the fields are those that stand in it. Assumes nothing.
use Rattle.std.specs.Prelude.{Option, Some, None, Ok, Err, ◌≡◌, ◌&&◌, ◌||◌}
use Rattle.laws.specs.Usual.{refl, sym, ap, ◌∙◌, Bool, true, false, not, false≢true, List, ℕ, arith, length}
use Rattle.laws.specs.Tests.{both, first, second}
use Rattle.frame.specs.Codes.{code_of, is_known, code_from, is_cyclic}
use Rattle.frame.specs.Octets.{word_at}
use Rattle.frame.specs.Positions.{TCD}
use Rattle.frame.specs.declared.Code.{Code}
use Rattle.frame.specs.declared.Fields.{Fields}
use Rattle.frame.specs.declared.Refusal.{Refusal}
use Rattle.frame_reading.specs.Reading.{need, and_then, whole, marked, long, coded, code_in, fields_of, addressed, ranged, totalled, numbered, measured, blocked, read_header_of, read_body_of, read_of}
use Rattle.frame_reading.specs.Reading.{Read}
use Rattle.frame_round_trip.specs.Accepted.{Accepted, Headed, Bodied}
use Rattle.frame.specs.declared.Refusal.TheVariants as refusals

-- a test that stands before a frame held
passed : (test : Bool) (refusal : Refusal) (rest : Read) (fields : Fields) → need test refusal rest ≡ Ok fields → (test ≡ true) × (rest ≡ Ok fields)
passed true refusal rest fields e = (refl, e)
passed false refusal rest fields e = let z : ◌≡◌ {A = ℕ} 0 1 = cc in absurd (omega arith)

same : {f g : Fields} → ◌≡◌ {A = Read} (Ok f) (Ok g) → f ≡ g
same e = cc

-- a code that passed refusal 4
known : (found : Option Code) → is_known found ≡ true → found ≡ Some (code_from found)
known (Some code) e = refl
known None e = absurd (false≢true e)

headed : (s : List ℕ) (fields : Fields) → read_header_of s ≡ Ok fields → Headed s fields
unfolding fields_of
headed s fields e =
    let found = fields_of (code_in s) s in
    let five = need (addressed found) refusals.Address (Ok found) in
    let four = need (coded s) refusals.Code five in
    let three = need (long s) refusals.Length four in
    let a = passed (whole s) refusals.Cut (need (marked s) refusals.Mark three) fields e in
    let b = passed (marked s) refusals.Mark three fields a.1 in
    let c = passed (long s) refusals.Length four fields b.1 in
    let d = passed (coded s) refusals.Code five fields c.1 in
    let f = passed (addressed found) refusals.Address (Ok found) fields d.1 in
    let h : found ≡ fields = same f.1 in
    let k : code_in s ≡ fields.code = ap (λ (g : Fields). g.code) h in
    record {
      is_whole = a.0;
      is_marked = b.0;
      is_long = c.0;
      is_coded = known (code_of (word_at s TCD)) d.0 ∙ ap Some k;
      holds = ap (λ (code : Code). fields_of code s) (sym k) ∙ h;
      is_addressed = ap addressed (sym h) ∙ f.0;
    }

-- three tests that are asked of cyclic frames only are one: 14, 15 and 8
together : (cyclic a b c : Bool) → (not cyclic || a) ≡ true → (not cyclic || b) ≡ true → (not cyclic || c) ≡ true
    → (not cyclic || (a && (b && c))) ≡ true
together true a b c p q r = both p (both q r)
together false a b c p q r = refl

apart : (cyclic a b c : Bool) → (not cyclic || (a && (b && c))) ≡ true
    → ((not cyclic || a) ≡ true) × ((not cyclic || b) ≡ true) × ((not cyclic || c) ≡ true)
apart true a b c e = (first a (b && c) e, first b c (second a (b && c) e), second b c (second a (b && c) e))
apart false a b c e = (refl, refl, refl)

-- A header is read just where its areas are in range and, in a cyclic frame, its block fields are right,
pub bodied : (given : ℕ) (header fields : Fields) → read_body_of given header ≡ Ok fields → Bodied given header fields
bodied given header fields e =
    let cyclic = is_cyclic header.code in
    let eight = need (not cyclic || measured given header) refusals.Block (Ok header) in
    let fifteen = need (not cyclic || numbered header) refusals.Number eight in
    let p = passed (ranged header) refusals.Area (need (not cyclic || totalled header) refusals.Total fifteen) fields e in
    let q = passed (not cyclic || totalled header) refusals.Total fifteen fields p.1 in
    let r = passed (not cyclic || numbered header) refusals.Number eight fields q.1 in
    let t = passed (not cyclic || measured given header) refusals.Block (Ok header) fields r.1 in
    let h : header ≡ fields = same t.1 in
    let one = together cyclic (totalled header) (numbered header) (measured given header) q.0 r.0 t.0 in
    record {
      is_same = h;
      is_ranged = ap ranged (sym h) ∙ p.0;
      is_blocked = ap (λ (f : Fields). not (is_cyclic f.code) || blocked given f) (sym h) ∙ one;
    }

-- and so it is read there.
pub body_reads : (given : ℕ) (fields : Fields) → ranged fields ≡ true → (not (is_cyclic fields.code) || blocked given fields) ≡ true
    → read_body_of given fields ≡ Ok fields
body_reads given fields range block =
    let tests = apart (is_cyclic fields.code) (totalled fields) (numbered fields) (measured given fields) block in
    simp (range, tests.0, tests.1, tests.2)

pub reads : {s : List ℕ} {fields : Fields} → Accepted s fields → read_of s ≡ Ok fields
unfolding read_of
reads {s} {fields} a =
    simp (a.is_whole, a.is_marked, a.is_long, a.is_coded, a.holds, a.is_addressed)
    (body_reads (length s) fields a.is_ranged a.is_blocked)

-- a frame that came through both parts came through the first
split : (r : Read) (rest : Fields → Read) (fields : Fields) → and_then r rest ≡ Ok fields → (header : Fields) × (r ≡ Ok header) × (rest header ≡ Ok fields)
split (Ok header) rest fields e = (header, refl, e)
split (Err refusal) rest fields e = let z : ◌≡◌ {A = ℕ} 0 1 = cc in absurd (omega arith)

pub accepted : (s : List ℕ) (fields : Fields) → read_of s ≡ Ok fields → Accepted s fields
unfolding read_of
accepted s fields e =
    let p = split (read_header_of s) (read_body_of (length s)) fields e in
    let b = bodied (length s) p.0 fields p.2 in
    let h = headed s fields (p.1 ∙ ap Ok b.is_same) in
    record {
      is_whole = h.is_whole;
      is_marked = h.is_marked;
      is_long = h.is_long;
      is_coded = h.is_coded;
      holds = h.holds;
      is_addressed = h.is_addressed;
      is_ranged = b.is_ranged;
      is_blocked = b.is_blocked;
    }

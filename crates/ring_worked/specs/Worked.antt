-- A ring of three stations that meets the premises of demand 3, with two holders, and one pass that settles it. Assumes nothing.
use Rattle.std.specs.Prelude.{◌≡◌, ◌∷◌}
use Rattle.laws.specs.Usual.{refl, sym, ◌∙◌, true, cond, List, [], ℕ, arith, replicate, eqb}
use Rattle.std.proofs.Common.{inr}
use Rattle.members.specs.Members.{entry_of, ring_of}
use Rattle.frame_reading.specs.Reading.{fields_of, read_of}
use Rattle.settling.specs.First.{FirstAgreement}
use Rattle.settling.specs.Ring.{◌∈◌}
use Rattle.station.specs.Rules.Calls.{after}
use Rattle.station.specs.Rules.State.{holds}
use Rattle.station.specs.Rules.Waits.{counts_as}
use Rattle.station.specs.declared.Phase.TheVariants.{Participating}
use Rattle.station.specs.declared.Station.{Station}
use Rattle.frame_writing.specs.Writing.{header_of, front_of, back_of, fixed_for}
use Rattle.ring_worked.specs.Bringing.{large, token_octets, token_fields, hears, asks, one, two, three, one_heard, two_last, three_heard, numbers, ascending, at_1, at_3, each, passed}
use Rattle.ring.specs.Counts.{passes, silences, given}
use Rattle.ring.specs.Demand.{LastCall, Disturbed, RingSettles}
use Rattle.ring.proofs.DemandThree.{demand_three}
use Rattle.ring.specs.Events.{Stations, Event, asked, after_event, AllName, CanCome}

-- a station's entry of a number has 2 ms
abbrev pub Timed : Station → ℕ → Type 0
Timed station x = (counts_as (entry_of station.members x).watch).0 ≡ 2

-- so has each of the other two, at stations 1, 2 and 3
pub others_1 : (station : Station) → Timed station 2 → Timed station 3 → (x : ℕ) → x ∈ numbers → ¬ (x ≡ 1) → Timed station x
others_1 station a b = each (λ x. ¬ (x ≡ 1) → Timed station x) (λ other. absurd (other refl)) (λ other. a) (λ other. b)

pub others_2 : (station : Station) → Timed station 1 → Timed station 3 → (x : ℕ) → x ∈ numbers → ¬ (x ≡ 2) → Timed station x
others_2 station a b = each (λ x. ¬ (x ≡ 2) → Timed station x) (λ other. a) (λ other. absurd (other refl)) (λ other. b)

pub others_3 : (station : Station) → Timed station 1 → Timed station 2 → (x : ℕ) → x ∈ numbers → ¬ (x ≡ 3) → Timed station x
others_3 station a b = each (λ x. ¬ (x ≡ 3) → Timed station x) (λ other. a) (λ other. b) (λ other. absurd (other refl))

-- what a station of the worked rings is like, after the token frame from station 2 to station 3
pub record Fits (number : ℕ) (station : Station) : Type 0 where
  pub last : LastCall passed station
  pub own : station.own.number ≡ number
  pub participates : station.phase ≡ Participating
  pub list : ring_of number station.members ≡ numbers
  pub watch : station.own.watch.0 ≡ 2
  pub times : (x : ℕ) → x ∈ numbers → ¬ (x ≡ number) → Timed station x
  pub view : station.view ∈ numbers

-- the premises of demand 3 hold of three such stations
pub disturbed : (stations : Stations) → ((number : ℕ) → number ∈ numbers → Fits number (stations number)) → Disturbed numbers stations
unfolding header_of front_of back_of fixed_for fields_of read_of
disturbed stations fits = record {
  ring = ascending;
  octets = passed;
  token = token_fields 2 3;
  is_read = refl;
  is_token_lem = refl;
  last = λ n m. (fits n m).last;
  own = λ n m. (fits n m).own;
  participates = λ n m. (fits n m).participates;
  list = λ n m. (fits n m).list;
  watch = λ n k p q. (fits n p).watch ∙ sym (fits k q).watch;
  listed = λ n k p q other. (fits n p).times k q other ∙ sym (fits n p).watch;
  view = λ n m. (fits n m).view;
}

-- Stations 1, 2 and 3 after station 2 passed the token to station 3 and the others heard it: this is the last call of each. Stations 1 and 3
-- had heard these frames last before.
abbrev pub passed_on : List ℕ → List ℕ → Stations
passed_on first third number =
    cond (eqb number 1) (after (one first) (hears passed)) (cond (eqb number 2) (after (two (token_octets 3 2)) asks) (after (three third) (hears passed)))

-- station 2 in such a ring
pub two_fits : Fits 2 (after (two (token_octets 3 2)) asks)
unfolding header_of front_of back_of fixed_for fields_of
two_fits = record {
  last = two_last;
  own = refl;
  participates = refl;
  list = refl;
  watch = refl;
  times = others_2 (after (two (token_octets 3 2)) asks) refl refl;
  view = at_3;
}

-- each of the three held
abbrev pub stations : Stations
stations = passed_on (token_octets 3 1) (token_octets 1 3)

pub worked : Disturbed numbers stations
unfolding header_of front_of back_of fixed_for fields_of
worked =
    disturbed stations
    (each (λ n. Fits n (stations n))
    (record { last = one_heard (token_octets 3 1) refl refl; own = refl; participates = refl; list = refl; watch = refl; times = others_1 (stations 1) refl refl; view = at_1 })
    two_fits
    (record { last = three_heard (token_octets 1 3) refl refl; own = refl; participates = refl; list = refl; watch = refl; times = others_3 (stations 3) refl refl; view = at_3 }))

-- the views are 1, 3 and 3
pub views_before : ((stations 1).view ≡ 1) × ((stations 2).view ≡ 3) × ((stations 3).view ≡ 3)
unfolding header_of front_of back_of fixed_for fields_of
views_before = (refl, refl, refl)

-- stations 1 and 3 both hold
pub rivals : (holds (stations 1) ≡ true) × (holds (stations 3) ≡ true)
unfolding header_of front_of back_of fixed_for fields_of
rivals = (refl, refl)

-- the views are not all equal
pub views_differ : ¬ AllName numbers stations
views_differ agreed = 1≢3 (sym views_before.0 ∙ agreed 1 3 at_1 at_3 ∙ views_before.2)
  where
    1≢3 : ◌≡◌ {A = ℕ} 1 3 → ⊥
    1≢3 e = omega arith

-- station 1 is asked, and the others hear what it writes
abbrev pub asks_one : Event
asks_one = asked 1 large large (replicate 1088 0) (λ number. record { memory = large; assembly = large })

pub can_come : (now : Stations) → CanCome numbers now asks_one
can_come now = (at_1, refl, λ number member. refl)

-- it is one pass, to station 2, and no silence
pub counted : (passes stations (asks_one ∷ []) ≡ 1) × (silences numbers stations (asks_one ∷ []) ≡ 0) × (given 2 stations (asks_one ∷ []) ≡ 1)
unfolding header_of front_of back_of fixed_for fields_of read_of
counted = (refl, refl, refl)

-- after it all views are 2
pub views_after : (number : ℕ) → number ∈ numbers → (after_event stations asks_one number).view ≡ 2
unfolding header_of front_of back_of fixed_for fields_of
views_after = each (λ n. (after_event stations asks_one n).view ≡ 2) refl refl refl

-- that pass is the part up to the first time that all views are equal
pub first : FirstAgreement after_event (AllName numbers) stations (asks_one ∷ []) (asks_one ∷ []) []
first = record {
  split = refl;
  differing = (views_differ, tt);
  reached = inr (λ n m p q. views_after n p ∙ sym (views_after m q));
}

-- and so demand 3 holds of it
pub settled : RingSettles numbers stations (asks_one ∷ []) []
settled = demand_three worked (can_come stations, tt) first

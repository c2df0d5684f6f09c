-- Laws of ticks one after the other. Assumes nothing.
use Rattle.laws.specs.Usual.{refl, ap, ◌∙◌, ℕ, suc, arith, replicate}
use Rattle.std.specs.Prelude.{◌≡◌, ◌+◌, zero}
use Rattle.settling.specs.Steps.{after_all}
use Rattle.station.proofs.Outcomes.TickCases.{tick_cases}
use Rattle.station.specs.Outcomes.TickCases.{TickCases, off, listens, starts, lapses, begins, gives_up, learns, waits, ends, runs}
use Rattle.station.specs.Rules.Calls.{tick, after}
use Rattle.station.specs.Rules.Ticking.{Ticking, tick_answer, tick_of}
use Rattle.station.specs.declared.Station.{Station}
use Rattle.ticking_quiet.specs.Many.{after_ticks, ticks_of}

-- the last tick comes after the others
pub one_more : (count : ℕ) (station : Station) → (tick_of (after_ticks count station)).station ≡ after_ticks (suc count) station
one_more zero station = refl
one_more (suc count) station = one_more count (tick_of station).station

-- some ticks, then the others
pub some_more : (count more : ℕ) (station : Station) → after_ticks more (after_ticks count station) ≡ after_ticks (count + more) station
some_more zero more station = let none : more ≡ 0 + more = omega arith in ap (λ (n : ℕ). after_ticks n station) none
some_more (suc count) more station =
    let one : suc (count + more) ≡ suc count + more = omega arith in
    some_more count more (tick_of station).station ∙ ap (λ (n : ℕ). after_ticks n station) one

pub ticks_station : (count : ℕ) (station : Station) → (ticks_of count station).station ≡ after_ticks count station
ticks_station zero station = refl
ticks_station (suc count) station = one_more count station

-- every tick has the answer of the first
answer_stays : (station : Station) → tick_answer (tick_of station).station.phase ≡ tick_answer station.phase
answer_stays station = by (tick_cases station)
  where
    by : {result : Ticking} → TickCases station result → tick_answer result.station.phase ≡ tick_answer station.phase
    by (off p) = refl
    by (listens p) = refl
    by (starts p t) = refl
    by (lapses p t) = rw p
    by (begins p t) = rw p
    by (gives_up p t) = rw p
    by (learns p t r) = refl
    by (waits p t r) = refl
    by (ends p t) = rw p
    by (runs p t) = refl

pub same_answer : (count : ℕ) (station : Station) → tick_answer (after_ticks count station).phase ≡ tick_answer station.phase
same_answer zero station = refl
same_answer (suc count) station = same_answer count (tick_of station).station ∙ answer_stays station

pub ticks_answer : (count : ℕ) (station : Station) → (ticks_of count station).answer ≡ tick_answer station.phase
ticks_answer zero station = refl
ticks_answer (suc count) station = same_answer count station

-- as calls
pub ticks_called : (count : ℕ) (station : Station) → (ticks_of count station).station ≡ after_all after station (replicate count tick)
ticks_called count station = ticks_station count station ∙ by count station
  where
    by : (count : ℕ) (station : Station) → after_ticks count station ≡ after_all after station (replicate count tick)
    by zero station = refl
    by (suc count) station = by count (tick_of station).station

-- A taking, told by the ring part before and after a call: whether we held the token before it and hold it after it, and of an asking whether it wrote the
-- last block of our turn. Assumes nothing.
use Rattle.std.specs.Prelude.{Ok, Err, ◌≡◌, ◌&&◌, ◌||◌, ◌+◌, ◌<◌}
use Rattle.laws.specs.Usual.{refl, sym, ap, ◌∙◌, Bool, true, false, false≢true, cond, not, List, ℕ, arith, eqb}
use Rattle.std.proofs.Common.{ltb-true, ne_eqb}
use Rattle.area.specs.Areas.{in_range}
use Rattle.block.specs.Blocks.{blocks_of}
use Rattle.boundary_core.specs.Crossing.{station_of, core_of, station_kept}
use Rattle.boundary_core.specs.declared.Core.{Core}
use Rattle.laws.specs.Tests.{second}
use Rattle.message_rules.specs.Rules.Calls.{takes}
use Rattle.station.proofs.Outcomes.AskCases.{ask_cases}
use Rattle.station.specs.Outcomes.AskCases.{AskCases, refuses, sends, triggers, requests, begins, passes}
use Rattle.station.proofs.Panel.Asked.{last_code}
use Rattle.station.specs.Panel.History.{taking_by, passed_by, writes_to_us}
use Rattle.station.specs.Rules.Asking.{Asking, ask_of, is_last, is_placed, next_station, block_sent, due_fields}
use Rattle.station.specs.Rules.Calls.{ask}
use Rattle.station.specs.Rules.State.{is_participating, holds, begun}
use Rattle.station.specs.Types.{Asked}
use Rattle.station.specs.declared.Phase.{Phase}
use Rattle.station.specs.declared.Phase.TheVariants.{Startup, Joining, Listening, Participating}
use Rattle.station.specs.declared.Station.{Station}

-- a participant that holds the token
abbrev pub is_holder : Station → Bool
is_holder station = is_participating station.phase && holds station

abbrev pub is_frame : Asked → Bool
is_frame (Ok count) = true
is_frame (Err refusal) = false

-- A tick and a hearing are takings where we hold the token after them and did not before.
pub taken_by_lem : (before left : Station) → taking_by before false left ≡ (is_holder left && not (is_holder before))
taken_by_lem before left = by (is_participating before.phase) (holds before) (is_participating left.phase) (holds left)
  where
    by : (in_before held in_left holding : Bool)
        → ((((in_before && in_left) && (holding && not held)) || false) || ((not in_before && in_left) && holding))
        ≡ ((in_left && holding) && not (in_before && held))
    by true held false holding = refl
    by true held true false = refl
    by true true true true = refl
    by true false true true = refl
    by false held false holding = refl
    by false held true false = refl
    by false held true true = refl

-- our token frame is the last block of our turn, after which none of the next has been sent
token_sent : (station : Station) → is_last station ≡ eqb (block_sent station).block 0
token_sent station = by (is_last station)
  where
    by : (last : Bool) → last ≡ eqb (cond last 0 (station.block + 1)) 0
    by true = refl
    by false = sym (ne_eqb (station.block + 1) 0 (λ e. omega arith))

-- a holder that writes a block takes the token again by our own pass to ourselves
passed_by_lem : (station : Station) → is_participating station.phase ≡ true → holds station ≡ true → is_placed station ≡ true
    → taking_by station (writes_to_us station (due_fields Participating station)) (block_sent station)
    ≡ (is_holder (block_sent station) && (not (is_holder station) || (true && eqb (block_sent station).block 0)))
passed_by_lem station inside held placed =
    rw (inside, ← token_sent station)
    (by (is_last station) _ (eqb (next_station station) station.own.number) (holds (block_sent station)) (holds station)
    (last_code station.block (blocks_of station.own.areas) room) held (seen (is_last station)))
  where
    room : station.block < blocks_of station.own.areas
    room = ltb-true station.block (blocks_of station.own.areas) (second (in_range station.own.areas) _ placed)

    seen : (last : Bool) → eqb (cond last (next_station station) station.view) station.own.number
        ≡ cond last (eqb (next_station station) station.own.number) (holds station)
    seen true = refl
    seen false = refl

    by : (last code ours holding before : Bool) → code ≡ last → before ≡ true → holding ≡ cond last ours before
        → ((((true && true) && (holding && not before)) || (code && ours)) || ((not true && true) && holding))
        ≡ ((true && holding) && (not (true && before) || (true && last)))
    by last code ours holding false c b h = absurd (false≢true b)
    by true false ours holding true c b h = absurd (false≢true c)
    by false true ours holding true c b h = absurd (false≢true (sym c))
    by true true true true true c b h = refl
    by true true true false true c b h = absurd (false≢true h)
    by true true false true true c b h = absurd (false≢true (sym h))
    by true true false false true c b h = refl
    by false false ours true true c b h = refl
    by false false ours false true c b h = absurd (false≢true h)

module _ {station : Station} {memory turn output : List ℕ} where
  taken_asked : {result : Asking} → AskCases station memory turn output result
      → taking_by station (passed_by station result.answer) result.station
      ≡ (is_holder result.station && (not (is_holder station) || (is_frame result.answer && eqb result.station.block 0)))
  taken_asked (refuses refusal) = taken_by_lem station station ∙ alone (is_holder station)
    where
      alone : (held : Bool) → (held && not held) ≡ (held && (not held || false))
      alone true = refl
      alone false = refl
  taken_asked (sends lent is (triggers e due)) = rw (is, e)
  taken_asked (sends lent is (requests e fallen)) = rw (is, e)
  taken_asked (sends lent is (begins e fallen)) = rw (is, e) (certain (holds (begun station.own station.members station.view)))
    where
      certain : (held : Bool) → held ≡ (held && true)
      certain true = refl
      certain false = refl
  taken_asked (sends lent is (passes e held placed)) = rw is (passed_by_lem station (rw e) held placed)

-- So is an asking that begins to participate with our own number in view, or that writes the last block of our turn where we hold the token again.
pub taken_asking : (station : Station) (memory turn output : List ℕ)
    → takes station (ask memory turn output)
    ≡ (is_holder (ask_of station memory turn output).station
    && (not (is_holder station)
    || (is_frame (ask_of station memory turn output).answer && eqb (ask_of station memory turn output).station.block 0)))
taken_asking station memory turn output = taken_asked (ask_cases station memory turn output)

-- A participant's frame is a token frame where none of the next turn's blocks has been sent after it.
pub wrote_token : (station : Station) (memory turn output : List ℕ) → is_participating station.phase ≡ true
    → is_frame (ask_of station memory turn output).answer ≡ true
    → is_last station ≡ eqb (ask_of station memory turn output).station.block 0
wrote_token station memory turn output inside = by (ask_cases station memory turn output)
  where
    other : {A : Type 0} (phase : Phase) → station.phase ≡ phase → is_participating phase ≡ false → A
    other phase e out = absurd (false≢true (sym out ∙ ap is_participating (sym e) ∙ inside))

    by : {result : Asking} → AskCases station memory turn output result → is_frame result.answer ≡ true
        → is_last station ≡ eqb result.station.block 0
    by (refuses refusal) wrote = absurd (false≢true wrote)
    by (sends lent is (triggers e due)) wrote = other Listening e refl
    by (sends lent is (requests e fallen)) wrote = other Startup e refl
    by (sends lent is (begins e fallen)) wrote = other Joining e refl
    by (sends lent is (passes e held placed)) wrote = token_sent station

-- the core tells it, whatever the list
pub held_after : (core : Core) (left : Station) → core ≡ core_of left → is_holder (station_of core left.members) ≡ is_holder left
held_after core left is = ap (λ (k : Core). is_holder (station_of k left.members)) is ∙ ap is_holder (station_kept left)

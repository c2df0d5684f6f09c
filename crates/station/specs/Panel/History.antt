-- Paper 01, "The panel", told from the list of calls since off and the views before and after each. Nothing here looks at the panel that the
-- state carries.
use Rattle.std.specs.Prelude.{Ok, Err, ◌&&◌, ◌||◌, ◌∷◌, ◌-◌}
use Rattle.laws.specs.Usual.{[], Bool, true, false, cond, not, List, ℕ, suc, eqb, ltb}
use Rattle.frame.specs.Codes.{is_token}
use Rattle.panel.specs.declared.Figure.TheVariants.{Nothing, Over, Gap}
use Rattle.station.specs.Rules.Asking.{ask_of, due_fields}
use Rattle.station.specs.Rules.Calls.{Call, start, stop, tick, hear, ask, after}
use Rattle.station.specs.Rules.State.{is_participating, holds, never}
use Rattle.station.specs.Types.{Fields, Figure, Station, Asked}

-- the state after a list of calls, made one after the other
abbrev pub state_after : Station → List Call → Station
state_after station [] = station
state_after station (call ∷ rest) = state_after (after station call) rest

-- one call, with the state before it and the state that it leaves
pub record Step : Type 0 where
  pub before : Station
  pub call : Call
  pub left : Station

abbrev pub step_of : Station → Call → Step
step_of station call = record { before = station; call = call; left = after station call }

-- the steps of a list of calls, the latest first, on top of the steps before them
abbrev pub steps_on : List Step → Station → List Call → List Step
steps_on earlier station [] = earlier
steps_on earlier station (call ∷ rest) = steps_on (step_of station call ∷ earlier) (after station call) rest

-- the steps of a list of calls since a state, the latest first
abbrev pub history : Station → List Call → List Step
history station calls = steps_on [] station calls

abbrev pub participates : Station → Bool
participates station = is_participating station.phase

abbrev pub is_tick : Call → Bool
is_tick (start settings) = false
is_tick stop = false
is_tick tick = true
is_tick (hear octets memory assembly) = false
is_tick (ask memory turn output) = false

-- we begin to participate: we did not before, and do now
abbrev pub begins : Station → Station → Bool
begins before left = not (participates before) && participates left

-- "a step that makes our view our own number when it was another": only a participant has a view
abbrev pub arrives : Station → Station → Bool
arrives before left = (participates before && participates left) && (holds left && not (holds before))

-- "our own pass to ourselves": an asking that is not refused and writes code 65000 to our own number
abbrev pub writes_to_us : Station → Fields → Bool
writes_to_us station frame = is_token frame.code && eqb frame.destination station.own.number

abbrev pub passed_by : Station → Asked → Bool
passed_by station (Ok count) = writes_to_us station (due_fields station.phase station)
passed_by station (Err refusal) = false

abbrev pub passes : Station → Call → Bool
passes station (start settings) = false
passes station stop = false
passes station tick = false
passes station (hear octets memory assembly) = false
passes station (ask memory turn output) = passed_by station (ask_of station memory turn output).answer

-- "A taking is a step that makes our view our own number when it was another, or our own pass to ourselves, or our beginning to participate
-- with our own number in view." The Bool is whether the step was our own pass to ourselves.
abbrev pub taking_by : Station → Bool → Station → Bool
taking_by before passed left = (arrives before left || passed) || (begins before left && holds left)

abbrev pub is_taking : Step → Bool
is_taking step = taking_by step.before (passes step.before step.call) step.left

-- the ticks up to now, the latest step's own included
abbrev pub clock : List Step → ℕ
clock [] = 0
clock (step ∷ earlier) = cond (is_tick step.call) (suc (clock earlier)) (clock earlier)

-- a time put in front of the times before it, if there was a taking
abbrev pub noted : Bool → ℕ → List ℕ → List ℕ
noted taking now times = cond taking (now ∷ times) times

-- the clock at each taking "since we last began to participate", the latest first. A tick counts before it acts: the tick that makes a taking
-- belongs to the gap that it ends.
abbrev pub takings : List Step → List ℕ
takings [] = []
takings (step ∷ earlier) =
    noted (is_taking step) (clock (step ∷ earlier)) (cond (begins step.before step.left) [] (takings earlier))

-- "Ticks from one taking of the token to our next .. With fewer than two takings .. `--`; above 65,535 ticks `OVER`." What is shown is the last
-- gap that a taking has ended.
abbrev pub gap_shown : ℕ → Figure
gap_shown ticks = cond (ltb 65535 ticks) Over (Gap (record { 0 = ticks }))

abbrev pub last_gap : List ℕ → Figure
last_gap [] = Nothing
last_gap (last ∷ []) = Nothing
last_gap (last ∷ previous ∷ rest) = gap_shown (last - previous)

-- what the history of a list of calls says: "With fewer than two takings since we last began to participate, or when we don't participate, `--`"
abbrev pub said_since : Station → List Call → Figure
said_since station calls = cond (participates (state_after station calls)) (last_gap (takings (history station calls))) Nothing

-- since a station was made, never started yet
abbrev pub figure_said : List Call → Figure
figure_said calls = said_since never calls

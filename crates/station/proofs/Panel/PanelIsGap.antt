-- Demand 2: "The panel is the gap. For every list of calls since off, the panel shows what the history of that list says." Assumes nothing.
use Rattle.std.specs.Prelude.{◌≡◌, ◌&&◌, ◌∷◌}
use Rattle.laws.specs.Usual.{[], refl, sym, ◌∙◌, Bool, true, false, cond, not, false≢true, List, ℕ, suc}
use Rattle.panel.specs.Panel.{blank, ticked, after_taking, figure_of}
use Rattle.panel.specs.declared.Figure.TheVariants.{Nothing}
use Rattle.station.proofs.Outcomes.AskCases.{ask_cases}
use Rattle.station.specs.Rules.Calls.{Call, start, stop, tick, hear, ask, after}
use Rattle.station.proofs.Outcomes.HearCases.{hear_cases}
use Rattle.station.specs.Panel.History.{Step, step_of, steps_on, history, state_after, participates, is_tick, passes, is_taking, clock, noted, takings, last_gap, said_since, figure_said}
use Rattle.station.proofs.Panel.Asked.{ask_moves}
use Rattle.station.proofs.Panel.Counts.{counts_tick, counts_taken, counts_shown}
use Rattle.station.specs.Panel.Counts.{Counts}
use Rattle.station.proofs.Panel.Heard.{hear_moves}
use Rattle.station.proofs.Panel.Moves.{leave, stays}
use Rattle.station.specs.Panel.Moves.{Moved, Moves}
use Rattle.station.proofs.Panel.Ticked.{tick_moves}
use Rattle.station.specs.Rules.Showing.{figure_shown}
use Rattle.station.specs.Rules.State.{is_off, is_participating, never}
use Rattle.station.proofs.Outcomes.SwitchCases.{switched_to, start_cases, stop_cases}
use Rattle.station.proofs.Outcomes.TickCases.{tick_cases}
use Rattle.station.specs.Types.{Panel, Phase, Off, Listening, Startup, Joining, Participating, Station}
use Rattle.station.specs.Panel.PanelIsGap.{Agrees}

-- what every call does to the panel
moves : (station : Station) (call : Call) → Moves station (is_tick call) (passes station call) (after station call)
moves station (start own) = switched_to (Moves station false false) (start_cases station own) (stays station) (λ starts. leave refl (λ clear. refl))
moves station stop = switched_to (Moves station false false) (stop_cases station) (stays station) (λ on. leave refl (λ clear. refl))
moves station tick = tick_moves (tick_cases station)
moves station (hear octets memory assembly) = hear_moves (hear_cases station octets memory assembly)
moves station (ask memory turn output) = ask_moves (ask_cases station memory turn output)

-- a step's taking
after_taking_lem : (taking : Bool) (now : ℕ) (times : List ℕ) (panel : Panel) → Counts now times panel →
    Counts now (noted taking now times) (cond taking (after_taking panel) panel)
after_taking_lem true now times panel c = counts_taken now times panel c
after_taking_lem false now times panel c = c

-- and the panel before it: blank where we begin to participate, else with the step's tick
before_taking : (before left ticks : Bool) (now : ℕ) (times : List ℕ) (panel : Panel) →
    left ≡ true → (before ≡ true → Counts now times panel) →
    Counts (cond ticks (suc now) now) (cond (not before && left) [] times) (cond before (cond ticks (ticked panel) panel) blank)
before_taking before false ticks now times panel e c = absurd (false≢true e)
before_taking true true true now times panel e c = counts_tick now times panel (c refl)
before_taking true true false now times panel e c = c refl
before_taking false true ticks now times panel e c = refl

-- one step more
agrees_step : (steps : List Step) (station : Station) (call : Call) → Agrees steps station →
    Agrees (step_of station call ∷ steps) (after station call)
agrees_step steps station call agrees = record {
  counts = λ e. counted ((moves station call).inside agrees.room e) e;
  room = λ e. ((moves station call).inside agrees.room e).room;
}
  where
    counted : Moved station (is_tick call) (passes station call) (after station call) → participates (after station call) ≡ true →
        Counts (clock (step_of station call ∷ steps)) (takings (step_of station call ∷ steps)) (after station call).panel
    counted moved e =
        rw moved.panel
        (after_taking_lem (is_taking (step_of station call)) (clock (step_of station call ∷ steps)) _ _
        (before_taking (participates station) (participates (after station call)) (is_tick call) (clock steps) (takings steps) station.panel e
        agrees.counts))

counts_on : (calls : List Call) (steps : List Step) (station : Station) → Agrees steps station →
    Agrees (steps_on steps station calls) (state_after station calls)
counts_on [] steps station agrees = agrees
counts_on (call ∷ rest) steps station agrees =
    counts_on rest (step_of station call ∷ steps) (after station call) (agrees_step steps station call agrees)

-- an off station does not participate
off_outside : (phase : Phase) → is_off phase ≡ true → is_participating phase ≡ false
off_outside Off e = refl
off_outside Listening e = refl
off_outside Startup e = refl
off_outside Joining e = refl
off_outside Participating e = absurd (false≢true e)

-- The panel is the gap, for every list of calls since any off state.
pub panel_since : (station : Station) → is_off station.phase ≡ true → (calls : List Call) →
    figure_shown (state_after station calls) ≡ said_since station calls
panel_since station off calls = by (participates (state_after station calls)) refl
  where
    out : participates station ≡ true → ⊥
    out e = false≢true (sym (off_outside station.phase off) ∙ e)

    counts : participates (state_after station calls) ≡ true →
        Counts (clock (history station calls)) (takings (history station calls)) (state_after station calls).panel
    counts = (counts_on calls [] station (record { counts = λ e. absurd (out e); room = λ e. absurd (out e) })).counts

    by : (inside : Bool) → participates (state_after station calls) ≡ inside →
        cond inside (figure_of (state_after station calls).panel) Nothing ≡ cond inside (last_gap (takings (history station calls))) Nothing
    by true e = counts_shown (clock (history station calls)) (takings (history station calls)) (state_after station calls).panel (counts e)
    by false e = refl

-- And so for every list of calls since a station was made.
pub panel_is_gap : (calls : List Call) → figure_shown (state_after never calls) ≡ figure_said calls
panel_is_gap calls = panel_since never refl calls

-- Whoever does not participate has blank counters, so that the counters alone show the same.
clear_on : (calls : List Call) (station : Station) → (participates station ≡ false → station.panel ≡ blank) →
    participates (state_after station calls) ≡ false → (state_after station calls).panel ≡ blank
clear_on [] station clear = clear
clear_on (call ∷ rest) station clear = clear_on rest (after station call) ((moves station call).outside clear)

pub counters_show_gap : (calls : List Call) → figure_of (state_after never calls).panel ≡ figure_said calls
counters_show_gap calls = by (participates (state_after never calls)) refl ∙ panel_is_gap calls
  where
    by : (inside : Bool) → participates (state_after never calls) ≡ inside →
        figure_of (state_after never calls).panel ≡ cond inside (figure_of (state_after never calls).panel) Nothing
    by true e = refl
    by false e = let clear = clear_on calls never (λ d. refl) e in rw clear

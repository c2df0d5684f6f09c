-- The panel worked out for single lists of calls (paper 01, "The panel": "63 shows `6.3`"). Assumes nothing.
use Rattle.std.specs.Prelude.{◌≡◌, ◌∷◌, ◌++◌}
use Rattle.laws.specs.Usual.{refl, ◌∙◌, List, [], ℕ, replicate}
use Rattle.members.specs.Members.{no_members}
use Rattle.panel.specs.declared.Figure.TheVariants.{Nothing, Gap}
use Rattle.frame_reading.specs.Reading.{fields_of}
use Rattle.frame_round_trip.specs.Sent.{block_fields}
use Rattle.station.specs.Rules.Calls.{Call, start, stop, tick, hear, ask}
use Rattle.station.specs.Panel.History.{steps_on, takings, last_gap, state_after, figure_said}
use Rattle.station.proofs.Panel.PanelIsGap.{panel_is_gap}
use Rattle.station.specs.Rules.Showing.{figure_shown}
use Rattle.station.specs.Rules.State.{begun, never}
use Rattle.station.specs.declared.Settings.{Settings}
use Rattle.frame_writing.specs.Writing.{no_areas, frame_of, header_of, front_of, back_of, fixed_for}

-- station 1 has no areas, so that its turn is one block
abbrev one : Settings
one = record { number = 1; areas = no_areas; watch = record { 0 = 255 } }

abbrev pass : Call
pass = ask (replicate 17408 0) (replicate 17408 0) (replicate 1088 0)

-- a token frame of station 2
abbrev token : ℕ → Call
token destination = hear (frame_of (block_fields 2 destination no_areas (record { 0 = 255 }) 1) []) (replicate 17408 0) (replicate 17408 0)

-- station 1 hears three rounds of station 2, waits 4 ms for its number and sends its request; then station 2 passes it the token
abbrev joined : List Call
joined = (start one ∷ token 2 ∷ token 2 ∷ token 2 ∷ replicate 40 tick) ++ (pass ∷ tick ∷ token 1 ∷ [])

-- it passes on, and has the token again 63 ticks later
abbrev again : List Call
again = joined ++ ((pass ∷ replicate 63 tick) ++ (token 1 ∷ []))

-- one taking only
first_taking : figure_said (joined ++ (pass ∷ replicate 63 tick)) ≡ Nothing
unfolding header_of front_of back_of fixed_for fields_of
first_taking = refl

second_taking : figure_said again ≡ Gap (record { 0 = 63 })
unfolding header_of front_of back_of fixed_for fields_of
second_taking = refl

-- the ticks after it belong to a gap that has not ended
running_on : figure_said (again ++ (pass ∷ replicate 5 tick)) ≡ Gap (record { 0 = 63 })
unfolding header_of front_of back_of fixed_for fields_of
running_on = refl

-- off again
stopped_then : figure_said (again ++ (stop ∷ [])) ≡ Nothing
unfolding header_of front_of back_of fixed_for fields_of
stopped_then = refl

-- and so the panel shows it
pub shown_again : figure_shown (state_after never again) ≡ Gap (record { 0 = 63 })
shown_again = panel_is_gap again ∙ second_taking

-- a station that is alone in its list passes the token to itself
alone_passes : last_gap (takings (steps_on [] (begun one no_members 1) ((pass ∷ replicate 63 tick) ++ (pass ∷ tick ∷ [])))) ≡ Gap (record { 0 = 63 })
alone_passes = refl

-- What a station does, before anything is proved of all stations: the law by which the ring of demand 3 sees a token frame move a view, and the
-- rules worked out for stations 1, 2 and 3, each against numbers that the paper's sentences give. Assumes nothing.
use Rattle.std.specs.Prelude.{◌≡◌}
use Rattle.laws.specs.Usual.{[], refl, sym, true, false, List, ℕ, get_or, replicate}
use Rattle.std.proofs.Math.Decide.{ℕ_discrete}
use Rattle.std.proofs.Common.{eq-eqb, ne_eqb}
use Rattle.frame.specs.Positions.{DNA, CBN}
use Rattle.members.specs.Members.{entry_of, is_listed}
use Rattle.frame_reading.specs.Reading.{fields_of}
use Rattle.settling.specs.Ring.{next, view_after_pass}
use Rattle.station.specs.Rules.State.{stopped}
use Rattle.station.specs.Rules.Ticking.{tick_of}
use Rattle.station.specs.Rules.Token.{view_after}
use Rattle.station.specs.Types.{Kept, Written}
use Rattle.frame_writing.specs.Writing.{no_areas, header_of, front_of, back_of, fixed_for}
use Rattle.station.specs.Acts.{wide, among, ticks, zeros, token, hears, asks, missed_twice, half, full, listens, starts}
use Rattle.frame.specs.declared.Refusal.TheVariants as refusals
use Rattle.station.specs.declared.Heard.TheVariants as answers
use Rattle.station.specs.declared.Token.TheVariants as tokens

-- A rival is dropped by its larger destination, whatever its source: "9, 2 to 5: 5", "5, 7 to 9: 5".
smaller_destination : (view_after 9 2 5 ≡ 5) × (view_after 5 7 9 ≡ 5)
smaller_destination = (refl, refl)

-- A view after a token frame to the next station, said by the station and by the ring of views.
pub same_move : (numbers : List ℕ) (who view : ℕ) → view_after view who (next numbers who) ≡ view_after_pass numbers who view
same_move numbers who view = by (ℕ_discrete who view)
  where
    by : Dec (who ≡ view) → view_after view who (next numbers who) ≡ view_after_pass numbers who view
    by (yes e) = rw (eq-eqb who view e, eq-eqb view who (sym e))
    by (no n) = rw (ne_eqb who view n, ne_eqb view who (λ e. n (sym e)))

-- A tick counts, on the watch and on the panel; a tick at the end of the watch too.
tick_counted : ((tick_of (among 1 no_areas 2)).station.elapsed.0 ≡ 1) × ((ticks 10 (among 1 no_areas 2)).panel.running.0 ≡ 10)
tick_counted = (refl, refl)

-- "three stations with views 2, 3, 1": after a silence they have 3, 1 and 2, so nobody waits forever.
silence_moves :
    ((ticks 10 (among 1 no_areas 2)).view ≡ 3) × ((ticks 10 (among 2 wide 3)).view ≡ 1) × ((ticks 10 (among 3 no_areas 1)).view ≡ 2)
silence_moves = (refl, refl, refl)

-- The station in view gets one miss and the other none. A third miss strikes it, and the other stays.
silence_misses :
    ((entry_of (ticks 10 (among 1 no_areas 2)).members 2).misses ≡ 1) × ((entry_of (ticks 10 (among 1 no_areas 2)).members 3).misses ≡ 0)
silence_misses = (refl, refl)

third_miss : (is_listed (ticks 10 missed_twice).members 2 ≡ false) × (is_listed (ticks 10 missed_twice).members 3 ≡ true)
third_miss = (refl, refl)

-- A token frame for us is accepted, with its turn of no octets written, and is a taking.
token_heard : (hears (among 1 no_areas 3) (token 3 1) zeros).answer ≡ answers.Cyclic (tokens.OursNow Written)
unfolding header_of front_of back_of fixed_for fields_of
token_heard = refl

taking_counted : (hears (among 1 no_areas 3) (token 3 1) zeros).station.panel.takings ≡ 1
unfolding header_of front_of back_of fixed_for fields_of
taking_counted = refl

-- A frame restarts the watch, from a station that is not in view: nine ticks have come, and then none.
frame_restarts : ((ticks 9 (among 1 no_areas 2)).elapsed.0 ≡ 9) × ((hears (ticks 9 (among 1 no_areas 2)) (token 3 1) zeros).station.elapsed.0 ≡ 0)
unfolding header_of front_of back_of fixed_for fields_of
frame_restarts = (refl, refl)

-- A holder passes to the next: 1 to 2, and 3 to 1. Its frame says so, and its view goes there.
passes_on : (get_or (asks (among 1 no_areas 1)).output DNA 0 ≡ 2) × (get_or (asks (among 3 no_areas 3)).output DNA 0 ≡ 1)
unfolding header_of front_of back_of fixed_for
passes_on = (refl, refl)

pass_moves : ((asks (among 1 no_areas 1)).station.view ≡ 2) × ((asks (among 3 no_areas 3)).station.view ≡ 1)
pass_moves = (refl, refl)

-- Station 2 sends block 1 and keeps the token, then block 2 with the token; the turn after it begins with block 1 again.
block_numbers :
    (get_or (asks (among 2 wide 2)).output CBN 0 ≡ 1)
    × (get_or (asks (asks (among 2 wide 2)).station).output CBN 0 ≡ 2)
    × ((asks (asks (among 2 wide 2)).station).station.block ≡ 0)
unfolding header_of front_of back_of fixed_for
block_numbers = (refl, refl, refl)

kept_unwritten : (half.answer ≡ answers.Cyclic (tokens.None Kept)) × (get_or half.memory 1024 1 ≡ 0)
unfolding header_of front_of back_of fixed_for fields_of
kept_unwritten = (refl, refl)

then_written : (full.answer ≡ answers.Cyclic (tokens.PassedOn Written)) × (get_or full.memory 1024 1 ≡ 7) × (get_or full.memory 2049 1 ≡ 7)
unfolding header_of front_of back_of fixed_for fields_of
then_written = (refl, refl, refl)

-- A frame that is refused leaves the common memory.
refused_memory :
    ((hears (among 1 no_areas 2) [] (replicate 17408 5)).answer ≡ answers.Refused refusals.Cut)
    × (get_or (hears (among 1 no_areas 2) [] (replicate 17408 5)).memory 0 1 ≡ 5)
refused_memory = (refl, refl)

-- Number 6 leaves a participant as it was, and turns off a station that only listens.
stays_on :
    ((hears (among 1 no_areas 2) (token 1 2) zeros).answer ≡ answers.Refused refusals.Taken)
    × ((hears (among 1 no_areas 2) (token 1 2) zeros).station ≡ among 1 no_areas 2)
unfolding header_of front_of back_of fixed_for fields_of
stays_on = (refl, refl)

turned_off : (hears listens (token 1 2) zeros).station ≡ stopped listens
unfolding header_of front_of back_of fixed_for fields_of
turned_off = refl

areas_emptied : ((ticks 39 starts).own.areas ≡ wide) × ((ticks 40 starts).own.areas ≡ no_areas)
areas_emptied = (refl, refl)

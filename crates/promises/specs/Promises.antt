-- What is promised: each printed statement written out, in the order of docs/PROMISES.md, and proved by the theorem that is named beside it.
-- The definitions that the statements are made of are the rules themselves, which the contracts of the calls cite. Words in quotes are the
-- request's and paper 01's.
use Rattle.laws.specs.Usual.{refl, sym, ap, subst, ◌∙◌, true, false, cond, not, false≢true, List, [], ℕ, suc, length, get_or, take, replicate, eqb, leb}
use Rattle.std.specs.Prelude.{Ok, Err, ◌≡◌, ◌&&◌, ◌||◌, ◌∷◌, ◌++◌, ◌+◌, ◌-◌, ◌*◌, ◌<◌, ◌≤◌, ◌⊎◌}
use Rattle.std.proofs.Common.{inl, inr}
use Rattle.area.specs.Areas.{in_area, in_range}
use Rattle.area.specs.Overlap.{parts_overlap, areas_overlap}
use Rattle.area.specs.Within.{Inside, inside}
use Rattle.area.specs.Words.{Holds, overlap_shared, shared_overlap}
use Rattle.area.specs.declared.Area.{Area}
use Rattle.block.specs.Blocks.{octets_of, blocks_of, start_of, length_of}
use Rattle.boundary_core.specs.Crossing.{figure_in}
use Rattle.boundary_answers.specs.declared.Answer.{Answer}
use Rattle.boundary_told.specs.Told.{route_read}
use Rattle.boundary_places.specs.Places.{core_in}
use Rattle.cases.specs.Marked.{every, rules, holds, marked, marked_hold}
use Rattle.decode_line.proofs.Heard.{line_heard}
use Rattle.decode_line.specs.Line.{line_answer, pushed_all, buffer_all}
use Rattle.delivered.specs.Boxes.{Box, station_at, Done}
use Rattle.delivered.proofs.Frames.{heard_frame, written_frame}
use Rattle.delivered.specs.Refusals.{Kept}
use Rattle.delivered.proofs.Refusals.{refused_kept}
use Rattle.delivered.specs.Rings.{Boxes, stations_in, Runs}
use Rattle.delivered.proofs.Rings.{delivered_settles}
use Rattle.frame.specs.Codes.{code_number, is_token, is_cyclic}
use Rattle.frame.specs.Octets.{octet_at}
use Rattle.frame_refusals.specs.Refusals.{order}
use Rattle.frame.specs.declared.Refusal.TheVariants.{Taken}
use Rattle.members.specs.Members.{entry_of, is_listed, ring_of}
use Rattle.misses.specs.MissHistory.{misses_said, ends, is_stop}
use Rattle.misses.proofs.MissesTold.{misses_told, struck_third}
use Rattle.misses.specs.WatchHistory.{milliseconds, watch_run}
use Rattle.misses.proofs.WatchTold.{watch_told}
use Rattle.panel.specs.Panel.{text_of, shown}
use Rattle.panel.specs.Texts.{shown_text}
use Rattle.panel.specs.declared.Figure.TheVariants.{Nothing}
use Rattle.frame_reading.specs.Reading.{read_of, is_station, data_size}
use Rattle.ticking_quiet.specs.Many.{after_ticks, ticks_of}
use Rattle.ticking_quiet.proofs.ManyLaws.{ticks_answer, ticks_called}
use Rattle.ticking_quiet.proofs.QuietExact.{quiet_exact}
use Rattle.refusals.specs.Applies.{applies, first_of}
use Rattle.refusals.proofs.FirstApplies.{first_applies}
use Rattle.ring.specs.Counts.{passes, silences, given, Does}
use Rattle.ring.specs.Demand.{LastCall, Disturbed, RingSettles}
use Rattle.ring.proofs.DemandThree.{demand_three_whole}
use Rattle.ring.specs.Events.{Stations, Event, after_event, AllName, CanCome}
use Rattle.frame_round_trip.proofs.ReadBack.{fields_read, data_read}
use Rattle.frame_round_trip.specs.ReadBack.{Sendable}
use Rattle.frame_round_trip.specs.WriteBack.{WrittenBack}
use Rattle.frame_round_trip.proofs.WriteBack.{written_back}
use Rattle.settle_print.specs.Joined.{handed, after_fills, printed_whole}
use Rattle.settle_input.specs.Input.{read_of as ring_read}
use Rattle.settle_rest.proofs.Begun.{counts_read}
use Rattle.settle_rest.specs.Rest.{printing_of, is_over}
use Rattle.settle_rest.specs.Whole.{output_of}
use Rattle.settle_run.specs.Run.{is_ring, settled_of, Bounded}
use Rattle.settle_run.specs.Running.{running_of}
use Rattle.settle_run.specs.declared.Running.{Running}
use Rattle.settle_rest.specs.declared.Printing.TheVariants.{Header}
use Rattle.settle_run.specs.Counted.{running_after, RightCounts}
use Rattle.settle_run.proofs.Counted.{counts_run}
use Rattle.settle_run.proofs.Whole.{settled_run, settled_bounded}
use Rattle.settle_run.specs.Whole.{Whole as WholeRun, steps_from}
use Rattle.settle_counts.specs.Counts.{counts_of, carried}
use Rattle.settle_counts.proofs.Kept.{counts_kept}
use Rattle.settle_counts.proofs.Total.{total_different}
use Rattle.settle_moves.specs.Moves.{view_after, moved}
use Rattle.settling.specs.First.{FirstAgreement}
use Rattle.settling.specs.Ring.{◌∈◌, Ascending, Views, Within, Agreed, move, Run}
use Rattle.settling.specs.Settling.{Settles}
use Rattle.settling.proofs.Settling.{settles}
use Rattle.settling.specs.Steps.{after_all, EachFinds}
use Rattle.station.specs.Rules.Answers.{data_of}
use Rattle.station.specs.States.Disjoint.{Apart}
use Rattle.station.proofs.Frames.FrameAccepted.{frame_asked, frame_accepted}
use Rattle.station.specs.Rules.Asking.{ask_of, due_fields}
use Rattle.station.specs.Rules.Calls.{Call, tick, hear, ask, after, lent, lent_after, refused_by, unrefused, verdict}
use Rattle.station.specs.Memory.Gathers.{Parts}
use Rattle.station.specs.Rules.Hearing.{hear_of, knows, lent_right}
use Rattle.station.specs.Panel.History.{step_of, state_after, history, participates, takings, last_gap}
use Rattle.station.proofs.Memory.MemorySame.{memory_same, Whole}
use Rattle.station.proofs.Memory.OursKept.{ours_kept, InAreas}
use Rattle.station.proofs.Panel.PanelIsGap.{panel_is_gap}
use Rattle.station.specs.States.Reachable.{Reachable, Sound, has_view}
use Rattle.station.proofs.States.Reached.{sound_after, apart_after}
use Rattle.station.specs.States.Reached.{AllTyped}
use Rattle.station.proofs.RefusedLeft.{refused_left}
use Rattle.station.specs.RefusedLeft.{Spared, same, turned_off}
use Rattle.station.specs.Rules.Showing.{figure_shown}
use Rattle.station.specs.Rules.Starting.{request_fallen}
use Rattle.station.specs.Rules.State.{never, is_off, is_participating, stopped}
use Rattle.station.specs.Rules.Ticking.{tick_of, watch_ends}
use Rattle.station.specs.Rules.Waits.{counts_as}
use Rattle.station.proofs.Memory.KeptRepeated.{repeat_passed, kept_repeated, PassedOver, Again, is_latest}
use Rattle.station.proofs.Memory.RepeatSaid.{repeat_said, repeat_long}
use Rattle.station.specs.Memory.RepeatSaid.{Repeats}
use Rattle.station.proofs.Memory.TurnWhole.{turn_whole}
use Rattle.station.specs.Memory.TurnWhole.{Lending}
use Rattle.station.proofs.Memory.TurnWritten.{turn_written, Turned}
use Rattle.station.specs.Types.{Areas, Part, Fields, Refusal}
use Rattle.station.specs.declared.Phase.{Phase}
use Rattle.station.specs.declared.Phase.TheVariants.{Off, Listening, Startup, Joining, Participating}
use Rattle.station.specs.declared.Station.{Station}
use Rattle.station.specs.declared.Data.TheVariants.{Written, Repeat}
use Rattle.station.specs.declared.Token.{Token}
use Rattle.settle_views.specs.Views.{stations_of, views_of, different_views}
use Rattle.settle_views.specs.Proper.{Proper}
use Rattle.settle_views.specs.declared.Ring.{Ring}
use Rattle.frame_writing.specs.Writing.{frame_of, fixed}
use Rattle.block.specs.Cut as cut
use Rattle.decode_line.specs.Gathering as decoded
use Rattle.text_feeding.specs.Lines as lines
use Rattle.frame_reading.specs.Reading as reading
use Rattle.ticking_quiet.specs.Quiet as quiet
use Rattle.replay_lines.specs.Output as replayed
use Rattle.replay_lines.specs.Replay as replay
use Rattle.settling.specs.Ring as theory
use Rattle.settling.specs.Steps as theory_steps
use Rattle.station.specs.declared.Heard.TheVariants as heard
use Rattle.station.specs.declared.Data.TheVariants as outcomes

-- THE FIRST PRINTED LINE: the refresh cycle on the front panel.

-- "Ticks from one taking of the token to our next": for every list of calls since a station was made, the panel shows the ticks between the
-- last two takings since it last began to participate, as the history of the calls tells them; `--` with fewer than two, or when it does not
-- participate; `OVER` above 65,535.
pub panel : (calls : List Call)
    → figure_shown (state_after never calls) ≡ cond (participates (state_after never calls)) (last_gap (takings (history never calls))) Nothing
panel = panel_is_gap

-- The text is that figure's: the front of six octets, "63 shows `6.3`".
pub panel_text : (calls : List Call)
    → take (shown (figure_shown (state_after never calls))).length (shown (figure_shown (state_after never calls))).octets
    ≡ text_of (figure_shown (state_after never calls))
panel_text calls = shown_text (figure_shown (state_after never calls))

-- Of the station as C keeps it: what `flnet_show` shows is the figure of the station that the box holds.
pub panel_delivered : (box : Box) → figure_in (core_in box.numbers) ≡ figure_shown (station_at box)
panel_delivered box = refl

-- THE SECOND PRINTED LINE, AND DEMAND 3: how soon a disturbed ring is back to one token.

pub disturbed_ring :
    -- "take n stations, one or more, of different numbers" (written in ascending order),
    (numbers : List ℕ) → 0 < length numbers → Ascending numbers → (stations : Stations)
    -- each with its number,
    → ((n : ℕ) → n ∈ numbers → (stations n).own.number ≡ n)
    -- "all participating and listing exactly one another",
    → ((n : ℕ) → n ∈ numbers → (stations n).phase ≡ Participating)
    → ((n : ℕ) → n ∈ numbers → ring_of n (stations n).members ≡ numbers)
    -- "with equal watch times and every view among their numbers"; since paper 02, E1, "one watch time, own and listed", 0 as 1 ms,
    → ((n m : ℕ) → n ∈ numbers → m ∈ numbers → (stations n).own.watch.0 ≡ (stations m).own.watch.0)
    → ((n m : ℕ) → n ∈ numbers → m ∈ numbers → ¬ (m ≡ n) → (counts_as (entry_of (stations n).members m).watch).0 ≡ (stations n).own.watch.0)
    → ((n : ℕ) → n ∈ numbers → (stations n).view ∈ numbers)
    -- "all of which have just sent or heard one token frame", brought there "by whatever calls since off".
    → (octets : List ℕ) (token : Fields) → read_of octets ≡ Ok token → is_token token.code ≡ true
    → ((n : ℕ) → n ∈ numbers → LastCall octets (stations n))
    -- "Then take any list of events", each of which can come.
    → (events : List Event) → EachFinds after_event (CanCome numbers) stations events
    -- It has a part "up to the first time that they all name one holder, or to its end if they never do", and a rest:
    → (before : List Event) × (later : List Event) × (events ≡ before ++ later)
    × EachFinds after_event (λ now event. ¬ AllName numbers now) stations before
    × ((later ≡ []) ⊎ AllName numbers (after_all after_event stations before))
    -- "at most n×n×n passes and (n-1)×(n-1) silences" up to then,
    × (passes stations before ≤ length numbers * length numbers * length numbers)
    × (silences numbers stations before ≤ (length numbers - 1) * (length numbers - 1))
    -- and in truth at most n(n-1)/2 passes, and at most 2n-3 silences for two stations or more, none for one;
    × (2 * passes stations before ≤ length numbers * (length numbers - 1))
    × (2 ≤ length numbers → silences numbers stations before + 3 ≤ 2 * length numbers)
    × (length numbers ≡ 1 → silences numbers stations before ≡ 0)
    -- "from that first time on they all name one holder after every event", and no silence comes,
    × ((start rest : List Event) → later ≡ start ++ rest → AllName numbers (after_all after_event stations before)
    → AllName numbers (after_all after_event stations (before ++ start)))
    × (silences numbers (after_all after_event stations before) later ≡ 0)
    -- "and any n passes in a row give each station the token exactly once".
    × ((start window rest : List Event) → later ≡ start ++ (window ++ rest)
    → passes (after_all after_event stations (before ++ start)) window ≡ length numbers
    → (x : ℕ) → x ∈ numbers → given x (after_all after_event stations (before ++ start)) window ≡ 1)
    -- Each event does to the views what it counts as: a pass, a silence that ends all watches, or nothing.
    × EachFinds after_event (Does numbers) stations (before ++ later)
disturbed_ring numbers some ascending stations own participates list watch listed view octets token is_read is_token_lem last events come =
    let found = demand_three_whole ring events come in (
      found.0,
      found.1,
      found.2.split,
      found.2.differing,
      found.2.reached,
      found.3.passes_loose,
      found.3.silences_loose,
      found.3.passes_sharp,
      found.3.silences_sharp,
      found.3.silences_alone,
      λ start rest e a. found.3.stays a start rest e,
      found.3.no_silence,
      found.3.turns,
      found.3.each,
    )
  where
    ring : Disturbed numbers stations
    ring = record {
      ring = record { some = some; ascending = ascending };
      octets = octets;
      token = token;
      is_read = is_read;
      is_token_lem = is_token_lem;
      last = last;
      own = own;
      participates = participates;
      list = list;
      watch = watch;
      listed = listed;
      view = view;
    }

-- Of the stations as C keeps them: in boxes that make such a ring, and that exported calls alone have brought through a part of the list, each
-- box has the view that the ring has there.
pub disturbed_ring_delivered : {numbers : List ℕ} {boxes : Boxes} → Disturbed numbers (stations_in boxes) → (events : List Event)
    → EachFinds after_event (CanCome numbers) (stations_in boxes) events
    → (before : List Event) × (later : List Event)
    × FirstAgreement after_event (AllName numbers) (stations_in boxes) events before later
    × RingSettles numbers (stations_in boxes) before later
    × ((part rest : List Event) (left : Boxes) → events ≡ part ++ rest → Runs numbers boxes part left → (n : ℕ) → n ∈ numbers
    → (core_in (left n).numbers).view ≡ (after_all after_event (stations_in boxes) part n).view)
disturbed_ring_delivered = delivered_settles

-- DEMAND 1: every call gets an answer, "either a result or a number from the table".

-- Order: 11, 10, 1, 2, 3, 4, 5, 6, 7, 14, 15, 8, 9, "the first that applies". (The table has 12 and 13 behind 11, which none of these calls answers: they are
-- of messages.)
pub answered : (station : Station) (call : Call) → verdict station call ≡ first_of (λ refusal. applies refusal station call) order
answered = first_applies

-- "a numbered refusal changes no buffer, and no station state except in the one case that the table names"
pub refusal_changes_nothing : (station : Station) (call : Call) (refusal : Refusal) → verdict station call ≡ refused_by refusal
    → (lent_after station call ≡ lent call)
    × ((after station call ≡ station)
    ⊎ ((refusal ≡ Taken) × (is_participating station.phase ≡ false) × (after station call ≡ stopped station)))
refusal_changes_nothing station call refusal e =
    let left = refused_left station call refusal e in (left.buffers, by left.state)
  where
    by : Spared station (after station call) refusal
        → (after station call ≡ station)
        ⊎ ((refusal ≡ Taken) × (is_participating station.phase ≡ false) × (after station call ≡ stopped station))
    by (same p) = inl p
    by (turned_off six out p) = inr (six, out, p)

-- Of the exported calls: every octet of core, list and buffers, whatever stands in them, where the answer's word is 4, "refused".
pub refusal_changes_nothing_delivered : {before left : Box} {call : Call} {answer : Answer} {buffers : List (List ℕ)}
    → Done before call left answer buffers → answer.word ≡ 4 → (buffers ≡ lent call) × Kept before left answer.refusal
refusal_changes_nothing_delivered = refused_kept

-- DEMAND 2: "Every start, stop, frame, tick and send moves the station .. exactly as the paper's rules .. say." The rules are the definitions
-- `start_of`, `stop_of`, `tick_of`, `hear_of` and `ask_of`, and the contract of each call is the equality with its definition. What follows is proved
-- of them.

-- What holds in a state.
pub record Held (station : Station) : Type 0 where
  -- while we are not off our number is 1 to 254, our watch time 1 to 255 ms, and our areas are in range
  pub number : is_off station.phase ≡ false → is_station station.own.number ≡ true
  pub watch : is_off station.phase ≡ false → (1 ≤ station.own.watch.0) × (station.own.watch.0 ≤ 255)
  pub areas : is_off station.phase ≡ false → in_range station.own.areas ≡ true
  -- every entry of the list is of a station from 1 to 254 other than ours, with areas in range and at most two misses
  pub listed : (x : ℕ) → is_listed station.members x ≡ true
      → (is_station x ≡ true) × (eqb x station.own.number ≡ false) × (in_range (entry_of station.members x).areas ≡ true)
      × ((entry_of station.members x).misses ≤ 2)
  -- a participant's view is 1 to 254
  pub view : is_participating station.phase ≡ true → is_station station.view ≡ true
  -- the place in our turn is within its blocks, and the place in the assembly within its source's
  pub place : station.block < blocks_of station.own.areas
  pub assembled : eqb station.gathering.source 0 ≡ false
      → station.gathering.blocks < blocks_of (entry_of station.members station.gathering.source).areas
  -- no two listed stations' areas overlap, nor do ours with a listed one's once our request has fallen due
  pub apart : (m n : ℕ) → ¬ (m ≡ n) → is_listed station.members m ≡ true → is_listed station.members n ≡ true
      → areas_overlap (entry_of station.members m).areas (entry_of station.members n).areas ≡ false
  pub ours_apart : request_fallen station.phase station ≡ true → (n : ℕ) → is_listed station.members n ≡ true
      → areas_overlap station.own.areas (entry_of station.members n).areas ≡ false

-- It holds after any list of calls with any arguments since off.
pub states : (calls : List Call) → AllTyped calls → Held (after_all after never calls)
states calls typed = held (sound_after calls typed) (apart_after calls typed)
  where
    seen : (phase : Phase) → is_participating phase ≡ true → has_view phase ≡ true
    seen Participating e = refl
    seen Off e = absurd (false≢true e)
    seen Listening e = absurd (false≢true e)
    seen Startup e = absurd (false≢true e)
    seen Joining e = absurd (false≢true e)

    held : {station : Station} → Sound station → Apart station → Held station
    held {station} sound apart = record {
      number = λ on. (sound.ours on).number;
      watch = λ on. ((sound.ours on).watch_from, (sound.ours on).watch_to);
      areas = λ on. (sound.ours on).areas;
      listed = λ x l. let entry = sound.list.each x l in (entry.station, entry.other, entry.areas, entry.misses);
      view = λ e. sound.view (seen station.phase e);
      place = sound.place;
      assembled = λ e. (sound.gathering e).blocks;
      apart = apart.listed;
      ours_apart = apart.ours;
    }

-- "A third miss in a row strikes it from the list": the misses of a listed station are the endings of our watch with it in view since its last
-- accepted cyclic frame or its last listing, told from the calls alone;
pub misses : (calls : List Call) (x : ℕ) → is_listed (state_after never calls).members x ≡ true
    → (entry_of (state_after never calls).members x).misses ≡ misses_said x (history never calls)
misses = misses_told

-- and a participant lists it no more just where it is stopped, or where such an ending is the third.
pub struck : (calls : List Call) (x : ℕ) → is_listed (state_after never calls).members x ≡ true → participates (state_after never calls) ≡ true
    → (call : Call) → is_listed (after (state_after never calls) call).members x
    ≡ not (is_stop call || (ends x (state_after never calls) call && eqb (misses_said x (step_of (state_after never calls) call ∷ history never calls)) 3))
struck = struck_third

-- THE WATCH runs, "as list and view stand at each tick, for the listed time of the station in view, our own time when we hold or it isn't listed;
-- a listed TW of 0 counts as 1 ms" (paper 02, E1): for every list of calls, a tick ends a participant's watch just where it makes ten or more for
-- each of those milliseconds since the watch last restarted, as the calls tell it.
pub watch : (calls : List Call) → AllTyped calls → participates (state_after never calls) ≡ true
    → watch_ends (state_after never calls) ≡ leb (milliseconds (state_after never calls) * 10) (suc (watch_run (history never calls)))
watch = watch_told

-- "Our own areas are never written by a frame."
pub our_areas : (station : Station) → Reachable station → (octets memory assembly : List ℕ) (at : ℕ) → InAreas station.own.areas at
    → get_or (hear_of station octets memory assembly).memory at 0 ≡ get_or memory at 0
our_areas = ours_kept

-- The common memory changes only where the answer says "written", in any state;
pub unwritten : (station : Station) (octets memory assembly : List ℕ)
    → ((token : Token) → (hear_of station octets memory assembly).answer ≡ heard.Cyclic token → data_of token ≡ Written → ⊥)
    → (hear_of station octets memory assembly).memory ≡ memory
unwritten = memory_same

-- and then the frame is the last block of its turn, from a listed station with its listed areas, both areas hold the turn that is assembled,
-- area 1 first, and nothing else is altered;
pub written : (station : Station) → Reachable station → (octets memory assembly : List ℕ) (token : Token)
    → (hear_of station octets memory assembly).answer ≡ heard.Cyclic token → data_of token ≡ Written
    → (frame : Fields) × Whole station octets memory assembly frame
    × Turned (entry_of station.members frame.source).areas (hear_of station octets memory assembly).assembly memory
    (hear_of station octets memory assembly).memory
written = turn_written

-- which is the data of the latest cyclic frames accepted that are no repeats, blocks 1 to the last of that source, where each hearing is lent the
-- assembly buffer as the one before left it: "half a turn" is never seen. Which turn of the source a block is of, no frame says.
pub whole_turn : {frames : List (List ℕ)} (station : Station) (assembly : List ℕ) → Lending frames station assembly
    → (octets memory : List ℕ) (token : Token)
    → (hear_of station octets memory assembly).answer ≡ heard.Cyclic token → data_of token ≡ Written
    → (frame : Fields) × Whole station octets memory assembly frame
    × Parts frame.source (octets ∷ frames) frame.block
    (take (octets_of (entry_of station.members frame.source).areas) (hear_of station octets memory assembly).assembly)
whole_turn = turn_whole

-- A BLOCK HEARD TWICE: "a block with the listed areas and the same source, number, length and octets as the last one still gathered (in the
-- assembly buffer as now lent) shall be passed over, and the data outcome is 'repeat'" (paper 02, E4). In any state, a cyclic frame's data outcome
-- is "repeat" exactly where a participant hears such a block;
pub repeats : (station : Station) (octets memory assembly : List ℕ) (token : Token) → (hear_of station octets memory assembly).answer ≡ heard.Cyclic token
    → (data_of token ≡ Repeat → (frame : Fields) × Repeats station octets assembly frame)
    × ((frame : Fields) → Repeats station octets assembly frame → data_of token ≡ Repeat)
repeats = repeat_said

-- there what was gathered, the memory and the assembly buffer stay as they are, and the frame does all else that an accepted cyclic frame does: "a
-- repeat of a token frame acts on the view by the old rule";
pub passed_over : (station : Station) (octets memory assembly : List ℕ) (token : Token) → (hear_of station octets memory assembly).answer ≡ heard.Cyclic token
    → data_of token ≡ Repeat → PassedOver station octets memory assembly (hear_of station octets memory assembly)
passed_over = repeat_passed

-- in a state that calls can leave it is never a turn's last block, and has 1024 octets, as the one that was gathered;
pub repeat_length : (station : Station) → Reachable station → (octets memory assembly : List ℕ) (token : Token)
    → (hear_of station octets memory assembly).answer ≡ heard.Cyclic token → data_of token ≡ Repeat
    → (frame : Fields) × Repeats station octets assembly frame × (frame.block < frame.blocks) × (length (reading.data_of octets frame) ≡ 1024)
repeat_length = repeat_long

-- a frame that was kept, heard once more on what the first hearing left and with any common memory, is passed over so;
pub heard_twice : (station : Station) (octets memory assembly : List ℕ) (token : Token) → (hear_of station octets memory assembly).answer ≡ heard.Cyclic token
    → data_of token ≡ outcomes.Kept → (common : List ℕ) → length common ≡ 17408
    → Again (hear_of station octets memory assembly).station octets common (hear_of station octets memory assembly).assembly
heard_twice station octets memory assembly token e kept = kept_repeated station octets memory assembly token e (ap is_latest kept)

-- and so is each further copy.
pub heard_again : (station : Station) (octets memory assembly : List ℕ) (token : Token) → (hear_of station octets memory assembly).answer ≡ heard.Cyclic token
    → data_of token ≡ Repeat → (common : List ℕ) → length common ≡ 17408
    → Again (hear_of station octets memory assembly).station octets common (hear_of station octets memory assembly).assembly
heard_again station octets memory assembly token e repeat = kept_repeated station octets memory assembly token e (ap is_latest repeat)

-- "the frames it writes read back to the same fields": what an asking writes reads as the frame that is due,
pub frames_asked : (station : Station) → Reachable station → (memory turn output : List ℕ) (count : ℕ)
    → (ask_of station memory turn output).answer ≡ Ok count
    → read_of (take count (ask_of station memory turn output).output) ≡ Ok (due_fields station.phase station)
frames_asked = frame_asked

-- every participant but its sender accepts it that knows the source of a cyclic frame and the destination of a token,
pub frames_accepted : (station : Station) → Reachable station → (memory turn output : List ℕ) (count : ℕ)
    → (ask_of station memory turn output).answer ≡ Ok count
    → (listener : Station) → listener.phase ≡ Participating → ¬ ((due_fields station.phase station).source ≡ listener.own.number)
    → (is_cyclic (due_fields station.phase station).code ≡ true → knows listener (due_fields station.phase station).source ≡ true)
    → (is_token (due_fields station.phase station).code ≡ true → knows listener (due_fields station.phase station).destination ≡ true)
    → (common assembly : List ℕ) → lent_right common assembly ≡ true
    → verdict listener (hear (take count (ask_of station memory turn output).output) common assembly) ≡ unrefused
frames_accepted station reached memory turn output count e listener inside other source destination =
    frame_accepted station reached memory turn output count e listener
    (record { participates = inside; other = other; source = source; destination = destination })

-- an exported call's answer has the code, the source and the destination of the frame that was read, or that was written,
pub frame_told_heard : {before left : Box} {octets memory assembly : List ℕ} {answer : Answer} {buffers : List (List ℕ)}
    → Done before (hear octets memory assembly) left answer buffers
    → ((frame : Fields) → read_of octets ≡ Ok frame
    → answer.frame ≡ record { code = code_number frame.code; source = frame.source; destination = frame.destination })
    × ((refusal : Refusal) → read_of octets ≡ Err refusal → answer.frame ≡ record { code = 0; source = 0; destination = 0 })
frame_told_heard = heard_frame

pub frame_told_written : {before left : Box} {memory turn output : List ℕ} {answer : Answer} {buffers : List (List ℕ)} → Reachable (station_at before)
    → Done before (ask memory turn output) left answer buffers → answer.word ≡ 3 → (frame : Fields)
    → read_of (take answer.octets (ask_of (station_at before) memory turn output).output) ≡ Ok frame
    → answer.frame ≡ record { code = code_number frame.code; source = frame.source; destination = frame.destination }
frame_told_written reached done word frame read =
    let found = written_frame reached done word in
    found.0 ∙ ap route_read (sym found.1 ∙ read)

-- any frame with fields that a station can send reads back to them, and to its data,
pub reads_back : (fields : Fields) (block : List ℕ) → Sendable fields → data_size fields ≤ length block
    → (read_of (frame_of fields block) ≡ Ok (fixed fields)) × (reading.data_of (frame_of fields block) (fixed fields) ≡ take (data_size fields) block)
reads_back fields block can enough = (fields_read fields block can enough, data_read fields block can enough)

-- "and fields read from a frame write the same octets for those fields, save the whole length where our frame is shorter, and a value that
-- clause 10.1 or the paper fixes for that code", which is the table's.
pub writes_back : (s : List ℕ) (fields : Fields) → ((at : ℕ) → octet_at s at < 256) → read_of s ≡ Ok fields → WrittenBack s fields
writes_back = written_back

-- MANY TICKS IN ONE CALL are that many calls of tick,
pub many_ticks : (count : ℕ) (station : Station) → (ticks_of count station).station ≡ after_all after station (replicate count tick)
many_ticks = ticks_called

-- with the answer of the last, which is that of the first; of none it is what one would be answered.
pub many_ticks_answered : (count : ℕ) (station : Station) → (ticks_of count station).answer ≡ (tick_of station).answer
many_ticks_answered = ticks_answer

-- HOW LONG IT IS QUIET, in every state whose watch times are octets: where the answer is a number, that many ticks bring no other phase, no other view and no frame that was not due before,
-- and the next one does;
pub quiet_till : (station : Station) → quiet.Timed station → (ticks : ℕ) → quiet.quiet_of station ≡ quiet.till ticks
    → ((count : ℕ) → count < ticks → quiet.tick_is_news (after_ticks count station) ≡ false) × (quiet.tick_is_news (after_ticks ticks station) ≡ true)
quiet_till station timed ticks told = subst (quiet.Exactly station) told (quiet_exact station timed)

-- else no tick ever does.
pub quiet_for_ever : (station : Station) → quiet.Timed station → quiet.quiet_of station ≡ quiet.never
    → (count : ℕ) → quiet.tick_is_news (after_ticks count station) ≡ false
quiet_for_ever station timed told = subst (quiet.Exactly station) told (quiet_exact station timed)

-- AREAS AND BLOCKS. Two parts of an area overlap just where some word belongs to both,
pub overlap_is_shared : (a b : Part) → parts_overlap a b ≡ true → (word : ℕ) × Holds a word × Holds b word
overlap_is_shared = overlap_shared

pub shared_is_overlap : {a b : Part} {word : ℕ} → Holds a word → Holds b word → parts_overlap a b ≡ true
shared_is_overlap = shared_overlap

-- a part in range has its octets inside its own area of the common memory,
pub inside_its_area : (area : Area) (part : Part) → in_area area part ≡ true → Inside area part
inside_its_area = inside

-- and the blocks of a turn cover it: each but the last has 1024 octets, the next starts where it ends, the last ends where the turn does, and
-- there are at most 17.
pub blocks_cover : (areas : Areas)
    → ((block : ℕ) → 1 ≤ block → block < blocks_of areas → length_of areas block ≡ 1024)
    × ((block : ℕ) → 1 ≤ block → block < blocks_of areas → start_of block + length_of areas block ≡ start_of (block + 1))
    × (start_of (blocks_of areas) + length_of areas (blocks_of areas) ≡ octets_of areas)
    × (in_range areas ≡ true → blocks_of areas ≤ 17)
blocks_cover areas = (cut.whole areas, cut.joined areas, cut.last areas, cut.seventeen areas)

-- THE VIEWS ALONE, which demand 3 rests on: any ring, all views among its numbers, any list of passes by stations that hold and of silences in
-- which nobody does, up to its first agreement and after it.
pub views_settle : {numbers : List ℕ} {views : Views} {events before later : List theory.Event} → theory.Stations numbers → Within numbers views
    → Run numbers views events → FirstAgreement (move numbers) (Agreed numbers) views events before later
    → Settles numbers views before later
views_settle = settles

-- THE PROGRAMS: every octet that is printed is decided by a proved function; only what reading and writing return is free.

-- `settle`: the run of a ring that an input can give is a run of the views, with its first agreement at its end and not before,
pub settle_run : (ring : Ring) → is_ring ring ≡ true → WholeRun ring
settle_run = settled_run

-- its totals keep the bounds, "n×n×n and (n-1)×(n-1)", and the sharper ones, whatever the value of the ring,
pub settle_bounds : (ring : Ring) → Bounded (length (stations_of ring)) (settled_of ring)
settle_bounds = settled_bounded

-- an event that can come carries the counts of a ring to those of the ring that it leaves,
pub settle_adjusts : {ring : Ring} → length ring.views ≡ 256 → Proper ring → (event : theory.Event) → 0 < length (stations_of ring)
    → theory.Legal (stations_of ring) (views_of ring) event → carried (view_after (stations_of ring) event) (counts_of ring) ≡ counts_of (moved ring event)
settle_adjusts = counts_kept

-- so after each step of the run it is at the ring that these steps leave, every number that is held is the count of stations with that view, and
-- the total the count of numbers above 0;
pub settle_counts : (ring : Ring) → length ring.views ≡ 256 → is_ring ring ≡ true → 0 < length (stations_of ring)
    → (steps : ℕ) → RightCounts (theory_steps.after_all moved ring (steps_from steps ring)) (running_after steps (running_of ring))
settle_counts = counts_run

-- for every input that gives a ring, of the run that is printed,
pub settle_counts_read : (octets : List ℕ) (ring : Ring) → ring_read octets ≡ Ok ring
    → (running : Running) × (printing_of octets ≡ Header running)
    × ((steps : ℕ) → RightCounts (theory_steps.after_all moved ring (steps_from steps ring)) (running_after steps running))
settle_counts_read = counts_read

-- the total is the number of different views, in every ring of octets,
pub settle_total : (ring : Ring) → ((x : ℕ) → views_of ring x < 256) → (counts_of ring).total ≡ different_views (stations_of ring) (views_of ring)
settle_total = total_different

-- what is printed for an input is its first bad line, or the column names, the steps of that run and its totals: a program that fills a buffer of
-- 35 octets or more and hands on its front until nothing is left to print ends, and hands on just these octets.
pub settle_prints : (buffer octets : List ℕ) → 35 ≤ length buffer
    → (fills : ℕ) × (is_over (after_fills fills (length buffer) (printing_of octets)) ≡ true) × (handed fills buffer (printing_of octets) ≡ output_of octets)
settle_prints = printed_whole

-- `decode`: a line of a capture that came octet by octet, of any length, into a buffer of 1121 octets or more, is answered as the whole line.
pub decode_answers : (line buffer : List ℕ) → 1121 ≤ length buffer
    → decoded.answered (pushed_all (length buffer) decoded.fresh line) (buffer_all (length buffer) decoded.fresh buffer line) ≡ line_answer line
decode_answers = line_heard

-- `replay`: however the input comes, the station and its buffers are left by each of its whole lines in turn, each doing what `performed` says of
-- the command that it means, from a station that was never started and buffers of zeros;
pub replay_performs : (input : List ℕ)
    → (replay.after replay.start input).kept ≡ lines.after_all replayed.by_line (replay.start).kept (lines.parted input).lines
replay_performs = replayed.input_performed

-- and what is printed is the answers to these lines, and `bad` for a last line without its line feed.
pub replay_prints : (input : List ℕ)
    → replay.output_of input ≡ lines.replies_to replayed.by_line (replay.start).kept (lines.parted input).lines ++ replayed.bad_rest (lines.parted input).rest
replay_prints = replayed.output_lines

-- THE MARKED CASES of the paper, one table, held against the rules by one check.
pub marked_cases : every (holds rules) marked ≡ true
marked_cases = marked_hold

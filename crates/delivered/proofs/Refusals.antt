-- What is proved of the definitions in specs/Refusals.antt.
use Rattle.std.specs.Prelude.{Ok, Err, ◌≡◌, ◌<◌}
use Rattle.laws.specs.Usual.{refl, sym, ap, ◌∙◌, List, ℕ, arith}
use Rattle.boundary_core.specs.Crossing.{core_of, station_of, station_kept}
use Rattle.boundary_answers.specs.Numbers.{switched_answer, ticked_answer}
use Rattle.boundary_told.specs.Told.{heard_told, asked_told}
use Rattle.boundary_answers.specs.declared.Answer.{Answer}
use Rattle.boundary_core.specs.declared.Core.{Core}
use Rattle.frame_refusals.specs.Refusals.{number_of}
use Rattle.boundary_lists.specs.Laws.{list_told}
use Rattle.boundary_lists.specs.Lists.{members_in}
use Rattle.boundary_places.proofs.Laws.{kept_same, core_in_back}
use Rattle.boundary_places.specs.Places.{kept}
use Rattle.station.specs.Rules.Asking.{ask_of}
use Rattle.station.specs.Rules.Calls.{Call, start, stop, tick, hear, ask, after, lent, unrefused, verdict, switched_verdict, heard_verdict, asked_verdict}
use Rattle.station.specs.Rules.Hearing.{hear_of}
use Rattle.station.proofs.RefusedLeft.{refused_left}
use Rattle.station.specs.RefusedLeft.{Spared, same, turned_off, Left}
use Rattle.station.specs.Rules.Starting.{start_of, stop_of}
use Rattle.station.specs.Rules.Ticking.{tick_of}
use Rattle.station.specs.declared.Station.{Station}
use Rattle.station.specs.Types.{Switched}
use Rattle.station.specs.declared.Ticked.{Ticked}
use Rattle.station.specs.declared.Heard.{Heard}
use Rattle.station.specs.Types.{Asked}
use Rattle.delivered.specs.Boxes.{Box, station_at, answer_of, Done}
use Rattle.station.specs.declared.Heard.TheVariants as heard
use Rattle.station.specs.declared.Ticked.TheVariants as ticked
use Rattle.delivered.specs.Refusals.{Told, Kept, unchanged, stops}

-- the station that a call leaves in the box is the one that the rules leave
pub left_is : {before left : Box} {call : Call} {answer : Answer} {buffers : List (List ℕ)} → Done before call left answer buffers
    → station_at left ≡ after (station_at before) call
left_is {before} {left} {call} done =
    ap (λ (c : Core). station_of c (members_in left.listed left.areas left.watch left.misses)) done.core
    ∙ ap (station_of (core_of (after (station_at before) call))) done.list
    ∙ station_kept (after (station_at before) call)

other_word : {A : Type 0} {word : ℕ} → word ≡ 4 → word < 4 → A
other_word e small = absurd (omega arith)

switched_told : (answer : Switched) → (switched_answer answer).word ≡ 4 → Told (switched_verdict answer) (switched_answer answer)
switched_told (Ok tt) e = other_word e (omega arith)
switched_told (Err refusal) e = record { refusal = refusal; number = refl; refused = refl }

ticked_told : (answer : Ticked) → (ticked_answer answer).word ≡ 4 → Told unrefused (ticked_answer answer)
ticked_told ticked.Off e = other_word e (omega arith)
ticked_told ticked.Done e = other_word e (omega arith)

heard_told_lem : (octets : List ℕ) (answer : Heard) → (heard_told octets answer).word ≡ 4 → Told (heard_verdict answer) (heard_told octets answer)
heard_told_lem octets heard.Off e = other_word e (omega arith)
heard_told_lem octets heard.Done e = other_word e (omega arith)
heard_told_lem octets (heard.Cyclic token) e = other_word e (omega arith)
heard_told_lem octets (heard.Refused refusal) e = record { refusal = refusal; number = refl; refused = refl }

asked_told_lem : (output : List ℕ) (answer : Asked) → (asked_told output answer).word ≡ 4 → Told (asked_verdict answer) (asked_told output answer)
asked_told_lem output (Ok count) e = other_word e (omega arith)
asked_told_lem output (Err refusal) e = record { refusal = refusal; number = refl; refused = refl }

-- what is told of a hearing
hear_told : (station : Station) (octets memory assembly : List ℕ) {answer : Heard} → (hear_of station octets memory assembly).answer ≡ answer
    → (answer_of station (hear octets memory assembly)).word ≡ 4
    → Told (verdict station (hear octets memory assembly)) (answer_of station (hear octets memory assembly))
hear_told station octets memory assembly {answer} is = rw is (heard_told_lem octets answer)

pub told : (station : Station) (call : Call) → (answer_of station call).word ≡ 4 → Told (verdict station call) (answer_of station call)
told station (start settings) = switched_told (start_of station settings).answer
told station stop = switched_told (stop_of station).answer
told station tick = ticked_told (tick_of station).answer
told station (hear octets memory assembly) = hear_told station octets memory assembly refl
told station (ask memory turn output) = asked_told_lem (ask_of station memory turn output).output (ask_of station memory turn output).answer

-- A refused call leaves every lent buffer and every octet of the state as they were, but for number 6 before we participate.
pub refused_kept : {before left : Box} {call : Call} {answer : Answer} {buffers : List (List ℕ)}
    → Done before call left answer buffers → answer.word ≡ 4 → (buffers ≡ lent call) × Kept before left answer.refusal
refused_kept {before} {left} {call} {answer} {buffers} done word = (done.lends ∙ what.buffers, by what.state)
  where
    said : Told (verdict (station_at before) call) (answer_of (station_at before) call)
    said = told (station_at before) call (sym (ap (λ (a : Answer). a.word) done.answered) ∙ word)

    what : Left (station_at before) call said.refusal
    what = refused_left (station_at before) call said.refusal said.refused

    number_is : answer.refusal ≡ number_of said.refusal
    number_is = ap (λ (a : Answer). a.refusal) done.answered ∙ said.number

    put : {station : Station} → after (station_at before) call ≡ station → left.numbers ≡ kept before.numbers (core_of station)
    put e = done.numbers ∙ ap (λ (s : Station). kept before.numbers (core_of s)) e

    by : Spared (station_at before) (after (station_at before) call) said.refusal → Kept before left answer.refusal
    by (same e) =
        let arrays = list_told left.listed left.areas left.watch left.misses before.listed before.areas before.watch
        before.misses left.whole before.whole (done.list ∙ ap (λ (s : Station). s.members) e) in
        unchanged
        (put e ∙ ap (kept before.numbers) (core_in_back before.numbers (station_at before).members)
        ∙ kept_same before.numbers before.each_number)
        arrays.0 arrays.1 arrays.2 arrays.3
    by (turned_off six out e) = stops (number_is ∙ ap number_of six) out (left_is done ∙ e) (put e)

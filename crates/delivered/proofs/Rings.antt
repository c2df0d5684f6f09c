-- What is proved of the definitions in specs/Rings.antt.
use Rattle.std.specs.Prelude.{Ok, Err, ◌≡◌, ◌++◌}
use Rattle.laws.specs.Usual.{refl, sym, ap, ap₂, subst, ◌∙◌, List, ℕ, arith}
use mathlib.Core.List.{head-eq_of_cons-eq, tail-eq_of_cons-eq}
use Rattle.std.proofs.Math.Decide.{ℕ_discrete}
use Rattle.std.proofs.Common.{eq-eqb, ne_eqb}
use Rattle.boundary_told.specs.Told.{asked_told}
use Rattle.boundary_answers.specs.declared.Answer.{Answer}
use Rattle.boundary_places.specs.Places.{core_in}
use Rattle.ring.specs.Demand.{Disturbed, RingSettles}
use Rattle.ring.proofs.DemandThree.{demand_three_whole}
use Rattle.ring.specs.Events.{Stations, Lent, Event, asked, ticked, stray, handed, after_event, AllName, CanCome}
use Rattle.settling.proofs.Append.{finds_front}
use Rattle.settling.specs.First.{FirstAgreement}
use Rattle.settling.specs.Ring.{◌∈◌}
use Rattle.settling.specs.Steps.{after_all, EachFinds}
use Rattle.station.specs.Rules.Asking.{ask_of}
use Rattle.station.specs.Rules.Calls.{Call, tick, after}
use Rattle.station.specs.declared.Station.{Station}
use Rattle.station.specs.Types.{Asked}
use Rattle.delivered.specs.Boxes.{Box, station_at}
use Rattle.delivered.proofs.Refusals.{left_is}
use Rattle.delivered.specs.Rings.{Boxes, stations_in, Called, by, Handed, hears, spared, Sent, Leaves, Runs, ended, goes, Holding}

called_is : {before left : Box} {call : Call} → Called before call left → station_at left ≡ after (station_at before) call
called_is (by answer buffers done) = left_is done

-- what is handed on is what the rules hand on
handed_is : {before left : Box} {lent : Lent} {output : List ℕ} (written : List ℕ) (asks : Asked) → Handed before left lent (asked_told written asks) output
    → station_at left ≡ handed (station_at before) lent asks output
handed_is written (Ok count) (hears word called) = called_is called
handed_is written (Ok count) (spared other e) = absurd (other refl)
handed_is written (Err refusal) (hears word called) = absurd (omega arith)
handed_is written (Err refusal) (spared other e) = ap station_at e

module _ (numbers : List ℕ) (boxes left : Boxes) (stations : Stations) (holding : Holding numbers boxes stations) where
  module _ (who : ℕ) (member : who ∈ numbers) (memory turn output : List ℕ) (lent : ℕ → Lent)
      (sent : Sent numbers boxes who memory turn output lent left) where
    abbrev asks : Station → Asked
    asks station = (ask_of station memory turn output).answer

    output_is : sent.output_after ≡ (ask_of (station_at (boxes who)) memory turn output).output
    output_is = head-eq_of_cons-eq (tail-eq_of_cons-eq (tail-eq_of_cons-eq sent.done.lends))

    sender_is : station_at (left who) ≡ (ask_of (stations who) memory turn output).station
    sender_is = left_is sent.done ∙ ap (λ (s : Station). (ask_of s memory turn output).station) (holding who member)

    hearer_is : (n : ℕ) → n ∈ numbers → ¬ (n ≡ who)
        → station_at (left n) ≡ handed (stations n) (lent n) (asks (stations who)) (ask_of (stations who) memory turn output).output
    hearer_is n m other =
        handed_is (ask_of (station_at (boxes who)) memory turn output).output (asks (station_at (boxes who)))
        (subst (λ (a : Answer). Handed (boxes n) (left n) (lent n) a sent.output_after) sent.done.answered (sent.others n m other))
        ∙ ap (λ (o : List ℕ). handed (station_at (boxes n)) (lent n) (asks (station_at (boxes who))) o) output_is
        ∙ ap₂ (λ (s w : Station). handed s (lent n) (asks w) (ask_of w memory turn output).output) (holding n m) (holding who member)

    sent_holds : Holding numbers left (after_event stations (asked who memory turn output lent))
    sent_holds n m = at (ℕ_discrete n who)
      where
        at : Dec (n ≡ who) → station_at (left n) ≡ after_event stations (asked who memory turn output lent) n
        at (yes e) =
            subst (λ (k : ℕ). station_at (left k) ≡ after_event stations (asked who memory turn output lent) k) (sym e)
            (sender_is ∙ sym (rw (eq-eqb who who refl)))
        at (no other) = hearer_is n m other ∙ sym (rw (ne_eqb n who other))

  stray_holds : (who : ℕ) (call : Call) → who ∈ numbers → Leaves numbers boxes (stray who call) left
      → Holding numbers left (after_event stations (stray who call))
  stray_holds who call member leaves n m = at (ℕ_discrete n who)
    where
      at : Dec (n ≡ who) → station_at (left n) ≡ after_event stations (stray who call) n
      at (yes e) =
          subst (λ (k : ℕ). station_at (left k) ≡ after_event stations (stray who call) k) (sym e)
          (called_is leaves.0 ∙ ap (λ (s : Station). after s call) (holding who member) ∙ sym (rw (eq-eqb who who refl)))
      at (no other) = ap station_at (leaves.1 n m other) ∙ holding n m ∙ sym (rw (ne_eqb n who other))

  -- an event leaves the stations of the rules in the boxes
  leaves_holds : (event : Event) → CanCome numbers stations event → Leaves numbers boxes event left → Holding numbers left (after_event stations event)
  leaves_holds (asked who memory turn output lent) can leaves = sent_holds who can.0 memory turn output lent leaves
  leaves_holds ticked can leaves = λ n m. called_is (leaves n m) ∙ ap (λ (s : Station). after s tick) (holding n m)
  leaves_holds (stray who call) can leaves = stray_holds who call can.0 leaves

-- and so does a list of events
pub runs_hold : (numbers : List ℕ) {boxes left : Boxes} {events : List Event} (stations : Stations) → Holding numbers boxes stations
    → EachFinds after_event (CanCome numbers) stations events → Runs numbers boxes events left → Holding numbers left (after_all after_event stations events)
runs_hold numbers stations holding come ended = holding
runs_hold numbers stations holding come (goes {event} {events} {boxes} {between} leaves rest) =
    runs_hold numbers (after_event stations event) (leaves_holds numbers boxes between stations holding event come.0 leaves) come.1 rest

-- Of boxes that make a disturbed ring, and of every list of events that can come: demand 3 holds of the stations in them, and wherever
-- exported calls alone have brought the boxes after a part of the list, each box has the view that the ring of stations has there.
pub delivered_settles : {numbers : List ℕ} {boxes : Boxes} → Disturbed numbers (stations_in boxes) → (events : List Event)
    → EachFinds after_event (CanCome numbers) (stations_in boxes) events
    → (before : List Event) × (later : List Event)
    × FirstAgreement after_event (AllName numbers) (stations_in boxes) events before later
    × RingSettles numbers (stations_in boxes) before later
    × ((part rest : List Event) (left : Boxes) → events ≡ part ++ rest → Runs numbers boxes part left → (n : ℕ) → n ∈ numbers
    → (core_in (left n).numbers).view ≡ (after_all after_event (stations_in boxes) part n).view)
delivered_settles {numbers} {boxes} ring events come =
    let found = demand_three_whole ring events come in (
      found.0,
      found.1,
      found.2,
      found.3,
      λ part rest left e runs n m.
          ap (λ (s : Station). s.view)
          (runs_hold numbers (stations_in boxes) (λ k q. refl)
          (finds_front after_event (CanCome numbers) (stations_in boxes) part rest
          (subst (EachFinds after_event (CanCome numbers) (stations_in boxes)) e come)) runs n m),
    )

-- Demand 3 of the ring of full stations. Assumes nothing.
use Rattle.std.specs.Prelude.{◌≡◌}
use Rattle.laws.specs.Usual.{sym, ap, subst, ◌∙◌, true, false, List, ℕ}
use Rattle.misses.proofs.CoverThird.{reached_brought}
use Rattle.frame_reading.specs.Reading.{is_station}
use Rattle.settling.proofs.First.{first_exists, agreed?}
use Rattle.settling.specs.First.{FirstAgreement}
use Rattle.settling.specs.Ring.{◌∈◌}
use Rattle.settling.specs.Steps.{EachFinds}
use Rattle.station.specs.Rules.Calls.{ask, hear}
use Rattle.station.proofs.States.Sound.{sound}
use Rattle.station.specs.States.Reachable.{Reachable, called, Sound}
use Rattle.station.specs.Rules.State.{is_off}
use Rattle.station.specs.declared.Station.{Station}
use Rattle.ring.specs.Demand.{LastCall, sent, heard, Disturbed, RingSettles}
use Rattle.ring.specs.Events.{Stations, Event, after_event, views_of, AllName, CanCome}
use Rattle.ring.proofs.Just.{just_zero}
use Rattle.ring.proofs.Settles.{settles_from}
use Rattle.ring.proofs.Steps.{KeptRing}
use Rattle.ring.specs.DemandThree.{Fresh}

-- a station that was brought there by calls is one that calls can leave
pub left_by_calls : {octets : List ℕ} {station : Station} → LastCall octets station → Reachable station
left_by_calls (sent before memory turn output count reached answer written) = called (ask memory turn output) reached tt
left_by_calls {octets} (heard before memory assembly reached typed accepted) = called (hear octets memory assembly) reached typed

module _ {numbers : List ℕ} {stations : Stations} (ring : Fresh numbers stations) where
  what_holds : (n : ℕ) → n ∈ numbers → Sound (stations n)
  what_holds n m = sound (stations n) (ring.reached n m)

  on : (n : ℕ) → n ∈ numbers → is_off (stations n).phase ≡ false
  on n m = ap is_off (ring.participates n m)

  -- what is kept from event to event holds at the start
  pub begins : KeptRing numbers stations
  begins = record {
    each = λ n m. record {
      participates = ring.participates n m;
      own = ring.own n m;
      list = ring.list n m;
      times = λ x p other. ring.listed n x m p other;
      view = ring.view n m;
      areas = ((what_holds n m).ours (on n m)).areas;
      place = (what_holds n m).place;
    };
    watch = ring.watch;
    elapsed = λ n k p q. ring.restarted n p ∙ sym (ring.restarted k q);
    brought = λ n m. reached_brought (ring.reached n m);
  }

  pub are_stations : (n : ℕ) → n ∈ numbers → is_station n ≡ true
  are_stations n m = subst (λ (k : ℕ). is_station k ≡ true) (ring.own n m) ((what_holds n m).ours (on n m)).number

module _ {numbers : List ℕ} {stations : Stations} (ring : Disturbed numbers stations) where
  fresh : Fresh numbers stations
  fresh = record {
    own = ring.own;
    participates = ring.participates;
    list = ring.list;
    watch = ring.watch;
    listed = ring.listed;
    view = ring.view;
    reached = λ n m. left_by_calls (ring.last n m);
    restarted = λ n m. just_zero ring.token ring.is_read ring.is_token_lem (ring.last n m) (ring.participates n m);
  }

  -- Of every disturbed ring and every list of events that can come, with `before` the part "up to the first time that they all name one
  -- holder, or to its end if they never do", and `later` the rest: the bounds, loose and sharp, and what holds from then on.
  pub demand_three : {events before later : List Event} → EachFinds after_event (CanCome numbers) stations events
      → FirstAgreement after_event (AllName numbers) stations events before later → RingSettles numbers stations before later
  demand_three come first = settles_from ring.ring (are_stations fresh) (begins fresh) come first

  -- Every list has such a first time (and only one: `first_unique`), so the whole is said of every list that can come.
  pub demand_three_whole : (events : List Event) → EachFinds after_event (CanCome numbers) stations events
      → (before : List Event) × (later : List Event) × FirstAgreement after_event (AllName numbers) stations events before later
      × RingSettles numbers stations before later
  demand_three_whole events come =
      let found = first_exists after_event (AllName numbers) (λ now. agreed? numbers (views_of now)) stations events in
      (found.0, found.1, found.2, demand_three come found.2)

-- What is proved of the definitions in specs/Member.antt.
use Rattle.std.specs.Prelude.{◌≡◌, ◌&&◌, ◌||◌, ◌+◌, ◌<◌}
use Rattle.laws.specs.Usual.{refl, sym, ap, ◌∙◌, Bool, true, false, cond, not, false≢true, List, ℕ, arith, eqb}
use Rattle.std.proofs.lemmas.Bool.{eqb-false}
use Rattle.std.proofs.Common.{leb-false}
use Rattle.block.specs.Blocks.{blocks_of}
use Rattle.members.specs.Members.{entry_of, is_listed, with_entry, ring_of, next_after, cleared, misses_set, struck, missed, strikes}
use Rattle.settling.specs.Ring.{◌∈◌, next}
use Rattle.station.specs.Rules.Asking.{next_block, is_last, next_station, block_sent}
use Rattle.station.specs.Rules.State.{holds}
use Rattle.station.specs.Rules.Ticking.{watch_time}
use Rattle.station.specs.Rules.Token.{restarted}
use Rattle.station.specs.Rules.Waits.{counts_as}
use Rattle.station.specs.Types.{Milliseconds, Members, Panel}
use Rattle.station.specs.declared.Gathering.{Gathering}
use Rattle.station.specs.declared.Station.{Station}
use Rattle.ring.proofs.Lists.{ring_kept, time_kept, other_listed}
use Rattle.ring.specs.Member.{InRing}

module _ {numbers : List ℕ} {number : ℕ} {station : Station} (in_ring : InRing numbers number station) where
  -- what a station takes for next is the ring's
  pub next_same : (x : ℕ) → next_after station.own.number station.members x ≡ next numbers x
  next_same x = ap (λ (own : ℕ). next (ring_of own station.members) x) in_ring.own ∙ ap (λ (l : List ℕ). next l x) in_ring.list

  -- a place that is kept or given up is within the turn
  place_kept : (test : Bool) → cond test station.block 0 < blocks_of station.own.areas
  place_kept true = in_ring.place
  place_kept false = omega (arith, in_ring.place)

  -- the watch restarts with a list of the same numbers and times and a view of the ring
  pub restarted_in : (members : Members) (view : ℕ) (gathering : Gathering) (panel : Panel) → ring_of number members ≡ ring_of number station.members →
      ((x : ℕ) → (entry_of members x).watch ≡ (entry_of station.members x).watch) →
      view ∈ numbers → InRing numbers number (restarted station members view gathering panel)
  restarted_in members view gathering panel same alike m = record {
    participates = refl;
    own = in_ring.own;
    list = same ∙ in_ring.list;
    times = λ x p other. ap (λ (w : Milliseconds). (counts_as w).0) (alike x) ∙ in_ring.times x p other;
    view = m;
    areas = in_ring.areas;
    place = place_kept (eqb view station.own.number);
  }

  -- another station is listed
  pub listed : (x : ℕ) → x ∈ numbers → ¬ (x ≡ number) → is_listed station.members x ≡ true
  listed x m other = other_listed number x station.members (rw in_ring.list m) other

  pub cleared_kept : (x : ℕ) → ring_of number (cleared station.members x) ≡ ring_of number station.members
  cleared_kept x = ring_kept number x station.members (misses_set 0 (entry_of station.members x)) refl

  pub cleared_times : (x y : ℕ) → (entry_of (cleared station.members x) y).watch ≡ (entry_of station.members y).watch
  cleared_times x y = time_kept station.members.entries x y (misses_set 0 (entry_of station.members x)) refl

  -- the watch runs for the one time, whoever is in view
  pub one_time : (watch_time station).0 ≡ station.own.watch.0
  one_time = by (holds station) refl (is_listed station.members station.view)
    where
      by : (held : Bool) → holds station ≡ held → (there : Bool)
          → (cond (held || not there) station.own.watch (counts_as (entry_of station.members station.view).watch)).0 ≡ station.own.watch.0
      by true h there = refl
      by false h true = in_ring.times station.view in_ring.view (λ d. eqb-false station.view station.own.number h (d ∙ sym in_ring.own))
      by false h false = refl

  -- a miss that strikes nobody
  pub missed_kept : (x : ℕ) → (is_listed station.members x && strikes station.members x) ≡ false →
      ring_of number (missed station.members x) ≡ ring_of number station.members
  missed_kept x e = by (is_listed station.members x) (strikes station.members x) e
    where
      more : Members
      more = with_entry station.members x (misses_set ((entry_of station.members x).misses + 1) (entry_of station.members x))

      by : (there third : Bool) → (there && third) ≡ false →
          ring_of number (cond there (cond third (struck station.members x) more) station.members) ≡ ring_of number station.members
      by true true d = absurd (false≢true (sym d))
      by true false d = ring_kept number x station.members (misses_set ((entry_of station.members x).misses + 1) (entry_of station.members x)) refl
      by false third d = refl

  pub missed_times : (x : ℕ) → (is_listed station.members x && strikes station.members x) ≡ false → (y : ℕ) →
      (entry_of (missed station.members x) y).watch ≡ (entry_of station.members y).watch
  missed_times x e y = by (is_listed station.members x) (strikes station.members x) e
    where
      more : Members
      more = with_entry station.members x (misses_set ((entry_of station.members x).misses + 1) (entry_of station.members x))

      by : (there third : Bool) → (there && third) ≡ false →
          (entry_of (cond there (cond third (struck station.members x) more) station.members) y).watch ≡ (entry_of station.members y).watch
      by true true d = absurd (false≢true (sym d))
      by true false d = time_kept station.members.entries x y (misses_set ((entry_of station.members x).misses + 1) (entry_of station.members x)) refl
      by false third d = refl

  -- a block sent
  pub sent_in : next numbers number ∈ numbers → InRing numbers number (block_sent station)
  sent_in m = record {
    participates = refl;
    own = in_ring.own;
    list = in_ring.list;
    times = in_ring.times;
    view = view_in (is_last station);
    areas = in_ring.areas;
    place = place_in (is_last station) refl;
  }
    where
      goes : next_station station ∈ numbers
      goes = rw (next_same station.own.number, in_ring.own) m

      view_in : (test : Bool) → cond test (next_station station) station.view ∈ numbers
      view_in true = goes
      view_in false = in_ring.view

      place_in : (test : Bool) → is_last station ≡ test → cond test 0 (next_block station) < blocks_of station.own.areas
      place_in true e = omega (arith, in_ring.place)
      place_in false e = leb-false (blocks_of station.own.areas) (next_block station) e

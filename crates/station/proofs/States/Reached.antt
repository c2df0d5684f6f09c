-- What holds after any list of calls with any arguments since off. Assumes nothing.
use Rattle.std.specs.Prelude.{◌≡◌, ◌∷◌}
use Rattle.laws.specs.Usual.{[], sym, ◌∙◌, true, false, false≢true, List, ℕ}
use Rattle.area.specs.Overlap.{parts_overlap, areas_overlap}
use Rattle.area.specs.Words.{shared_overlap}
use Rattle.laws.specs.Tests.{neither_first, neither_second}
use Rattle.members.specs.Members.{entry_of, is_listed, ring_of}
use Rattle.settling.specs.Ring.{Stations}
use Rattle.settling.specs.Steps.{after_all}
use Rattle.station.specs.States.Disjoint.{Apart}
use Rattle.station.proofs.States.Apart.{apart}
use Rattle.station.specs.Rules.Calls.{Call, after}
use Rattle.station.proofs.States.Sound.{sound}
use Rattle.station.specs.States.Reachable.{Reachable, unstarted, called, Sound}
use Rattle.station.proofs.States.RingKept.{ring_stations}
use Rattle.station.specs.Rules.Starting.{request_fallen}
use Rattle.station.specs.Rules.State.{never}
use Rattle.station.specs.Types.{Areas, Station}
use Rattle.station.specs.States.Reached.{AllTyped, Unshared}

-- what more calls leave can be reached too
pub reached_by : {station : Station} (calls : List Call) → Reachable station → AllTyped calls → Reachable (after_all after station calls)
reached_by [] reached typed = reached
reached_by {station = station} (call ∷ calls) reached typed = reached_by {station = after station call} calls (called call reached typed.0) typed.1

module _ (calls : List Call) (typed : AllTyped calls) where
  pub sound_after : Sound (after_all after never calls)
  sound_after = sound _ (reached_by calls unstarted typed)

  pub apart_after : Apart (after_all after never calls)
  apart_after = apart _ (reached_by calls unstarted typed)

pub unshared : (a b : Areas) → areas_overlap a b ≡ false → Unshared a b
unshared a b e = record {
  one = λ word p q. false≢true (sym (neither_first _ (parts_overlap a.two b.two) e) ∙ shared_overlap p q);
  two = λ word p q. false≢true (sym (neither_second (parts_overlap a.one b.one) _ e) ∙ shared_overlap p q);
}

module _ (station : Station) (reached : Reachable station) where
  -- no word belongs to two listed stations
  pub listed_words : (m n : ℕ) → ¬ (m ≡ n) → is_listed station.members m ≡ true → is_listed station.members n ≡ true
      → Unshared (entry_of station.members m).areas (entry_of station.members n).areas
  listed_words m n other l k = unshared _ _ ((apart station reached).listed m n other l k)

  -- nor to a listed station and to us, once our request has fallen due
  pub our_words : request_fallen station.phase station ≡ true → (number : ℕ) → is_listed station.members number ≡ true
      → Unshared station.own.areas (entry_of station.members number).areas
  our_words fallen number listed = unshared _ _ ((apart station reached).ours fallen number listed)

  -- the list with ours is a ring of different numbers
  pub ring_reached : Stations (ring_of station.own.number station.members)
  ring_reached = ring_stations (sound station reached).list

-- Hearing and asking keep the areas apart. Assumes nothing.
use Rattle.std.specs.Prelude.{◌≡◌, ◌≤◌}
use Rattle.laws.specs.Usual.{refl, sym, ◌∙◌, Bool, true, false, cond, false≢true, List, ℕ, arith, eqb, leb, ltb}
use Rattle.std.proofs.Common.{leb-true, ltb-true, ltb-false, eq-eqb, ne_eqb}
use Rattle.laws.specs.Tests.{both, second}
use Rattle.members.specs.Listing.{listing}
use Rattle.frame_reading.specs.Reading.{is_station}
use Rattle.frame_writing.specs.Writing.{no_areas}
use Rattle.station.proofs.States.Disjoint.{disjoint_misses, clear_misses, disjoint_listing, clear_listing}
use Rattle.station.specs.States.Disjoint.{Disjoint, Clear, Apart}
use Rattle.station.proofs.States.ApartTicking.{fresh_apart}
use Rattle.station.proofs.Outcomes.HearCases.{entering, awaits_on}
use Rattle.station.specs.Outcomes.HearCases.{off, begins, joins, passes, reads, lists, ignores, HearCases, refuses, turns_off, gathers, heeds}
use Rattle.station.specs.Rules.Hearing.{requested, Hearing}
use Rattle.station.proofs.States.KeepsEntering.{same_fallen}
use Rattle.station.proofs.States.KeepsStarting.{station_from}
use Rattle.station.specs.States.Reachable.{Sound}
use Rattle.station.specs.Rules.Starting.{request_fallen, ours_due, joined_by}
use Rattle.station.specs.Rules.State.{fresh}
use Rattle.station.specs.Rules.Waits.{number_wait}
use Rattle.station.specs.Types.{Fields, Members, Off, Startup, Joining, Station}
use Rattle.station.specs.Rules.Asking.{Asking}
use Rattle.station.specs.Outcomes.AskCases as on_asking

-- what joining reads: nothing is listed any more when our request falls due
joined_apart : (station : Station) (frame : Fields) → station.phase ≡ Joining → Apart station → is_station station.own.number ≡ true
    → station.rounds ≤ 3 → (eqb station.rounds 3 ≡ false → station.waited.0 ≡ 0) → Apart (joined_by station frame)
joined_apart station frame e apart number three early = record {
  listed = listed (ltb station.rounds 3);
  ours = λ z. ours (ltb station.rounds 3) refl (second (eqb (joined_by station frame).rounds 3) (leb (number_wait station.own.number) station.waited.0) z);
}
  where
    heard : Members
    heard = listing station.members frame.source frame.areas frame.watch no_areas

    listed : (more : Bool) → Disjoint (cond more heard station.members)
    listed true = disjoint_listing station.members frame.source frame.areas frame.watch no_areas apart.listed
    listed false = apart.listed

    ours : (more : Bool) → ltb station.rounds 3 ≡ more → leb (number_wait station.own.number) station.waited.0 ≡ true
        → Clear station.own.areas (cond more heard station.members)
    ours true m z =
        let few = ltb-true station.rounds 3 m in
        let none = early (ne_eqb station.rounds 3 (λ q. omega arith)) in
        let some = station_from station.own.number number in
        let come = leb-true (number_wait station.own.number) station.waited.0 z in
        absurd (omega arith)
    ours false m z =
        let all = ltb-false station.rounds 3 m in
        apart.ours (rw e (both (eq-eqb station.rounds 3 (omega arith)) z))

module _ (station : Station) (ok : Sound station) (apart : Apart station) where
  requested_apart : (frame : Fields) → Apart (requested station frame)
  requested_apart frame = record {
    listed = disjoint_listing station.members frame.source frame.areas frame.watch (ours_due station) apart.listed;
    ours = λ z. by (request_fallen station.phase station) refl (sym (same_fallen station.phase station _ _) ∙ z);
  }
    where
      by : (fallen : Bool) → request_fallen station.phase station ≡ fallen → request_fallen station.phase station ≡ true
          → Clear station.own.areas (listing station.members frame.source frame.areas frame.watch (cond fallen station.own.areas no_areas))
      by true f z = clear_listing station.members frame.source frame.areas frame.watch station.own.areas (apart.ours f)
      by false f z = absurd (false≢true (sym f ∙ z))

  pub hear_apart : {octets memory assembly : List ℕ} {result : Hearing} → HearCases station octets memory assembly result → Apart result.station
  hear_apart (refuses refusal) = apart
  hear_apart (turns_off out) = fresh_apart Off _
  hear_apart (gathers frame from parts) = record {
    listed = disjoint_misses station.members frame.source 0 apart.listed;
    ours = λ z. clear_misses station.members frame.source 0 station.own.areas (apart.ours (rw from.participates));
  }
  hear_apart (heeds frame facts entered) =
      entering (λ left answer. Apart left) (λ e. apart) (λ e c. fresh_apart Startup station.own)
      (λ e c. joined_apart (fresh Joining station.own) frame refl (fresh_apart Joining station.own) (ok.ours (awaits_on e)).number (omega arith) (λ z. refl))
      (λ e c. apart) (λ e c. joined_apart station frame e apart (ok.ours (rw e)).number ok.rounds ok.unwaited) (λ e c. requested_apart frame)
      (λ e. apart) entered

  pub ask_apart : {memory turn output : List ℕ} {result : Asking} → on_asking.AskCases station memory turn output result → Apart result.station
  ask_apart (on_asking.refuses refusal) = apart
  ask_apart (on_asking.sends lent is (on_asking.triggers e due)) = fresh_apart Startup station.own
  ask_apart (on_asking.sends lent is (on_asking.requests e fallen)) = record { listed = apart.listed; ours = λ z. apart.ours (rw e fallen) }
  ask_apart (on_asking.sends lent is (on_asking.begins e fallen)) = record { listed = apart.listed; ours = λ z. apart.ours (rw e fallen) }
  ask_apart (on_asking.sends lent is (on_asking.passes e held placed)) = record { listed = apart.listed; ours = λ z. apart.ours (rw e) }

-- What comes to a station from outside its ring leaves the ring in order, and does nothing that is counted. Assumes nothing.
use Rattle.std.specs.Prelude.{◌≡◌}
use Rattle.laws.specs.Usual.{refl, sym, ap, subst, ◌∙◌, Bool, true, false, cond, List, ℕ, eqb}
use Rattle.std.proofs.Math.Decide.{ℕ_discrete}
use Rattle.std.proofs.Common.{eq-eqb, ne_eqb}
use Rattle.misses.proofs.CoverThird.{brought_more}
use Rattle.misses.specs.MissHistory.{Brought}
use Rattle.settling.specs.Counting.{nothing}
use Rattle.settling.specs.Ring.{◌∈◌}
use Rattle.station.specs.Rules.Calls.{Call, after}
use Rattle.station.specs.declared.Station.{Station}
use Rattle.ring.specs.Counts.{Does}
use Rattle.ring.specs.Events.{Stations, stray, after_event, Stray, refused, starts, harmless, CanCome}
use Rattle.ring.specs.Member.{InRing}
use Rattle.ring.proofs.Steps.{KeptRing}
use Rattle.ring.specs.Strays.{Kept}
use Rattle.station.proofs.Outcomes.HearCases as on_hearing_told
use Rattle.ring.proofs.Strays.{unchanged, unchanged_if, refused_kept, start_kept, frame_kept}

module _ {numbers : List ℕ} {number : ℕ} {station : Station} (in_ring : InRing numbers number station) where
  pub stray_kept : {call : Call} → Stray numbers station call → Kept numbers number station (after station call)
  stray_kept (refused {call} refusal e) = refused_kept in_ring call refusal e
  stray_kept (starts settings) = unchanged_if in_ring (start_kept in_ring settings)
  stray_kept (harmless octets memory assembly fields read plain from) =
      frame_kept in_ring fields read plain from (on_hearing_told.hear_cases station octets memory assembly)

module _ (numbers : List ℕ) (stations : Stations) (ok : KeptRing numbers stations) (who : ℕ) (call : Call) (can : CanCome numbers stations (stray who call)) where
  left_of : (n : ℕ) → n ∈ numbers → Kept numbers n (stations n) (after_event stations (stray who call) n)
  left_of n m = by (ℕ_discrete n who)
    where
      by : Dec (n ≡ who) → Kept numbers n (stations n) (after_event stations (stray who call) n)
      by (yes e) =
          let here : after_event stations (stray who call) who ≡ after (stations who) call = rw (eq-eqb who who refl) in
          subst (λ (k : ℕ). Kept numbers k (stations k) (after_event stations (stray who call) k)) (sym e)
          (subst (Kept numbers who (stations who)) (sym here) (stray_kept (ok.each who can.0) can.1))
      by (no e) =
          let there : after_event stations (stray who call) n ≡ stations n = rw (ne_eqb n who e) in
          subst (Kept numbers n (stations n)) (sym there) (unchanged (ok.each n m))

  brought_on : (n : ℕ) → n ∈ numbers → (test : Bool) → Brought (cond test (after (stations who) call) (stations n))
  brought_on n m true = brought_more (ok.brought who can.0) call
  brought_on n m false = ok.brought n m

  pub stray_ok : KeptRing numbers (after_event stations (stray who call))
  stray_ok = record {
    each = λ n m. (left_of n m).in_ring;
    watch = λ n k p q. ap (λ own. own.watch.0) (left_of n p).own ∙ ok.watch n k p q ∙ sym (ap (λ own. own.watch.0) (left_of k q).own);
    elapsed = λ n k p q. ap (λ t. t.0) (left_of n p).elapsed ∙ ok.elapsed n k p q ∙ sym (ap (λ t. t.0) (left_of k q).elapsed);
    brought = λ n m. brought_on n m (eqb n who);
  }

  pub stray_does : Does numbers stations (stray who call)
  stray_does = nothing refl (λ n m. refl) (λ n m. (left_of n m).view)

-- A tick is a silence at all stations alike, or nothing, to the views of the ring. Assumes nothing.
use Rattle.std.specs.Prelude.{◌≡◌, ◌+◌, ◌*◌}
use Rattle.laws.specs.Usual.{refl, sym, ap, ap₂, subst, ◌∙◌, Bool, true, false, List, ℕ, min, leb}
use Rattle.std.proofs.lemmas.Bool.{eqb-false}
use Rattle.members.specs.Members.{first_of, next_after, missed}
use Rattle.panel.specs.Panel.{ticked as panel_ticked}
use Rattle.laws.specs.Tests.{first, second}
use Rattle.misses.proofs.CoverThird.{brought_more, cover_third}
use Rattle.misses.specs.CoverThird.{strikes_in_view}
use Rattle.misses.specs.MissHistory.{Brought}
use Rattle.settling.specs.Counting.{silent, nothing}
use Rattle.settling.specs.Ring.{◌∈◌, next}
use Rattle.station.specs.Rules.Calls.{tick}
use Rattle.station.specs.Rules.State.{is_participating, counted}
use Rattle.station.specs.Rules.Ticking.{watch_time, watch_ends, watch_ended, later}
use Rattle.station.specs.Rules.Waits.{longest_watch}
use Rattle.station.specs.declared.Station.{Station}
use Rattle.ring.specs.Counts.{Does}
use Rattle.ring.specs.Events.{Stations, ticked, after_event, ends_watch, CanCome}
use Rattle.ring.specs.Member.{InRing}
use Rattle.ring.proofs.Member.{next_same, restarted_in, one_time, missed_kept, missed_times}
use Rattle.ring.proofs.Steps.{KeptRing}

module _ (numbers : List ℕ) (laws_next : (x : ℕ) → x ∈ numbers → next numbers x ∈ numbers) (first_in : first_of numbers ∈ numbers)
    (stations : Stations) (ok : KeptRing numbers stations) (can : CanCome numbers stations ticked) where
  -- the watches run for one time, and so they end at all stations alike
  same_time : (n : ℕ) → n ∈ numbers → (watch_time (stations n)).0 ≡ (watch_time (stations (first_of numbers))).0
  same_time n m = one_time (ok.each n m) ∙ ok.watch n (first_of numbers) m first_in ∙ sym (one_time (ok.each (first_of numbers) first_in))

  alike : (n : ℕ) → n ∈ numbers → watch_ends (stations n) ≡ watch_ends (stations (first_of numbers))
  alike n m = ap₂ (λ (watch elapsed : ℕ). leb (watch * 10) (elapsed + 1)) (same_time n m) (ok.elapsed n (first_of numbers) m first_in)

  -- all of them participate
  ends_is : (n : ℕ) → n ∈ numbers → ends_watch (stations n) ≡ watch_ends (stations (first_of numbers))
  ends_is n m = rw (ok.each n m).participates (alike n m)

  -- a watch that ends strikes nobody
  strikes_nobody : (n : ℕ) → n ∈ numbers → ends_watch (stations n) ≡ true → strikes_in_view (stations n) ≡ false
  strikes_nobody n m e =
      (cover_third (stations n) (ok.brought n m) (first (is_participating (stations n).phase) (watch_ends (stations n)) e)
      (second (is_participating (stations n).phase) (watch_ends (stations n)) e)).1 (can.1 n m e)

  brought_on : (n : ℕ) → n ∈ numbers → Brought (after_event stations ticked n)
  brought_on n m = brought_more (ok.brought n m) tick

  -- a tick that does not end the watch
  goes_on : (n : ℕ) → n ∈ numbers → watch_ends (stations n) ≡ false → after_event stations ticked n
      ≡ counted (stations n) (stations n).own (later longest_watch (stations n).elapsed) (stations n).waited (panel_ticked (stations n).panel)
  goes_on n m e = rw ((ok.each n m).participates, e)

  ends : (n : ℕ) → n ∈ numbers → watch_ends (stations n) ≡ true → after_event stations ticked n ≡ watch_ended (stations n)
  ends n m e = rw ((ok.each n m).participates, e)

  module _ (e : watch_ends (stations (first_of numbers)) ≡ false) where
    quiet : (n : ℕ) (m : n ∈ numbers) → after_event stations ticked n
        ≡ counted (stations n) (stations n).own (later longest_watch (stations n).elapsed) (stations n).waited (panel_ticked (stations n).panel)
    quiet n m = goes_on n m (alike n m ∙ e)

    quiet_ok : KeptRing numbers (after_event stations ticked)
    quiet_ok = record {
      each = λ n m. subst (InRing numbers n) (sym (quiet n m)) (record {
        participates = (ok.each n m).participates;
        own = (ok.each n m).own;
        list = (ok.each n m).list;
        times = (ok.each n m).times;
        view = (ok.each n m).view;
        areas = (ok.each n m).areas;
        place = (ok.each n m).place;
      });
      watch = λ n k p q. ap (λ (s : Station). s.own.watch.0) (quiet n p) ∙ ok.watch n k p q ∙ sym (ap (λ (s : Station). s.own.watch.0) (quiet k q));
      elapsed = λ n k p q.
          ap (λ (s : Station). s.elapsed.0) (quiet n p) ∙ ap (λ (t : ℕ). min longest_watch (t + 1)) (ok.elapsed n k p q)
          ∙ sym (ap (λ (s : Station). s.elapsed.0) (quiet k q));
      brought = brought_on;
    }

    quiet_views : (n : ℕ) → n ∈ numbers → (after_event stations ticked n).view ≡ (stations n).view
    quiet_views n m = ap (λ (s : Station). s.view) (quiet n m)

  module _ (e : watch_ends (stations (first_of numbers)) ≡ true) where
    ended : (n : ℕ) (m : n ∈ numbers) → after_event stations ticked n ≡ watch_ended (stations n)
    ended n m = ends n m (alike n m ∙ e)

    ended_view : (n : ℕ) (m : n ∈ numbers) → next_after (stations n).own.number (stations n).members (stations n).view ≡ next numbers (stations n).view
    ended_view n m = next_same (ok.each n m) (stations n).view

    ended_ok : KeptRing numbers (after_event stations ticked)
    ended_ok = record {
      each = λ n m.
          subst (InRing numbers n) (sym (ended n m))
          (restarted_in (ok.each n m) (missed (stations n).members (stations n).view) (next_after (stations n).own.number (stations n).members (stations n).view) _ _
          (missed_kept (ok.each n m) (stations n).view (strikes_nobody n m (ends_is n m ∙ e)))
          (missed_times (ok.each n m) (stations n).view (strikes_nobody n m (ends_is n m ∙ e)))
          (rw (ended_view n m) (laws_next (stations n).view (ok.each n m).view)));
      watch = λ n k p q. ap (λ (s : Station). s.own.watch.0) (ended n p) ∙ ok.watch n k p q ∙ sym (ap (λ (s : Station). s.own.watch.0) (ended k q));
      elapsed = λ n k p q. ap (λ (s : Station). s.elapsed.0) (ended n p) ∙ sym (ap (λ (s : Station). s.elapsed.0) (ended k q));
      brought = brought_on;
    }

    ended_does : Does numbers stations ticked
    ended_does =
        silent refl (λ x m. ends_is x m ∙ e)
        (λ x m d. eqb-false (stations x).view (stations x).own.number (can.0 x m (ends_is x m ∙ e)) (d ∙ sym (ok.each x m).own))
        (λ x m. ap (λ (s : Station). s.view) (ended x m) ∙ ended_view x m)

  ticked_ok_if : (test : Bool) → watch_ends (stations (first_of numbers)) ≡ test → KeptRing numbers (after_event stations ticked)
  ticked_ok_if true e = ended_ok e
  ticked_ok_if false e = quiet_ok e

  pub ticked_ok : KeptRing numbers (after_event stations ticked)
  ticked_ok = ticked_ok_if (watch_ends (stations (first_of numbers))) refl

  ticked_does_if : (test : Bool) → watch_ends (stations (first_of numbers)) ≡ test → Does numbers stations ticked
  ticked_does_if true e = ended_does e
  ticked_does_if false e = nothing refl (λ x m. ends_is x m ∙ e) (quiet_views e)

  pub ticked_does : Does numbers stations ticked
  ticked_does = ticked_does_if (watch_ends (stations (first_of numbers))) refl

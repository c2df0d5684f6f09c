-- An asking is a pass by the station that is asked, or nothing, to the views of the ring. Assumes nothing.
use Rattle.std.specs.Prelude.{Ok, Err, ◌≡◌, ◌∷◌}
use Rattle.laws.specs.Usual.{[], refl, sym, ap, ap₂, subst, ◌∙◌, Bool, true, false, cond, List, ℕ, take, eqb}
use Rattle.std.proofs.Math.Decide.{ℕ_discrete}
use Rattle.std.proofs.Common.{eq-eqb, ne_eqb, eqb-true}
use Rattle.frame.specs.Codes.{is_token}
use Rattle.members.specs.Members.{cleared}
use Rattle.misses.proofs.CoverThird.{brought_more}
use Rattle.misses.specs.MissHistory.{Brought}
use Rattle.frame_reading.specs.Reading.{is_station, data_of}
use Rattle.settling.specs.Counting.{passed, nothing}
use Rattle.settling.specs.Ring.{◌∈◌, next, view_after_pass}
use Rattle.station.specs.Rules.Calls.{hear, ask}
use Rattle.station.specs.Rules.Data.{gathered}
use Rattle.station.specs.Rules.State.{holds}
use Rattle.station.specs.Rules.Token.{view_heard, view_after, restarted}
use Rattle.frame.specs.declared.Fields.{Fields}
use Rattle.station.specs.declared.Settings.{Settings}
use Rattle.station.specs.declared.Station.{Station}
use Rattle.station.specs.Types.{Asked}
use Rattle.frame_writing.specs.Writing.{whole_length}
use Rattle.ring.specs.Counts.{token_to, given_by, gives, Does}
use Rattle.ring.specs.Events.{Stations, Lent, Event, asked, handed, after_event, CanCome}
use Rattle.ring.proofs.Hears.{accepts}
use Rattle.ring.specs.Member.{InRing}
use Rattle.ring.proofs.Member.{restarted_in, cleared_kept, cleared_times, sent_in}
use Rattle.station.proofs.Acts.{same_move}
use Rattle.ring.proofs.Steps.{KeptRing, next_is, heard_in, sends, source_is, destination_is, cyclic_is, last_is, idle_station, idle_answer, asked_station, asked_answer, asked_read}
use Rattle.station.specs.Rules.Asking as asking

module _ (numbers : List ℕ) (laws_next : (x : ℕ) → x ∈ numbers → next numbers x ∈ numbers)
    (are_stations : (x : ℕ) → x ∈ numbers → is_station x ≡ true) (stations : Stations) (ok : KeptRing numbers stations)
    (who : ℕ) (memory turn output : List ℕ) (lent : ℕ → Lent) (can : CanCome numbers stations (asked who memory turn output lent)) where
  sender : Station
  sender = stations who

  in_ring : InRing numbers who (stations who)
  in_ring = ok.each who can.0

  abbrev event : Event
  event = asked who memory turn output lent

  abbrev frame : Fields
  frame = sends numbers laws_next are_stations who can.0 (stations who) in_ring

  -- the station that is asked
  who_after : after_event stations event who ≡ (asking.ask_of (stations who) memory turn output).station
  who_after = rw (eq-eqb who who refl)

  -- each other one
  other_after : (n : ℕ) → ¬ (n ≡ who) → after_event stations event n
      ≡ handed (stations n) (lent n) (asking.ask_of (stations who) memory turn output).answer (asking.ask_of (stations who) memory turn output).output
  other_after n e = rw (ne_eqb n who e)

  -- what a station is handed is one call, or none
  brought_handed : (n : ℕ) → n ∈ numbers → (answer : Asked) (output : List ℕ) → Brought (handed (stations n) (lent n) answer output)
  brought_handed n m (Ok count) output = brought_more (ok.brought n m) (hear (take count output) (lent n).memory (lent n).assembly)
  brought_handed n m (Err refusal) output = ok.brought n m

  brought_on : (n : ℕ) → n ∈ numbers → Brought (after_event stations event n)
  brought_on n m = by (eqb n who)
    where
      by : (test : Bool) → Brought
          (cond test (asking.ask_of (stations who) memory turn output).station
          (handed (stations n) (lent n) (asking.ask_of (stations who) memory turn output).answer (asking.ask_of (stations who) memory turn output).output))
      by true = brought_more (ok.brought who can.0) (ask memory turn output)
      by false = brought_handed n m (asking.ask_of (stations who) memory turn output).answer (asking.ask_of (stations who) memory turn output).output

  -- nothing happens where the station does not hold
  idle : holds (stations who) ≡ false → (n : ℕ) → n ∈ numbers → after_event stations event n ≡ stations n
  idle h n m = by (ℕ_discrete n who)
    where
      by : Dec (n ≡ who) → after_event stations event n ≡ stations n
      by (yes e) =
          subst (λ (k : ℕ). after_event stations event k ≡ stations k) (sym e)
          (who_after ∙ idle_station numbers laws_next are_stations who can.0 (stations who) in_ring memory turn output can.1 h)
      by (no e) =
          other_after n e
          ∙ ap (λ a. handed (stations n) (lent n) a (asking.ask_of (stations who) memory turn output).output)
          (idle_answer numbers laws_next are_stations who can.0 (stations who) in_ring memory turn output can.1 h)

  -- a block is sent
  module _ (h : holds (stations who) ≡ true) where
    sent : after_event stations event who ≡ asking.block_sent (stations who)
    sent = who_after ∙ asked_station numbers laws_next are_stations who can.0 (stations who) in_ring memory turn output can.1 h

    -- and every other station hears it
    abbrev octets : List ℕ
    octets = take (whole_length frame) (asking.ask_of (stations who) memory turn output).output

    heard : (n : ℕ) → n ∈ numbers → ¬ (n ≡ who) → after_event stations event n
        ≡ restarted (stations n) (cleared (stations n).members frame.source) (view_heard (stations n).view frame)
        (gathered (stations n) frame (data_of octets frame) (lent n).assembly (lent n).memory).gathering (stations n).panel
    heard n m e =
        other_after n e
        ∙ ap (λ a. handed (stations n) (lent n) a (asking.ask_of (stations who) memory turn output).output)
        (asked_answer numbers laws_next are_stations who can.0 (stations who) in_ring memory turn output can.1 h)
        ∙ ap (λ r. r.station)
        (accepts (ok.each n m) octets (lent n).memory (lent n).assembly frame
        (asked_read numbers laws_next are_stations who can.0 (stations who) in_ring memory turn output can.1 h)
        (can.2 n m)
        (rw (source_is numbers laws_next are_stations who can.0 (stations who) in_ring) can.0)
        (λ d. e (sym (sym (source_is numbers laws_next are_stations who can.0 (stations who) in_ring) ∙ d)))
        (cyclic_is numbers laws_next are_stations who can.0 (stations who) in_ring)
        destination_in)
      where
        destination_in : frame.destination ∈ numbers
        destination_in = rw (destination_is numbers laws_next are_stations who can.0 (stations who) in_ring) (laws_next who can.0)

    destination_in : frame.destination ∈ numbers
    destination_in = rw (destination_is numbers laws_next are_stations who can.0 (stations who) in_ring) (laws_next who can.0)

    sent_each : (n : ℕ) → n ∈ numbers → InRing numbers n (after_event stations event n)
    sent_each n m = by (ℕ_discrete n who)
      where
        by : Dec (n ≡ who) → InRing numbers n (after_event stations event n)
        by (yes e) = subst (λ (k : ℕ). InRing numbers k (after_event stations event k)) (sym e) (subst (InRing numbers who) (sym sent) (sent_in in_ring (laws_next who can.0)))
        by (no e) =
            subst (InRing numbers n) (sym (heard n m e))
            (restarted_in (ok.each n m) (cleared (stations n).members frame.source) (view_heard (stations n).view frame)
            (gathered (stations n) frame (data_of octets frame) (lent n).assembly (lent n).memory).gathering (stations n).panel
            (cleared_kept (ok.each n m) frame.source)
            (cleared_times (ok.each n m) frame.source)
            (heard_in numbers (stations n).view frame (ok.each n m).view destination_in))

    -- nobody's settings change, and every watch has restarted
    sent_own : (n : ℕ) → n ∈ numbers → (after_event stations event n).own ≡ (stations n).own
    sent_own n m = by (ℕ_discrete n who)
      where
        by : Dec (n ≡ who) → (after_event stations event n).own ≡ (stations n).own
        by (yes e) = subst (λ (k : ℕ). (after_event stations event k).own ≡ (stations k).own) (sym e) (ap (λ (s : Station). s.own) sent)
        by (no e) = ap (λ (s : Station). s.own) (heard n m e)

    sent_elapsed : (n : ℕ) → n ∈ numbers → (after_event stations event n).elapsed.0 ≡ 0
    sent_elapsed n m = by (ℕ_discrete n who)
      where
        by : Dec (n ≡ who) → (after_event stations event n).elapsed.0 ≡ 0
        by (yes e) = subst (λ (k : ℕ). (after_event stations event k).elapsed.0 ≡ 0) (sym e) (ap (λ (s : Station). s.elapsed.0) sent)
        by (no e) = ap (λ (s : Station). s.elapsed.0) (heard n m e)

    sent_ok : KeptRing numbers (after_event stations event)
    sent_ok = record {
      each = sent_each;
      watch = λ n k p q.
          ap (λ (own : Settings). own.watch.0) (sent_own n p) ∙ ok.watch n k p q ∙ sym (ap (λ (own : Settings). own.watch.0) (sent_own k q));
      elapsed = λ n k p q. sent_elapsed n p ∙ sym (sent_elapsed k q);
      brought = brought_on;
    }

    -- the views after a block with the token, and after one without
    token_views : is_token frame.code ≡ true → (n : ℕ) → n ∈ numbers → (after_event stations event n).view ≡ view_after_pass numbers who (stations n).view
    token_views t n m = by (ℕ_discrete n who)
      where
        mine : (stations who).view ≡ who
        mine = eqb-true _ _ h ∙ in_ring.own

        by : Dec (n ≡ who) → (after_event stations event n).view ≡ view_after_pass numbers who (stations n).view
        by (yes e) =
            subst (λ (k : ℕ). (after_event stations event k).view ≡ view_after_pass numbers who (stations k).view) (sym e)
            (ap (λ (s : Station). s.view) sent
            ∙ ap (λ (test : Bool). cond test (asking.next_station (stations who)) (stations who).view) (last_is numbers laws_next are_stations who can.0 (stations who) in_ring ∙ t)
            ∙ next_is numbers laws_next are_stations who can.0 (stations who) in_ring
            ∙ sym (rw (eq-eqb (stations who).view who mine)))
        by (no e) =
            ap (λ (s : Station). s.view) (heard n m e)
            ∙ ap (λ (test : Bool). cond test (view_after (stations n).view frame.source frame.destination) (stations n).view) t
            ∙ ap₂ (λ (s d : ℕ). view_after (stations n).view s d) (source_is numbers laws_next are_stations who can.0 (stations who) in_ring) (destination_is numbers laws_next are_stations who can.0 (stations who) in_ring)
            ∙ same_move numbers who (stations n).view

    plain_views : is_token frame.code ≡ false → (n : ℕ) → n ∈ numbers → (after_event stations event n).view ≡ (stations n).view
    plain_views t n m = by (ℕ_discrete n who)
      where
        by : Dec (n ≡ who) → (after_event stations event n).view ≡ (stations n).view
        by (yes e) =
            subst (λ (k : ℕ). (after_event stations event k).view ≡ (stations k).view) (sym e)
            (ap (λ (s : Station). s.view) sent
            ∙ ap (λ (test : Bool). cond test (asking.next_station (stations who)) (stations who).view) (last_is numbers laws_next are_stations who can.0 (stations who) in_ring ∙ t))
        by (no e) =
            ap (λ (s : Station). s.view) (heard n m e)
            ∙ ap (λ (test : Bool). cond test (view_after (stations n).view frame.source frame.destination) (stations n).view) t

    -- what is written reads as the frame that is due
    sent_gives : gives stations event ≡ cond (is_token frame.code) (frame.destination ∷ []) []
    sent_gives =
        ap (λ a. given_by a (asking.ask_of (stations who) memory turn output).output)
        (asked_answer numbers laws_next are_stations who can.0 (stations who) in_ring memory turn output can.1 h)
        ∙ ap token_to (asked_read numbers laws_next are_stations who can.0 (stations who) in_ring memory turn output can.1 h)

    sent_does : (test : Bool) → is_token frame.code ≡ test → Does numbers stations event
    sent_does true t =
        passed can.0 (eqb-true _ _ h ∙ in_ring.own)
        (sent_gives ∙ ap (λ (test : Bool). cond test (frame.destination ∷ []) []) t
        ∙ ap (λ (d : ℕ). d ∷ []) (destination_is numbers laws_next are_stations who can.0 (stations who) in_ring))
        (λ n m. refl) (token_views t)
    sent_does false t =
        nothing (sent_gives ∙ ap (λ (test : Bool). cond test (frame.destination ∷ []) []) t) (λ n m. refl) (plain_views t)

  asked_ok_if : (test : Bool) → holds (stations who) ≡ test → KeptRing numbers (after_event stations event)
  asked_ok_if true h = sent_ok h
  asked_ok_if false h = record {
    each = λ n m. subst (InRing numbers n) (sym (idle h n m)) (ok.each n m);
    watch = λ n k p q. ap (λ (s : Station). s.own.watch.0) (idle h n p) ∙ ok.watch n k p q ∙ sym (ap (λ (s : Station). s.own.watch.0) (idle h k q));
    elapsed = λ n k p q. ap (λ (s : Station). s.elapsed.0) (idle h n p) ∙ ok.elapsed n k p q ∙ sym (ap (λ (s : Station). s.elapsed.0) (idle h k q));
    brought = brought_on;
  }

  pub asked_ok : KeptRing numbers (after_event stations event)
  asked_ok = asked_ok_if (holds (stations who)) refl

  asked_does_if : (test : Bool) → holds (stations who) ≡ test → Does numbers stations event
  asked_does_if true h = sent_does h (is_token frame.code) refl
  asked_does_if false h =
      nothing
      (ap (λ a. given_by a (asking.ask_of (stations who) memory turn output).output)
      (idle_answer numbers laws_next are_stations who can.0 (stations who) in_ring memory turn output can.1 h))
      (λ n m. refl) (λ n m. ap (λ (s : Station). s.view) (idle h n m))

  pub asked_does : Does numbers stations event
  asked_does = asked_does_if (holds (stations who)) refl

-- A ring of stations with messages that is in order, and every list of events that can come to it, settles: each event is to the ring parts an event of a ring
-- of the base, or nothing. Assumes nothing.
use Rattle.std.specs.Prelude.{Ok, ◌≡◌, ◌∷◌}
use Rattle.laws.specs.Usual.{[], refl, sym, ap, subst, ◌∙◌, Bool, true, false, cond, false≢true, List, ℕ, eqb}
use Rattle.std.proofs.Math.Decide.{ℕ_discrete}
use Rattle.std.proofs.Common.{eq-eqb, ne_eqb}
use Rattle.frame.specs.declared.Fields.{Fields}
use Rattle.frame.specs.declared.Refusal.{Refusal}
use Rattle.frame_reading.specs.Reading.{is_station, read_of}
use Rattle.message_rules.proofs.Ring.Buffers.{read_frame}
use Rattle.message_rules.proofs.Ring.RingPart.{letter_ring}
use Rattle.message_refusals.specs.Left.{SparedBoth, same, turned_off}
use Rattle.message_refusals.proofs.Left.{refused_left_both}
use Rattle.message_rules.proofs.Letters.LetterSent.{asks_letter}
use Rattle.message_ring.proofs.Asked.{letter_handed, letter_gives}
use Rattle.message_ring.proofs.Blocks.{block_gives, block_handed}
use Rattle.message_ring.specs.Events.{Boths, rings_of, views_of, Event, asked, ticked, stray, handed, after_event, gives, asks, ends, both_counting, Stray, refused, starts, posts, letters, harmless, CanCome}
use Rattle.message_rules.specs.Rules.Calls.{Both, Call, hear, after, verdict, ask_of, Asking, block_asked}
use Rattle.message_rules.specs.Rules.Cycle.{goes}
use Rattle.misses.specs.MissHistory.{Brought}
use Rattle.ring.specs.Events.{Stations, Lent}
use Rattle.ring.specs.Member.{InRing}
use Rattle.ring.proofs.Settles.{kept, does}
use Rattle.ring.proofs.Steps.{KeptRing}
use Rattle.settling.proofs.Counted.{counting_settles}
use Rattle.settling.specs.Counting.{Does, passed, silent, nothing, Orderly, CountingSettles, AllName}
use Rattle.settling.specs.First.{FirstAgreement}
use Rattle.settling.proofs.Next.{laws_of}
use Rattle.settling.specs.Ring.{◌∈◌, next, view_after_pass, Stations as Ascending}
use Rattle.settling.specs.Steps.{EachFinds}
use Rattle.station.specs.Rules.State.{is_participating}
use Rattle.station.specs.declared.Station.{Station}
use Rattle.ring.specs.Counts as base_counts
use Rattle.ring.specs.Events as base
use Rattle.station.specs.Rules.Calls as station

-- what is kept of a ring is kept of one with the same stations at its numbers
ok_same : {numbers : List ℕ} {one other : Stations} → ((n : ℕ) → n ∈ numbers → other n ≡ one n) → KeptRing numbers one → KeptRing numbers other
ok_same {numbers} same_at ok = record {
  each = λ n m. subst (InRing numbers n) (sym (same_at n m)) (ok.each n m);
  watch = λ n k p q.
      ap (λ (s : Station). s.own.watch.0) (same_at n p) ∙ ok.watch n k p q ∙ sym (ap (λ (s : Station). s.own.watch.0) (same_at k q));
  elapsed = λ n k p q. ap (λ (s : Station). s.elapsed.0) (same_at n p) ∙ ok.elapsed n k p q ∙ sym (ap (λ (s : Station). s.elapsed.0) (same_at k q));
  brought = λ n m. subst Brought (sym (same_at n m)) (ok.brought n m);
}

-- an event that leaves the ring parts as an event of the base does, asks the same station, gives the token to the same and ends the same watches, does the
-- same to the views
module _ {numbers : List ℕ} (boths : Boths) (event : Event) (plain : base.Event) (asks_same : asks event ≡ base_counts.asks plain)
    (gives_same : gives boths event ≡ base_counts.gives (rings_of boths) plain)
    (ends_same : (n : ℕ) → ends boths event n ≡ base_counts.ends (rings_of boths) plain n)
    (left_same : (n : ℕ) → n ∈ numbers → rings_of (after_event boths event) n ≡ base.after_event (rings_of boths) plain n) where
  view_same : (n : ℕ) → n ∈ numbers → views_of (after_event boths event) n ≡ (base.after_event (rings_of boths) plain n).view
  view_same n m = ap (λ (s : Station). s.view) (left_same n m)

  does_same : base_counts.Does numbers (rings_of boths) plain → Does both_counting numbers boths event
  does_same (passed member holds to none moves) =
      let back = sym asks_same in
      passed (subst (λ (w : ℕ). w ∈ numbers) back member) (subst (λ (w : ℕ). views_of boths w ≡ w) back holds)
      (gives_same ∙ to ∙ ap (λ (w : ℕ). next numbers w ∷ []) back)
      (λ n m. ends_same n ∙ none n m)
      (λ n m. view_same n m ∙ moves n m ∙ ap (λ (w : ℕ). view_after_pass numbers w (views_of boths n)) back)
  does_same (silent nobody all none_holds moves) =
      silent (gives_same ∙ nobody) (λ n m. ends_same n ∙ all n m) none_holds (λ n m. view_same n m ∙ moves n m)
  does_same (nothing nobody none stays) = nothing (gives_same ∙ nobody) (λ n m. ends_same n ∙ none n m) (λ n m. view_same n m ∙ stays n m)

module _ {numbers : List ℕ} (ascending : Ascending numbers) (are_stations : (n : ℕ) → n ∈ numbers → is_station n ≡ true) where
  next_in_lem : (n : ℕ) → n ∈ numbers → next numbers n ∈ numbers
  next_in_lem = (laws_of numbers ascending).2.stays_in

  module _ (boths : Boths) (ok : KeptRing numbers (rings_of boths)) where
    inside : (n : ℕ) → n ∈ numbers → is_participating (boths n).ring.phase ≡ true
    inside n m = ap is_participating (ok.each n m).participates

    -- an asking
    module _ (who : ℕ) (memory turn output mail : List ℕ) (lent : ℕ → Lent) (can : CanCome numbers boths (asked who memory turn output mail lent)) where
      abbrev event : Event
      event = asked who memory turn output mail lent

      -- what it writes, and what it leaves of the ring part of who is asked
      left_asked : {result : Asking} → ask_of (boths who) memory turn output mail ≡ result → (station : ℕ → Station)
          → result.both.ring ≡ station who
          → ((n : ℕ) → n ∈ numbers → ¬ (n ≡ who) → (handed (boths n) (lent n) result.answer result.output).ring ≡ station n)
          → (n : ℕ) → n ∈ numbers → rings_of (after_event boths event) n ≡ station n
      left_asked {result} is station own others n m = at (ℕ_discrete n who)
        where
          at : Dec (n ≡ who) → rings_of (after_event boths event) n ≡ station n
          at (yes e) = rw (eq-eqb n who e, rings_of) (ap (λ (a : Asking). a.both.ring) is ∙ own ∙ ap station (sym e))
          at (no e) = rw (ne_eqb n who e, rings_of) (ap (λ (a : Asking). (handed (boths n) (lent n) a.answer a.output).ring) is ∙ others n m e)

      -- whom it gives the token
      gives_asked : {result : Asking} → ask_of (boths who) memory turn output mail ≡ result
          → gives boths event ≡ base_counts.given_by result.answer result.output
      gives_asked is = rw is

      module _ (now : goes (boths who).ring (boths who).messages ≡ true) where
        letter_left : (n : ℕ) → n ∈ numbers → rings_of (after_event boths event) n ≡ rings_of boths n
        letter_left =
            left_asked (asks_letter (boths who) memory turn output mail can.1 can.2 now) (rings_of boths) refl
            (λ n m e. letter_handed (boths who) memory turn output mail can.1 can.2 now (boths n) (lent n) (can.3 n m) (inside n m))

        letter_does : Does both_counting numbers boths event
        letter_does =
            nothing
            (gives_asked refl
            ∙ letter_gives (boths who) memory turn output mail can.1 can.2 now (lent who).memory (lent who).assembly (can.3 who can.0))
            (λ n m. refl) (λ n m. ap (λ (s : Station). s.view) (letter_left n m))

      module _ (other : goes (boths who).ring (boths who).messages ≡ false) where
        abbrev plain : base.Event
        plain = base.asked who memory turn output lent

        asks_block : ask_of (boths who) memory turn output mail ≡ block_asked (boths who) memory turn output
        asks_block = rw (can.2, can.1, other)

        can_plain : base.CanCome numbers (rings_of boths) plain
        can_plain = (can.0, can.1, can.3)

        block_left : (n : ℕ) → n ∈ numbers → rings_of (after_event boths event) n ≡ base.after_event (rings_of boths) plain n
        block_left =
            left_asked asks_block (base.after_event (rings_of boths) plain) (sym (rw (eq-eqb who who refl)))
            (λ n m e.
            block_handed numbers next_in_lem are_stations who can.0 (boths who) (ok.each who can.0) memory turn output can.1 (boths n) (lent n)
            ∙ sym (rw (ne_eqb n who e)))

        block_does : Does both_counting numbers boths event
        block_does =
            does_same boths event plain refl
            (gives_asked asks_block
            ∙ block_gives numbers next_in_lem are_stations who can.0 (boths who) (ok.each who can.0) memory turn output can.1)
            (λ n. refl) block_left (does ascending are_stations (rings_of boths) plain ok can_plain)

      asked_kept : KeptRing numbers (rings_of (after_event boths event))
      asked_kept = by (goes (boths who).ring (boths who).messages) refl
        where
          by : (now : Bool) → goes (boths who).ring (boths who).messages ≡ now → KeptRing numbers (rings_of (after_event boths event))
          by true e = ok_same (letter_left e) ok
          by false e = ok_same (block_left e) (kept ascending are_stations (rings_of boths) (plain e) ok (can_plain e))

      asked_does : Does both_counting numbers boths event
      asked_does = by (goes (boths who).ring (boths who).messages) refl
        where
          by : (now : Bool) → goes (boths who).ring (boths who).messages ≡ now → Does both_counting numbers boths event
          by true e = letter_does e
          by false e = block_does e

    -- a stray: to the ring part of who gets it, it is a call of the base that can be a stray, or nothing
    module _ (who : ℕ) (call : Call) (member : who ∈ numbers) where
      stray_none : (after (boths who) call).ring ≡ (boths who).ring → (n : ℕ) → n ∈ numbers → rings_of (after_event boths (stray who call)) n ≡ rings_of boths n
      stray_none e n m = at (ℕ_discrete n who)
        where
          at : Dec (n ≡ who) → rings_of (after_event boths (stray who call)) n ≡ rings_of boths n
          at (yes p) = rw (eq-eqb n who p, rings_of) (e ∙ ap (rings_of boths) (sym p))
          at (no p) = rw (ne_eqb n who p, rings_of)

      stray_same : (plain : station.Call) → (after (boths who) call).ring ≡ station.after (boths who).ring plain → (n : ℕ) → n ∈ numbers
          → rings_of (after_event boths (stray who call)) n ≡ base.after_event (rings_of boths) (base.stray who plain) n
      stray_same plain e n m = by (eqb n who)
        where
          by : (test : Bool) → (cond test (after (boths who) call) (boths n)).ring ≡ cond test (station.after (boths who).ring plain) (boths n).ring
          by true = e
          by false = refl

    -- a call that leaves the ring part keeps the ring, and does nothing to the views
    module _ (who : ℕ) (call : Call) (member : who ∈ numbers) (stays : (after (boths who) call).ring ≡ (boths who).ring) where
      none_kept : KeptRing numbers (rings_of (after_event boths (stray who call)))
      none_kept = ok_same (stray_none who call member stays) ok

      none_does : Does both_counting numbers boths (stray who call)
      none_does = nothing refl (λ n m. refl) (λ n m. ap (λ (s : Station). s.view) (stray_none who call member stays n m))

    -- and so does one that is a stray of the base
    module _ (who : ℕ) (call : Call) (member : who ∈ numbers) (plain : station.Call)
        (same_left : (after (boths who) call).ring ≡ station.after (boths who).ring plain) (can : base.Stray numbers (boths who).ring plain) where
      base_kept : KeptRing numbers (rings_of (after_event boths (stray who call)))
      base_kept =
          ok_same (stray_same who call member plain same_left) (kept ascending are_stations (rings_of boths) (base.stray who plain) ok (member, can))

      base_does : Does both_counting numbers boths (stray who call)
      base_does =
          does_same boths (stray who call) (base.stray who plain) refl refl (λ n. refl) (stray_same who call member plain same_left)
          (does ascending are_stations (rings_of boths) (base.stray who plain) ok (member, can))

    -- a refused call leaves the ring part of a participant
    refused_stays : (who : ℕ) → who ∈ numbers → (call : Call) (refusal : Refusal) → verdict (boths who) call ≡ station.refused_by refusal
        → (after (boths who) call).ring ≡ (boths who).ring
    refused_stays who member call refusal e = by (refused_left_both (boths who) call refusal e).state
      where
        by : SparedBoth (boths who) (after (boths who) call) refusal → (after (boths who) call).ring ≡ (boths who).ring
        by (same p) = ap (λ (b : Both). b.ring) p
        by (turned_off six out p) = absurd (false≢true (sym out ∙ inside who member))

    frame_same : (who : ℕ) (octets memory assembly : List ℕ) (fields : Fields) → read_of octets ≡ Ok fields
        → (after (boths who) (hear octets memory assembly)).ring ≡ station.after (boths who).ring (station.hear octets memory assembly)
    frame_same who octets memory assembly fields read = rw (read_frame octets memory assembly fields read, after)

    stray_kept : (who : ℕ) (call : Call) → who ∈ numbers → Stray numbers (boths who) call → KeptRing numbers (rings_of (after_event boths (stray who call)))
    stray_kept who call member (refused refusal e) = none_kept who call member (refused_stays who member call refusal e)
    stray_kept who call member (starts settings allowance) = base_kept who call member (station.start settings) refl (base.starts settings)
    stray_kept who call member (posts message octets mail) = none_kept who call member refl
    stray_kept who call member (letters octets memory assembly letter) =
        none_kept who call member (letter_ring (boths who) octets memory assembly letter (inside who member))
    stray_kept who call member (harmless octets memory assembly fields read plain from) =
        base_kept who call member (station.hear octets memory assembly) (frame_same who octets memory assembly fields read)
        (base.harmless octets memory assembly fields read plain from)

    stray_does : (who : ℕ) (call : Call) → who ∈ numbers → Stray numbers (boths who) call → Does both_counting numbers boths (stray who call)
    stray_does who call member (refused refusal e) = none_does who call member (refused_stays who member call refusal e)
    stray_does who call member (starts settings allowance) = base_does who call member (station.start settings) refl (base.starts settings)
    stray_does who call member (posts message octets mail) = none_does who call member refl
    stray_does who call member (letters octets memory assembly letter) =
        none_does who call member (letter_ring (boths who) octets memory assembly letter (inside who member))
    stray_does who call member (harmless octets memory assembly fields read plain from) =
        base_does who call member (station.hear octets memory assembly) (frame_same who octets memory assembly fields read)
        (base.harmless octets memory assembly fields read plain from)

  -- every event that can come keeps what is kept of the ring parts, and does one of the three to the views
  both_kept : (boths : Boths) (event : Event) → KeptRing numbers (rings_of boths) → CanCome numbers boths event → KeptRing numbers (rings_of (after_event boths event))
  both_kept boths (asked who memory turn output mail lent) ok can = asked_kept boths ok who memory turn output mail lent can
  both_kept boths ticked ok can = kept ascending are_stations (rings_of boths) base.ticked ok can
  both_kept boths (stray who call) ok can = stray_kept boths ok who call can.0 can.1

  both_does : (boths : Boths) (event : Event) → KeptRing numbers (rings_of boths) → CanCome numbers boths event → Does both_counting numbers boths event
  both_does boths (asked who memory turn output mail lent) ok can = asked_does boths ok who memory turn output mail lent can
  both_does boths ticked ok can =
      does_same boths ticked base.ticked refl refl (λ n. refl) (λ n m. refl) (does ascending are_stations (rings_of boths) base.ticked ok can)
  both_does boths (stray who call) ok can = stray_does boths ok who call can.0 can.1

  orderly : Orderly both_counting numbers (λ (boths : Boths). KeptRing numbers (rings_of boths)) (CanCome numbers)
  orderly = record { within = λ boths ok n m. (ok.each n m).view; keeps = both_kept; does = both_does }

  -- `before` is the part "up to the first time that they all name one holder, or to its end if they never do", and `later` the rest.
  pub settles_from_both : {boths : Boths} {events before later : List Event} → KeptRing numbers (rings_of boths)
      → EachFinds after_event (CanCome numbers) boths events → FirstAgreement after_event (AllName both_counting numbers) boths events before later
      → CountingSettles both_counting numbers boths before later
  settles_from_both begins come first = counting_settles orderly ascending begins come first

-- What is proved of the definitions in specs/Strays.antt.
use Rattle.std.specs.Prelude.{Ok, ◌≡◌}
use Rattle.laws.specs.Usual.{refl, sym, ap, subst, ◌∙◌, true, false, false≢true, List, ℕ}
use Rattle.std.proofs.lemmas.Bool.{eqb-false}
use Rattle.frame.specs.Codes.{is_cyclic}
use Rattle.frame.specs.declared.Code.TheVariants.{Request}
use Rattle.frame_reading.specs.Reading.{read_of}
use Rattle.frame_round_trip.proofs.Accepted.{reads}
use Rattle.settling.specs.Ring.{◌∈◌}
use Rattle.station.specs.Rules.Calls.{Call, start, after, refused_by, verdict}
use Rattle.station.specs.Rules.Hearing.{Hearing, requested}
use Rattle.station.proofs.RefusedLeft.{refused_left}
use Rattle.station.specs.RefusedLeft.{Spared, same, turned_off}
use Rattle.station.specs.Rules.State.{is_participating}
use Rattle.station.proofs.States.ListKept.{set_either}
use Rattle.station.specs.Rules.Waits.{counts_as}
use Rattle.station.specs.Types.{Entry, Fields}
use Rattle.station.specs.declared.Station.{Station}
use Rattle.ring.proofs.Lists.{ring_kept}
use Rattle.ring.specs.Member.{InRing}
use Rattle.ring.proofs.Member.{listed}
use Rattle.ring.specs.Strays.{Kept}
use Rattle.station.proofs.Outcomes.HearCases as on_hearing_told
use Rattle.station.specs.Outcomes.HearCases as on_hearing

module _ {numbers : List ℕ} {number : ℕ} {station : Station} (in_ring : InRing numbers number station) where
  pub unchanged : Kept numbers number station station
  unchanged = record { in_ring = in_ring; view = refl; own = refl; elapsed = refl }

  pub unchanged_if : {left : Station} → left ≡ station → Kept numbers number station left
  unchanged_if e = subst (Kept numbers number station) (sym e) unchanged

  inside : is_participating station.phase ≡ true
  inside = ap is_participating in_ring.participates

  -- a refused call alters nothing of a participant
  pub refused_kept : (call : Call) (refusal : _) → verdict station call ≡ refused_by refusal → Kept numbers number station (after station call)
  refused_kept call refusal e = by (refused_left station call refusal e).state
    where
      by : Spared station (after station call) refusal → Kept numbers number station (after station call)
      by (same d) = unchanged_if d
      by (turned_off six out d) = absurd (false≢true (sym out ∙ inside))

  -- a start is refused
  pub start_kept : (settings : _) → after station (start settings) ≡ station
  start_kept settings = rw in_ring.participates

  -- a request of another station of the ring, with the one watch time, replaces its entry
  request_kept : (frame : Fields) → frame.source ∈ numbers → (counts_as frame.watch).0 ≡ station.own.watch.0 → ¬ (frame.source ≡ number)
      → Kept numbers number station (requested station frame)
  request_kept frame m timed other = record {
    in_ring = record {
      participates = in_ring.participates;
      own = in_ring.own;
      list = ring_kept number frame.source station.members _ (sym (listed in_ring frame.source m other)) ∙ in_ring.list;
      times = λ x p q.
          set_either (λ (entry : Entry). (counts_as entry.watch).0 ≡ station.own.watch.0) station.members.entries frame.source _ x
          (λ same. timed) (in_ring.times x p q);
      view = in_ring.view;
      areas = in_ring.areas;
      place = in_ring.place;
    };
    view = refl;
    own = refl;
    elapsed = refl;
  }

  -- a trigger, or a request of a station of the ring
  pub frame_kept : {octets memory assembly : List ℕ} {result : Hearing} (frame : Fields) → read_of octets ≡ Ok frame → is_cyclic frame.code ≡ false →
      (frame.code ≡ Request → (frame.source ∈ numbers) × ((counts_as frame.watch).0 ≡ station.own.watch.0)) → on_hearing.HearCases station octets memory assembly result →
      Kept numbers number station result.station
  frame_kept frame read plain from (on_hearing.refuses refusal) = unchanged
  frame_kept frame read plain from (on_hearing.turns_off out) = absurd (false≢true (sym out ∙ inside))
  frame_kept frame read plain from (on_hearing.gathers other facts parts) =
      let is = reads (on_hearing_told.whole_of facts.accepts) in
      let alike : frame ≡ other = cc in
      absurd (false≢true (sym plain ∙ ap (λ (f : Fields). is_cyclic f.code) alike ∙ facts.cyclic))
  frame_kept frame read plain from (on_hearing.heeds other facts entered) =
      on_hearing_told.entering {station = station} {frame = other} (λ left answer. Kept numbers number station left) (λ e. unchanged)
      (λ e c. absurd (false≢true (sym (ap is_participating e) ∙ inside))) (λ e c. absurd (false≢true (sym (on_hearing_told.awaits_outside e) ∙ inside)))
      (λ e c. unchanged) (λ e c. absurd (false≢true (sym (ap is_participating e) ∙ inside)))
      (λ e c. requested_kept e c) (λ e. unchanged) entered
    where
      requested_kept : on_hearing.Lists station.phase → other.code ≡ Request → Kept numbers number station (requested station other)
      requested_kept e c =
          let is = reads (on_hearing_told.whole_of facts) in
          let alike : other ≡ frame = cc in
          let among = from (ap (λ (f : Fields). f.code) (sym alike) ∙ c) in
          request_kept other (rw alike among.0) (rw alike among.1) (λ d. eqb-false _ _ (on_hearing_told.other_of facts (on_hearing_told.lists_on e)) (d ∙ sym in_ring.own))

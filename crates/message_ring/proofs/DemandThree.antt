-- Demand 3 of the ring of stations with messages. Assumes nothing.
use Rattle.std.specs.Prelude.{Ok, Err, ◌≡◌, ◌&&◌}
use Rattle.laws.specs.Usual.{refl, sym, ap, ◌∙◌, true, List, ℕ, arith, length, take, eqb, leb}
use Rattle.area.specs.Areas.{memory_octets}
use Rattle.frame.specs.Codes.{is_token}
use Rattle.frame.specs.declared.Fields.{Fields}
use Rattle.frame.specs.declared.Refusal.{Refusal}
use Rattle.frame_reading.specs.Reading.{read_of}
use Rattle.frame_reading.specs.Reading.{Read}
use Rattle.laws.specs.Tests.{first}
use Rattle.message_rules.proofs.Ring.Buffers.{letter_unread}
use Rattle.message_rules.proofs.Ring.Reached.{ring_reached}
use Rattle.message_rules.specs.Ring.Reached.{Reachable, called}
use Rattle.message_frames.specs.Frames.{whole_length, frame_of, output_of}
use Rattle.message_rules.proofs.Letters.LetterSent.{is_letter_lem, octets_are}
use Rattle.message_ring.specs.Demand.{LastCall, sent, heard, Disturbed, BothSettles}
use Rattle.message_ring.specs.Events.{Boths, rings_of, views_of, Event, after_event, both_counting, CanCome}
use Rattle.message_ring.proofs.Settles.{settles_from_both}
use Rattle.message_rules.specs.Rules.Again.{letter_going}
use Rattle.message_rules.specs.Rules.Calls.{Both, ask, hear, Hearing, Asking, received_verdict, carried_by, answer_by}
use Rattle.message_rules.proofs.Outcomes as outcomes_told
use Rattle.ring.proofs.DemandThree.{begins, are_stations}
use Rattle.ring.specs.DemandThree.{Fresh}
use Rattle.ring.proofs.Just.{asked_zero, heard_zero}
use Rattle.settling.specs.Counting.{AllName}
use Rattle.settling.proofs.First.{first_exists, agreed?}
use Rattle.settling.specs.First.{FirstAgreement}
use Rattle.settling.specs.Steps.{EachFinds}
use Rattle.station.specs.Rules.Calls.{unrefused}
use Rattle.station.specs.Types.{Asked}
use Rattle.station.specs.declared.Phase.TheVariants.{Participating}
use Rattle.message_rules.specs.Outcomes as outcomes
use Rattle.station.proofs.Outcomes.AskCases as on_asking
use Rattle.station.proofs.Outcomes.HearCases as on_hearing
use Rattle.station.specs.Rules.Asking as asking

pub left_by_calls : {octets : List ℕ} {both : Both} → LastCall octets both → Reachable both
left_by_calls (sent before memory turn output mail count reached answer written) = called (ask memory turn output mail) reached tt
left_by_calls {octets} (heard before memory assembly reached typed accepted) = called (hear octets memory assembly) reached typed

-- what an asking wrote, where it wrote the base's frame
asked_octets : (answer : Asked) (both : Both) (output : List ℕ) (count : ℕ) → answer_by answer (carried_by both answer output) ≡ Ok count
    → (other : ℕ) × (answer ≡ Ok other)
asked_octets (Ok other) both output count e = (other, refl)
asked_octets (Err refusal) both output count e = let z : ◌≡◌ {A = ℕ} 0 1 = cc in absurd (omega arith)

-- octets that are read are not refused
read_once : {read : Read} {frame : Fields} {refusal : Refusal} → read ≡ Ok frame → read ≡ Err refusal → ⊥
read_once p q = let z : ◌≡◌ {A = ℕ} 0 1 = cc in omega arith

module _ (octets : List ℕ) (token : Fields) (read : read_of octets ≡ Ok token) (is_token_lem : is_token token.code ≡ true) where
  -- a station that heard the token frame has restarted its watch, as one of the base
  heard_restarts : {before : Both} {memory assembly : List ℕ} {result : Hearing} → outcomes.HearCases before octets memory assembly result
      → received_verdict result.answer ≡ unrefused → result.both.ring.phase ≡ Participating → result.both.ring.elapsed.0 ≡ 0
  heard_restarts {memory = memory} {assembly} (outcomes.letter is) e p =
      absurd (read_once read (letter_unread octets memory assembly is))
  heard_restarts {before} {memory} {assembly} (outcomes.frame is) e p =
      heard_zero token read is_token_lem (on_hearing.hear_cases before.ring octets memory assembly) e p

  -- and so has one that sent it; a message is no token frame
  sent_restarts : {before : Both} {memory turn output mail : List ℕ} {count : ℕ} {result : Asking} → outcomes.AskCases before memory turn output mail result
      → result.answer ≡ Ok count → take count result.output ≡ octets → result.both.ring.phase ≡ Participating
      → result.both.ring.elapsed.0 ≡ 0
  sent_restarts (outcomes.refuses wrong) a w p = let z : ◌≡◌ {A = ℕ} 0 1 = cc in absurd (omega arith)
  sent_restarts {before} {memory} {turn} {output} {mail} {count} (outcomes.sends right lent now) a w p =
      let letter = letter_going before.ring.own.number before.messages in
      let same_count : whole_length letter ≡ count = cc in
      let is = sym w ∙ ap (λ (n : ℕ). take n (output_of letter mail output)) (sym same_count) ∙ octets_are before memory turn output mail lent right now in
      let buffers = first (eqb (length memory) memory_octets && eqb (length turn) memory_octets) (leb 1088 (length output)) lent in
      absurd (read_once read (ap read_of is ∙ letter_unread (frame_of letter mail) memory turn (is_letter_lem before memory turn output mail lent right now memory turn buffers)))
  sent_restarts {before} {memory} {turn} {output} (outcomes.blocks right other) a w p =
      let base = asking.ask_of before.ring memory turn output in
      asked_zero (on_asking.ask_cases before.ring memory turn output) (asked_octets base.answer before base.output _ a).1 p

restarts : {octets : List ℕ} {both : Both} (token : Fields) → read_of octets ≡ Ok token → is_token token.code ≡ true → LastCall octets both
    → both.ring.phase ≡ Participating → both.ring.elapsed.0 ≡ 0
restarts {octets} token read is_token_lem (sent before memory turn output mail count reached answer written) p =
    sent_restarts octets token read is_token_lem (outcomes_told.ask_cases before memory turn output mail) answer written p
restarts {octets} token read is_token_lem (heard before memory assembly reached typed accepted) p =
    heard_restarts octets token read is_token_lem (outcomes_told.hear_cases before octets memory assembly) accepted p

module _ {numbers : List ℕ} {boths : Boths} (ring : Disturbed numbers boths) where
  fresh : Fresh numbers (rings_of boths)
  fresh = record {
    own = ring.own;
    participates = ring.participates;
    list = ring.list;
    watch = ring.watch;
    listed = ring.listed;
    view = ring.view;
    reached = λ n m. ring_reached (left_by_calls (ring.last n m));
    restarted = λ n m. restarts ring.token ring.is_read ring.is_token_lem (ring.last n m) (ring.participates n m);
  }

  -- Of every disturbed ring and every list of events that can come, with `before` the part "up to the first time that they all name one
  -- holder, or to its end if they never do", and `later` the rest: the bounds, loose and sharp, and what holds from then on.
  pub demand_three_both : {events before later : List Event} → EachFinds after_event (CanCome numbers) boths events
      → FirstAgreement after_event (AllName both_counting numbers) boths events before later → BothSettles numbers boths before later
  demand_three_both come first = settles_from_both ring.ring (are_stations fresh) (begins fresh) come first

  -- Every list has such a first time (and only one: `first_unique`), so the whole is said of every list that can come.
  pub demand_three_both_whole : (events : List Event) → EachFinds after_event (CanCome numbers) boths events
      → (before : List Event) × (later : List Event) × FirstAgreement after_event (AllName both_counting numbers) boths events before later
      × BothSettles numbers boths before later
  demand_three_both_whole events come =
      let found = first_exists after_event (AllName both_counting numbers) (λ now. agreed? numbers (views_of now)) boths events in
      (found.0, found.1, found.2, demand_three_both come found.2)

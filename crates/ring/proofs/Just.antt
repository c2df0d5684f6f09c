-- A participant whose last call sent or heard a token frame has just restarted its watch. Assumes nothing.
use Rattle.std.specs.Prelude.{Ok, ◌≡◌}
use Rattle.laws.specs.Usual.{refl, sym, ap, ◌∙◌, true, false, false≢true, List, ℕ, arith}
use Rattle.frame.specs.Codes.{is_token, is_cyclic}
use Rattle.frame.specs.declared.Code.TheVariants.{Token, Cyclic, Request, Trigger}
use Rattle.frame_reading.specs.Reading.{read_of}
use Rattle.frame_round_trip.proofs.Accepted.{reads}
use Rattle.station.specs.Rules.Calls.{unrefused, refused_by, heard_verdict}
use Rattle.station.specs.Rules.State.{is_participating}
use Rattle.station.specs.Types.{Fields, Code, Refusal}
use Rattle.station.specs.declared.Phase.{Phase}
use Rattle.station.specs.declared.Phase.TheVariants.{Participating}
use Rattle.station.specs.declared.Station.{Station}
use Rattle.station.specs.Rules.Asking.{Asking}
use Rattle.station.specs.Rules.Hearing.{Hearing}
use Rattle.ring.specs.Demand.{LastCall, sent, heard}
use Rattle.station.proofs.Outcomes.AskCases as on_asking_told
use Rattle.station.proofs.Outcomes.HearCases as on_hearing_told
use Rattle.station.specs.Outcomes.AskCases as on_asking
use Rattle.station.specs.Outcomes.HearCases as on_hearing

-- two phases are not one
two_phases : {a b : Phase} → a ≡ b → is_participating a ≡ true → is_participating b ≡ false → ⊥
two_phases e p q = false≢true (sym q ∙ sym (ap is_participating e) ∙ p)

-- a station that participates after it was asked has restarted its watch
pub asked_zero : {station : Station} {memory turn output : List ℕ} {result : Asking} {count : ℕ} → on_asking.AskCases station memory turn output result →
    result.answer ≡ Ok count → result.station.phase ≡ Participating → result.station.elapsed.0 ≡ 0
asked_zero (on_asking.refuses refusal) a p = let z : ◌≡◌ {A = ℕ} 0 1 = cc in absurd (omega arith)
asked_zero (on_asking.sends lent is (on_asking.triggers e due)) a p = absurd (two_phases (sym p) refl refl)
asked_zero (on_asking.sends lent is (on_asking.requests e fallen)) a p = absurd (two_phases (sym p ∙ e) refl refl)
asked_zero (on_asking.sends lent is (on_asking.begins e fallen)) a p = refl
asked_zero (on_asking.sends lent is (on_asking.passes e held placed)) a p = refl

token_cyclic : (code : Code) → is_token code ≡ true → is_cyclic code ≡ true
token_cyclic Token e = refl
token_cyclic Cyclic e = refl
token_cyclic Request e = absurd (false≢true e)
token_cyclic Trigger e = absurd (false≢true e)

refused_not : {refusal : Refusal} → refused_by refusal ≡ unrefused → ⊥
refused_not e = let z : ◌≡◌ {A = ℕ} 0 1 = cc in omega arith

-- and so has one that participates after it heard a token frame, which does not make it participate
module _ {station : Station} {octets memory assembly : List ℕ} (frame : Fields) (read : read_of octets ≡ Ok frame) (token : is_token frame.code ≡ true) where
  cyclic : {other : Fields} → on_hearing.Accepts station octets memory assembly other → is_cyclic other.code ≡ true
  cyclic {other} facts =
      let is = reads (on_hearing_told.whole_of facts) in
      let same : frame ≡ other = cc in
      ap (λ (f : Fields). is_cyclic f.code) (sym same) ∙ token_cyclic frame.code token

  pub heard_zero : {result : Hearing} → on_hearing.HearCases station octets memory assembly result → heard_verdict result.answer ≡ unrefused →
      result.station.phase ≡ Participating → result.station.elapsed.0 ≡ 0
  heard_zero (on_hearing.refuses refusal) v = absurd (refused_not v)
  heard_zero (on_hearing.turns_off out) v = absurd (refused_not v)
  heard_zero (on_hearing.gathers other from parts) v = λ p. refl
  heard_zero (on_hearing.heeds other facts entered) v =
      on_hearing_told.entering {station = station} {frame = other} (λ left answer. left.phase ≡ Participating → left.elapsed.0 ≡ 0)
      (λ e p. absurd (two_phases (sym p ∙ e) refl refl)) (λ e c p. absurd (two_phases (sym p) refl refl)) (λ e c p. absurd (two_phases (sym p) refl refl))
      (λ e c p. absurd (two_phases (sym p) refl (on_hearing_told.awaits_outside e))) (λ e c p. absurd (two_phases (sym p) refl refl))
      (λ e c p. absurd (false≢true (sym (ap is_cyclic c) ∙ cyclic facts)))
      (λ e p. absurd (false≢true (sym (on_hearing_told.unnamed_plain e) ∙ cyclic facts))) entered

pub just_zero : {octets : List ℕ} {station : Station} (frame : Fields) → read_of octets ≡ Ok frame → is_token frame.code ≡ true → LastCall octets station →
    station.phase ≡ Participating → station.elapsed.0 ≡ 0
just_zero frame read token (sent before memory turn output count reached answer written) p = asked_zero (on_asking_told.ask_cases before memory turn output) answer p
just_zero {octets} frame read token (heard before memory assembly reached typed accepted) p =
    heard_zero frame read token (on_hearing_told.hear_cases before octets memory assembly) accepted p

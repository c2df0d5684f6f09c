-- Demand 1: "a numbered refusal changes no buffer, and no station state except in the one case that the table names". Assumes nothing.
use Rattle.std.specs.Prelude.{◌≡◌, ◌&&◌, ◌∷◌}
use Rattle.laws.specs.Usual.{[], refl, sym, ap₂, ◌∙◌, Bool, true, false, cond, List, ℕ, arith}
use Rattle.frame.specs.Codes.{is_cyclic}
use Rattle.station.specs.Rules.Calls.{Call, start, stop, tick, hear, ask, lent, refused_by, unrefused, verdict, switched_verdict, heard_verdict, asked_verdict}
use Rattle.station.proofs.Outcomes.HearCases.{entering, hear_cases}
use Rattle.station.specs.Outcomes.HearCases.{EnterCases, off, begins, joins, passes, reads, lists, ignores, HearCases, refuses, turns_off, gathers, heeds}
use Rattle.station.specs.Rules.Hearing.{Hearing, accepted}
use Rattle.station.specs.Rules.Starting.{Switching}
use Rattle.station.specs.Rules.State.{is_off, is_participating}
use Rattle.station.specs.Types.{Fields, Refusal, Station, Dropped, Heard}
use Rattle.station.specs.Rules.Asking.{Asking}
use Rattle.station.specs.RefusedLeft.{Spared, same, turned_off, Left}
use Rattle.station.proofs.Outcomes.AskCases as on_asking_told
use Rattle.station.proofs.Outcomes.SwitchCases as on_switching_told
use Rattle.station.specs.Outcomes.AskCases as on_asking
use Rattle.station.specs.Outcomes.SwitchCases as on_switching
use Rattle.station.specs.declared.Heard.TheVariants as heard
use Rattle.station.specs.declared.Token.TheVariants as tokens

-- a verdict is one thing only
one_verdict : {refusal : Refusal} → unrefused ≡ refused_by refusal → ⊥
one_verdict e = let z : ◌≡◌ {A = ℕ} 0 1 = cc in omega arith

-- a start or a stop: what is left where the answer is a refusal
switch_keeps : {station left : Station} {Reason : Type 0} {result : Switching} (refusal : Refusal) → on_switching.SwitchCases station left Reason result →
    switched_verdict result.answer ≡ refused_by refusal → result.station ≡ station
switch_keeps refusal (on_switching.refuses other) e = refl
switch_keeps refusal (on_switching.does reason) e = absurd (one_verdict e)

-- a frame that is accepted is not refused
pub accepted_unrefused : (station : Station) (frame : Fields) (octets memory assembly : List ℕ)
    → heard_verdict (accepted station frame octets memory assembly).answer ≡ unrefused
accepted_unrefused station frame octets memory assembly =
    either (is_participating station.phase && is_cyclic frame.code) _ _ refl (entered (is_off station.phase) (is_cyclic frame.code))
  where
    either : (test : Bool) (one other : Hearing) → heard_verdict one.answer ≡ unrefused → heard_verdict other.answer ≡ unrefused
        → heard_verdict (cond test one other).answer ≡ unrefused
    either true one other p q = p
    either false one other p q = q

    entered : (off cyclic : Bool) → heard_verdict (cond off heard.Off (cond cyclic (heard.Cyclic (tokens.None Dropped)) heard.Done)) ≡ unrefused
    entered true cyclic = refl
    entered false true = refl
    entered false false = refl

-- hearing: what is left where the answer is a refusal
entered_accepted : {station left : Station} {frame : Fields} {answer : Heard} → EnterCases station frame left answer → heard_verdict answer ≡ unrefused
entered_accepted entered =
    entering (λ left answer. heard_verdict answer ≡ unrefused) (λ e. refl) (λ e c. refl) (λ e c. refl) (λ e c. refl) (λ e c. refl) (λ e c. refl) (λ e. refl) entered

hear_keeps : {station : Station} {octets memory assembly : List ℕ} {result : Hearing} (refusal : Refusal) → HearCases station octets memory assembly result →
    heard_verdict result.answer ≡ refused_by refusal →
    Spared station result.station refusal × (result.memory ≡ memory) × (result.assembly ≡ assembly)
hear_keeps refusal (refuses other) e = (same refl, refl, refl)
hear_keeps refusal (turns_off out) e = (turned_off (cc) out refl, refl, refl)
hear_keeps refusal (gathers frame facts parts) e = absurd (one_verdict e)
hear_keeps refusal (heeds frame facts entered) e = absurd (one_verdict (sym (entered_accepted entered) ∙ e))

-- asking: what is left where the answer is a refusal
ask_keeps : {station : Station} {memory turn output : List ℕ} {result : Asking} (refusal : Refusal) → on_asking.AskCases station memory turn output result →
    asked_verdict result.answer ≡ refused_by refusal → (result.station ≡ station) × (result.turn ≡ turn) × (result.output ≡ output)
ask_keeps refusal (on_asking.refuses other) e = (refl, refl, refl)
ask_keeps refusal (on_asking.sends lent is sent) e = absurd (one_verdict e)

-- Every call that is refused leaves the state and every lent buffer as they were, but that number 6 before we participate leaves just what
-- stop leaves.
pub refused_left : (station : Station) (call : Call) (refusal : Refusal) → verdict station call ≡ refused_by refusal → Left station call refusal
refused_left station (start settings) refusal e =
    record { state = same (switch_keeps refusal (on_switching_told.start_cases station settings) e); buffers = refl }
refused_left station stop refusal e = record { state = same (switch_keeps refusal (on_switching_told.stop_cases station) e); buffers = refl }
refused_left station tick refusal e = absurd (one_verdict e)
refused_left station (hear octets memory assembly) refusal e =
    let kept = hear_keeps refusal (hear_cases station octets memory assembly) e in
    record { state = kept.0; buffers = ap₂ (λ (m a : List ℕ). octets ∷ m ∷ a ∷ []) kept.1 kept.2 }
refused_left station (ask memory turn output) refusal e =
    let kept = ask_keeps refusal (on_asking_told.ask_cases station memory turn output) e in
    record { state = same kept.0; buffers = ap₂ (λ (t o : List ℕ). memory ∷ t ∷ o ∷ []) kept.1 kept.2 }

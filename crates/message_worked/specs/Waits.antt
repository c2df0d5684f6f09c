-- Many ticks of a station of the pair that end no watch, by one law. Assumes nothing.
use Rattle.laws.specs.Usual.{refl, ap, ap₂, ◌∙◌, Bool, true, false, cond, [], ℕ, suc, arith, min, replicate, leb}
use Rattle.std.specs.Prelude.{◌≡◌, ◌&&◌, ◌+◌, ◌<◌, ◌≤◌, zero}
use Rattle.std.proofs.lemmas.Bool.{lt-leb}
use Rattle.std.proofs.Math.Bool.{and-false}
use Rattle.message.specs.declared.Mail.TheVariants.{Unconfirmed, Failed}
use Rattle.message.specs.declared.Slot.{Slot}
use Rattle.message_rules.specs.Rules.Again.{ticked, turned, slot_ticked}
use Rattle.message_rules.specs.Rules.Calls.{Both, tick, after}
use Rattle.message_rules.specs.Rules.State.{Messages}
use Rattle.message_worked.specs.Bringing.{long, settings, panel_of, participant}
use Rattle.message_worked.specs.Pair.{slot_of, gone_with, knowing}
use Rattle.settling.specs.Steps.{after_all}
use Rattle.station.specs.Panel.History.{is_taking}
use Rattle.station.specs.Rules.State.{counted, no_ticks}
use Rattle.station.specs.Rules.Ticking.{watch_ended, watch_of}
use Rattle.station.specs.Types.{Ticks}
use Rattle.station.specs.declared.Station.{Station}
use Rattle.panel.specs.Panel as panel
use Rattle.station.specs.Rules.Calls as base

-- A station whose watch has run for so many ticks, as many as since its last taking; what its message part is then.
module _ (number other view takings gap : ℕ) (messages : ℕ → Messages) where
  abbrev pub ring_at : ℕ → Station
  ring_at ticks = participant long number other ticks view (panel_of takings ticks gap)

  abbrev pub both_at : ℕ → Both
  both_at ticks = record { ring = ring_at ticks; messages = messages ticks }

  module _
      (times : (ticks : ℕ) → watch_of (ring_at ticks) ≡ 2550)
      (untaken : (ticks : ℕ) → is_taking (record { before = ring_at ticks; call = base.tick; left = ring_at (ticks + 1) }) ≡ false)
      (moves : (ticks : ℕ) → ticks < 1000 → ticked (messages ticks) ≡ messages (ticks + 1)) where
    ring_step : (ticks : ℕ) → ticks < 1000 → base.after (ring_at ticks) base.tick ≡ ring_at (ticks + 1)
    ring_step ticks few =
        let elapsed : Ticks = record { 0 = min 2550 (ticks + 1) } in
        let on = counted (ring_at ticks) (settings long number) elapsed no_ticks (panel.ticked (panel_of takings ticks gap)) in
        ap (λ (n : ℕ). cond (leb n (ticks + 1)) (watch_ended (ring_at ticks)) on) (times ticks)
        ∙ ap (λ (t : Bool). cond t (watch_ended (ring_at ticks)) on) (lt-leb 2550 (ticks + 1) (omega arith))
        ∙ ap₂ (λ (e r : ℕ). participant long number other e view (panel_of takings r gap)) (omega arith) (omega arith)

    both_step : (ticks : ℕ) → ticks < 1000 → after (both_at ticks) tick ≡ both_at (ticks + 1)
    both_step ticks few =
        ap (λ (s : Station). record {
          ring = s;
          messages = turned (is_taking (record { before = ring_at ticks; call = base.tick; left = s })) (ticked (messages ticks));
        })
        (ring_step ticks few)
        ∙ ap₂ (λ (t : Bool) (m : Messages). record { ring = ring_at (ticks + 1); messages = turned t m }) (untaken ticks) (moves ticks few)

    pub ticks_on : (more ticks : ℕ) → ticks + more ≤ 1000 → after_all after (both_at ticks) (replicate more tick) ≡ both_at (ticks + more)
    ticks_on zero ticks few = ap both_at (omega arith)
    ticks_on (suc more) ticks few =
        ap (λ (b : Both). after_all after b (replicate more tick)) (both_step ticks (omega arith))
        ∙ ticks_on more (ticks + 1) (omega arith)
        ∙ ap both_at (omega arith)

-- The slot of a message that has waited for one taking counts them.
slot_ticked_lem : (resends ticks : ℕ) → ticks < 1000 → slot_ticked (slot_of Unconfirmed ticks 1 resends) ≡ slot_of Unconfirmed (ticks + 1) 1 resends
slot_ticked_lem resends ticks few =
    ap (λ (t : Bool). cond (t && leb 3 resends) (slot_of Failed (min 1000 (ticks + 1)) 1 resends) (slot_of Unconfirmed (min 1000 (ticks + 1)) 1 resends))
    (and-false (leb 1000 (min 1000 (ticks + 1))))
    ∙ ap (λ (t : ℕ). slot_of Unconfirmed t 1 resends) (omega arith)

-- Station 1, which holds and waits for the confirmation of a message sent again so often
abbrev pub waiting_one : ℕ → ℕ → Both
waiting_one resends = both_at 1 2 1 2 0 (λ ticks. gone_with (slot_of Unconfirmed ticks 1 resends) false true)

pub one_waits : (resends : ℕ) → after_all after (waiting_one resends 0) (replicate 1000 tick) ≡ waiting_one resends 1000
one_waits resends =
    ticks_on 1 2 1 2 0 (λ ticks. gone_with (slot_of Unconfirmed ticks 1 resends) false true) (λ ticks. refl) (λ ticks. refl)
    (λ ticks few. ap (λ (s : Slot). gone_with s false true) (slot_ticked_lem resends ticks few))
    1000 0 (omega arith)

-- and station 2, which owes nothing
abbrev pub waiting_two : ℕ → Both
waiting_two = both_at 2 1 1 2 0 (λ ticks. knowing [])

pub two_waits : after_all after (waiting_two 0) (replicate 1000 tick) ≡ waiting_two 1000
two_waits = ticks_on 2 1 1 2 0 (λ ticks. knowing []) (λ ticks. refl) (λ ticks. refl) (λ ticks few. refl) 1000 0 (omega arith)

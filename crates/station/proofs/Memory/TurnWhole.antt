-- "Half a turn is never seen": where every frame is heard with the assembly buffer that the one before left, each turn that is written is the
-- data of blocks 1 to the last of its source, in order. Assumes nothing.
use Rattle.std.specs.Prelude.{◌≡◌, ◌&&◌, ◌∷◌, ◌+◌, ◌≤◌}
use Rattle.laws.specs.Usual.{[], refl, sym, subst, Bool, true, false, cond, false≢true, List, ℕ, arith, take, eqb}
use Rattle.std.proofs.Common.{ne_eqb}
use Rattle.block.specs.Blocks.{octets_of}
use Rattle.members.specs.Members.{entry_of, is_listed, strikes}
use Rattle.station.specs.Rules.Answers.{data_of}
use Rattle.station.proofs.States.KeepsStarting.{station_from}
use Rattle.station.specs.Rules.Calls.{Call, start, stop, tick, hear, ask, after}
use Rattle.station.specs.Rules.Data.{without}
use Rattle.station.specs.Memory.Gathers.{Parts, more, Gathers}
use Rattle.station.proofs.Memory.Gathers.{gathers_nothing, gathers_without, before_next}
use Rattle.station.proofs.Memory.GathersHeard.{hear_gathers}
use Rattle.station.specs.Rules.Hearing.{hear_of}
use Rattle.station.proofs.States.Sound.{sound}
use Rattle.station.proofs.Memory.MemorySame.{Whole}
use Rattle.station.specs.States.Reachable.{Reachable, unstarted, called}
use Rattle.station.specs.Rules.Starting.{Switching}
use Rattle.station.specs.Rules.State.{nothing}
use Rattle.station.proofs.Outcomes.SwitchCases.{switched_to, start_cases, stop_cases}
use Rattle.station.specs.Outcomes.SwitchCases.{SwitchCases}
use Rattle.station.specs.Rules.Ticking.{Ticking}
use Rattle.station.proofs.Memory.TurnJoined.{turn_joined}
use Rattle.station.specs.Types.{Fields, Station, Written, Token}
use Rattle.station.specs.Rules.Asking.{Asking}
use Rattle.station.specs.Memory.TurnWhole.{hears_nothing, Lending, begins, hears, calls}
use Rattle.station.proofs.Outcomes.AskCases as on_asking_told
use Rattle.station.proofs.Outcomes.TickCases as on_tick_told
use Rattle.station.specs.Outcomes.AskCases as on_asking
use Rattle.station.specs.Outcomes.TickCases as on_tick
use Rattle.station.specs.declared.Heard.TheVariants as answers

module _ {heard : List (List ℕ)} (station : Station) (assembly : List ℕ) (g : Gathers heard station.gathering assembly) where
  ended_gathers : (struck : Bool) → Gathers heard (cond struck (without station.view station.gathering) station.gathering) assembly
  ended_gathers true = gathers_without station.view station.gathering assembly g
  ended_gathers false = g

  tick_gathers : {result : Ticking} → on_tick.TickCases station result → Gathers heard result.station.gathering assembly
  tick_gathers (on_tick.off e) = g
  tick_gathers (on_tick.listens e) = g
  tick_gathers (on_tick.starts e t) = g
  tick_gathers (on_tick.lapses e t) = gathers_nothing assembly
  tick_gathers (on_tick.begins e t) = gathers_nothing assembly
  tick_gathers (on_tick.gives_up e t) = gathers_nothing assembly
  tick_gathers (on_tick.learns e t r) = g
  tick_gathers (on_tick.waits e t r) = g
  tick_gathers (on_tick.ends e t) = ended_gathers (is_listed station.members station.view && strikes station.members station.view)
  tick_gathers (on_tick.runs e t) = g

  ask_gathers : {memory turn output : List ℕ} {result : Asking} → on_asking.AskCases station memory turn output result
      → Gathers heard result.station.gathering assembly
  ask_gathers (on_asking.refuses refusal) = g
  ask_gathers (on_asking.sends lent is (on_asking.triggers e due)) = gathers_nothing assembly
  ask_gathers (on_asking.sends lent is (on_asking.requests e fallen)) = g
  ask_gathers (on_asking.sends lent is (on_asking.begins e fallen)) = gathers_nothing assembly
  ask_gathers (on_asking.sends lent is (on_asking.passes e held placed)) = g

  switch_gathers : {left : Station} {Reason : Type 0} {result : Switching} → SwitchCases station left Reason result → left.gathering ≡ nothing
      → Gathers heard result.station.gathering assembly
  switch_gathers cases e = switched_to (λ (s : Station). Gathers heard s.gathering assembly) cases g (λ reason. rw e (gathers_nothing assembly))

pub lending_reached : {heard : List (List ℕ)} {station : Station} {assembly : List ℕ} → Lending heard station assembly → Reachable station
lending_reached (begins assembly) = unstarted
lending_reached (hears {assembly = assembly} before octets memory typed) = called (hear octets memory assembly) (lending_reached before) typed
lending_reached (calls before call typed other) = called call (lending_reached before) typed

call_gathers : {heard : List (List ℕ)} (station : Station) (assembly : List ℕ) (call : Call) → hears_nothing call ≡ true → Gathers heard station.gathering assembly
    → Gathers heard (after station call).gathering assembly
call_gathers station assembly (start settings) e g = switch_gathers station assembly g (start_cases station settings) refl
call_gathers station assembly stop e g = switch_gathers station assembly g (stop_cases station) refl
call_gathers station assembly tick e g = tick_gathers station assembly g (on_tick_told.tick_cases station)
call_gathers station assembly (hear octets memory lent) e g = absurd (false≢true e)
call_gathers station assembly (ask memory turn output) e g = ask_gathers station assembly g (on_asking_told.ask_cases station memory turn output)

-- what is gathered stands at the front of that buffer
pub lending_gathers : {heard : List (List ℕ)} (station : Station) (assembly : List ℕ) → Lending heard station assembly → Gathers heard station.gathering assembly
lending_gathers _ _ (begins assembly) = gathers_nothing assembly
lending_gathers _ _ (hears {station = station} {assembly = assembly} before octets memory typed) =
    hear_gathers station octets memory assembly (sound station (lending_reached before)) (lending_gathers station assembly before)
lending_gathers _ _ (calls {station = station} {assembly = assembly} before call typed other) =
    call_gathers station assembly call other (lending_gathers station assembly before)

-- Each turn that is written is blocks 1 to the last of its source, in order, which are the latest cyclic frames accepted that are no repeats, the
-- one just heard included.
pub turn_whole : {heard : List (List ℕ)} (station : Station) (assembly : List ℕ) → Lending heard station assembly → (octets memory : List ℕ) (token : Token)
    → (hear_of station octets memory assembly).answer ≡ answers.Cyclic token → data_of token ≡ Written
    → (frame : Fields) × Whole station octets memory assembly frame
    × Parts frame.source (octets ∷ heard) frame.block
    (take (octets_of (entry_of station.members frame.source).areas) (hear_of station octets memory assembly).assembly)
turn_whole {heard} station assembly lending octets memory token e w =
    let reached = lending_reached lending in
    let found = turn_joined station reached octets memory assembly token e w in
    let frame : Fields = found.0 in
    let whole : Whole station octets memory assembly frame = found.1 in
    let from = station_from frame.source ((sound station reached).list.each frame.source whole.listed).station in
    let some = nonzero frame.source from in
    let parts = before_next station.gathering frame assembly (lending_gathers station assembly lending) some (eqb frame.block 1)
    (eqb station.gathering.source frame.source) (eqb (station.gathering.blocks + 1) frame.block) refl refl refl whole.next in
    (frame, whole, subst (Parts frame.source (octets ∷ heard) frame.block) (sym found.3) (more parts.1 octets frame whole.header whole.body whole.cyclic refl parts.2))
  where
    nonzero : (n : ℕ) → 1 ≤ n → eqb n 0 ≡ false
    nonzero n h = ne_eqb n 0 (λ q. omega arith)

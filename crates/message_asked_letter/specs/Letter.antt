-- Whether a message goes, by the core and the outgoing side alone, and what follows where it goes. Assumes nothing.
use Rattle.std.specs.Prelude.{Ok, ◌≡◌, ◌&&◌, ◌||◌, ◌≤◌}
use Rattle.laws.specs.Usual.{refl, sym, ap, ◌∙◌, Bool, true, false, false≢true, List, ℕ, eqb, leb}
use Rattle.std.proofs.Common.{leb-true}
use Rattle.boundary_answers.specs.Numbers.{frame_answer}
use Rattle.boundary_answers.specs.declared.Answer.{Answer}
use Rattle.boundary_core.specs.Crossing.{station_of}
use Rattle.boundary_core.specs.declared.Core.{Core}
use Rattle.boundary_holder.specs.Held.{holds_block}
use Rattle.boundary_refused.specs.Taken.{participating_in}
use Rattle.boundary_told.specs.Told.{asked_told, written_told}
use Rattle.laws.specs.Tests.{first, second}
use Rattle.message.specs.declared.Letter.{Letter}
use Rattle.message_frames.specs.Frames.{whole_length}
use Rattle.message_going.specs.Going.{may_go, goes_by}
use Rattle.message_places.specs.Outgoing.{outgoing_of}
use Rattle.message_rules.proofs.Outcomes.{goes_ready}
use Rattle.message_rules.specs.Rules.Again.{is_waiting, is_unconfirmed, is_open, is_due, is_to_go}
use Rattle.message_rules.specs.Rules.Cycle.{is_measured, cycle_lets, is_writable, is_before_blocks, goes}
use Rattle.message_rules.specs.Rules.State.{Messages}
use Rattle.station.specs.Rules.Asking.{placed_in, due_in}
use Rattle.station.specs.Rules.State.{is_participating}
use Rattle.station.specs.Types.{Members}
use Rattle.station.specs.declared.Phase.{Phase}
use Rattle.station.specs.declared.Phase.TheVariants.{Off, Listening, Startup, Joining, Participating}
use Rattle.station.specs.declared.Station.{Station}

-- a participant's block is due where it holds one
due_held : (core : Core) (members : Members)
    → (is_participating core.phase && due_in core.phase (station_of core members)) ≡ holds_block core
due_held core members =
    due_in_lem core.phase
    ∙ ap (λ (t : Bool). t && (eqb core.view core.own.number && placed_in core.own.areas core.block)) (participating_in core.phase)
  where
    due_in_lem : (phase : Phase)
        → (is_participating phase && due_in phase (station_of core members))
        ≡ (is_participating phase && (eqb core.view core.own.number && placed_in core.own.areas core.block))
    due_in_lem Off = refl
    due_in_lem Listening = refl
    due_in_lem Startup = refl
    due_in_lem Joining = refl
    due_in_lem Participating = refl

pub goes_on : (core : Core) (members : Members) (messages : Messages)
    → goes (station_of core members) messages ≡ ((holds_block core && eqb core.block 0) && may_go core.panel (outgoing_of messages))
goes_on core members messages =
    goes_by (station_of core members) messages
    ∙ ap (λ (t : Bool). (t && eqb core.block 0) && may_go core.panel (outgoing_of messages)) (due_held core members)

-- a message that neither waits nor is unconfirmed does not go
pub closed_stays : (station : Station) (messages : Messages) → is_open messages.slot.mail ≡ false → goes station messages ≡ false
closed_stays station messages closed =
    by (is_before_blocks station messages) (is_measured station.panel) (cycle_lets station.panel.gap.0 messages.allowed.0 messages.went_last)
    (is_writable messages.slot) (is_waiting messages.slot.mail) (is_unconfirmed messages.slot.mail) (is_due messages.slot) closed
  where
    by : (before measured lets writable waits sent due : Bool) → (waits || sent) ≡ false
        → (before && (measured && (lets && ((waits || (sent && due)) && writable)))) ≡ false
    by before measured lets writable true sent due e = absurd (false≢true (sym e))
    by before measured lets writable false true due e = absurd (false≢true (sym e))
    by false measured lets writable false false due e = refl
    by true false lets writable false false due e = refl
    by true true false writable false false due e = refl
    by true true true writable false false due e = refl

-- its data fit a frame
pub goes_small : (station : Station) (messages : Messages) → goes station messages ≡ true → messages.slot.octets ≤ 1024
goes_small station messages now =
    leb-true messages.slot.octets 1024
    (first (leb messages.slot.octets 1024) _ (second (is_to_go messages.slot) _ (goes_ready station messages now)))

-- what is told of the frame that was written
pub letter_told : {going letter : Letter} {output written : List ℕ} {answer r : Answer} → going ≡ letter → output ≡ written
    → answer ≡ frame_answer (whole_length going) → r ≡ written_told output answer → r ≡ asked_told output (Ok (whole_length letter))
letter_told {output = output} same is framed told =
    told ∙ ap (written_told output) framed ∙ ap (λ (l : Letter). asked_told output (Ok (whole_length l))) same

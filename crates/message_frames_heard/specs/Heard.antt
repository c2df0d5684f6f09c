-- What a frame of the base does to the message part: its confirmation, and then the taking that it brings; or all is forgotten, where it turned us off.
-- Assumes nothing.
use Rattle.std.specs.Prelude.{◌≡◌, ◌&&◌, ◌-◌, ◌≤◌}
use Rattle.laws.specs.Usual.{refl, ap, ◌∙◌, Bool, true, false, cond, List, ℕ, arith, length, eqb, leb}
use Rattle.std.proofs.Math.Bool.{and_assoc}
use Rattle.std.proofs.Common.{leb-true}
use Rattle.boundary_core.specs.Crossing.{core_of, station_kept}
use Rattle.boundary_core.specs.declared.Core.{Core}
use Rattle.boundary_told.specs.Told.{heard_told}
use Rattle.frame.specs.Octets.{octet_at, word_at}
use Rattle.frame.specs.Positions.{SNA, BSIZE}
use Rattle.laws.specs.Tests.{first, second}
use Rattle.message_frames.specs.Confirmations.{is_set, confirms, confirmation_in}
use Rattle.message_frames.specs.Places.{M_CTL, RPL, confirmation_end}
use Rattle.message_rules.specs.Rules.Again.{turned}
use Rattle.message_rules.specs.Rules.Calls.{frame_heard, takes, turns_off}
use Rattle.message_rules.specs.Rules.Confirming.{confirmed, is_cyclic_answer}
use Rattle.message_rules.specs.Rules.State.{Messages, no_messages}
use Rattle.station.specs.Rules.Hearing.{hear_of}
use Rattle.station.specs.Rules.State.{is_participating}
use Rattle.station.specs.declared.Heard.{Heard}
use Rattle.station.specs.declared.Station.{Station}
use Rattle.station.specs.Rules.Calls as base
use Rattle.station.specs.declared.Heard.TheVariants as heard

-- the message part after it
abbrev pub messages_heard : Station → Messages → List ℕ → List ℕ → List ℕ → Messages
messages_heard station messages octets memory assembly =
    (frame_heard (record { ring = station; messages = messages }) octets (hear_of station octets memory assembly)
    (takes station (base.hear octets memory assembly))).both.messages

-- its confirmation, where it may have one
abbrev pub read_in : Bool → ℕ → List ℕ → Messages → Messages
read_in may own octets messages = cond (may && confirms octets) (confirmed own messages (octet_at octets SNA) (confirmation_in octets)) messages

pub cyclic_word : (octets : List ℕ) (answer : Heard) → eqb (heard_told octets answer).word 2 ≡ is_cyclic_answer answer
cyclic_word octets heard.Off = refl
cyclic_word octets heard.Done = refl
cyclic_word octets (heard.Cyclic token) = refl
cyclic_word octets (heard.Refused refusal) = refl

-- the phase that a core tells
pub phase_after : (core : Core) (left : Station) → core ≡ core_of left → core.phase ≡ left.phase
phase_after core left is = ap (λ (k : Core). k.phase) is ∙ ap (λ (s : Station). s.phase) (station_kept left)

module _ (station : Station) (messages : Messages) (octets memory assembly : List ℕ) where
  pub forgotten : turns_off station (hear_of station octets memory assembly).station ≡ true
      → messages_heard station messages octets memory assembly ≡ no_messages
  forgotten off = rw off

  pub still_on : (may taking : Bool) → turns_off station (hear_of station octets memory assembly).station ≡ false
      → may ≡ (is_participating station.phase && is_cyclic_answer (hear_of station octets memory assembly).answer)
      → taking ≡ takes station (base.hear octets memory assembly)
      → turned taking (read_in may station.own.number octets messages) ≡ messages_heard station messages octets memory assembly
  still_on may taking on m t =
      rw on
      (ap (λ (k : Bool). turned k (read_in may station.own.number octets messages)) t
      ∙ ap (λ (k : Bool). turned (takes station (base.hear octets memory assembly))
      (cond k (confirmed station.own.number messages (octet_at octets SNA) (confirmation_in octets)) messages))
      (ap (λ (k : Bool). k && confirms octets) m
      ∙ and_assoc (is_participating station.phase) (is_cyclic_answer (hear_of station octets memory assembly).answer) (confirms octets)))

-- a frame with a confirmation has room for it
pub enough : (octets : List ℕ) → confirms octets ≡ true → 84 ≤ length octets
enough octets is =
    let behind = second (is_set RPL (octet_at octets M_CTL)) _ is in
    let header = leb-true confirmation_end (length octets - word_at octets BSIZE) (first (leb confirmation_end (length octets - word_at octets BSIZE)) _ behind) in
    omega arith

-- An asking at a station with messages where no message goes: to the ring parts it is the asking at a ring of the base. Assumes nothing.
use Rattle.std.specs.Prelude.{Ok, Err, ◌≡◌, ◌+◌, ◌≤◌}
use Rattle.laws.specs.Usual.{refl, sym, ap, ◌∙◌, Bool, true, false, cond, List, ℕ, arith, length, take}
use Rattle.frame.specs.declared.Fields.{Fields}
use Rattle.frame_reading.specs.Reading.{is_station, read_of, data_size}
use Rattle.frame_writing.specs.Writing.{whole_length}
use Rattle.message_rules.proofs.Carried.CarriedRead.{Plain, plain_of}
use Rattle.message_rules.specs.Carried.Wrote.{Wrote}
use Rattle.message_rules.proofs.Carried.Wrote.{asked_wrote, wrote_read, wrote_ring}
use Rattle.message_ring.specs.Events.{handed}
use Rattle.message_rules.specs.Rules.Calls.{Both, block_asked, carried_by, answer_by}
use Rattle.ring.specs.Counts.{given_by, token_to}
use Rattle.ring.specs.Events.{Lent}
use Rattle.ring.specs.Member.{InRing}
use Rattle.ring.proofs.Steps.{sends, cyclic_is, idle_answer, asked_answer, asked_read}
use Rattle.settling.specs.Ring.{◌∈◌, next}
use Rattle.station.specs.Rules.State.{holds}
use Rattle.station.specs.Types.{Asked}
use Rattle.frame.specs.declared.Refusal.TheVariants as refusals
use Rattle.ring.specs.Events as base
use Rattle.station.specs.Rules.Asking as asking

-- the sender, a station of the ring
module _ (numbers : List ℕ) (next_in_lem : (x : ℕ) → x ∈ numbers → next numbers x ∈ numbers) (are_stations : (x : ℕ) → x ∈ numbers → is_station x ≡ true)
    (who : ℕ) (member : who ∈ numbers) (sender : Both) (in_ring : InRing numbers who sender.ring)
    (memory turn output : List ℕ) (right : asking.lent_right memory turn output ≡ true) where
  abbrev frame : Fields
  frame = sends numbers next_in_lem are_stations who member sender.ring in_ring

  abbrev wrote_base : asking.Asking
  wrote_base = asking.ask_of sender.ring memory turn output

  abbrev octets : List ℕ
  octets = take (whole_length frame) wrote_base.output

  -- a frame of a block, with a header of 64 octets
  size_is : data_size frame ≡ frame.size
  size_is = ap (λ (t : Bool). cond t frame.size 0) (cyclic_is numbers next_in_lem are_stations who member sender.ring in_ring)

  long_is : frame.length ≡ 64 + frame.size
  long_is = rw in_ring.participates

  module _ (held : holds sender.ring ≡ true) where
    read : read_of octets ≡ Ok frame
    read = asked_read numbers next_in_lem are_stations who member sender.ring in_ring memory turn output right held

    answer_is : wrote_base.answer ≡ Ok (whole_length frame)
    answer_is = asked_answer numbers next_in_lem are_stations who member sender.ring in_ring memory turn output right held

    plain : Plain octets frame
    plain = plain_of octets frame read (cyclic_is numbers next_in_lem are_stations who member sender.ring in_ring) long_is

    wrote : Wrote octets
        (take (carried_by sender (Ok (whole_length frame)) wrote_base.output).count
        (carried_by sender (Ok (whole_length frame)) wrote_base.output).output)
    wrote =
        let whole : whole_length frame ≡ length octets = ap (λ (n : ℕ). 64 + n) size_is ∙ plain.header in
        let least : 64 ≤ whole_length frame = omega arith in
        asked_wrote (whole_length frame) wrote_base.output (sym whole) least sender

    -- whom it gives the token to
    gives_held : given_by (block_asked sender memory turn output).answer (block_asked sender memory turn output).output
        ≡ given_by wrote_base.answer wrote_base.output
    gives_held =
        let back = wrote_read plain wrote in
        ap (λ (a : Asked). given_by (answer_by a (carried_by sender a wrote_base.output)) (carried_by sender a wrote_base.output).output) answer_is
        ∙ ap token_to back.1
        ∙ sym (ap (λ (a : Asked). given_by a wrote_base.output) answer_is ∙ ap token_to read)

    -- what each other is handed
    handed_held : (listener : Both) (lent : Lent)
        → (handed listener lent (block_asked sender memory turn output).answer (block_asked sender memory turn output).output).ring
        ≡ base.handed listener.ring lent wrote_base.answer wrote_base.output
    handed_held listener lent =
        ap (λ (a : Asked). (handed listener lent (answer_by a (carried_by sender a wrote_base.output)) (carried_by sender a wrote_base.output).output).ring) answer_is
        ∙ wrote_ring plain wrote listener lent.memory lent.assembly
        ∙ sym (ap (λ (a : Asked). base.handed listener.ring lent a wrote_base.output) answer_is)

  -- nobody but a holder has a frame due
  module _ (idle : holds sender.ring ≡ false) where
    idle_is : wrote_base.answer ≡ Err refusals.NotDue
    idle_is = idle_answer numbers next_in_lem are_stations who member sender.ring in_ring memory turn output right idle

    gives_idle : given_by (block_asked sender memory turn output).answer (block_asked sender memory turn output).output
        ≡ given_by wrote_base.answer wrote_base.output
    gives_idle =
        ap (λ (a : Asked). given_by (answer_by a (carried_by sender a wrote_base.output)) (carried_by sender a wrote_base.output).output) idle_is
        ∙ sym (ap (λ (a : Asked). given_by a wrote_base.output) idle_is)

    handed_idle : (listener : Both) (lent : Lent)
        → (handed listener lent (block_asked sender memory turn output).answer (block_asked sender memory turn output).output).ring
        ≡ base.handed listener.ring lent wrote_base.answer wrote_base.output
    handed_idle listener lent =
        ap (λ (a : Asked). (handed listener lent (answer_by a (carried_by sender a wrote_base.output)) (carried_by sender a wrote_base.output).output).ring) idle_is
        ∙ sym (ap (λ (a : Asked). base.handed listener.ring lent a wrote_base.output) idle_is)

  pub block_gives : given_by (block_asked sender memory turn output).answer (block_asked sender memory turn output).output
      ≡ given_by wrote_base.answer wrote_base.output
  block_gives = by (holds sender.ring) refl
    where
      by : (held : Bool) → holds sender.ring ≡ held
          → given_by (block_asked sender memory turn output).answer (block_asked sender memory turn output).output ≡ given_by wrote_base.answer wrote_base.output
      by true e = gives_held e
      by false e = gives_idle e

  pub block_handed : (listener : Both) (lent : Lent)
      → (handed listener lent (block_asked sender memory turn output).answer (block_asked sender memory turn output).output).ring
      ≡ base.handed listener.ring lent wrote_base.answer wrote_base.output
  block_handed listener lent = by (holds sender.ring) refl
    where
      by : (held : Bool) → holds sender.ring ≡ held
          → (handed listener lent (block_asked sender memory turn output).answer (block_asked sender memory turn output).output).ring
          ≡ base.handed listener.ring lent wrote_base.answer wrote_base.output
      by true e = handed_held e listener lent
      by false e = handed_idle e listener lent

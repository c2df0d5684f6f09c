-- What the rules say of a message, by the tests. Assumes nothing.
use Rattle.std.specs.Prelude.{◌≡◌, ◌&&◌}
use Rattle.laws.specs.Usual.{refl, sym, Bool, true, false, cond, not, false≢true, ℕ}
use Rattle.boundary_answers.specs.Numbers.{off_answer, done_answer, refused_answer, heard_answer}
use Rattle.boundary_core.specs.Crossing.{station_of}
use Rattle.boundary_core.specs.declared.Core.{Core}
use Rattle.laws.specs.Tests.{first, second}
use Rattle.members.specs.Members.{is_listed}
use Rattle.members.specs.declared.Members.{Members}
use Rattle.message.specs.declared.Letter.{Letter}
use Rattle.message_frames.specs.Frames.{addressed, measured}
use Rattle.message_rules.specs.Rules.Hearing.{need, refused, unchanged, letter_heard, taken}
use Rattle.message_rules.specs.Rules.State.{Messages, no_messages}
use Rattle.station.specs.Rules.Starting.{stop_of}
use Rattle.station.specs.Rules.State.{is_off, is_participating, stopped}
use Rattle.station.specs.declared.Phase.{Phase}
use Rattle.station.specs.declared.Phase.TheVariants.{Off, Listening, Startup, Joining, Participating}
use Rattle.station.specs.declared.Station.{Station}
use Rattle.message_letter_tests.specs.Tests.{is_taken_by, turns_off_by, is_stranger_by, is_for_us_by, is_received_by, passed_by}
use Rattle.frame.specs.declared.Refusal.TheVariants as refusals
use Rattle.message.specs.declared.Received.TheVariants as received
use Rattle.station.specs.declared.Heard.TheVariants as heard

-- an off station does not participate
in_on : (phase : Phase) → is_participating phase ≡ true → is_off phase ≡ false
in_on Off e = absurd (false≢true e)
in_on Listening e = refl
in_on Startup e = refl
in_on Joining e = refl
in_on Participating e = refl

module _ (core : Core) (members : Members) (given : ℕ) (letter : Letter) where
  pub turned_off : (messages : Messages) → turns_off_by core letter ≡ true
      → letter_heard (station_of core members) messages given letter ≡ refused (stop_of (station_of core members)).station no_messages refusals.Taken
  turned_off messages turns =
      let address = first (addressed letter) _ turns in
      let six = first (is_taken_by core letter) _ (second (addressed letter) _ turns) in
      let outside : is_participating core.phase ≡ false =
      negated _ (second (is_taken_by core letter) _ (second (addressed letter) _ turns)) in
      let on : not (is_off core.phase) ≡ true = first (not (is_off core.phase)) _ six in
      rw (address, six, outside, on)
    where
      negated : (a : Bool) → not a ≡ true → a ≡ false
      negated true e = absurd (false≢true e)
      negated false e = refl

  module _ (known : Bool) (is : is_listed members letter.source ≡ known) (messages : Messages) where
    abbrev station : Station
    station = station_of core members

    pub received_heard : is_received_by core known given letter ≡ true → letter_heard station messages given letter ≡ taken station messages letter
    received_heard all =
        let address = first (addressed letter) _ all in
        let e₁ = second (addressed letter) _ all in
        let six = first (not (is_taken_by core letter)) _ e₁ in
        let e₂ = second (not (is_taken_by core letter)) _ e₁ in
        let size = first (measured given letter) _ e₂ in
        let e₃ = second (measured given letter) _ e₂ in
        let nine = first (not (is_stranger_by core known)) _ e₃ in
        let ours = second (not (is_stranger_by core known)) _ e₃ in
        let on = in_on core.phase (first (is_participating core.phase) _ ours) in
        rw (is, address, six, size, nine, ours, on)

    pub passed_heard : turns_off_by core letter ≡ false → is_received_by core known given letter ≡ false
        → letter_heard station messages given letter ≡ unchanged station messages (received.Told (passed_by core known given letter))
    passed_heard stays passes =
        rw is
        (by (addressed letter) (is_taken_by core letter) (is_participating core.phase) (measured given letter) (is_stranger_by core known)
        (is_off core.phase) (is_for_us_by core letter) stays passes)
      where
        by : (a t p m n o u : Bool) → (a && (t && not p)) ≡ false → (a && (not t && (m && (not n && u)))) ≡ false
            → need a (refused station messages refusals.Address)
            (need (not t) (refused (cond p station (stopped station)) (cond p messages no_messages) refusals.Taken)
            (need m (refused station messages refusals.Block)
            (need (not n) (refused station messages refusals.Stranger)
            (cond o (unchanged station messages (received.Told heard.Off))
            (cond u (taken station messages letter)
            (unchanged station messages (received.Told heard.Done)))))))
            ≡ unchanged station messages (received.Told
            (cond (not a) (heard.Refused refusals.Address)
            (cond t (heard.Refused refusals.Taken)
            (cond (not m) (heard.Refused refusals.Block)
            (cond n (heard.Refused refusals.Stranger)
            (cond o heard.Off heard.Done))))))
        by false t p m n o u x y = refl
        by true true true m n o u x y = refl
        by true true false m n o u x y = absurd (false≢true (sym x))
        by true false p false n o u x y = refl
        by true false p true true o u x y = refl
        by true false p true false true u x y = refl
        by true false p true false false true x y = absurd (false≢true (sym y))
        by true false p true false false false x y = refl

-- the answer to one that is not received, by the tests of the code, each asked where those before it did not apply
module _ (core : Core) (known : Bool) (given : ℕ) (letter : Letter) where
  pub answer_five : addressed letter ≡ false → heard_answer (passed_by core known given letter) ≡ refused_answer refusals.Address
  answer_five five = rw five

  module _ (address : addressed letter ≡ true) where
    pub answer_six : is_taken_by core letter ≡ true → heard_answer (passed_by core known given letter) ≡ refused_answer refusals.Taken
    answer_six six = rw (address, six)

    module _ (free : is_taken_by core letter ≡ false) where
      pub answer_eight : measured given letter ≡ false → heard_answer (passed_by core known given letter) ≡ refused_answer refusals.Block
      answer_eight eight = rw (address, free, eight)

      module _ (size : measured given letter ≡ true) where
        pub answer_nine : is_stranger_by core known ≡ true → heard_answer (passed_by core known given letter) ≡ refused_answer refusals.Stranger
        answer_nine nine = rw (address, free, size, nine)

        module _ (friend : is_stranger_by core known ≡ false) where
          pub answer_off : is_off core.phase ≡ true → heard_answer (passed_by core known given letter) ≡ off_answer
          answer_off out = rw (address, free, size, friend, out)

          pub answer_done : is_off core.phase ≡ false → heard_answer (passed_by core known given letter) ≡ done_answer
          answer_done on = rw (address, free, size, friend, on)

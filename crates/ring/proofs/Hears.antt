-- A station of the ring hears what another one sends. Assumes nothing.
use Rattle.std.specs.Prelude.{Ok, ◌≡◌}
use Rattle.laws.specs.Usual.{sym, ◌∙◌, true, List, ℕ, eqb}
use Rattle.std.proofs.Math.Bool.{or-true}
use Rattle.std.proofs.Math.Decide.{ℕ_discrete}
use Rattle.std.proofs.Common.{eq-eqb}
use Rattle.frame.specs.Codes.{is_cyclic}
use Rattle.frame_reading.specs.Reading.{read_of, data_of}
use Rattle.settling.specs.Ring.{◌∈◌}
use Rattle.station.specs.Rules.Data.{gathered}
use Rattle.station.specs.Rules.Hearing.{knows, lent_right, participant_heard, hear_of}
use Rattle.station.specs.Types.{Fields}
use Rattle.station.specs.declared.Station.{Station}
use Rattle.ring.specs.Member.{InRing}
use Rattle.ring.proofs.Member.{listed}
use Rattle.station.proofs.Frames.FrameAccepted as heard

module _ {numbers : List ℕ} {number : ℕ} {station : Station} (in_ring : InRing numbers number station) where
  -- it knows every station of the ring
  known : (x : ℕ) → x ∈ numbers → ¬ (x ≡ number) → knows station x ≡ true
  known x m other = rw (listed in_ring x m other) (or-true (eqb x station.own.number))

  known_ring : (x : ℕ) → x ∈ numbers → knows station x ≡ true
  known_ring x m = by (ℕ_discrete x number)
    where
      by : Dec (x ≡ number) → knows station x ≡ true
      by (yes e) = rw (eq-eqb x station.own.number (e ∙ sym in_ring.own))
      by (no other) = known x m other

  module _ (octets memory assembly : List ℕ) (frame : Fields) (read : read_of octets ≡ Ok frame) (lent : lent_right memory assembly ≡ true)
      (source : frame.source ∈ numbers) (other : ¬ (frame.source ≡ number)) where
    -- a cyclic frame from a station of the ring, with a token for a station of the ring, is accepted
    pub accepts : is_cyclic frame.code ≡ true → frame.destination ∈ numbers →
        hear_of station octets memory assembly ≡ participant_heard station frame (gathered station frame (data_of octets frame) assembly memory)
    accepts cyclic destination =
        heard.accepts station octets memory assembly frame read lent
        (record {
          participates = in_ring.participates;
          other = λ e. other (e ∙ in_ring.own);
          source = λ cyclic. known_ring frame.source source;
          destination = λ token. known_ring frame.destination destination;
        })
        cyclic

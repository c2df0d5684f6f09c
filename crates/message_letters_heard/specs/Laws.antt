-- What the code does with a message that was heard is what the rules say. Assumes nothing.
use Rattle.std.specs.Prelude.{◌≡◌}
use Rattle.laws.specs.Usual.{refl, sym, ap, ap₂, ◌∙◌, Bool, true, false, cond, List, ℕ}
use Rattle.boundary_core.specs.Crossing.{station_of, core_of}
use Rattle.boundary_core.specs.declared.Core.{Core}
use Rattle.boundary_places.specs.Places.{core_in, kept}
use Rattle.members.specs.Members.{is_listed}
use Rattle.members.specs.declared.Members.{Members}
use Rattle.message.specs.declared.Confirmation.{Confirmation}
use Rattle.message.specs.declared.Letter.{Letter}
use Rattle.message.specs.declared.Received.{Received}
use Rattle.message_answers.specs.declared.Reception.{Reception}
use Rattle.message_letter_tests.specs.Laws.{received_heard, passed_heard}
use Rattle.message_letter_tests.specs.Tests.{turns_off_by, is_received_by, passed_by}
use Rattle.message_places.specs.Outgoing.{outgoing_of, messages_of}
use Rattle.message_places.specs.Owed.{kept_owed}
use Rattle.message_places.specs.Places.{messages_in, kept_outgoing}
use Rattle.message_places.specs.declared.Outgoing.{Outgoing}
use Rattle.message_receiving.specs.Laws.{taken_by_lem}
use Rattle.message_receiving.specs.Receiving.{taken_by, heard_as, received_answer}
use Rattle.message_rules.specs.Rules.Hearing.{Hearing, letter_heard}
use Rattle.message_rules.specs.Rules.State.{Messages, Sources}
use Rattle.message_sources.specs.Sources.{sources_in}
use Rattle.station.specs.declared.Station.{Station}
use Rattle.message_letters_heard.specs.Heard.{delivered_by}
use Rattle.message.specs.declared.Received.TheVariants as received

module _ (core : Core) (members : Members) (given : ℕ) (letter : Letter) (known : Bool) (is : is_listed members letter.source ≡ known)
    (owed : List Confirmation) (sources : Sources) (outgoing : Outgoing) where
  abbrev station : Station
  station = station_of core members

  abbrev messages : Messages
  messages = messages_of outgoing owed sources

  -- One that does not turn the station off leaves it and the outgoing side as they are.
  pub delivered_heard : turns_off_by core letter ≡ false
      → letter_heard station messages given letter ≡ heard_as station outgoing (delivered_by core known given owed sources letter)
  unfolding delivered_by
  delivered_heard stays = by (is_received_by core known given letter) refl
    where
      by : (test : Bool) → is_received_by core known given letter ≡ test
          → letter_heard station messages given letter
          ≡ heard_as station outgoing (cond test
          (taken_by owed sources letter)
          (record { owed = owed; sources = sources; answer = received.Told (passed_by core known given letter) }))
      by true e = received_heard core members given letter known is messages e ∙ taken_by_lem owed sources letter station outgoing
      by false e = passed_heard core members given letter known is messages stays e

-- what is delivered, by the test of the code
module _ (core : Core) (known : Bool) (given : ℕ) (owed : List Confirmation) (sources : Sources) (letter : Letter) where
  pub received_by : is_received_by core known given letter ≡ true → delivered_by core known given owed sources letter ≡ taken_by owed sources letter
  unfolding delivered_by
  received_by e = rw e

  pub passed_by_lem : is_received_by core known given letter ≡ false
      → delivered_by core known given owed sources letter
      ≡ record { owed = owed; sources = sources; answer = received.Told (passed_by core known given letter) }
  unfolding delivered_by
  passed_by_lem e = rw e

-- what three arrays hold afterwards
pub known_after : (sources : Sources) (versions one_to_one to_all : List ℕ)
    → (versions ≡ sources.versions) × ((one_to_one ≡ sources.one_to_one) × (to_all ≡ sources.to_all)) → sources_in versions one_to_one to_all ≡ sources
known_after sources versions one_to_one to_all each =
    ap₂ (λ (v o : List ℕ). sources_in v o to_all) each.0 each.1.0
    ∙ ap (λ (t : List ℕ). sources_in sources.versions sources.one_to_one t) each.1.1

-- the contract of the code, of what a hearing is
pub meets : (core outgoing owed : List ℕ) (hearing : Hearing) (station : Station) (messages : Messages) (answer : Received) (r : Reception)
    (core' : List ℕ) (members' : Members) (outgoing' owed' : List ℕ) (sources' : Sources)
    → hearing ≡ record { station = station; messages = messages; answer = answer }
    → (core_in core' ≡ core_of station) × (core' ≡ kept core (core_of station))
    → members' ≡ station.members
    → messages_in outgoing' owed' sources' ≡ messages
    → outgoing' ≡ kept_outgoing outgoing (outgoing_of messages)
    → owed' ≡ kept_owed owed messages.owed
    → r ≡ received_answer answer
    → (core_in core' ≡ core_of hearing.station)
    × ((core' ≡ kept core (core_of hearing.station))
    × ((members' ≡ hearing.station.members)
    × ((messages_in outgoing' owed' sources' ≡ hearing.messages)
    × ((outgoing' ≡ kept_outgoing outgoing (outgoing_of hearing.messages))
    × ((owed' ≡ kept_owed owed hearing.messages.owed)
    × (r ≡ received_answer hearing.answer))))))
meets core outgoing owed hearing station messages answer r core' members' outgoing' owed' sources' is ring list all going owing told =
    let back = sym is in (
      ring.0 ∙ ap (λ (h : Hearing). core_of h.station) back,
      (
        ring.1 ∙ ap (λ (h : Hearing). kept core (core_of h.station)) back,
        (
          list ∙ ap (λ (h : Hearing). h.station.members) back,
          (
            all ∙ ap (λ (h : Hearing). h.messages) back,
            (
              going ∙ ap (λ (h : Hearing). kept_outgoing outgoing (outgoing_of h.messages)) back,
              (
                owing ∙ ap (λ (h : Hearing). kept_owed owed h.messages.owed) back,
                told ∙ ap (λ (h : Hearing). received_answer h.answer) back,
              ),
            ),
          ),
        ),
      ),
    )

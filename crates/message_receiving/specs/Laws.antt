-- What is owed and known after a message is what the rules say, whatever the outgoing side. Assumes nothing.
use Rattle.std.specs.Prelude.{◌≡◌, ◌&&◌}
use Rattle.laws.specs.Usual.{refl, sym, ap, ◌∙◌, Bool, true, false, cond, not, List, ℕ}
use Rattle.boundary_told.specs.Told.{route_read}
use Rattle.boundary_answers.specs.Numbers.{no_frame}
use Rattle.frame_reading.specs.Reading.{read_of}
use Rattle.message.specs.Codes.{to_all}
use Rattle.message.specs.declared.Confirmation.{Confirmation}
use Rattle.message.specs.declared.Judged.{Judged}
use Rattle.message.specs.declared.Letter.{Letter}
use Rattle.message.specs.declared.Received.{Received}
use Rattle.message_answers.specs.Numbers.{received_told}
use Rattle.message_answers.specs.declared.Reception.{Reception}
use Rattle.message_owed.specs.Owing.{owing_where_free}
use Rattle.message_places.specs.Outgoing.{messages_of}
use Rattle.message_places.specs.Owed.{owed_in, kept_owed}
use Rattle.message_places.specs.declared.Outgoing.{Outgoing}
use Rattle.message_rules.specs.Rules.Confirming.{owing, is_full}
use Rattle.message_rules.specs.Rules.Hearing.{confirmation_of, answer_to, taken}
use Rattle.message_rules.specs.Rules.State.{Sources}
use Rattle.message_sources.specs.Sources.{sources_after}
use Rattle.station.specs.declared.Station.{Station}
use Rattle.message_receiving.specs.Receiving.{is_held_by, owed_after, Taking, judged_by, taken_by, heard_as, received_answer}
use Rattle.message.specs.declared.Received.TheVariants as received
use Rattle.station.specs.declared.Heard.TheVariants as heard

module _ (owed : List Confirmation) (sources : Sources) (letter : Letter) where
  -- by how the code judged it
  module _ (judged : Judged) (is : judged ≡ judged_by sources letter) where
    pub held_by : is_held_by owed judged letter ≡ true
        → taken_by owed sources letter ≡ record { owed = owed; sources = sources; answer = received.Told heard.Done }
    unfolding taken_by
    held_by held = rw (sym is, held)

    pub free_by : is_held_by owed judged letter ≡ false
        → taken_by owed sources letter ≡ record {
          owed = owed_after owed judged letter;
          sources = sources_after sources judged letter;
          answer = answer_to judged letter;
        }
    unfolding taken_by
    free_by free = rw (sym is, free)

  -- The rules' taking is that of what is owed and known, and leaves the outgoing side and the ring part as they are.
  pub taken_by_lem : (station : Station) (outgoing : Outgoing)
      → taken station (messages_of outgoing owed sources) letter ≡ heard_as station outgoing (taken_by owed sources letter)
  unfolding taken_by owing_where_free
  taken_by_lem station outgoing = by (to_all letter.message.destination) (is_full (confirmation_of (judged_by sources letter) letter) owed)
    where
      now_owing : List Confirmation
      now_owing = owing (confirmation_of (judged_by sources letter) letter) owed

      by : (all full : Bool)
          → cond (not all && full)
          (heard_as station outgoing (record { owed = owed; sources = sources; answer = received.Told heard.Done }))
          (heard_as station outgoing (record {
            owed = cond all owed now_owing;
            sources = sources_after sources (judged_by sources letter) letter;
            answer = answer_to (judged_by sources letter) letter;
          }))
          ≡ heard_as station outgoing (cond (not all && full)
          (record { owed = owed; sources = sources; answer = received.Told heard.Done })
          (record {
            owed = cond all owed (cond full owed now_owing);
            sources = sources_after sources (judged_by sources letter) letter;
            answer = answer_to (judged_by sources letter) letter;
          }))
      by true full = refl
      by false true = refl
      by false false = refl

-- the contract of the code
pub meets : (numbers after : List ℕ) (taking taken : Taking) (r : Reception) (versions one_to_one to_all : List ℕ) → taking ≡ taken
    → r ≡ received_answer taken.answer → (owed_in after ≡ taken.owed) × (after ≡ kept_owed numbers taken.owed)
    → (versions ≡ taken.sources.versions) × ((one_to_one ≡ taken.sources.one_to_one) × (to_all ≡ taken.sources.to_all))
    → (r ≡ received_answer taking.answer)
    × ((owed_in after ≡ taking.owed)
    × ((after ≡ kept_owed numbers taking.owed)
    × ((versions ≡ taking.sources.versions) × ((one_to_one ≡ taking.sources.one_to_one) × (to_all ≡ taking.sources.to_all)))))
meets numbers after taking taken r versions one_to_one to_all is answered owing knowing =
    let back = sym is in (
      answered ∙ ap (λ (t : Taking). received_answer t.answer) back,
      (
        owing.0 ∙ ap (λ (t : Taking). t.owed) back,
        (
          owing.1 ∙ ap (λ (t : Taking). kept_owed numbers t.owed) back,
          (
            knowing.0 ∙ ap (λ (t : Taking). t.sources.versions) back,
            (
              knowing.1.0 ∙ ap (λ (t : Taking). t.sources.one_to_one) back,
              knowing.1.1 ∙ ap (λ (t : Taking). t.sources.to_all) back,
            ),
          ),
        ),
      ),
    )

-- Of octets that no frame of the base was read of, the answer tells no route.
pub answer_told : (octets : List ℕ) (answer : Received) → route_read (read_of octets) ≡ no_frame → received_answer answer ≡ received_told octets answer
answer_told octets (received.Told heard.Off) none = rw none
answer_told octets (received.Told heard.Done) none = rw none
answer_told octets (received.Told (heard.Cyclic token)) none = rw none
answer_told octets (received.Told (heard.Refused refusal)) none = rw none
answer_told octets (received.Message delivery) none = refl

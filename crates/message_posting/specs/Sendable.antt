-- Handing in a message, by the flags of the list: each of its outcomes, of a station whose list is in arrays. Assumes nothing.
use Rattle.std.specs.Prelude.{◌≡◌, ◌&&◌, ◌||◌, ◌<◌}
use Rattle.laws.specs.Usual.{refl, sym, ap, ◌∙◌, Bool, true, false, List, ℕ, length, get_or, leb}
use Rattle.boundary_answers.specs.declared.Answer.{Answer}
use Rattle.boundary_core.specs.Crossing.{station_in}
use Rattle.boundary_core.specs.declared.Core.{Core}
use Rattle.boundary_lists.specs.Laws.{listed_in}
use Rattle.copying.specs.Pasted.{pasted}
use Rattle.message.specs.Codes.{is_message, to_all}
use Rattle.message.specs.declared.Confirmation.{Confirmation}
use Rattle.message.specs.declared.Message.{Message}
use Rattle.message.specs.declared.Posted.{Posted}
use Rattle.message_answers.specs.Numbers.{posted_answer}
use Rattle.message_frames.specs.Frames.{data_most}
use Rattle.message_places.proofs.Laws.{outgoing_same}
use Rattle.message_places.specs.Outgoing.{outgoing_of, messages_of}
use Rattle.message_places.specs.Places.{outgoing_in, kept_outgoing}
use Rattle.message_places.specs.declared.Outgoing.{Outgoing}
use Rattle.message_rules.specs.Rules.Again.{is_open}
use Rattle.message_rules.specs.Rules.Posting.{Posting, mail_right, is_sendable, waiting, post_of}
use Rattle.message_rules.specs.Rules.State.{Messages, Sources, with_slot}
use Rattle.station.specs.Rules.State.{is_off}
use Rattle.station.specs.declared.Station.{Station}
use Rattle.frame.specs.declared.Refusal.TheVariants as refusals
use Rattle.message.specs.declared.Posted.TheVariants as posted

abbrev pub sendable_by : List Bool → Message → ℕ → Bool
sendable_by listed message octets =
    leb octets data_most && (is_message message.code && (get_or listed message.destination false || to_all message.destination))

-- handing in a message, of a station whose list has these flags, whatever else the list holds, and whatever is owed and known
abbrev pub post_in : Core → List Bool → Outgoing → Message → List ℕ → List ℕ → List ℕ → List ℕ → List ℕ → List Confirmation → Sources → Posting
post_in core listed outgoing message octets mail areas watch misses owed sources =
    post_of (station_in core listed areas watch misses) (messages_of outgoing owed sources) message octets mail

pub sendable_in : (core : Core) (listed : List Bool) (areas watch misses : List ℕ) (message : Message) (octets : List ℕ) → message.destination < 256
    → is_sendable (station_in core listed areas watch misses) message octets ≡ sendable_by listed message (length octets)
sendable_in core listed areas watch misses message octets small =
    ap (λ (t : Bool). leb (length octets) data_most && (is_message message.code && (t || to_all message.destination)))
    (listed_in listed areas watch misses message.destination small)

module _ (station : Station) (messages : Messages) (message : Message) (octets mail : List ℕ) where
  pub buffer_wrong : mail_right mail ≡ false
      → post_of station messages message octets mail ≡ record { messages = messages; answer = posted.Refused refusals.Buffer; mail = mail }
  buffer_wrong wrong = rw wrong

  module _ (right : mail_right mail ≡ true) where
    pub not_sendable : is_sendable station message octets ≡ false
        → post_of station messages message octets mail ≡ record { messages = messages; answer = posted.Refused refusals.Message; mail = mail }
    not_sendable no_way = rw (right, no_way)

    module _ (sendable : is_sendable station message octets ≡ true) where
      pub still_open : is_open messages.slot.mail ≡ true
          → post_of station messages message octets mail ≡ record { messages = messages; answer = posted.Refused refusals.Waiting; mail = mail }
      still_open taken = rw (right, sendable, taken)

      pub at_off : is_open messages.slot.mail ≡ false → is_off station.phase ≡ true
          → post_of station messages message octets mail ≡ record { messages = messages; answer = posted.Off; mail = mail }
      at_off free out = rw (right, sendable, free, out)

      pub handed : is_open messages.slot.mail ≡ false → is_off station.phase ≡ false
          → post_of station messages message octets mail ≡ record {
            messages = with_slot messages (waiting message (length octets));
            answer = posted.Done;
            mail = pasted mail 0 octets;
          }
      handed free on = rw (right, sendable, free, on)

-- the contract of the code, of what a posting is for every list and every message part with this outgoing side
module _ (numbers : List ℕ) (posting : List ℕ → List ℕ → List ℕ → List Confirmation → Sources → Posting) where
  abbrev pub Meets : Answer → List ℕ → List ℕ → Type 0
  Meets r after mail =
      ((areas watch misses : List ℕ) (owed : List Confirmation) (sources : Sources) → r ≡ posted_answer (posting areas watch misses owed sources).answer)
      × (((areas watch misses : List ℕ) (owed : List Confirmation) (sources : Sources)
      → messages_of (outgoing_in after) owed sources ≡ (posting areas watch misses owed sources).messages)
      × (((areas watch misses : List ℕ) (owed : List Confirmation) (sources : Sources)
      → after ≡ kept_outgoing numbers (outgoing_of (posting areas watch misses owed sources).messages))
      × ((areas watch misses : List ℕ) (owed : List Confirmation) (sources : Sources) → mail ≡ (posting areas watch misses owed sources).mail)))

  pub meets : (outgoing : Outgoing) (answer : Posted) (r : Answer) (after mail : List ℕ)
      → ((areas watch misses : List ℕ) (owed : List Confirmation) (sources : Sources)
      → posting areas watch misses owed sources ≡ record { messages = messages_of outgoing owed sources; answer = answer; mail = mail })
      → after ≡ kept_outgoing numbers outgoing → outgoing_in after ≡ outgoing → r ≡ posted_answer answer → Meets r after mail
  meets outgoing answer r after mail is put holds told = (
    λ areas watch misses owed sources. told ∙ ap (λ (p : Posting). posted_answer p.answer) (sym (is areas watch misses owed sources)),
    (
      λ areas watch misses owed sources.
          ap (λ (o : Outgoing). messages_of o owed sources) holds ∙ ap (λ (p : Posting). p.messages) (sym (is areas watch misses owed sources)),
      (
        λ areas watch misses owed sources.
            put ∙ ap (λ (p : Posting). kept_outgoing numbers (outgoing_of p.messages)) (sym (is areas watch misses owed sources)),
        λ areas watch misses owed sources. ap (λ (p : Posting). p.mail) (sym (is areas watch misses owed sources)),
      ),
    ),
  )

  -- a refused one, and one at an off station
  pub left_alone : (answer : Posted) (r : Answer) (mail : List ℕ) → length numbers ≡ 18
      → ((areas watch misses : List ℕ) (owed : List Confirmation) (sources : Sources)
      → posting areas watch misses owed sources ≡ record { messages = messages_of (outgoing_in numbers) owed sources; answer = answer; mail = mail })
      → r ≡ posted_answer answer → Meets r numbers mail
  left_alone answer r mail all is told = meets (outgoing_in numbers) answer r numbers mail is (sym (outgoing_same numbers all)) refl told

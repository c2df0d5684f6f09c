-- The contract of the code, of what an asking is, whatever is known of the sources. Assumes nothing.
use Rattle.std.specs.Prelude.{Ok, Err, ◌≡◌, ◌&&◌, ◌||◌}
use Rattle.laws.specs.Usual.{refl, sym, ap, ap₂, subst, ◌∙◌, Bool, true, false, cond, not, List, ℕ, length}
use Rattle.boundary_answers.specs.Numbers.{frame_answer, refused_answer}
use Rattle.boundary_answers.specs.declared.Answer.{Answer}
use Rattle.boundary_core.specs.Crossing.{core_of, station_in}
use Rattle.boundary_lists.specs.Lists.{members_in}
use Rattle.boundary_places.proofs.Laws.{core_in_back, kept_same}
use Rattle.boundary_places.specs.Places.{core_in, kept}
use Rattle.boundary_told.specs.Told.{asked_told, written_told}
use Rattle.frame.specs.declared.Refusal.TheVariants.{Buffer}
use Rattle.message.specs.declared.Confirmation.{Confirmation}
use Rattle.message_frames.specs.Frames.{whole_length, output_of}
use Rattle.message_owed.specs.Laws.{owed_same}
use Rattle.message_places.proofs.Laws.{outgoing_same}
use Rattle.message_places.specs.Outgoing.{outgoing_of, messages_of}
use Rattle.message_places.specs.Owed.{owed_in, kept_owed}
use Rattle.message_places.specs.Places.{outgoing_in, kept_outgoing, messages_in}
use Rattle.message_rules.proofs.Receiving.Owed.{turned_owes}
use Rattle.message_rules.specs.Rules.Again.{turned, gone, letter_going}
use Rattle.message_rules.specs.Rules.Calls.{Both, takes, Asking, letter_asked, carried_by}
use Rattle.message_rules.specs.Rules.Confirming.{Carried, carried_in}
use Rattle.message_rules.specs.Rules.Cycle.{goes}
use Rattle.message_rules.specs.Rules.Posting.{mail_right}
use Rattle.message_rules.specs.Rules.State.{Sources}
use Rattle.message_taking.specs.Taking.{is_holder, taken_asking}
use Rattle.station.specs.Rules.Asking.{lent_right}
use Rattle.station.specs.Rules.Calls.{ask}
use Rattle.station.specs.Types.{Members}
use Rattle.station.specs.declared.Station.{Station}
use Rattle.message_asking.specs.Asking.{carried_where, both_in, block_in, ask_in}
use Rattle.message_asking.specs.Token.{is_ended, tells}
use Rattle.station.specs.Rules.Asking as base

-- what is lent before the call: the core, the outgoing side and what is owed
module _ (core outgoing owed : List ℕ) where
  -- and after it, with the list, the turn buffer, the output and the answer
  abbrev pub Meets : (Sources → Asking) → List ℕ → Members → List ℕ → List ℕ → List ℕ → List ℕ → Answer → Type 0
  Meets asking after members outgoing_after owed_after turn output r =
      ((sources : Sources) → core_in after ≡ core_of (asking sources).both.ring)
      × (((sources : Sources) → after ≡ kept core (core_of (asking sources).both.ring))
      × (((sources : Sources) → members ≡ (asking sources).both.ring.members)
      × (((sources : Sources) → messages_of (outgoing_in outgoing_after) (owed_in owed_after) sources ≡ (asking sources).both.messages)
      × (((sources : Sources) → outgoing_after ≡ kept_outgoing outgoing (outgoing_of (asking sources).both.messages))
      × (((sources : Sources) → owed_after ≡ kept_owed owed (asking sources).both.messages.owed)
      × (((sources : Sources) → turn ≡ (asking sources).turn)
      × (((sources : Sources) → output ≡ (asking sources).output)
      × ((sources : Sources) → r ≡ asked_told (asking sources).output (asking sources).answer))))))))

  -- the same of an asking that is the same
  pub same : (asking call : Sources → Asking) {after outgoing_after owed_after turn output : List ℕ} {members : Members} {r : Answer}
      → ((sources : Sources) → call sources ≡ asking sources)
      → Meets asking after members outgoing_after owed_after turn output r → Meets call after members outgoing_after owed_after turn output r
  same asking call e left = (
    λ s. left.0 s ∙ ap (λ (k : Asking). core_of k.both.ring) (sym (e s)),
    (
      λ s. left.1.0 s ∙ ap (λ (k : Asking). kept core (core_of k.both.ring)) (sym (e s)),
      (
        λ s. left.1.1.0 s ∙ ap (λ (k : Asking). k.both.ring.members) (sym (e s)),
        (
          λ s. left.1.1.1.0 s ∙ ap (λ (k : Asking). k.both.messages) (sym (e s)),
          (
            λ s. left.1.1.1.1.0 s ∙ ap (λ (k : Asking). kept_outgoing outgoing (outgoing_of k.both.messages)) (sym (e s)),
            (
              λ s. left.1.1.1.1.1.0 s ∙ ap (λ (k : Asking). kept_owed owed k.both.messages.owed) (sym (e s)),
              (
                λ s. left.1.1.1.1.1.1.0 s ∙ ap (λ (k : Asking). k.turn) (sym (e s)),
                (
                  λ s. left.1.1.1.1.1.1.1.0 s ∙ ap (λ (k : Asking). k.output) (sym (e s)),
                  λ s. left.1.1.1.1.1.1.1.1 s ∙ ap (λ (k : Asking). asked_told k.output k.answer) (sym (e s)),
                ),
              ),
            ),
          ),
        ),
      ),
    ),
  )

-- the contract of the code that carries
module _ (token : Bool) (owed : List ℕ) (answer : Answer) (output : List ℕ) where
  abbrev pub Carries : Answer → List ℕ → List ℕ → Type 0
  Carries r written after =
      (r ≡ cond token (written_told written (frame_answer (carried_in (owed_in owed) answer.octets output).count)) answer)
      × ((written ≡ (carried_where token (owed_in owed) answer.octets output).output)
      × ((owed_in after ≡ (carried_where token (owed_in owed) answer.octets output).owed)
      × (after ≡ kept_owed owed (carried_where token (owed_in owed) answer.octets output).owed)))

module _ {token : Bool} (owed : List ℕ) (answer : Answer) (output : List ℕ) where
  pub carries : {count : ℕ} {written after : List ℕ} {framed r : Answer} → token ≡ true
      → let carried = carried_in (owed_in owed) answer.octets output in
      count ≡ carried.count → written ≡ carried.output → owed_in after ≡ carried.owed → after ≡ kept_owed owed carried.owed
      → framed ≡ frame_answer count → r ≡ written_told written framed → Carries token owed answer output r written after
  carries {written = written} {after} {r = r} is counted wrote holds put frame told =
      subst (λ (t : Bool). Carries t owed answer output r written after) (sym is)
      (told ∙ ap (written_told written) (frame ∙ ap frame_answer counted), (wrote, (holds, put)))

  pub left_alone : token ≡ false → length owed ≡ 25 → Carries token owed answer output answer output owed
  left_alone is all =
      subst (λ (t : Bool). Carries t owed answer output answer output owed) (sym is) (refl, (refl, (refl, sym (owed_same owed all))))

module _ (core : List ℕ) (listed : List Bool) (areas watch misses outgoing owed memory turn output : List ℕ) where
  abbrev station : Station
  station = station_in (core_in core) listed areas watch misses

  abbrev left : base.Asking
  left = base.ask_of station memory turn output

  abbrev block : Sources → Asking
  block = block_in core listed areas watch misses outgoing owed memory turn output

  -- what the base writes or refuses, then the turn, then the confirmation
  pub block_meets : {after outgoing_after owed_after turned_to written output_after : List ℕ} {members : Members} {answer r : Answer} {held holding ended : Bool}
      → core_in after ≡ core_of left.station → after ≡ kept core (core_of left.station) → answer ≡ asked_told left.output left.answer
      → turned_to ≡ left.turn → written ≡ left.output → members ≡ left.station.members
      → held ≡ is_holder station → holding ≡ is_holder left.station → ended ≡ is_ended left
      → ((o : List Confirmation) (s : Sources)
      → messages_of (outgoing_in outgoing_after) o s ≡ turned (holding && (not held || ended)) (messages_of (outgoing_in outgoing) o s))
      → ((o : List Confirmation) (s : Sources)
      → outgoing_after ≡ kept_outgoing outgoing (outgoing_of (turned (holding && (not held || ended)) (messages_of (outgoing_in outgoing) o s))))
      → Carries (held && ended) owed answer written r output_after owed_after
      → Meets core outgoing owed block after members outgoing_after owed_after turned_to output_after r
  block_meets {outgoing_after = outgoing_after} {written = written} {output_after = output_after} {answer = answer} {held = held} {holding = holding} {ended = ended}
      is put says turn_is wrote list h g e began began_in carried = (
        λ s. is,
        (
          λ s. put,
          (
            λ s. list,
            (
              λ s.
                  ap (λ (o : List Confirmation). messages_of (outgoing_in outgoing_after) o s) (carried.1.1.0 ∙ still s)
                  ∙ began (taken s).owed s
                  ∙ ap (λ (t : Bool). turned t (messages_of (outgoing_in outgoing) (taken s).owed s)) taking,
              (
                λ s.
                    began_in (taken s).owed s
                    ∙ ap (λ (t : Bool). kept_outgoing outgoing (outgoing_of (turned t (messages_of (outgoing_in outgoing) (taken s).owed s)))) taking,
                (
                  λ s.
                      carried.1.1.1
                      ∙ ap (kept_owed owed) (still s ∙ sym (turned_owes (takes station (ask memory turn output)) (messages_of (outgoing_in outgoing) (taken s).owed s))),
                  (
                    λ s. turn_is,
                    (
                      λ s. carried.1.0 ∙ ap (λ (k : Carried). k.output) same_carried ∙ (tells (both s) memory turn output).wrote,
                      λ s.
                          carried.0
                          ∙ ap₂ (λ (t : Bool) (a : Answer). told t a written output_after) token says
                          ∙ ap₂ (λ (l m : List ℕ). told (is_holder station && is_ended left) (asked_told left.output left.answer) l m) wrote
                          (carried.1.0 ∙ ap (λ (k : Carried). k.output) same_carried)
                          ∙ (tells (both s) memory turn output).told,
                    ),
                  ),
                ),
              ),
            ),
          ),
        ),
      )
    where
      both : Sources → Both
      both s = both_in core listed areas watch misses outgoing owed memory turn output s

      taken : Sources → Carried
      taken s = carried_by (both s) left.answer left.output

      token : (held && ended) ≡ (is_holder station && is_ended left)
      token = ap₂ ◌&&◌ h e

      taking : (holding && (not held || ended)) ≡ takes station (ask memory turn output)
      taking =
          ap₂ (λ (a b : Bool). a && (not b || ended)) g h
          ∙ ap (λ (t : Bool). is_holder left.station && (not (is_holder station) || t)) e
          ∙ sym (taken_asking station memory turn output)

      of : Bool → Answer → List ℕ → Carried
      of t a l = carried_where t (owed_in owed) a.octets l

      same_carried : of (held && ended) answer written ≡ of (is_holder station && is_ended left) (asked_told left.output left.answer) left.output
      same_carried =
          ap₂ (λ (t : Bool) (a : Answer). of t a written) token says
          ∙ ap (of (is_holder station && is_ended left) (asked_told left.output left.answer)) wrote

      told : Bool → Answer → List ℕ → List ℕ → Answer
      told t a l m = cond t (written_told m (frame_answer (carried_in (owed_in owed) a.octets l).count)) a

      still : (s : Sources) → (of (held && ended) answer written).owed ≡ (taken s).owed
      still s = ap (λ (k : Carried). k.owed) same_carried ∙ (tells (both s) memory turn output).still_owed

  module _ (mail : List ℕ) where
    abbrev call : Sources → Asking
    call = ask_in core listed areas watch misses outgoing owed memory turn output mail

    abbrev lent : Sources → Both
    lent s = both_in core listed areas watch misses outgoing owed memory turn output s

    abbrev list : Members
    list = members_in listed areas watch misses

    -- what is left alone
    core_left : length core ≡ 18 → (core_in core ≡ core_of station) × (core ≡ kept core (core_of station))
    core_left all = (sym (core_in_back core list), sym (kept_same core all) ∙ ap (kept core) (sym (core_in_back core list)))

    pub refused_meets : {r : Answer} → length core ≡ 18 → length outgoing ≡ 18 → length owed ≡ 25 → mail_right mail ≡ false → r ≡ refused_answer Buffer
        → Meets core outgoing owed call core list outgoing owed turn output r
    refused_meets c o w wrong told =
        same core outgoing owed (λ s. record { both = lent s; answer = Err Buffer; turn = turn; output = output }) call (λ s. rw wrong) (
          λ s. (core_left c).0,
          (
            λ s. (core_left c).1,
            (
              λ s. refl,
              (
                λ s. refl,
                (λ s. sym (outgoing_same outgoing o), (λ s. sym (owed_same owed w), (λ s. refl, (λ s. refl, λ s. told)))),
              ),
            ),
          ),
        )

    -- a message that goes
    pub letter_meets : {outgoing_after written : List ℕ} {r : Answer} → length core ≡ 18 → length owed ≡ 25 → mail_right mail ≡ true
        → lent_right memory turn output ≡ true → ((s : Sources) → goes station (messages_in outgoing owed s) ≡ true)
        → ((o : List Confirmation) (s : Sources)
        → r ≡ asked_told written (Ok (whole_length (letter_going (core_in core).own.number (messages_of (outgoing_in outgoing) o s)))))
        → ((o : List Confirmation) (s : Sources)
        → written ≡ output_of (letter_going (core_in core).own.number (messages_of (outgoing_in outgoing) o s)) mail output)
        → ((o : List Confirmation) (s : Sources) → messages_of (outgoing_in outgoing_after) o s ≡ gone (messages_of (outgoing_in outgoing) o s))
        → ((o : List Confirmation) (s : Sources) → outgoing_after ≡ kept_outgoing outgoing (outgoing_of (gone (messages_of (outgoing_in outgoing) o s))))
        → Meets core outgoing owed call core list outgoing_after owed turn written r
    letter_meets c w right buffers now told wrote holds put =
        same core outgoing owed (λ s. letter_asked (lent s) turn output mail) call (λ s. rw (right, buffers, now s)) (
          λ s. (core_left c).0,
          (
            λ s. (core_left c).1,
            (
              λ s. refl,
              (
                λ s. holds (owed_in owed) s,
                (
                  λ s. put (owed_in owed) s,
                  (
                    λ s. sym (owed_same owed w),
                    (
                      λ s. refl,
                      (
                        λ s. wrote (owed_in owed) s,
                        λ s.
                            told (owed_in owed) s
                            ∙ ap (λ (l : List ℕ). asked_told l (Ok (whole_length (letter_going (core_in core).own.number (messages_in outgoing owed s))))) (wrote (owed_in owed) s),
                      ),
                    ),
                  ),
                ),
              ),
            ),
          ),
        )

    -- what the base writes or refuses
    pub block_asked : {after outgoing_after owed_after turned_to written : List ℕ} {members : Members} {r : Answer} → mail_right mail ≡ true
        → ((s : Sources) → (lent_right memory turn output && goes station (messages_in outgoing owed s)) ≡ false)
        → Meets core outgoing owed block after members outgoing_after owed_after turned_to written r
        → Meets core outgoing owed call after members outgoing_after owed_after turned_to written r
    block_asked right stays left = same core outgoing owed block call (λ s. rw (right, stays s)) left

-- The pair as a ring that meets the premises of demand 3, with a message that waits; and events that can come, in which messages go and are heard. Assumes
-- nothing.
use Rattle.std.specs.Prelude.{◌≡◌, ◌∷◌, ◌++◌}
use Rattle.laws.specs.Usual.{refl, sym, subst, ◌∙◌, true, false, false≢true, List, [], ℕ, arith}
use Rattle.std.proofs.Common.{inr}
use mathlib.Core.List.Memᴰ
use Rattle.frame_reading.specs.Reading.{fields_of, read_of}
use Rattle.frame_round_trip.specs.Sent.{block_fields}
use Rattle.frame_writing.specs.Writing.{no_areas, header_of, front_of, back_of, fixed_for}
use Rattle.members.specs.Members.{entry_of, ring_of}
use Rattle.message.specs.declared.Mail.TheVariants.{Waiting, Unconfirmed, Confirmed}
use Rattle.message.specs.declared.Message.{Message}
use Rattle.message_ring.specs.Demand.{LastCall, sent, heard, Disturbed, BothSettles}
use Rattle.message_ring.proofs.DemandThree.{demand_three_both, demand_three_both_whole}
use Rattle.message_ring.specs.Events.{Boths, Event, ticked, stray, after_event, both_counting, posts, letters as heard_alone, CanCome}
use Rattle.message_rules.specs.Ring.Reached.{Reachable}
use Rattle.message_rules.specs.Rules.Calls.{Both, post, hear, after, ask_of, mail_of}
use Rattle.message_rules.specs.Rules.Posting.{mail_right, waiting}
use Rattle.message_rules.specs.Rules.State.{begun, with_slot}
use Rattle.message_worked.specs.Bringing.{output, no_mail, allowance, hears, token, short, one, two, one_reached, two_reached, reached_on}
use Rattle.message_worked.specs.Pair.{pair_of, asks, message, content, mail, letter, one_posted, two_passed}
use Rattle.ring.specs.Events.{ends_watch}
use Rattle.ring_worked.specs.Bringing.{large, small_at}
use Rattle.settling.specs.Counting.{AllName, passes, given}
use Rattle.settling.specs.First.{FirstAgreement}
use Rattle.settling.proofs.Next.{ascending_cons}
use Rattle.settling.specs.Ring.{◌∈◌, Stations as Ascending}
use Rattle.settling.specs.Steps.{after_all, EachFinds}
use Rattle.station.specs.Rules.Waits.{counts_as}
use Rattle.station.specs.declared.Phase.TheVariants.{Participating}
use Rattle.message_frames.specs.Frames as letters

abbrev pub numbers : List ℕ
numbers = 1 ∷ 2 ∷ []

ascending : Ascending numbers
ascending = record { some = omega arith; ascending = ascending_cons 1 2 [] (omega arith) (λ y m. elim m [ ], tt) }

at_1 : 1 ∈ numbers
at_1 = Memᴰ.head refl

at_2 : 2 ∈ numbers
at_2 = Memᴰ.tail (Memᴰ.head refl)

-- what holds of 1 and 2 holds of both stations
each : (P : ℕ → Type 0) → P 1 → P 2 → (number : ℕ) → number ∈ numbers → P number
each P a b number (Memᴰ.head e) = subst P (sym e) a
each P a b number (Memᴰ.tail (Memᴰ.head e)) = subst P (sym e) b
each P a b number (Memᴰ.tail (Memᴰ.tail x9)) = elim x9 [ ]

-- Station 1 was handed the message before station 2 passed it the token: the message waits.
abbrev pub boths : Boths
boths = pair_of (one_posted short) (two_passed short)

abbrev before : Both
before = record { ring = (one short).ring; messages = with_slot (begun (allowance 7)) (waiting message 2) }

before_reached : Reachable before
before_reached = subst Reachable is (reached_on (post message content no_mail ∷ []) one_reached refl)
  where
    is : after (one short) (post message content no_mail) ≡ before
    is = refl

-- the last call of each
one_last : LastCall (token short 2 1) (one_posted short)
unfolding header_of front_of back_of fixed_for fields_of
one_last = subst (LastCall (token short 2 1)) is (heard before large large before_reached (small_at (token short 2 1) refl) refl)
  where
    is : after before (hears (token short 2 1)) ≡ one_posted short
    is = refl

two_last : LastCall (token short 2 1) (two_passed short)
unfolding header_of front_of back_of fixed_for fields_of
two_last = subst (LastCall (token short 2 1)) is (sent (two short) large large output no_mail 64 two_reached refl refl)
  where
    is : (ask_of (two short) large large output no_mail).both ≡ two_passed short
    is = refl

pub disturbed : Disturbed numbers boths
unfolding header_of front_of back_of fixed_for fields_of read_of
disturbed = record {
  ring = ascending;
  octets = token short 2 1;
  token = block_fields 2 1 no_areas short 1;
  is_read = refl;
  is_token_lem = refl;
  last = each (λ n. LastCall (token short 2 1) (boths n)) one_last two_last;
  own = each (λ n. (boths n).ring.own.number ≡ n) refl refl;
  participates = each (λ n. (boths n).ring.phase ≡ Participating) refl refl;
  list = each (λ n. ring_of n (boths n).ring.members ≡ numbers) refl refl;
  watch = λ n m p q. watches n p ∙ sym (watches m q);
  listed = λ n m p q. listed n p m q;
  view = each (λ n. (boths n).ring.view ∈ numbers) at_1 at_1;
}
  where
    watches : (n : ℕ) → n ∈ numbers → (boths n).ring.own.watch.0 ≡ 2
    watches = each (λ n. (boths n).ring.own.watch.0 ≡ 2) refl refl

    Listed : ℕ → ℕ → Type 0
    Listed n m = ¬ (m ≡ n) → (counts_as (entry_of (boths n).ring.members m).watch).0 ≡ (boths n).ring.own.watch.0

    listed : (n : ℕ) → n ∈ numbers → (m : ℕ) → m ∈ numbers → Listed n m
    listed =
        each (λ n. (m : ℕ) → m ∈ numbers → Listed n m)
        (each (Listed 1) (λ other. absurd (other refl)) (λ other. refl))
        (each (Listed 2) (λ other. refl) (λ other. absurd (other refl)))

-- The events: station 1's asking writes its message, which station 2 hears; station 2 is handed one for station 1; station 2 alone hears the message once
-- more; a tick; station 1 passes the token; station 2's asking writes its message; and it passes the token, with the confirmation that it owes.
abbrev pub reply : Message
reply = record { destination = 1; code = 10001; size = 0; address = 0; result = 0 }

abbrev pub writes : Event
writes = asks 1 mail

abbrev pub hands_in_reply : Event
hands_in_reply = stray 2 (post reply [] no_mail)

abbrev pub hears_alone : Event
hears_alone = stray 2 (hear letter large large)

abbrev pub events : List Event
events = writes ∷ hands_in_reply ∷ hears_alone ∷ ticked ∷ asks 1 mail ∷ asks 2 no_mail ∷ asks 2 no_mail ∷ []

-- an asking of either station can come
asking_comes : (now : Boths) (who : ℕ) (lent : List ℕ) → who ∈ numbers → mail_right lent ≡ true → CanCome numbers now (asks who lent)
asking_comes now who lent m e = (m, refl, e, λ number member. refl)

-- and so can a tick that ends no watch
tick_comes : (now : Boths) → ends_watch (now 1).ring ≡ false → ends_watch (now 2).ring ≡ false → CanCome numbers now ticked
tick_comes now a b = (
  λ n m d. absurd (false≢true (sym (ends n m) ∙ d)),
  λ n m d. absurd (false≢true (sym (ends n m) ∙ d)),
)
  where
    ends : (n : ℕ) → n ∈ numbers → ends_watch (now n).ring ≡ false
    ends = each (λ n. ends_watch (now n).ring ≡ false) a b

pub come : EachFinds after_event (CanCome numbers) boths events
unfolding header_of front_of back_of fixed_for fields_of letters.letter_in letters.header_of
come =
    let a = after_all after_event boths (writes ∷ hands_in_reply ∷ hears_alone ∷ []) in
    let b = after_event a ticked in
    let c = after_event b (asks 1 mail) in
    let d = after_event c (asks 2 no_mail) in (
      asking_comes boths 1 mail at_1 refl,
      (
        (at_2, posts reply [] no_mail),
        (
          (at_2, heard_alone letter large large refl),
          (
            tick_comes a refl refl,
            (asking_comes b 1 mail at_1 refl, (asking_comes c 2 no_mail at_2 refl, (asking_comes d 2 no_mail at_2 refl, tt))),
          ),
        ),
      ),
    )

-- So demand 3 holds of them.
pub settles : (before : List Event) × (later : List Event) × FirstAgreement after_event (AllName both_counting numbers) boths events before later
    × BothSettles numbers boths before later
settles = demand_three_both_whole disturbed events come

-- Both name station 1 from the beginning, as a pair always does after one token frame, so the first part is empty:
views : (number : ℕ) → number ∈ numbers → (boths number).ring.view ≡ 1
views = each (λ n. (boths n).ring.view ≡ 1) refl refl

pub settled : BothSettles numbers boths [] events
settled =
    demand_three_both disturbed come
    (record { split = refl; differing = tt; reached = inr (λ n m p q. views n p ∙ sym (views m q)) })

-- both name one station after every event, and the two passes, with messages between them, give the token to each station once.
pub stays : (start rest : List Event) → events ≡ start ++ rest → AllName both_counting numbers (after_all after_event boths start)
stays = settled.stays (λ n m p q. views n p ∙ sym (views m q))

pub passes_counted : (passes both_counting boths events ≡ 2) × (given both_counting 1 boths events ≡ 1) × (given both_counting 2 boths events ≡ 1)
unfolding header_of front_of back_of fixed_for fields_of read_of letters.letter_in letters.header_of
passes_counted = (refl, refl, refl)

-- The message of station 1 waited, and is now confirmed; that of station 2 is now unconfirmed.
pub mail_words : (mail_of (boths 1) ≡ Waiting) × (mail_of (after_all after_event boths events 1) ≡ Confirmed)
    × (mail_of (after_all after_event boths events 2) ≡ Unconfirmed)
unfolding header_of front_of back_of fixed_for fields_of letters.letter_in letters.header_of
mail_words = (refl, refl, refl)

-- Stations 1, 2 and 3 of the worked rings, each brought up from off by calls alone, and the token frame that they send and hear. Assumes
-- nothing.
use Rattle.laws.specs.Usual.{refl, sym, ap, subst, ◌∙◌, Bool, true, false, cond, false≢true, List, [], ℕ, suc, arith, length, get_or, take, drop, replicate, ltb}
use mathlib.Core.List.Memᴰ
use Rattle.std.specs.Prelude.{◌≡◌, ◌&&◌, ◌∷◌, ◌++◌, ◌+◌, ◌<◌, zero}
use Rattle.std.proofs.Common.{ltb-true, le-leb}
use Rattle.block.specs.Blocks.{start_of}
use Rattle.frame_reading.specs.Reading.{fields_of}
use Rattle.frame_round_trip.specs.Sent.{block_fields}
use Rattle.settling.proofs.Next.{ascending_cons}
use Rattle.settling.specs.Ring.{◌∈◌, Stations as Ascending}
use Rattle.station.specs.Rules.Asking.{ask_of, due_fields, due_in, lent_right, next_block, next_station, refused, turn_after, written}
use Rattle.station.specs.Rules.Calls.{Call, start, tick, hear, ask, after, unrefused, verdict}
use Rattle.station.specs.Panel.History.{state_after}
use Rattle.station.specs.States.Reachable.{Reachable, unstarted, called, TypedSettings}
use Rattle.station.specs.Rules.State.{never}
use Rattle.station.specs.Types.{Milliseconds, Fields}
use Rattle.station.specs.declared.Settings.{Settings}
use Rattle.station.specs.declared.Phase.TheVariants.{Participating}
use Rattle.station.specs.declared.Station.{Station}
use Rattle.frame_writing.specs.Writing.{no_areas, frame_of, output_of, header_of, front_of, back_of, fixed_for}
use Rattle.ring.specs.Demand.{LastCall, sent, heard}
use Rattle.frame.specs.declared.Refusal.TheVariants as refusals

-- all stations have no areas, so that a turn is one block, and a watch time of 2 ms, so that a silence comes in twenty ticks
abbrev pub watch : Milliseconds
watch = record { 0 = 2 }

abbrev pub settings_of : ℕ → Settings
settings_of number = record { number = number; areas = no_areas; watch = watch }

abbrev pub large : List ℕ
large = replicate 17408 0

-- the fields and the octets of a token frame
abbrev pub token_fields : ℕ → ℕ → Fields
token_fields source destination = block_fields source destination no_areas watch 1

abbrev pub token_octets : ℕ → ℕ → List ℕ
token_octets source destination = frame_of (token_fields source destination) []

abbrev pub hears : List ℕ → Call
hears octets = hear octets large large

abbrev pub asks : Call
asks = ask large large (replicate 1088 0)

-- every number of a list is an octet
abbrev pub small : List ℕ → Bool
small [] = true
small (octet ∷ rest) = cond (ltb octet 256) (small rest) false

small_cons : (t : Bool) (octet : ℕ) (rest : List ℕ) → ltb octet 256 ≡ t → cond t (small rest) false ≡ true
    → ((at : ℕ) → small rest ≡ true → get_or rest at 0 < 256) → (at : ℕ) → get_or (octet ∷ rest) at 0 < 256
small_cons true octet rest e t later zero = ltb-true octet 256 e
small_cons true octet rest e t later (suc at) = later at t
small_cons false octet rest e t later at = absurd (false≢true t)

pub small_at : (octets : List ℕ) → small octets ≡ true → (at : ℕ) → get_or octets at 0 < 256
small_at [] t at = omega arith
small_at (octet ∷ rest) t at = small_cons (ltb octet 256) octet rest refl t (λ k s. small_at rest s k) at

-- a station is started and hears two frames, which make a round, three times over; then a last one, whose destination becomes its view
abbrev pub rounds : Settings → List ℕ → List ℕ → List ℕ → List Call
rounds settings a b c =
    start settings ∷ hears a ∷ hears b ∷ hears a ∷ hears b ∷ hears a ∷ hears b ∷ hears c ∷ []

-- the station that has heard them, has waited for its number and has sent its request
abbrev pub up : Settings → ℕ → List ℕ → List ℕ → List ℕ → Station
up settings ticks a b c = after (state_after (state_after never (rounds settings a b c)) (replicate ticks tick)) asks

ticked_on : (ticks : ℕ) {station : Station} → Reachable station → Reachable (state_after station (replicate ticks tick))
ticked_on zero reached = reached
ticked_on (suc ticks) reached = ticked_on ticks (called tick reached tt)

pub up_reached : (settings : Settings) (ticks : ℕ) (a b c : List ℕ) → TypedSettings settings → small a ≡ true → small b ≡ true → small c ≡ true
    → Reachable (up settings ticks a b c)
up_reached settings ticks a b c typed p q r =
    called asks
    (ticked_on ticks
    (called (hears c)
    (called (hears b)
    (called (hears a)
    (called (hears b)
    (called (hears a)
    (called (hears b)
    (called (hears a)
    (called (start settings) unstarted typed)
    (small_at a p))
    (small_at b q))
    (small_at a p))
    (small_at b q))
    (small_at a p))
    (small_at b q))
    (small_at c r)))
    tt

typed_settings : (number : ℕ) → number < 256 → TypedSettings (settings_of number)
typed_settings number few = record {
  number = few;
  one = record { address = omega arith; size = omega arith };
  two = record { address = omega arith; size = omega arith };
  watch = omega arith;
}

-- Each station hears two rounds' frames of the others, and last a token frame: its destination becomes the station's view.
abbrev pub one : List ℕ → Station
one last = up (settings_of 1) 40 (token_octets 2 3) (token_octets 3 2) last

abbrev pub two : List ℕ → Station
two last = up (settings_of 2) 80 (token_octets 1 3) (token_octets 3 1) last

abbrev pub three : List ℕ → Station
three last = up (settings_of 3) 120 (token_octets 1 2) (token_octets 2 1) last

pub one_reached : (last : List ℕ) → small last ≡ true → Reachable (one last)
unfolding header_of front_of back_of fixed_for fields_of
one_reached last s = up_reached (settings_of 1) 40 (token_octets 2 3) (token_octets 3 2) last (typed_settings 1 (omega arith)) refl refl s

pub two_reached : (last : List ℕ) → small last ≡ true → Reachable (two last)
unfolding header_of front_of back_of fixed_for fields_of
two_reached last s = up_reached (settings_of 2) 80 (token_octets 1 3) (token_octets 3 1) last (typed_settings 2 (omega arith)) refl refl s

pub three_reached : (last : List ℕ) → small last ≡ true → Reachable (three last)
unfolding header_of front_of back_of fixed_for fields_of
three_reached last s = up_reached (settings_of 3) 120 (token_octets 1 2) (token_octets 2 1) last (typed_settings 3 (omega arith)) refl refl s

abbrev pub numbers : List ℕ
numbers = 1 ∷ 2 ∷ 3 ∷ []

pub ascending : Ascending numbers
ascending = record {
  some = omega arith;
  ascending = ascending_cons 1 2 (3 ∷ []) (omega arith) (ascending_cons 2 3 [] (omega arith) (λ y m. elim m [ ], tt));
}

pub at_1 : 1 ∈ numbers
at_1 = Memᴰ.head refl

pub at_2 : 2 ∈ numbers
at_2 = Memᴰ.tail (Memᴰ.head refl)

pub at_3 : 3 ∈ numbers
at_3 = Memᴰ.tail (Memᴰ.tail (Memᴰ.head refl))

-- what holds of 1, 2 and 3 holds of every station
pub each : (P : ℕ → Type 0) → P 1 → P 2 → P 3 → (number : ℕ) → number ∈ numbers → P number
each P a b c number (Memᴰ.head e) = subst P (sym e) a
each P a b c number (Memᴰ.tail (Memᴰ.head e)) = subst P (sym e) b
each P a b c number (Memᴰ.tail (Memᴰ.tail (Memᴰ.head e))) = subst P (sym e) c
each P a b c number (Memᴰ.tail (Memᴰ.tail (Memᴰ.tail x12))) = elim x12 [ ]

-- Station 2, which holds, passes the token to station 3: the octets that it writes.
abbrev pub passed : List ℕ
passed = token_octets 2 3

passed_small : small passed ≡ true
unfolding header_of front_of back_of fixed_for
passed_small = refl

-- the fields of the frame that a participant 2 writes whose next is 3
due_is : (station : Station) → station.phase ≡ Participating → station.own ≡ settings_of 2 → next_station station ≡ 3
    → station.block ≡ 0 → due_fields station.phase station ≡ token_fields 2 3
due_is station phase own next block =
    ap (λ p. due_fields p station) phase
    ∙ ap (λ (o : Settings). block_fields o.number (next_station station) o.areas o.watch (next_block station)) own
    ∙ ap (λ (n : ℕ). block_fields 2 n no_areas watch (next_block station)) next
    ∙ ap (λ (b : ℕ). block_fields 2 3 no_areas watch (b + 1)) block

-- and its octets, whatever the turn buffer holds
written_is : (fields : Fields) (turn : List ℕ) → fields ≡ token_fields 2 3 → take 64 (output_of fields turn (replicate 1088 0)) ≡ passed
unfolding header_of front_of back_of fixed_for
written_is fields turn e =
    ap (λ f. take 64 (output_of f turn (replicate 1088 0))) e
    ∙ ap (λ (t : Bool). take 64 (cond (t && true) (frame_of (token_fields 2 3) turn ++ drop 64 (replicate 1088 0)) (replicate 1088 0)))
    (le-leb 0 (length turn) (omega arith))

-- a station that has a frame due writes it
asked_written : (station : Station) (memory turn output : List ℕ) → lent_right memory turn output ≡ true
    → due_in station.phase station ≡ true
    → ask_of station memory turn output ≡ written station (turn_after station.phase station memory turn) output
asked_written station memory turn output right due =
    ap (λ (t : Bool). cond t (cond (due_in station.phase station) (written station (turn_after station.phase station memory turn) output)
    (refused station turn output refusals.NotDue)) (refused station turn output refusals.Buffer)) right
    ∙ ap (λ (t : Bool). cond t (written station (turn_after station.phase station memory turn) output)
    (refused station turn output refusals.NotDue)) due

writes : (station : Station) → station.phase ≡ Participating → station.own ≡ settings_of 2 → next_station station ≡ 3
    → station.block ≡ 0 → due_in station.phase station ≡ true → take 64 (ask_of station large large (replicate 1088 0)).output ≡ passed
writes station phase own next block due =
    ap (λ a. take 64 a.output) (asked_written station large large (replicate 1088 0) refl due)
    ∙ written_is (due_fields station.phase station) (drop (start_of (next_block station)) (turn_after station.phase station large large))
    (due_is station phase own next block)

-- its last call
pub two_last : LastCall passed (after (two (token_octets 3 2)) asks)
unfolding header_of front_of back_of fixed_for fields_of
two_last = sent (two (token_octets 3 2)) large large (replicate 1088 0) 64 (two_reached (token_octets 3 2) refl) refl (writes (two (token_octets 3 2)) refl refl refl refl refl)

-- stations 1 and 3 hear it
pub one_heard : (last : List ℕ) → small last ≡ true → verdict (one last) (hears passed) ≡ unrefused → LastCall passed (after (one last) (hears passed))
one_heard last s accepted = heard (one last) large large (one_reached last s) (small_at passed passed_small) accepted

pub three_heard : (last : List ℕ) → small last ≡ true → verdict (three last) (hears passed) ≡ unrefused → LastCall passed (after (three last) (hears passed))
three_heard last s accepted = heard (three last) large large (three_reached last s) (small_at passed passed_small) accepted

-- Stations 1 and 2 of a worked pair with messages, each brought up from off by calls alone. Assumes nothing.
use Rattle.laws.specs.Usual.{refl, ap, subst, ◌∙◌, Bool, true, false, cond, not, false≢true, List, [], ℕ, suc, min, arith, replicate, set, ltb}
use Rattle.std.specs.Prelude.{◌≡◌, ◌&&◌, ◌∷◌, ◌+◌, ◌<◌, zero}
use Rattle.std.proofs.Common.{ltb-true}
use Rattle.std.proofs.lemmas.Bool.{not-true}
use Rattle.frame_reading.specs.Reading.{fields_of}
use Rattle.frame_round_trip.specs.Sent.{block_fields}
use Rattle.frame_writing.specs.Writing.{no_areas, frame_of, header_of, front_of, back_of, fixed_for}
use Rattle.laws.specs.Tests.{first, second}
use Rattle.members.specs.Members.{nobody}
use Rattle.members.specs.declared.Members.{Members}
use Rattle.message.specs.declared.Allowance.{Allowance}
use Rattle.message.specs.declared.Mail.TheVariants.{Unconfirmed}
use Rattle.message.specs.declared.Message.{Message}
use Rattle.message.specs.declared.Slot.{Slot}
use Rattle.message_rules.specs.Ring.Reached.{Typed, Reachable, unstarted, called}
use Rattle.message_rules.specs.Rules.Again.{confirmation_wait, is_unconfirmed, slot_with, or_failed, slot_ticked, ticked, turned}
use Rattle.message_rules.specs.Rules.Calls.{Both, never_both, Call, start, stop, tick, post, hear, ask, after, takes}
use Rattle.message_rules.specs.Rules.State.{begun, with_slot}
use Rattle.panel.specs.Panel.{blank}
use Rattle.panel.specs.declared.Panel.{Panel}
use Rattle.ring_worked.specs.Bringing.{large, small, small_at}
use Rattle.settling.specs.Steps.{after_all}
use Rattle.station.specs.Rules.State.{no_ticks, nothing}
use Rattle.station.specs.Types.{Milliseconds}
use Rattle.station.specs.declared.Phase.TheVariants.{Joining, Participating}
use Rattle.station.specs.declared.Settings.{Settings}
use Rattle.station.specs.declared.Station.{Station}
use Rattle.station.specs.Rules.Calls as base

-- an output of 1108 octets, in which a token frame has room for a confirmation, and a mail buffer
abbrev pub output : List ℕ
output = replicate 1108 0

abbrev pub no_mail : List ℕ
no_mail = replicate 1024 0

abbrev pub hears : List ℕ → Call
hears octets = hear octets large large

abbrev pub asks : Call
asks = ask large large output no_mail

-- an allowed cycle of 100 ticks
abbrev pub allowance : ℕ → Allowance
allowance version = record { cycle = record { 0 = 100 }; version = version }

-- whether the arguments of a call other than a start have their types' ranges
abbrev pub in_range : Message → Bool
in_range message =
    ltb message.destination 256
    && (ltb message.code 65536
    && (ltb message.size 65536
    && (ltb message.address 4294967296 && ltb message.result 256)))

abbrev pub is_typed : Call → Bool
is_typed (start settings given) = false
is_typed stop = true
is_typed tick = true
is_typed (post message octets mail) = in_range message
is_typed (hear octets memory assembly) = small octets
is_typed (ask memory turn output mail) = true

abbrev pub all_typed : List Call → Bool
all_typed [] = true
all_typed (call ∷ calls) = is_typed call && all_typed calls

typed : (call : Call) → is_typed call ≡ true → Typed call
typed (start settings given) e = absurd (false≢true e)
typed stop e = tt
typed tick e = tt
typed (post message octets mail) e =
    let a = second (ltb message.destination 256) _ e in
    let b = second (ltb message.code 65536) _ a in
    let c = second (ltb message.size 65536) _ b in
    record {
      destination = ltb-true _ _ (first (ltb message.destination 256) _ e);
      code = ltb-true _ _ (first (ltb message.code 65536) _ a);
      size = ltb-true _ _ (first (ltb message.size 65536) _ b);
      address = ltb-true _ _ (first (ltb message.address 4294967296) _ c);
      result = ltb-true _ _ (second (ltb message.address 4294967296) _ c);
    }
typed (hear octets memory assembly) e = small_at octets e
typed (ask memory turn output mail) e = tt

pub ticked_on : (ticks : ℕ) {both : Both} → Reachable both → Reachable (after_all after both (replicate ticks tick))
ticked_on zero reached = reached
ticked_on (suc ticks) reached = ticked_on ticks (called tick reached tt)

-- what such calls leave
pub reached_on : (calls : List Call) {both : Both} → Reachable both → all_typed calls ≡ true → Reachable (after_all after both calls)
reached_on [] reached e = reached
reached_on (call ∷ calls) reached e =
    reached_on calls (called call reached (typed call (first (is_typed call) (all_typed calls) e))) (second (is_typed call) (all_typed calls) e)

-- one such call, where it is known what it leaves
pub reached_by : {both left : Both} (call : Call) → is_typed call ≡ true → Reachable both → after both call ≡ left → Reachable left
reached_by call e reached is = subst Reachable is (called call reached (typed call e))

-- Ticks that are no taking, where no message is unconfirmed, leave the message part as it is.
abbrev untaken : ℕ → Station → Bool
untaken zero ring = true
untaken (suc ticks) ring = not (takes ring base.tick) && untaken ticks (base.after ring base.tick)

left_alone : (slot : Slot) → is_unconfirmed slot.mail ≡ false → slot_ticked slot ≡ slot
left_alone slot e =
    ap (λ (t : Bool). cond t (or_failed (slot_with slot Unconfirmed (min confirmation_wait (slot.ticks + 1)) slot.takings slot.asked)) slot) e

quiet_tick : (both : Both) → is_unconfirmed both.messages.slot.mail ≡ false → takes both.ring base.tick ≡ false
    → after both tick ≡ record { ring = base.after both.ring base.tick; messages = both.messages }
quiet_tick both e f =
    ap (λ (t : Bool). record { ring = base.after both.ring base.tick; messages = turned t (ticked both.messages) }) f
    ∙ ap (λ (s : Slot). record { ring = base.after both.ring base.tick; messages = with_slot both.messages s })
    (left_alone both.messages.slot e)

pub quiet_ticks : (ticks : ℕ) (both : Both) → is_unconfirmed both.messages.slot.mail ≡ false → untaken ticks both.ring ≡ true
    → after_all after both (replicate ticks tick)
    ≡ record { ring = after_all base.after both.ring (replicate ticks base.tick); messages = both.messages }
quiet_ticks zero both e f = refl
quiet_ticks (suc ticks) both e f =
    let test = not (takes both.ring base.tick) in
    ap (λ (b : Both). after_all after b (replicate ticks tick))
    (quiet_tick both e (not-true _ (first test (untaken ticks (base.after both.ring base.tick)) f)))
    ∙ quiet_ticks ticks (record { ring = base.after both.ring base.tick; messages = both.messages }) e
    (second test (untaken ticks (base.after both.ring base.tick)) f)

-- A station of the pair, with the list that has the other one.
abbrev list_of : ℕ → Milliseconds → Members
list_of other watch = record { entries = set (replicate 256 nobody) other (record { listed = true; areas = no_areas; watch = watch; misses = 0 }) }

abbrev pub settings : Milliseconds → ℕ → Settings
settings watch number = record { number = number; areas = no_areas; watch = watch }

abbrev pub token : Milliseconds → ℕ → ℕ → List ℕ
token watch source destination = frame_of (block_fields source destination no_areas watch 1) []

-- It is started, and hears three rounds of the other's frames: it is joining. So many ticks on, it has waited for its number.
abbrev joining : Milliseconds → ℕ → ℕ → ℕ → ℕ → Both
joining watch number version other ticks = record {
  ring = record {
    phase = Joining;
    own = settings watch number;
    members = list_of other watch;
    elapsed = record { 0 = ticks };
    waited = record { 0 = ticks };
    rounds = 3;
    sent = false;
    view = other;
    block = 0;
    gathering = nothing;
    panel = blank;
  };
  messages = begun (allowance version);
}

abbrev listens : Milliseconds → ℕ → List Call
listens watch other = hears (token watch other other) ∷ hears (token watch other other) ∷ hears (token watch other other) ∷ []

abbrev started : Milliseconds → ℕ → ℕ → Both
started watch number version = after never_both (start (settings watch number) (allowance version))

started_reached : (watch : Milliseconds) (number version : ℕ) → watch.0 < 256 → number < 256 → version < 4294967296
    → Reachable (started watch number version)
started_reached watch number version short few small =
    called (start (settings watch number) (allowance version)) unstarted (
      record {
        number = few;
        one = record { address = omega arith; size = omega arith };
        two = record { address = omega arith; size = omega arith };
        watch = short;
      },
      omega arith,
      small,
    )

-- so calls alone leave a station that has joined and waited
module _ (watch : Milliseconds) (number version other ticks : ℕ) where
  pub joined : Reachable (started watch number version) → all_typed (listens watch other) ≡ true
      → after_all after (started watch number version) (listens watch other) ≡ joining watch number version other 0
      → untaken ticks (joining watch number version other 0).ring ≡ true
      → after_all base.after (joining watch number version other 0).ring (replicate ticks base.tick) ≡ (joining watch number version other ticks).ring
      → Reachable (joining watch number version other ticks)
  joined reached typed is alone ring =
      subst Reachable
      (quiet_ticks ticks (joining watch number version other 0) refl alone
      ∙ ap (λ (s : Station). record { ring = s; messages = begun (allowance version) }) ring)
      (ticked_on ticks (subst Reachable is (reached_on (listens watch other) reached typed)))

-- a participant of the pair
abbrev pub panel_of : ℕ → ℕ → ℕ → Panel
panel_of takings running gap = record { takings = takings; running = record { 0 = running }; gap = record { 0 = gap } }

abbrev pub participant : Milliseconds → ℕ → ℕ → ℕ → ℕ → Panel → Station
participant watch number other elapsed view panel = record {
  phase = Participating;
  own = settings watch number;
  members = list_of other watch;
  elapsed = record { 0 = elapsed };
  waited = no_ticks;
  rounds = 0;
  sent = false;
  view = view;
  block = 0;
  gathering = nothing;
  panel = panel;
}

-- Station 1 takes the token, passes it on, and a tick comes, so that the next taking ends a cycle of one tick.
abbrev pub one : Milliseconds → Both
one watch = record { ring = participant watch 1 2 1 2 (panel_of 1 1 0); messages = begun (allowance 7) }

-- Station 2 takes the token, passes it on and takes it again, with one tick between.
abbrev pub two : Milliseconds → Both
two watch = record { ring = participant watch 2 1 0 2 (panel_of 2 0 1); messages = begun (allowance 9) }

-- Either of them sends its request, hears that it has the token, passes it on, and a tick comes: what each of these calls leaves.
abbrev at : Milliseconds → ℕ → ℕ → ℕ → ℕ → ℕ → Panel → Both
at watch number other version elapsed view panel = record { ring = participant watch number other elapsed view panel; messages = begun (allowance version) }

record Steps (watch : Milliseconds) (number other version ticks : ℕ) : Type 0 where
  joins : Reachable (joining watch number version other ticks)
  is_octets : small (token watch other number) ≡ true
  requests : after (joining watch number version other ticks) asks ≡ at watch number other version 0 other (panel_of 0 0 0)
  takes : after (at watch number other version 0 other (panel_of 0 0 0)) (hears (token watch other number)) ≡ at watch number other version 0 number (panel_of 1 0 0)
  passes : after (at watch number other version 0 number (panel_of 1 0 0)) asks ≡ at watch number other version 0 other (panel_of 1 0 0)
  ticks_once : after (at watch number other version 0 other (panel_of 1 0 0)) tick ≡ at watch number other version 1 other (panel_of 1 1 0)

brought : {watch : Milliseconds} {number other version ticks : ℕ} → Steps watch number other version ticks
    → Reachable (at watch number other version 1 other (panel_of 1 1 0))
brought {watch} {number} {other} steps =
    reached_by tick refl
    (reached_by asks refl
    (reached_by (hears (token watch other number)) steps.is_octets (reached_by asks refl steps.joins steps.requests) steps.takes)
    steps.passes)
    steps.ticks_once

-- both have the watch time of the other worked rings, 2 ms
abbrev pub short : Milliseconds
short = record { 0 = 2 }

short_one : Steps short 1 2 7 40
unfolding header_of front_of back_of fixed_for fields_of
short_one = record {
  joins = joined short 1 7 2 40 (started_reached short 1 7 (omega arith) (omega arith) (omega arith)) refl refl refl refl;
  is_octets = refl;
  requests = refl;
  takes = refl;
  passes = refl;
  ticks_once = refl;
}

short_two : Steps short 2 1 9 80
unfolding header_of front_of back_of fixed_for fields_of
short_two = record {
  joins = joined short 2 9 1 80 (started_reached short 2 9 (omega arith) (omega arith) (omega arith)) refl refl refl refl;
  is_octets = refl;
  requests = refl;
  takes = refl;
  passes = refl;
  ticks_once = refl;
}

pub one_reached : Reachable (one short)
one_reached = brought short_one

pub two_reached : Reachable (two short)
unfolding header_of front_of back_of fixed_for fields_of
two_reached = reached_by (hears (token short 1 2)) refl (brought short_two) refl

-- and with the longest watch time, in which a message can wait for its confirmation without a silence
abbrev pub long : Milliseconds
long = record { 0 = 255 }

long_one : Steps long 1 2 7 40
unfolding header_of front_of back_of fixed_for fields_of
long_one = record {
  joins = joined long 1 7 2 40 (started_reached long 1 7 (omega arith) (omega arith) (omega arith)) refl refl refl refl;
  is_octets = refl;
  requests = refl;
  takes = refl;
  passes = refl;
  ticks_once = refl;
}

long_two : Steps long 2 1 9 80
unfolding header_of front_of back_of fixed_for fields_of
long_two = record {
  joins = joined long 2 9 1 80 (started_reached long 2 9 (omega arith) (omega arith) (omega arith)) refl refl refl refl;
  is_octets = refl;
  requests = refl;
  takes = refl;
  passes = refl;
  ticks_once = refl;
}

pub long_one_reached : Reachable (one long)
long_one_reached = brought long_one

pub long_two_reached : Reachable (two long)
unfolding header_of front_of back_of fixed_for fields_of
long_two_reached = reached_by (hears (token long 1 2)) refl (brought long_two) refl

-- Our frames without data: our request in ring startup and in joining, our trigger in listening. Assumes nothing.
use Rattle.std.specs.Prelude.{Ok, ◌≡◌, ◌&&◌}
use Rattle.laws.specs.Usual.{refl, sym, ap, ◌∙◌, Bool, true, false, cond, false≢true, List, [], ℕ, drop}
use Rattle.asking_bare.specs.Bare.{no_data}
use Rattle.block.specs.Blocks.{start_of}
use Rattle.boundary_core.specs.Crossing.{station_of}
use Rattle.boundary_core.specs.declared.Core.{Core}
use Rattle.boundary_holder.specs.Held.{holds_block}
use Rattle.boundary_due.specs.Due.{due_core}
use Rattle.boundary_requesting.specs.Requesting.{is_requesting, request_of, after_request, request_asked}
use Rattle.frame_round_trip.specs.Sent.{trigger_fields}
use Rattle.frame_writing.specs.Writing.{whole_length, output_of}
use Rattle.station.specs.Rules.Asking.{Asking, due_in, next_block, lent_right, ask_of}
use Rattle.station.specs.Rules.State.{fresh}
use Rattle.station.specs.Types.{Fields, Members}
use Rattle.station.specs.declared.Phase.{Phase}
use Rattle.station.specs.declared.Phase.TheVariants.{Off, Listening, Startup, Joining, Participating}
use Rattle.station.specs.declared.Station.{Station}

abbrev pub bare_fields : Core → Fields
bare_fields core = cond (is_requesting core) (request_of core.own) (trigger_fields core.own.number)

-- the station after it
abbrev pub after_bare : Core → Members → Station
after_bare core members = cond (is_requesting core) (after_request core members) (fresh Startup core.own)

-- a frame without data, sent
abbrev pub sent_bare : Station → Fields → List ℕ → List ℕ → Asking
sent_bare after fields turn output =
    record { station = after; answer = Ok (whole_length fields); turn = turn; output = output_of fields [] output }

-- in listening
triggered : (station : Station) (memory turn output : List ℕ) → lent_right memory turn output ≡ true → station.phase ≡ Listening → due_in Listening station ≡ true
    → ask_of station memory turn output ≡ sent_bare (fresh Startup station.own) (trigger_fields station.own.number) turn output
triggered station memory turn output lent phase due =
    let fields = trigger_fields station.own.number in
    let block = drop (start_of (next_block station)) turn in
    let asked : ask_of station memory turn output
    ≡ record { station = fresh Startup station.own; answer = Ok (whole_length fields); turn = turn; output = output_of fields block output } =
    rw (lent, phase, due) in
    asked
    ∙ ap (λ (octets : List ℕ). record { station = fresh Startup station.own; answer = Ok (whole_length fields); turn = turn; output = octets })
    (sym (no_data fields block output refl))

without_second : (a b : Bool) → b ≡ true → (a && b) ≡ false → a ≡ false
without_second false b e f = refl
without_second true true e f = f
without_second true false e f = absurd (false≢true e)

-- what is due and is neither a block nor our request is our trigger
listens : (core : Core) → due_core core ≡ true → holds_block core ≡ false → is_requesting core ≡ false → core.phase ≡ Listening
listens core due free other = by core.phase refl
  where
    by : (phase : Phase) → core.phase ≡ phase → core.phase ≡ Listening
    by Off p = absurd (false≢true (rw p at due))
    by Listening p = p
    by Startup p = absurd (false≢true (sym (rw p at other)))
    by Joining p = absurd (false≢true (sym (rw p at other)))
    by Participating p = absurd (false≢true (sym (rw p at free) ∙ (rw p at due)))

-- what is due with these buffers, and is no block, is sent as the rules say
pub bare_asked : (core : Core) (members : Members) (memory turn output : List ℕ) → due_core core ≡ true → lent_right memory turn output ≡ true
    → (holds_block core && lent_right memory turn output) ≡ false
    → ask_of (station_of core members) memory turn output ≡ sent_bare (after_bare core members) (bare_fields core) turn output
bare_asked core members memory turn output due lent free = by (is_requesting core) refl
  where
    by : (requesting : Bool) → is_requesting core ≡ requesting
        → ask_of (station_of core members) memory turn output
        ≡ sent_bare (cond requesting (after_request core members) (fresh Startup core.own)) (cond requesting (request_of core.own) (trigger_fields core.own.number)) turn output
    by true e = request_asked core members memory turn output lent due e
    by false e =
        let one = listens core due (without_second (holds_block core) (lent_right memory turn output) lent free) e in
        triggered (station_of core members) memory turn output lent one (rw one at due)

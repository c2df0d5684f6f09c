-- What a frame that is not refused keeps, but for a participant's data. Assumes nothing.
use Rattle.std.specs.Prelude.{◌≡◌, ◌&&◌, ◌+◌, ◌<◌, ◌≤◌}
use Rattle.laws.specs.Usual.{refl, sym, ap, subst, ◌∙◌, Bool, true, false, cond, false≢true, List, ℕ, min, arith, get_or, eqb, leb, ltb}
use Rattle.std.proofs.Common.{leb-true, eqb-true, ne_eqb, leb-false}
use Rattle.std.proofs.lemmas.Bool.{eqb-false}
use Rattle.block.specs.Blocks.{blocks_of, octets_of}
use Rattle.frame.specs.Codes.{is_token, carries_areas}
use Rattle.frame.specs.Positions.{TW}
use Rattle.frame.specs.declared.Code.TheVariants.{Token}
use Rattle.laws.specs.Tests.{first, second}
use Rattle.members.specs.Listing.{listing}
use Rattle.frame_reading.specs.Reading.{is_station, fields_of}
use Rattle.frame_round_trip.specs.Accepted.{Accepted}
use Rattle.frame_round_trip.proofs.Shown.{source_is, destination_is, areas_are, block_is, cyclic_carries}
use Rattle.frame_writing.specs.Writing.{no_areas}
use Rattle.station.specs.Rules.Data.{same_areas}
use Rattle.station.proofs.Outcomes.HearCases.{awaits_on, lists_on}
use Rattle.station.specs.Outcomes.HearCases.{EnterCases, off, begins, joins, passes, reads, lists, ignores}
use Rattle.station.specs.Rules.Hearing.{requested}
use Rattle.station.proofs.States.KeepsStarting.{blank_shown, startup_sound, station_to}
use Rattle.station.proofs.States.ListKept.{empty_kept, listing_kept, placed_with}
use Rattle.station.specs.States.Reachable.{Ours, Listed, Placed, Shown, Sound}
use Rattle.station.specs.Rules.Starting.{request_fallen, ours_due, ends_round, joined_by}
use Rattle.station.specs.Rules.State.{is_off, is_participating, nothing, no_ticks, fresh, relisted}
use Rattle.station.specs.Rules.Token.{view_heard}
use Rattle.station.specs.Rules.Waits.{detection_wait, number_wait}
use Rattle.station.specs.Types.{Areas, Fields, Members, Phase, Off, Listening, Startup, Joining, Participating, Gathering, Station, Heard}
use Rattle.station.specs.States.KeepsEntering.{Fit}

watch_small : (octets : List ℕ) (frame : Fields) → ((at : ℕ) → get_or octets at 0 < 256) → Accepted octets frame → frame.watch.0 ≤ 255
unfolding fields_of
watch_small octets frame typed a =
    let same : get_or octets TW 0 ≡ frame.watch.0 = ap (λ (f : Fields). f.watch.0) a.holds in
    let small = typed TW in
    omega arith

pub fit : (octets : List ℕ) (frame : Fields) → ((at : ℕ) → get_or octets at 0 < 256) → Accepted octets frame → Fit frame
fit octets frame typed a = record {
  source = source_is a;
  destination = destination_is a;
  areas = areas_are a;
  total = λ e. (block_is a e).total;
  from = λ e. (block_is a e).from;
  last = λ e. (block_is a e).to;
  watch = watch_small octets frame typed a;
}

-- what joining reads
module _ (station : Station) (frame : Fields) (fits : Fit frame) where
  joined_sound : Ours station.own → Listed station.own.number station.members → station.rounds ≤ 3 → station.elapsed.0 < detection_wait
      → station.waited.0 ≤ number_wait station.own.number → (eqb station.rounds 3 ≡ false → station.waited.0 ≡ 0)
      → (is_token frame.code ≡ false → is_station station.view ≡ true) → station.gathering.source ≡ 0
      → eqb frame.source station.own.number ≡ false → carries_areas frame.code ≡ true → Shown station.panel
      → Sound (joined_by station frame)
  joined_sound ours list three below most early seen none other carries shown = record {
    list = listed (ltb station.rounds 3);
    empty = λ e. absurd (false≢true e);
    number = station_to station.own.number ours.number;
    ours = λ e. ours;
    rounds = counted (ends_round frame);
    elapsed = ticks (is_token frame.code);
    waited = most;
    unwaited = unwaited (ends_round frame);
    sent = λ e. absurd (false≢true e);
    view = λ e. view (is_token frame.code) refl;
    unseen = λ e. absurd (false≢true (sym e));
    place = omega arith;
    unheld = λ e. refl;
    gathering = λ e. absurd (eqb-false station.gathering.source 0 e none);
    ungathered = λ e. none;
    panel = shown;
  }
    where
      listed : (test : Bool) → Listed station.own.number
          (cond test (listing station.members frame.source frame.areas frame.watch no_areas) station.members)
      listed true = listing_kept frame.source frame.areas frame.watch no_areas list fits.source other (fits.areas carries) fits.watch
      listed false = list

      counted : (test : Bool) → cond test (min 3 (station.rounds + 1)) station.rounds ≤ 3
      counted true = omega arith
      counted false = three

      ticks : (test : Bool) → (cond test no_ticks station.elapsed).0 < detection_wait
      ticks true = omega arith
      ticks false = below

      unwaited : (test : Bool) → eqb (cond test (min 3 (station.rounds + 1)) station.rounds) 3 ≡ false → station.waited.0 ≡ 0
      unwaited true e = early (ne_eqb station.rounds 3 (λ q. eqb-false (min 3 (station.rounds + 1)) 3 e (omega arith)))
      unwaited false e = early e

      view : (test : Bool) → is_token frame.code ≡ test → is_station (cond test frame.destination station.view) ≡ true
      view true e = fits.destination e
      view false e = seen e

-- what holds of the view, and of the destination of a token frame, holds of the view after a frame
pub view_has : (P : ℕ → Type 0) (view : ℕ) (frame : Fields) → P view → (is_token frame.code ≡ true → P frame.destination) → P (view_heard view frame)
view_has P view frame seen destination = by (is_token frame.code) refl (eqb frame.source view)
  where
    smaller : (a b : ℕ) → P a → P b → (test : Bool) → leb a b ≡ test → P (min a b)
    smaller a b p q true t = let h = leb-true a b t in let s : a ≡ min a b = omega arith in subst P s p
    smaller a b p q false t = let h = leb-false a b t in let s : b ≡ min a b = omega arith in subst P s q

    by : (token : Bool) → is_token frame.code ≡ token → (same : Bool) → P (cond token (cond same frame.destination (min view frame.destination)) view)
    by true t true = destination t
    by true t false = smaller view frame.destination seen (destination t) (leb view frame.destination) refl
    by false t same = seen

-- the same sizes make the same turn, and the same blocks
pub same_octets : (a b : Areas) → same_areas a b ≡ true → octets_of a ≡ octets_of b
same_octets a b e =
    let one = first (eqb a.one.address b.one.address && eqb a.one.size b.one.size) (eqb a.two.address b.two.address && eqb a.two.size b.two.size) e in
    let two = second (eqb a.one.address b.one.address && eqb a.one.size b.one.size) (eqb a.two.address b.two.address && eqb a.two.size b.two.size) e in
    let p = eqb-true a.one.size b.one.size (second (eqb a.one.address b.one.address) (eqb a.one.size b.one.size) one) in
    let q = eqb-true a.two.size b.two.size (second (eqb a.two.address b.two.address) (eqb a.two.size b.two.size) two) in
    rw (p, q)

pub same_blocks : (a b : Areas) → same_areas a b ≡ true → blocks_of a ≡ blocks_of b
same_blocks a b e = rw (same_octets a b e)

-- another list alters nothing of whether our request has fallen due
pub same_fallen : (phase : Phase) (station : Station) (members : Members) (gathering : Gathering)
    → request_fallen phase (relisted station members gathering) ≡ request_fallen phase station
same_fallen Off station members gathering = refl
same_fallen Listening station members gathering = refl
same_fallen Startup station members gathering = refl
same_fallen Joining station members gathering = refl
same_fallen Participating station members gathering = refl

-- a frame that is of another station, unless we are off
module _ (station : Station) (frame : Fields) (ok : Sound station) (fits : Fit frame)
    (other : is_off station.phase ≡ false → eqb frame.source station.own.number ≡ false) where
  -- a first token frame begins joining
  enters_joining : is_off station.phase ≡ false → frame.code ≡ Token → Sound (joined_by (fresh Joining station.own) frame)
  enters_joining on c =
      joined_sound (fresh Joining station.own) frame fits (ok.ours on) (empty_kept station.own.number) (omega arith) (omega arith) (omega arith)
      (λ e. refl) (λ e. absurd (false≢true (sym e ∙ rw c))) refl (other on) (rw c) blank_shown

  goes_on_joining : station.phase ≡ Joining → carries_areas frame.code ≡ true → Sound (joined_by station frame)
  goes_on_joining e carries =
      joined_sound station frame fits (ok.ours (rw e)) ok.list ok.rounds (rw e at ok.elapsed) ok.waited
      ok.unwaited (λ t. ok.view (rw e)) (ok.ungathered (rw e)) (other (rw e)) carries ok.panel

  -- a request that is listed
  requested_sound : is_off station.phase ≡ false → carries_areas frame.code ≡ true → Sound (requested station frame)
  requested_sound on carries = record {
    list = listing_kept frame.source frame.areas frame.watch (ours_due station) ok.list fits.source (other on) (fits.areas carries) fits.watch;
    empty = λ e. absurd (false≢true (sym on ∙ e));
    number = ok.number;
    ours = ok.ours;
    rounds = ok.rounds;
    elapsed = ok.elapsed;
    waited = ok.waited;
    unwaited = ok.unwaited;
    sent = λ s. same_fallen station.phase station _ _ ∙ ok.sent s;
    view = ok.view;
    unseen = ok.unseen;
    place = ok.place;
    unheld = ok.unheld;
    gathering = placed (eqb frame.source station.gathering.source) refl;
    ungathered = λ e. none e (eqb frame.source station.gathering.source);
    panel = ok.panel;
  }
    where
      placed : (same : Bool) → eqb frame.source station.gathering.source ≡ same
          → eqb (cond same nothing station.gathering).source 0 ≡ false
          → Placed (listing station.members frame.source frame.areas frame.watch (ours_due station)) (cond same nothing station.gathering)
      placed true s e = absurd (false≢true (sym e))
      placed false s e =
          placed_with (ok.gathering e) frame.source _ (λ q. absurd (eqb-false frame.source station.gathering.source s (sym q)))

      none : is_participating station.phase ≡ false → (same : Bool) → (cond same nothing station.gathering).source ≡ 0
      none e true = refl
      none e false = ok.ungathered e

  -- a frame that a participant does not gather from
  pub enters_sound : {left : Station} {answer : Heard} → EnterCases station frame left answer → Sound left
  enters_sound (off e) = ok
  enters_sound (begins e c) = startup_sound station.own (ok.ours (rw e))
  enters_sound (joins e c) = enters_joining (awaits_on e) c
  enters_sound (passes e c) = ok
  enters_sound (reads e c) = goes_on_joining e (cyclic_carries frame.code c)
  enters_sound (lists e c) = requested_sound (lists_on e) (rw c)
  enters_sound (ignores e) = ok

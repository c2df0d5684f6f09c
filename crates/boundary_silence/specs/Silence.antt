-- A tick that ends a participant's watch, told by the core and by the entry of the station in view. Assumes nothing.
use Rattle.std.specs.Prelude.{◌≡◌, ◌&&◌, ◌+◌}
use Rattle.laws.specs.Usual.{refl, sym, ap, ◌∙◌, Bool, true, false, cond, ℕ, leb}
use Rattle.std.proofs.lemmas.Bool.{not-false}
use Rattle.boundary_core.specs.Crossing.{station_of, core_of}
use Rattle.boundary_core.specs.declared.Core.{Core}
use Rattle.boundary_participant.specs.Quick.{restarted_core}
use Rattle.boundary_watch.specs.Watch.{is_quiet}
use Rattle.members.specs.Members.{nobody, entry_of, is_listed, with_entry, misses_set, struck, strikes, missed, next_after}
use Rattle.panel.specs.Panel.{ticked}
use Rattle.station.specs.Rules.Data.{without}
use Rattle.station.specs.Rules.Ticking.{tick_of, watch_time, watch_ends, watch_ended}
use Rattle.station.specs.Types.{Members, Entry}
use Rattle.station.specs.declared.Gathering.{Gathering}
use Rattle.station.specs.declared.Ticked.TheVariants.{Done}
use Rattle.station.specs.declared.Phase.TheVariants.{Participating}

-- "A third miss in a row strikes it from the list."
abbrev pub missed_entry : Entry → Entry
missed_entry entry = cond (leb 2 entry.misses) nobody (misses_set (entry.misses + 1) entry)

-- a listed station's entry after its miss is in the list as the rules say
pub missed_there : (members : Members) (number : ℕ) → is_listed members number ≡ true
    → with_entry members number (missed_entry (entry_of members number)) ≡ missed members number
missed_there members number e =
    by (strikes members number)
    ∙ sym (ap (λ (listed : Bool). cond listed (cond (strikes members number) (struck members number) (with_entry members number once)) members) e)
  where
    once : Entry
    once = misses_set ((entry_of members number).misses + 1) (entry_of members number)

    by : (struck_now : Bool) → with_entry members number (cond struck_now nobody once) ≡ cond struck_now (struck members number) (with_entry members number once)
    by true = refl
    by false = refl

-- "striking it drops that too": what is left of a gathering
abbrev pub left_by : Entry → ℕ → Gathering → Gathering
left_by entry number gathering = cond (entry.listed && leb 2 entry.misses) (without number gathering) gathering

-- the tick is on the panel
abbrev pub ticked_core : Core → Core
ticked_core core = record {
  phase = core.phase;
  own = core.own;
  elapsed = core.elapsed;
  waited = core.waited;
  rounds = core.rounds;
  sent = core.sent;
  view = core.view;
  block = core.block;
  gathering = core.gathering;
  panel = ticked core.panel;
}

-- the core after it, by the number that is next and the entry of the station in view
abbrev pub silenced_core : Core → ℕ → Entry → Core
silenced_core core next entry = restarted_core (ticked_core core) next (left_by entry core.view core.gathering)

module _ (core : Core) (members : Members) where
  pub silence_tick : core.phase ≡ Participating → is_quiet core (watch_time (station_of core members)) ≡ false
      → tick_of (station_of core members) ≡ record { station = watch_ended (station_of core members); answer = Done }
  silence_tick four loud =
      let ends : watch_ends (station_of core members) ≡ true = not-false (watch_ends (station_of core members)) (rw four at loud) in
      rw (four, ends)

  pub silence_core : core_of (watch_ended (station_of core members))
      ≡ silenced_core core (next_after core.own.number members core.view) (entry_of members core.view)
  silence_core = refl

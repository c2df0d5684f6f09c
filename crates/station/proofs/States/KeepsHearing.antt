-- Hearing a frame keeps what holds in every state. Assumes nothing.
use Rattle.std.specs.Prelude.{◌≡◌, ◌<◌}
use Rattle.laws.specs.Usual.{sym, true, false, false≢true, List, ℕ, arith, get_or, eqb}
use Rattle.std.proofs.lemmas.Bool.{eqb-false}
use Rattle.block.specs.Blocks.{blocks_of}
use Rattle.members.specs.Members.{entry_of, cleared}
use Rattle.frame_reading.specs.Reading.{is_station}
use Rattle.station.specs.Rules.Data.{Gathered}
use Rattle.station.proofs.Outcomes.HearCases.{whole_of, other_of, hear_cases}
use Rattle.station.specs.Outcomes.HearCases.{FromMember, GatherCases, writes, keeps, repeats, drops, HearCases, refuses, turns_off, gathers, heeds}
use Rattle.station.specs.Rules.Hearing.{Hearing, hear_of}
use Rattle.station.proofs.States.KeepsEntering.{fit, same_blocks, enters_sound, view_has}
use Rattle.station.specs.States.KeepsEntering.{Fit}
use Rattle.station.proofs.States.KeepsStarting.{off_sound, restarted_sound}
use Rattle.station.proofs.States.ListKept.{cleared_kept, placed_misses}
use Rattle.station.specs.States.Reachable.{Placed, Sound}
use Rattle.station.specs.Rules.Token.{view_heard}
use Rattle.station.specs.Types.{Fields, Station}

module _ (station : Station) (octets memory assembly : List ℕ) (ok : Sound station) where
  -- what is gathered after a cyclic frame
  gathered_placed : (frame : Fields) {after : Gathered} → FromMember station octets memory assembly frame → Fit frame
      → GatherCases station frame octets memory assembly after → eqb after.gathering.source 0 ≡ false
      → Placed (cleared station.members frame.source) after.gathering
  gathered_placed frame from fits (writes areas new next last) e = absurd (false≢true (sym e))
  gathered_placed frame from fits (keeps areas new next last) e =
      let same = same_blocks frame.areas (entry_of station.members frame.source).areas areas in
      let total = fits.total from.cyclic in
      let most = fits.last from.cyclic in
      let unlike = eqb-false frame.block frame.blocks last in
      let some : frame.block < frame.blocks = omega arith in
      let within : frame.block < blocks_of (entry_of station.members frame.source).areas = rw (← same, ← total) some in
      placed_misses {members = station.members} {gathering = record { source = frame.source; blocks = frame.block }}
      (record { listed = from.listed; some = fits.from from.cyclic; blocks = within }) frame.source 0
  gathered_placed frame from fits (repeats areas again) e =
      placed_misses {members = station.members} {gathering = station.gathering} (ok.gathering e) frame.source 0
  gathered_placed frame from fits (drops why) e = absurd (false≢true (sym e))

  pub hear_sound : ((at : ℕ) → get_or octets at 0 < 256) → Sound (hear_of station octets memory assembly).station
  hear_sound typed = by (hear_cases station octets memory assembly)
    where
      by : {result : Hearing} → HearCases station octets memory assembly result → Sound result.station
      by (refuses refusal) = ok
      by (turns_off out) = off_sound _ ok.number
      by (gathers frame {after} from parts) =
          let fits = fit octets frame typed (whole_of from.accepts) in
          let p = from.participates in
          restarted_sound station (cleared station.members frame.source) (view_heard station.view frame) after.gathering station.panel ok
          (ok.ours (rw p)) (cleared_kept ok.list frame.source)
          (view_has (λ n. is_station n ≡ true) station.view frame (ok.view (rw p)) fits.destination)
          (gathered_placed frame from fits parts) ok.panel
      by (heeds frame facts entered) =
          enters_sound station frame ok (fit octets frame typed (whole_of facts)) (other_of facts) entered

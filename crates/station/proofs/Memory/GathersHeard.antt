-- Hearing keeps what the assembly buffer holds of a turn; so the turn that is written is blocks 1 to the last of one source. Assumes nothing.
use Rattle.std.specs.Prelude.{◌≡◌, ◌∷◌, ◌+◌, ◌*◌, ◌<◌, ◌≤◌}
use Rattle.laws.specs.Usual.{refl, sym, subst, ◌∙◌, true, false, List, ℕ, arith, length, eqb}
use Rattle.std.proofs.lemmas.Bool.{eqb-false}
use Rattle.block.specs.Blocks.{octets_of, blocks_of, start_of, length_of}
use Rattle.copying.specs.Pasted.{pasted}
use Rattle.members.specs.Members.{entry_of}
use Rattle.frame_round_trip.proofs.Shown.{block_is}
use Rattle.station.specs.Rules.Data.{same_areas, is_next}
use Rattle.station.specs.Memory.Gathers.{accepted_after, Parts, more, Gathers}
use Rattle.station.proofs.Memory.Gathers.{gathers_nothing, before_next, gathers_without}
use Rattle.station.specs.Outcomes.HearCases.{FromMember, writes, keeps, repeats, drops, off, begins, joins, passes, reads, lists, ignores, HearCases, refuses, turns_off, gathers, heeds}
use Rattle.station.proofs.Outcomes.HearCases.{entering, awaits_outside, whole_of, hear_cases}
use Rattle.station.specs.Rules.Hearing.{Hearing, hear_of}
use Rattle.station.proofs.States.KeepsEntering.{same_octets}
use Rattle.station.specs.States.Reachable.{Sound}
use Rattle.station.specs.Rules.State.{is_participating}
use Rattle.station.proofs.Memory.MemorySame.{data_outcome}
use Rattle.station.proofs.Memory.TurnJoined.{data_long, taken_through}
use Rattle.station.proofs.Memory.TurnWritten.{assembly_long}
use Rattle.station.specs.Types.{Fields, Station, Kept, Repeat}
use Rattle.block.specs.Cut as cut
use Rattle.frame_reading.specs.Reading as reading

module _ {heard : List (List ℕ)} (station : Station) (octets memory assembly : List ℕ) (ok : Sound station)
    (before : Gathers heard station.gathering assembly) where
  abbrev Keeps : Hearing → Type 0
  Keeps result = Gathers (accepted_after result.answer octets heard) result.station.gathering result.assembly

  -- nobody gathers before it participates
  unheld : is_participating station.phase ≡ false → (frames : List (List ℕ)) → Gathers frames station.gathering assembly
  unheld p frames some = absurd (eqb-false station.gathering.source 0 some (ok.ungathered p))

  -- a block that is kept
  kept_gathers : (frame : Fields) → FromMember station octets memory assembly frame
      → same_areas frame.areas (entry_of station.members frame.source).areas ≡ true → is_next station.gathering frame ≡ true
      → eqb frame.block frame.blocks ≡ false
      → Gathers (octets ∷ heard) (record { source = frame.source; blocks = frame.block })
      (pasted assembly (start_of frame.block) (reading.data_of octets frame))
  kept_gathers frame from alike next more_come some =
      let facts = block_is (whole_of from.accepts) from.cyclic in
      let total = facts.total in
      let least = facts.from in
      let to = facts.to in
      let unlike = eqb-false frame.block frame.blocks more_come in
      let few : frame.block < blocks_of frame.areas = smaller frame.block frame.blocks (blocks_of frame.areas) to unlike total in
      let size : length (reading.data_of octets frame) ≡ 1024 =
      data_long octets frame from.cyclic facts.least ∙ facts.size ∙ cut.whole frame.areas frame.block least few in
      let end = ending frame.block (length (reading.data_of octets frame)) least size in
      let room = cut.fits (entry_of station.members frame.source).areas (ok.list.each frame.source from.listed).areas in
      let within = cut.within frame.areas frame.block (weaker frame.block (blocks_of frame.areas) few) in
      let same = same_octets frame.areas (entry_of station.members frame.source).areas alike in
      let start = fitting (start_of frame.block) (length_of frame.areas frame.block) (octets_of frame.areas)
      (octets_of (entry_of station.members frame.source).areas) (length assembly) within same room (assembly_long memory assembly from.accepts.lent) in
      let found = before_next station.gathering frame assembly before some (eqb frame.block 1) (eqb station.gathering.source frame.source)
      (eqb (station.gathering.blocks + 1) frame.block) refl refl refl next in
      subst (Parts frame.source (octets ∷ heard) frame.block)
      (sym (taken_through assembly (reading.data_of octets frame) (start_of frame.block) (1024 * frame.block) start end))
      (more found.1 octets frame from.accepts.header from.accepts.body from.cyclic refl found.2)
    where
      smaller : (a b c : ℕ) → a ≤ b → (a ≡ b → ⊥) → b ≡ c → a < c
      smaller a b c h n e = omega arith

      weaker : (a b : ℕ) → a < b → a ≤ b
      weaker a b h = omega arith

      ending : (block size : ℕ) → 1 ≤ block → size ≡ 1024 → start_of block + size ≡ 1024 * block
      ending block size h e = omega arith

      fitting : (at size end other all : ℕ) → at + size ≤ end → end ≡ other → other ≤ 17408 → all ≡ 17408 → at ≤ all
      fitting at size end other all h e f l = omega arith

  gathers_in : {result : Hearing} → HearCases station octets memory assembly result → Keeps result
  gathers_in (refuses refusal) = before
  gathers_in (turns_off out) = gathers_nothing assembly
  gathers_in (gathers frame {after} from (writes areas new next last)) = gathers_nothing after.assembly
  gathers_in (gathers frame from (keeps areas new next last)) = rw (data_outcome station frame Kept) (kept_gathers frame from areas next last)
  gathers_in (gathers frame from (repeats areas again)) = rw (data_outcome station frame Repeat) before
  gathers_in (gathers frame from (drops why)) = gathers_nothing assembly
  gathers_in (heeds frame facts entered) =
      entering (λ left answer. Keeps (record { station = left; answer = answer; memory = memory; assembly = assembly })) (λ e. before)
      (λ e c. gathers_nothing assembly) (λ e c. gathers_nothing assembly) (λ e c. unheld (awaits_outside e) (octets ∷ heard))
      (λ e c. unheld (rw e) (octets ∷ heard)) (λ e c. gathers_without frame.source station.gathering assembly before) (λ e. before) entered

  pub hear_gathers : Keeps (hear_of station octets memory assembly)
  hear_gathers = gathers_in (hear_cases station octets memory assembly)

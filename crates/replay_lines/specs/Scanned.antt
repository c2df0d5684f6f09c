-- A scan of a part of the input takes it octet by octet. Assumes nothing.
use Rattle.std.specs.Prelude.{◌≡◌, ◌∷◌}
use Rattle.laws.specs.Usual.{refl, List, [], ℕ, drop, set}
use Rattle.text_feeding.proofs.Cut.{cut}
use Rattle.text_feeding.specs.Cut.{Cut, feed, clean}
use Rattle.text_feeding.proofs.Scan.{scan_feed, scan_clean, Scan}
use Rattle.replay_input.specs.Gathering.{pushed, scanned, buffer_scanned, pushed_all, buffer_all}
use Rattle.text_scanning.proofs.Scans.{scan_part, buffer_part, scan_line, buffer_line}
use Rattle.replay_input.specs.declared.Line.{Line}
use Rattle.text_scanning.specs.declared.Scanned.{Scanned}
use Rattle.text_scanning.specs.Made.{made}
use Rattle.replay_performing.specs.declared.Kept.{Kept}
use Rattle.replay_lines.specs.Replay.{carried, replay}
use Rattle.text_feeding.specs.Feeding as feeding
use Rattle.replay_input.specs.Gathering as input

-- the line and what is stored of it are pushed octet by octet, and nothing else changes
pub pushed_both : (octets : List ℕ) (kept : Kept) (line : Line) (stored : List ℕ) →
    feeding.pushed_all replay (carried kept line stored) octets ≡ carried kept (pushed_all line octets) (buffer_all line stored octets)
pushed_both [] kept line stored = refl
pushed_both (octet ∷ octets) kept line stored = pushed_both octets kept (pushed line octet) (set stored line.count octet)

module _ (kept : Kept) (line : Line) (stored part : List ℕ) (at : ℕ) where
  abbrev Scans : Scanned Line → List ℕ → Type 0
  Scans result after = Scan replay (carried kept line stored) part at (carried kept result.line after) result.next result.ended

  pub scan_taken : Scans (scanned line at (drop at part)) (buffer_scanned line stored (drop at part))
  scan_taken = by (cut (drop at part))
    where
      by : Cut (drop at part) → Scans (scanned line at (drop at part)) (buffer_scanned line stored (drop at part))
      by (feed octets rest none same) =
          rw (
            same,
            scan_line pushed made octets line at rest none,
            buffer_line pushed input.stored octets line stored rest none,
            ← pushed_both octets kept line stored,
          )
          (scan_feed replay (carried kept line stored) part at octets rest none same)
      by (clean none) =
          rw (
            scan_part pushed made (drop at part) line at none,
            buffer_part pushed input.stored (drop at part) line stored none,
            ← pushed_both (drop at part) kept line stored,
          )
          (scan_clean replay (carried kept line stored) part at none)

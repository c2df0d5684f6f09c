-- A scan of a part of the capture takes it octet by octet. Assumes nothing.
use Rattle.std.specs.Prelude.{◌≡◌, ◌∷◌}
use Rattle.laws.specs.Usual.{refl, List, [], ℕ, drop}
use Rattle.decode_line.specs.Gathering.{pushed, buffer_after, scanned, buffer_scanned}
use Rattle.decode_line.specs.Line.{pushed_all, buffer_all}
use Rattle.text_scanning.proofs.Scans.{scan_part, buffer_part, scan_line, buffer_line}
use Rattle.decode_line.specs.declared.Gathered.{Gathered}
use Rattle.text_scanning.specs.declared.Scanned.{Scanned}
use Rattle.text_scanning.specs.Made.{made}
use Rattle.text_feeding.proofs.Cut.{cut}
use Rattle.text_feeding.specs.Cut.{Cut, feed, clean}
use Rattle.text_feeding.proofs.Scan.{scan_feed, scan_clean, Scan}
use Rattle.decode.specs.Capture.{carried, decode}
use Rattle.text_feeding.specs.Feeding as feeding

-- the line and the buffer are pushed octet by octet
pub pushed_both : (room : ℕ) (octets : List ℕ) (line : Gathered) (frame : List ℕ) →
    feeding.pushed_all (decode room) (carried line frame) octets ≡ carried (pushed_all room line octets) (buffer_all room line frame octets)
pushed_both room [] line frame = refl
pushed_both room (octet ∷ octets) line frame = pushed_both room octets (pushed room line octet) (buffer_after line frame octet)

module _ (room : ℕ) (line : Gathered) (frame part : List ℕ) (at : ℕ) where
  abbrev Scans : Scanned Gathered → List ℕ → Type 0
  Scans result after = Scan (decode room) (carried line frame) part at (carried result.line after) result.next result.ended

  pub scan_taken : Scans (scanned room line at (drop at part)) (buffer_scanned room line frame (drop at part))
  scan_taken = by (cut (drop at part))
    where
      by : Cut (drop at part) → Scans (scanned room line at (drop at part)) (buffer_scanned room line frame (drop at part))
      by (feed octets rest none same) =
          rw (
            same,
            scan_line (pushed room) made octets line at rest none,
            buffer_line (pushed room) buffer_after octets line frame rest none,
            ← pushed_both room octets line frame,
          )
          (scan_feed (decode room) (carried line frame) part at octets rest none same)
      by (clean none) =
          rw (
            scan_part (pushed room) made (drop at part) line at none,
            buffer_part (pushed room) buffer_after (drop at part) line frame none,
            ← pushed_both room (drop at part) line frame,
          )
          (scan_clean (decode room) (carried line frame) part at none)

use Rattle.std.specs.Prelude.{◌≡◌, ◌≤◌, max}
use Rattle.laws.specs.Usual.{length, drop}
use Rattle.text_scanning.specs.Made.{made}
use Rattle.text_scanning.specs.Scanning.{scan_of, buffer_of}
use Rattle.text_scanning.proofs.scan.Given as goal

-- what is left of the text does to the line and the buffer what all of it does to those at the start
abbrev pub invariant-loop-place : goal.invariant-loop-place
invariant-loop-place g l =
    let push = g.L.Gathers.pushed (length l.initial.buffer) in
    let store = g.L.Gathers.stored in record {
      line : scan_of push made l.line l.place (drop l.place l.text) ≡ scan_of push made l.initial.line l.from (drop l.from l.text);
      buffer : buffer_of push store l.line l.buffer (drop l.place l.text) ≡ buffer_of push store l.initial.line l.initial.buffer (drop l.from l.text);
      within : l.place ≤ max l.from (length l.text);
    }

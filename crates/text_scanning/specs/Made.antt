-- What is made of a scan.
use Rattle.laws.specs.Usual.{Bool, ℕ}
use Rattle.text_scanning.specs.declared.Scanned.{Scanned}

abbrev pub made : {L : Type 0} → L → ℕ → Bool → Scanned L
made line next ended = record { line = line; next = next; ended = ended }

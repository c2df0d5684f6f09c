-- What is proved of the definitions in specs/Memory/Gathers.antt.
use Rattle.std.specs.Prelude.{◌≡◌, ◌&&◌, ◌||◌, ◌+◌, ◌*◌}
use Rattle.laws.specs.Usual.{sym, ap, subst, ◌∙◌, Bool, true, false, cond, false≢true, List, ℕ, arith, take, eqb}
use Rattle.std.proofs.Common.{eqb-true}
use Rattle.block.specs.Blocks.{start_of}
use Rattle.station.specs.Rules.Data.{without}
use Rattle.station.specs.Rules.State.{nothing}
use Rattle.station.specs.Types.{Fields, Gathering}
use Rattle.station.specs.Memory.Gathers.{Parts, none, Gathers}

pub gathers_nothing : {heard : List (List ℕ)} (assembly : List ℕ) → Gathers heard nothing assembly
gathers_nothing assembly e = absurd (false≢true (sym e))

pub gathers_without : {heard : List (List ℕ)} (source : ℕ) (gathering : Gathering) (assembly : List ℕ) → Gathers heard gathering assembly → Gathers heard (without source gathering) assembly
gathers_without {heard} source gathering assembly g = by (eqb source gathering.source)
  where
    by : (same : Bool) → Gathers heard (cond same nothing gathering) assembly
    by true = gathers_nothing assembly
    by false = g

-- the blocks before one that is next
pub before_next : {heard : List (List ℕ)} (gathering : Gathering) (frame : Fields) (assembly : List ℕ) → Gathers heard gathering assembly → eqb frame.source 0 ≡ false
    → (one source block : Bool) → eqb frame.block 1 ≡ one → eqb gathering.source frame.source ≡ source
    → eqb (gathering.blocks + 1) frame.block ≡ block → (one || (source && block)) ≡ true
    → (n : ℕ) × Parts frame.source heard n (take (start_of frame.block) assembly) × (frame.block ≡ n + 1)
before_next {heard} gathering frame assembly g some true source block o s b e =
    let first : frame.block ≡ 1 = eqb-true frame.block 1 o in
    let start : start_of frame.block ≡ 0 = omega arith in
    (0, subst (λ (k : ℕ). Parts frame.source heard 0 (take k assembly)) (sym start) none, omega arith)
before_next {heard} gathering frame assembly g some false true true o s b e =
    let alike : gathering.source ≡ frame.source = eqb-true gathering.source frame.source s in
    let count : gathering.blocks + 1 ≡ frame.block = eqb-true (gathering.blocks + 1) frame.block b in
    let start : 1024 * gathering.blocks ≡ start_of frame.block = omega arith in
    let parts : Parts gathering.source heard gathering.blocks (take (1024 * gathering.blocks) assembly) = g (ap (λ (k : ℕ). eqb k 0) alike ∙ some) in (
      gathering.blocks,
      subst (λ (k : ℕ). Parts frame.source heard gathering.blocks (take k assembly)) start
          (subst (λ (k : ℕ). Parts k heard gathering.blocks (take (1024 * gathering.blocks) assembly)) alike parts),
      omega arith,
    )
before_next {heard} gathering frame assembly g some false true false o s b e = absurd (false≢true e)
before_next {heard} gathering frame assembly g some false false block o s b e = absurd (false≢true e)

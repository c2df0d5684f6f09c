-- `boundary_entering::begin_joining` meets its contract.
use Rattle.laws.specs.Usual.{ap, ap₂, ◌∙◌, cond, ℕ, ltb}
use Rattle.boundary_core.specs.declared.Core.{Core}
use Rattle.frame_writing.specs.Writing.{no_areas}
use Rattle.members.specs.Listing.{listing}
use Rattle.station.specs.Types.{Members}
use Rattle.boundary_entering.specs.Entering.{joined_core}
use Rattle.boundary_entering.proofs.begin_joining.Goals as goal

pub returns : goal.returns
returns c =
    let frame = c.args.frame in
    let begun = c.begin-core.ensures in
    let learned : ℕ → Members → Members =
    λ (rounds : ℕ) (members : Members). cond (ltb rounds 3) (listing members frame.source frame.areas frame.watch no_areas) members in
    record { value = c.join.ensures ∙ ap (λ (k : Core). joined_core k frame) begun.value; misses_after = c.learn.ensures ∙ ap₂ learned (ap (λ (k : Core). k.rounds) begun.value) begun.misses_after }

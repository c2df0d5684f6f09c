-- `boundary_holder::sent_block` meets its contract.
use Rattle.boundary_holder.specs.Held.{held_placed}
use Rattle.boundary_holder.proofs.sent_block.Goals as goal

pub after_block-after-requires : goal.after_block-after-requires
after_block-after-requires c = held_placed c.args.core c.requires

pub returns : goal.returns
returns c =
    rw (c.after_block-after.ensures.view_value, c.after_block-after.ensures.block_value, c.after_block-after.ensures.panel_value)

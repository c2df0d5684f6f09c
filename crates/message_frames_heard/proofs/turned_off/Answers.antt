-- `message_frames_heard::turned_off` meets its contract.
use Rattle.message_frames_heard.proofs.turned_off.Goals as goal

pub returns : goal.returns
returns c = rw (c.is_off.ensures, c.is_off-2.ensures)

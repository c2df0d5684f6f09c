-- Numbers that are ours or listed, and what the operations on the list keep of them. Assumes nothing.
use Rattle.std.specs.Prelude.{◌≡◌, ◌||◌}
use Rattle.laws.specs.Usual.{true, ℕ, eqb}
use Rattle.members.specs.Members.{is_listed}
use Rattle.station.specs.Types.{Members}

-- the number is ours or listed
abbrev pub Known : ℕ → Members → ℕ → Type 0
Known ours members number = (eqb number ours || is_listed members number) ≡ true

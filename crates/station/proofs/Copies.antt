-- A block heard twice, worked out for station 1 that lists 2 and 3: each case against the outcome that paper 02, E4, gives. The blocks have two
-- octets in place of 1024, since no rule of gathering looks at their length. Assumes nothing.
use Rattle.std.specs.Prelude.{◌≡◌, ◌∷◌}
use Rattle.laws.specs.Usual.{[], refl}
use Rattle.members.specs.Members.{entry_of}
use Rattle.station.specs.Types.{Kept, Written, Dropped, Repeat}
use Rattle.station.specs.Copies.{three, block, from2, hears, first, second, third, missed}
use Rattle.frame.specs.declared.Code.TheVariants as codes
use Rattle.station.specs.declared.Heard.TheVariants as answers
use Rattle.station.specs.declared.Token.TheVariants as tokens

-- "the same source, number, length and octets as the last one still gathered": passed over, and the turn goes on
block_2_again :
    ((hears second.station (from2 2) (5 ∷ 6 ∷ []) second.assembly).answer ≡ answers.Cyclic (tokens.None Repeat))
    × ((hears second.station (from2 2) (5 ∷ 6 ∷ []) second.assembly).station.gathering ≡ record { source = 2; blocks = 2 })
block_2_again = (refl, refl)

-- block 1 too, where it is all that is gathered
block_1_again : (hears first.station (from2 1) (7 ∷ 8 ∷ []) first.assembly).answer ≡ answers.Cyclic (tokens.None Repeat)
block_1_again = refl

-- not where block 2 is gathered: there it starts afresh
block_1_below : (hears second.station (from2 1) (7 ∷ 8 ∷ []) second.assembly).answer ≡ answers.Cyclic (tokens.None Kept)
block_1_below = refl

-- "a differing second copy .. is treated as before"
other_octets_lem :
    ((hears second.station (from2 2) (5 ∷ 9 ∷ []) second.assembly).answer ≡ answers.Cyclic (tokens.None Dropped))
    × ((hears first.station (from2 1) (7 ∷ 9 ∷ []) first.assembly).answer ≡ answers.Cyclic (tokens.None Kept))
other_octets_lem = (refl, refl)

last_again :
    (third.answer ≡ answers.Cyclic (tokens.None Written))
    × ((hears third.station (from2 3) (1 ∷ 2 ∷ []) third.assembly).answer ≡ answers.Cyclic (tokens.None Dropped))
last_again = (refl, refl)

-- the same octets from another source, and with other areas than the listed ones
another_source : (hears second.station (block codes.Cyclic 3 2 (three 2000) 2) (5 ∷ 6 ∷ []) second.assembly).answer ≡ answers.Cyclic (tokens.None Dropped)
another_source = refl

other_areas : (hears second.station (block codes.Cyclic 2 3 (three 1) 2) (5 ∷ 6 ∷ []) second.assembly).answer ≡ answers.Cyclic (tokens.None Dropped)
other_areas = refl

-- "in the assembly buffer as now lent": here the one from before block 2
as_now_lent : (hears second.station (from2 2) (5 ∷ 6 ∷ []) first.assembly).answer ≡ answers.Cyclic (tokens.None Dropped)
as_now_lent = refl

-- "A repeat of a token frame acts on the view by the old rule."
token_read :
    ((hears second.station (block codes.Token 2 3 (three 0) 2) (5 ∷ 6 ∷ []) second.assembly).answer ≡ answers.Cyclic (tokens.PassedOn Repeat))
    × ((hears second.station (block codes.Token 2 3 (three 0) 2) (5 ∷ 6 ∷ []) second.assembly).station.view ≡ 3)
token_read = (refl, refl)

watch_restarts :
    (missed.elapsed.0 ≡ 1)
    × ((hears missed (from2 2) (5 ∷ 6 ∷ []) second.assembly).station.elapsed.0 ≡ 0)
    × ((entry_of (hears missed (from2 2) (5 ∷ 6 ∷ []) second.assembly).station.members 2).misses ≡ 0)
watch_restarts = (refl, refl, refl)

-- Worked cases. Assumes nothing.
use Rattle.std.specs.Prelude.{◌≡◌}
use Rattle.laws.specs.Usual.{refl, true}
use Rattle.members.specs.Members.{no_members}
use Rattle.station.specs.Rules.State.{fresh, begun, never as never_started, request_sent}
use Rattle.station.specs.declared.Phase.TheVariants.{Listening, Startup}
use Rattle.ticking_quiet.specs.Many.{after_ticks, ticks_of}
use Rattle.ticking_quiet.specs.Quiet.{never, till, quiet_of, tick_is_news}
use Rattle.ticking_quiet.specs.Cases.{third, ninth}

off_station : quiet_of never_started ≡ never
off_station = refl

-- token detection takes 30,000 ticks and the trigger wait 120
listening : quiet_of (fresh Listening third) ≡ till 30119
listening = refl

-- the wait for our number, 120 ticks, ends before the acceptance time, 12,000
starting : quiet_of (fresh Startup third) ≡ till 119
starting = refl

request_sent_lem : quiet_of (request_sent (fresh Startup third)) ≡ till 11999
request_sent_lem = refl

-- the watch: 40 ticks with 9 in view, 20 while we hold
watching : quiet_of (begun third ninth 9) ≡ till 39
watching = refl

last_tick : tick_is_news (after_ticks 39 (begun third ninth 9)) ≡ true
last_tick = refl

holding : quiet_of (begun third ninth 3) ≡ till 19
holding = refl

alone : quiet_of (begun third no_members 3) ≡ never
alone = refl

one_tick : (ticks_of 1 (begun third ninth 9)).station.elapsed.0 ≡ 1
one_tick = refl

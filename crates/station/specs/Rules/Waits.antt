-- The waits of clause 8.7 of JEM 1479, which gives them in milliseconds, as ticks. A wait of w ticks ends in the w-th tick after it began.
use Rattle.std.specs.Prelude.{ℕ, ◌+◌, ◌*◌, ◌%◌, max}
use Rattle.units.specs.Time.{as_wait, in_ticks}
use Rattle.units.specs.declared.Milliseconds.{Milliseconds}

-- token detection (8.7.6), 3,000 ms
abbrev pub detection_wait : ℕ
detection_wait = (in_ticks (record { 0 = 3000 })).0

-- acceptance of participation requests (8.7.8), 1,200 ms
abbrev pub acceptance_time : ℕ
acceptance_time = (in_ticks (record { 0 = 1200 })).0

-- "the wait for our number" (8.7.7): 4 ms times the number
abbrev pub number_wait : ℕ → ℕ
number_wait number = (in_ticks (record { 0 = 4 * number })).0

-- "the trigger wait" (8.7.9): 4 ms times the remainder of the number by 8
abbrev pub trigger_wait : ℕ → ℕ
trigger_wait number = (in_ticks (record { 0 = 4 * (number % 8) })).0

-- listening until a trigger is due
abbrev pub listening_time : ℕ → ℕ
listening_time number = detection_wait + trigger_wait number

-- "It ends once ten ticks for each of its milliseconds have come."
abbrev pub watch_ticks : Milliseconds → ℕ
watch_ticks watch = (in_ticks (as_wait watch)).0

-- "a listed TW of 0 counts as 1 ms" (paper 02, E1)
abbrev pub counts_as : Milliseconds → Milliseconds
counts_as watch = record { 0 = max 1 watch.0 }

-- no watch is longer: "An own watch time is 1 to 255 ms", and a listed one is an octet
abbrev pub longest_watch : ℕ
longest_watch = watch_ticks (record { 0 = 255 })

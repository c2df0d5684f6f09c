-- `boundary_quiet::quiet_ticks` meets its contract.
use Rattle.laws.specs.Usual.{◌∙◌}
use Rattle.station.specs.declared.Phase.TheVariants.{Off, Listening, Startup, Joining, Participating}
use Rattle.boundary_quiet.specs.Numbers.{quiet_by}
use Rattle.boundary_quiet.proofs.quiet_ticks.Goals as goal

pub returns-in-Off : goal.returns-in-Off
returns-in-Off c = λ areas misses.
    let a = c.args in
    let told = c.in-Off.is in
    c.unless.ensures
    ∙ quiet_by a.core a.listed.now areas a.watch.now misses Off told

pub returns-in-Listening : goal.returns-in-Listening
returns-in-Listening c = λ areas misses.
    let a = c.args in
    let told = c.in-Listening.is in
    c.unless-in-Listening.ensures
    ∙ rw (c.listening_time.ensures, c.left_in-left.ensures, told) (rw told at (quiet_by a.core a.listed.now areas a.watch.now misses Listening told))

pub returns-in-Startup : goal.returns-in-Startup
returns-in-Startup c = λ areas misses.
    let a = c.args in
    let told = c.in-Startup.is in
    c.unless-in-Startup.ensures
    ∙ rw (c.left_in-left.ensures, told) (rw told at (quiet_by a.core a.listed.now areas a.watch.now misses Startup told))

pub returns-in-Joining : goal.returns-in-Joining
returns-in-Joining c = λ areas misses.
    let a = c.args in
    let told = c.in-Joining.is in
    c.unless-in-Joining.ensures
    ∙ rw (c.left_in-left.ensures, told) (rw told at (quiet_by a.core a.listed.now areas a.watch.now misses Joining told))

pub returns-in-Participating : goal.returns-in-Participating
returns-in-Participating c = λ areas misses.
    let a = c.args in
    let told = c.in-Participating.is in
    c.unless-in-Participating.ensures
    ∙ rw (c.next_after.ensures, c.left_in-left.ensures, c.watch_time-time.ensures areas misses, told) (rw told at (quiet_by a.core a.listed.now areas a.watch.now misses Participating told))

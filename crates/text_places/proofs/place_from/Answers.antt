-- `text_places::place_from` meets its contract.
use Rattle.std.specs.Prelude.{◌≡◌, ◌+◌, ◌≤◌}
use Rattle.laws.specs.Usual.{ap, arith, length, drop}
use native.Mathlib.Numerals.{add-one}
use lib.ListN.{drop_of_length-le}
use lib.Seq.{drop-cons}
use borrow.Author.Tests.{eq-eqb, ne_eqb}
use Rattle.text_reading.specs.Marks.{before}
use Rattle.text_places.proofs.place_from.Goals as goal

pub loop-place-init : goal.loop-place-init
loop-place-init c = record { same = omega arith; within = omega arith }

pub returns-then-octets-place : goal.returns-then-octets-place
returns-then-octets-place c =
    let a = c.args in
    let loop = c.loop-place in
    let here : before a.mark (drop loop.place a.octets.now) ≡ 0 = rw (drop-cons a.octets.now loop.place 0 c.loop-place-test.true, eq-eqb _ _ c.if-octets-place.true) in
    omega (arith, here, loop.invariant.same)

pub loop-place-preserved : goal.loop-place-preserved
loop-place-preserved c =
    let a = c.args in
    let loop = c.loop-place in
    let inside = c.loop-place-test.true in
    let next : before a.mark (drop loop.place a.octets.now) ≡ before a.mark (drop (loop.place + 1) a.octets.now) + 1 =
    rw (add-one loop.place, add-one, drop-cons a.octets.now loop.place 0 inside, ne_eqb _ _ c.if-octets-place.false) in
    record { same = omega (arith, next, loop.invariant.same); within = omega (arith, inside) }

pub returns : goal.returns
returns c =
    let a = c.args in
    let loop = c.loop-place in
    let past : length a.octets.now ≤ loop.place = omega (arith, c.loop-place-test.false) in
    let done : before a.mark (drop loop.place a.octets.now) ≡ 0 = ap (before a.mark) (drop_of_length-le a.octets.now past) in
    omega (arith, loop.invariant.same, loop.invariant.within, c.max.ensures, c.loop-place-test.false, loop.auto.place, done)

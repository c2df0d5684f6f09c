-- `text_hexadecimal::digit_of` meets its contract.
use Rattle.laws.specs.Usual.{arith}
use borrow.Author.Tests.{le-leb, lt-leb}
use Rattle.text_hexadecimal.proofs.digit_of.Goals as goal

pub returns-in-48-to-57 : goal.returns-in-48-to-57
returns-in-48-to-57 c =
    let o = c.args.octet in
    simp (le-leb 48 o (omega arith), le-leb o 57 (omega arith))

pub returns-in-65-to-70 : goal.returns-in-65-to-70
returns-in-65-to-70 c =
    let o = c.args.octet in
    simp (le-leb 48 o (omega arith), lt-leb o 57 (omega arith), le-leb 65 o (omega arith), le-leb o 70 (omega arith))

pub returns-in-97-to-102 : goal.returns-in-97-to-102
returns-in-97-to-102 c =
    let o = c.args.octet in
    simp (le-leb 48 o (omega arith), lt-leb o 57 (omega arith), le-leb 65 o (omega arith), lt-leb o 70 (omega arith), le-leb 97 o (omega arith), le-leb o 102 (omega arith))

pub returns-in_default : goal.returns-in_default
returns-in_default c =
    let o = c.args.octet in
    simp (lt-leb 48 o (omega arith), lt-leb 65 o (omega arith), lt-leb 97 o (omega arith))

pub returns-in_default-2 : goal.returns-in_default-2
returns-in_default-2 c =
    let o = c.args.octet in
    simp (le-leb 48 o (omega arith), lt-leb o 57 (omega arith), lt-leb 65 o (omega arith), lt-leb 97 o (omega arith))

pub returns-in_default-3 : goal.returns-in_default-3
returns-in_default-3 c =
    let o = c.args.octet in
    simp (le-leb 48 o (omega arith), lt-leb o 57 (omega arith), le-leb 65 o (omega arith), lt-leb o 70 (omega arith), lt-leb 97 o (omega arith))

pub returns-in_default-4 : goal.returns-in_default-4
returns-in_default-4 c =
    let o = c.args.octet in
    simp (le-leb 48 o (omega arith), lt-leb o 57 (omega arith), le-leb 65 o (omega arith), lt-leb o 70 (omega arith), le-leb 97 o (omega arith), lt-leb o 102 (omega arith))

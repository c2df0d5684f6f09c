-- Parts of a list, and octets put in front of one. Assumes nothing.
use Rattle.std.specs.Prelude.{◌≡◌, ◌-◌, ◌≤◌}
use Rattle.laws.specs.Usual.{sym, ap, ◌∙◌, List, ℕ, arith, length, take, drop}
use lib.ListN.{length-drop}
use lib.Seq.{take_all}
use borrow.Rule.Slice.PartMut.{put_mid, mid_of, mid_len}
use Rattle.copying.specs.Laws.{paste_part}
use Rattle.copying.specs.Pasted.{pasted}

-- as much as a list has from a place on, by two counts that are no less
pub all_behind : (list : List ℕ) (at n m : ℕ) → length list - at ≤ n → length list - at ≤ m → take n (drop at list) ≡ take m (drop at list)
all_behind list at n m h k =
    take_all n (drop at list) (rw length-drop h) ∙ sym (take_all m (drop at list) (rw length-drop k))

-- octets put in front of the part from `at` on are put into the whole
pub put_front : (list octets : List ℕ) (at : ℕ) →
    put_mid at (length list - at) list (pasted (mid_of at (length list - at) list) 0 (take (length (mid_of at (length list - at) list)) octets))
    ≡ pasted list at (take (length list - at) octets)
put_front list octets at =
    ap (λ (n : ℕ). put_mid at (length list - at) list (pasted (mid_of at (length list - at) list) 0 (take n octets))) (mid_len at (length list) list (omega arith))
    ∙ paste_part list (take (length list - at) octets) at

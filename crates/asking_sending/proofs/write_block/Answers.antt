-- `asking_sending::write_block` meets its contract.
use Rattle.std.specs.Prelude.{◌≡◌, ◌+◌, ◌-◌}
use Rattle.laws.specs.Usual.{sym, ap, ap₂, ◌∙◌, List, ℕ, take, rules}
use native.Mathlib.Nat.{sub-zero}
use Rattle.copying.specs.Pasted.{pasted}
use Rattle.frame.specs.declared.Fields.{Fields}
use Rattle.frame_reading.specs.Reading.{data_size}
use Rattle.frame_writing.specs.Steps.{in_two_steps}
use Rattle.frame_writing.specs.Writing.{header_of}
use Rattle.asking_sending.proofs.write_block.Goals as goal

pub returns : goal.returns
returns c =
    let a = c.args in
    let pre = c.requires in
    let fields = a.fields in
    let octets = a.octets.now in
    let out = a.output.now in
    let header = c.write_header.ensures ∙ ap (λ (f : Fields). pasted out 0 (header_of f)) (sym pre.fields_value) in
    let size : fields.size - 0 ≡ data_size fields = sub-zero fields.size ∙ sym pre.fields_value_2 in record {
      value = ap (λ (n : ℕ). 64 + n) (sym pre.fields_value_2);
      output_after = c.copy_into.ensures
          ∙ ap₂ (λ (l : List ℕ) (n : ℕ). pasted l 64 (take n octets)) header size
          ∙ in_two_steps fields octets out pre.fields_in_bounds pre.fields_in_bounds_2;
    }

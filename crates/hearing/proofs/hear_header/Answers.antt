-- `hearing::hear_header` meets its contract.
use Rattle.laws.specs.Usual.{sym, ◌∙◌, length}
use Rattle.hearing_data.specs.Body.{body_read}
use Rattle.hearing.proofs.hear_header.Goals as goal

pub hear_body-requires-clause-frame_value : goal.hear_body-requires-clause-frame_value
hear_body-requires-clause-frame_value c =
    let a = c.args in
    body_read (length a.octets.now) a.frame _ (sym c.read_body.ensures ∙ c.in-Ok.is)

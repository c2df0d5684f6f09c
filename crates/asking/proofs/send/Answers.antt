-- `asking::send` meets its contract.
use Rattle.std.specs.Prelude.{Ok, ◌≡◌}
use Rattle.laws.specs.Usual.{refl, sym, ap, subst, ◌∙◌, false≢true, List, [], ℕ, arith, length, drop, rules}
use Rattle.asking_bare.specs.Bare.{no_data}
use Rattle.block.specs.Blocks.{start_of}
use Rattle.laws.specs.Tests.{second}
use Rattle.frame_reading.specs.Reading.{data_size}
use Rattle.station.specs.Rules.Asking.{is_placed, due_in, next_block, due_fields, turn_after, sent_in}
use Rattle.station.specs.Rules.State.{holds}
use Rattle.frame.specs.declared.Fields.{Fields}
use Rattle.station.specs.declared.Phase.{Phase}
use Rattle.station.specs.declared.Station.{Station}
use Rattle.station.specs.Types.{Asked}
use Rattle.frame_writing.specs.Writing.{whole_length, output_of}
use Rattle.asking.proofs.Lent.{lent}
use Rattle.asking.proofs.send.Goals as goal

module _ (station : Station) (memory turn output : List ℕ) where
  -- what a frame that is due in a phase leaves
  abbrev Sent : Phase → Station → Asked → List ℕ → Type 0
  Sent phase after answer written =
      (after ≡ sent_in phase station)
      × ((answer ≡ Ok (whole_length (due_fields phase station)))
      × ((turn ≡ turn_after phase station memory turn)
      × (written ≡ output_of (due_fields phase station) (drop (start_of (next_block station)) (turn_after phase station memory turn)) output)))

  -- one without data
  bare : {phase : Phase} {fields : Fields} {after : Station} {answer : Asked} {written : List ℕ} →
      station.phase ≡ phase → fields ≡ due_fields phase station → data_size (due_fields phase station) ≡ 0 → turn_after phase station memory turn ≡ turn →
      after ≡ sent_in phase station → answer ≡ Ok (whole_length fields) → written ≡ output_of fields [] output →
      Sent station.phase after answer written
  bare {phase} {fields} {after} {answer} {written} told e none kept p q r =
      let block = drop (start_of (next_block station)) (turn_after phase station memory turn) in
      let output_so = r ∙ ap (λ (f : Fields). output_of f [] output) e ∙ no_data (due_fields phase station) block output none in
      subst (λ (now : Phase). Sent now after answer written) (sym told)
      (p, (q ∙ ap (λ (f : Fields). Ok (whole_length f)) e, (sym kept, output_so)))

pub send_bare-requires : goal.send_bare-requires
send_bare-requires c = record { fields_value = ap data_size c.trigger_fields.ensures; in_bounds = (lent c.args.memory.now c.args.turn.now c.args.output.now c.requires.output_value).room }

pub send_block-requires : goal.send_block-requires
send_block-requires c =
    let a = c.args in
    let due = ap (λ (p : Phase). due_in p a.station) (sym c.in-Participating.is) ∙ c.requires.station_value in
    let l = lent a.memory.now a.turn.now a.output.now c.requires.output_value in
    record { station_value = second (holds a.station) (is_placed a.station) due; memory_len = l.memory_whole; turn_len = l.turn_whole; in_bounds = l.room }

pub returns-in-Off : goal.returns-in-Off
returns-in-Off c = absurd (false≢true (ap (λ (p : Phase). due_in p c.args.station) (sym c.in-Off.is) ∙ c.requires.station_value))

pub returns-in-Listening : goal.returns-in-Listening
returns-in-Listening c =
    let a = c.args in
    let w = c.send_bare.ensures in let both = bare a.station a.memory.now a.turn.now a.output.now c.in-Listening.is c.trigger_fields.ensures refl refl
    (w.station_value ∙ c.fresh.ensures) w.answer_value w.output_after in
    record { station_value_2 = both.0; answer_value = both.1.0; turn_after = both.1.1.0; output_after = both.1.1.1 }

pub returns-in-Startup : goal.returns-in-Startup
returns-in-Startup c =
    let a = c.args in
    let w = c.send_bare-in-Startup.ensures in let both = bare a.station a.memory.now a.turn.now a.output.now c.in-Startup.is c.request_fields.ensures refl refl
    (w.station_value ∙ c.request_sent.ensures) w.answer_value w.output_after in
    record { station_value_2 = both.0; answer_value = both.1.0; turn_after = both.1.1.0; output_after = both.1.1.1 }

pub returns-in-Joining : goal.returns-in-Joining
returns-in-Joining c =
    let a = c.args in
    let w = c.send_bare-in-Joining.ensures in let both = bare a.station a.memory.now a.turn.now a.output.now c.in-Joining.is c.request_fields-in-Joining.ensures refl refl
    (w.station_value ∙ c.begin.ensures) w.answer_value w.output_after in
    record { station_value_2 = both.0; answer_value = both.1.0; turn_after = both.1.1.0; output_after = both.1.1.1 }

pub returns-in-Participating : goal.returns-in-Participating
returns-in-Participating c = rw c.in-Participating.is c.send_block.ensures

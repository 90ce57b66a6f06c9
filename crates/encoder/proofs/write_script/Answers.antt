-- `encoder::write_script` meets its contract: a refusal of the walk, too little room, or the script's length.
-- Assumes nothing.
use mathlib.Core.Path.{refl}
use native.Mathlib.Omega.{arith}
use Rattle.read_field.proofs.Laws.{handed_on}
use Rattle.refusal.specs.Numbers.{number}
use Rattle.encoder.proofs.CloseLaws.{script_refused, script_written, script_past}
use Rattle.encoder.proofs.write_script.Goals as goal

pub returns-in_err-write_records : goal.returns-in_err-write_records
returns-in_err-write_records c =
    rw (handed_on _ c.from_residual.ensures.1) (script_refused c.make_lists.ensures.stays c.make_lists.ensures.made refl c.put_start.ensures refl refl refl c.write_records.ensures c.in_err-write_records.was)

pub returns-then-walk : goal.returns-then-walk
unfolding number
returns-then-walk c = script_past c.make_lists.ensures.stays c.make_lists.ensures.made refl c.put_start.ensures refl refl refl c.write_records.ensures c.in_ok-write_records.was (omega arith) (omega arith) refl refl refl

pub returns : goal.returns
returns c = script_written c.make_lists.ensures.stays c.make_lists.ensures.made refl c.put_start.ensures refl refl refl c.write_records.ensures c.in_ok-write_records.was (omega arith) (omega arith)

-- `encoder::print::put_refusal` meets its contract: a word and a number, twice, and the position.
-- Assumes nothing.
use Rattle.script_spec.specs.Base.{bytes}
use Rattle.script_spec.specs.Walk.{printed}
use mathlib.Core.Path.{refl}
use Rattle.write_bytes.proofs.Laws.{◌then◌, says}
use Rattle.encoder.proofs.print.put_refusal.Goals as goal

pub returns : goal.returns
unfolding bytes printed
returns c =
    let n = rw (c.from.ensures, c.number.ensures) at c.put_decimal.ensures in
    says refl (c.put.ensures then n then c.put-2.ensures then c.put_decimal-2.ensures then c.put_position.ensures then c.put_byte.ensures)

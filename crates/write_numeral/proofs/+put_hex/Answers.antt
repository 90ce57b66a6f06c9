-- `write_numeral::put_hex` meets its contract: one digit, or the last one after the others.
-- Assumes nothing.
use mathlib.Core.Path.{refl}
use Rattle.script_spec.specs.Text.{hex}
use Rattle.write_bytes.proofs.Laws.{◌then◌, says}
use Rattle.write_numeral.proofs.Laws.{base_sixteen, numeral_one, numeral_more}
use Rattle.write_numeral.proofs.+put_hex.Goals as goal

pub returns-then-n-lt16 : goal.returns-then-n-lt16
unfolding hex
returns-then-n-lt16 t c = says (numeral_one c.if-n-lt16.true c.last_digit.ensures) c.put_byte.ensures

pub returns : goal.returns
unfolding hex
returns t c = says (numeral_more base_sixteen c.if-n-lt16.false refl c.last_digit-2.ensures) (c.put_hex.ensures then c.put_byte-2.ensures)

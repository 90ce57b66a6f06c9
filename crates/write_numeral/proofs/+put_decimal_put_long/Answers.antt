-- `write_numeral::put_decimal` and `write_numeral::put_long` meet their contracts: up to five digits stand together, and of more the last five
-- stand after the others.
-- Assumes nothing.
use mathlib.Core.Path.{sym}
use native.Mathlib.Omega.{arith}
use Rattle.script_spec.specs.Text.{decimal}
use Rattle.write_bytes.proofs.Laws.{◌then◌, says}
use Rattle.write_numeral.proofs.Laws.{base_ten, numeral_one, numeral_more, five_digits, numeral_split}
use Rattle.write_numeral.proofs.+put_decimal_put_long.Goals as goal

pub put_decimal-returns-then-n-lt10 : goal.put_decimal-returns-then-n-lt10
unfolding decimal
put_decimal-returns-then-n-lt10 t c = says (numeral_one c.if-n-lt10.true c.ones.ensures) c.put_byte.ensures

pub put_decimal-returns-then-n-lt100 : goal.put_decimal-returns-then-n-lt100
unfolding decimal
put_decimal-returns-then-n-lt100 t c = says (numeral_more base_ten c.if-n-lt10.false (numeral_one (omega arith) c.ones-then-n-lt100.ensures) c.ones-then-n-lt100-2.ensures) c.put.ensures

pub put_decimal-returns-then-n-lt1000 : goal.put_decimal-returns-then-n-lt1000
unfolding decimal
put_decimal-returns-then-n-lt1000 t c = says (numeral_more base_ten c.if-n-lt10.false (numeral_more base_ten (omega arith) (numeral_one (omega arith) c.ones-then-n-lt1000.ensures) c.ones-then-n-lt1000-2.ensures) c.ones-then-n-lt1000-3.ensures) c.put-then-n-lt1000.ensures

pub put_decimal-returns-then-n-lt10000 : goal.put_decimal-returns-then-n-lt10000
unfolding decimal
put_decimal-returns-then-n-lt10000 t c = says (numeral_more base_ten c.if-n-lt10.false (numeral_more base_ten (omega arith) (numeral_more base_ten (omega arith) (numeral_one (omega arith) c.ones-then-n-lt10000.ensures) c.ones-then-n-lt10000-2.ensures) c.ones-then-n-lt10000-3.ensures) c.ones-then-n-lt10000-4.ensures) c.put-then-n-lt10000.ensures

pub put_decimal-returns-then-n-lt100000 : goal.put_decimal-returns-then-n-lt100000
unfolding decimal
put_decimal-returns-then-n-lt100000 t c = says (five_digits _ base_ten (omega arith) (omega arith)) c.put_five.ensures

pub put_long-returns : goal.put_long-returns
unfolding decimal
put_long-returns t c = says (sym (numeral_split 5 base_ten c.requires)) (c.put_decimal.ensures then c.put_five.ensures)

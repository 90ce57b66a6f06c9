-- `write_text::put_brace` meets its contract: the digits by their quotients, and piece by piece.
-- Assumes nothing.
use native.Mathlib.Omega.{arith}
use Rattle.script_spec.specs.Text.{hex}
use Rattle.write_bytes.proofs.Laws.{says}
use Rattle.write_numeral.proofs.Laws.{base_sixteen, numeral_one, numeral_more}
use Rattle.write_text.proofs.Laws.{braced}
use Rattle.write_text.proofs.put_brace.Goals as goal

pub returns-then-tens-lt16 : goal.returns-then-tens-lt16
unfolding hex
returns-then-tens-lt16 c =
    says
    (braced _ (numeral_more base_sixteen c.if-c-lt16.false
    (numeral_one c.if-tens-lt16.true c.hex_digit.ensures)
    c.hex_digit-then-tens-lt16.ensures))
    c.put.ensures

pub returns-then-hundreds-lt16 : goal.returns-then-hundreds-lt16
unfolding hex
returns-then-hundreds-lt16 c =
    says
    (braced _ (numeral_more base_sixteen c.if-c-lt16.false
    (numeral_more base_sixteen c.if-tens-lt16.false
    (numeral_one c.if-hundreds-lt16.true c.hex_digit-then-hundreds-lt16.ensures)
    c.hex_digit-then-hundreds-lt16-2.ensures)
    c.hex_digit-then-hundreds-lt16-3.ensures))
    c.put-then-hundreds-lt16.ensures

pub returns-then-thousands-lt16 : goal.returns-then-thousands-lt16
unfolding hex
returns-then-thousands-lt16 c =
    says
    (braced _ (numeral_more base_sixteen c.if-c-lt16.false
    (numeral_more base_sixteen c.if-tens-lt16.false
    (numeral_more base_sixteen c.if-hundreds-lt16.false
    (numeral_one c.if-thousands-lt16.true c.hex_digit-then-thousands-lt16.ensures)
    c.hex_digit-then-thousands-lt16-2.ensures)
    c.hex_digit-then-thousands-lt16-3.ensures)
    c.hex_digit-then-thousands-lt16-4.ensures))
    c.put-then-thousands-lt16.ensures

pub returns : goal.returns
unfolding hex
returns c =
    says
    (braced _ (numeral_more base_sixteen c.if-c-lt16.false
    (numeral_more base_sixteen c.if-tens-lt16.false
    (numeral_more base_sixteen c.if-hundreds-lt16.false
    (numeral_more base_sixteen c.if-thousands-lt16.false
    (numeral_one (omega (arith, c.if-c-ge1048576.false)) c.hex_digit-2.ensures)
    c.hex_digit-3.ensures)
    c.hex_digit-4.ensures)
    c.hex_digit-5.ensures)
    c.hex_digit-6.ensures))
    c.put-2.ensures

-- `write_bitvec::spelling::put_decimal128` meets its contract: the last ten digits stand after the numeral of the rest.
-- Assumes nothing.
use native.Mathlib.Omega.{arith}
use Rattle.write_bytes.proofs.Laws.{◌then◌, says}
use Rattle.write_bitvec.proofs.Division.{decimal_next}
use Rattle.write_bitvec.proofs.spelling.+put_decimal128.Goals as goal

pub returns : goal.returns
returns t c =
    let d = c.by_ten_digits-rest.ensures in
    says (decimal_next _ (omega arith) d.rest d.last) (c.put_decimal128.ensures then c.put_last_ten.ensures)

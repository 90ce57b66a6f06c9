-- `write_numeral::put_last_ten` meets its contract: five digits, and five more.
-- Assumes nothing.
use mathlib.Core.Path.{sym}
use Rattle.write_bytes.proofs.Laws.{◌then◌, says}
use Rattle.write_numeral.proofs.Laws.{last_ten}
use Rattle.write_numeral.proofs.put_last_ten.Goals as goal

pub returns : goal.returns
returns c = says (sym (last_ten _)) (c.put_five.ensures then c.put_five-2.ensures)

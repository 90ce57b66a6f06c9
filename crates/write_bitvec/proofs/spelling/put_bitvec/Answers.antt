-- `write_bitvec::spelling::put_bitvec` meets its contract: the pieces are the spelling.
-- Assumes nothing.
use mathlib.Core.Path.{ap}
use Rattle.script_spec.specs.Base.{bytes}
use Rattle.script_spec.specs.Text.{decimal}
use Rattle.write_bytes.proofs.Laws.{◌then◌, says}
use Rattle.write_bitvec.proofs.Spellings.{bit_vec_pieces}
use Rattle.write_bitvec.proofs.spelling.put_bitvec.Goals as goal

pub returns : goal.returns
unfolding bytes
returns c =
    says (bit_vec_pieces _ _)
    (c.put.ensures then c.put_decimal128.ensures then c.put_byte.ensures then says (ap decimal c.from.ensures) c.put_decimal.ensures then c.put_byte-2.ensures)

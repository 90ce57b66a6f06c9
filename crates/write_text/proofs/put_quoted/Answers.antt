-- `write_text::put_quoted` meets its contract: three writes in a row.
-- Assumes nothing.
use Rattle.write_bytes.proofs.Laws.{◌then◌}
use Rattle.write_text.specs.Written.{quoted}
use Rattle.write_text.proofs.put_quoted.Goals as goal

pub returns : goal.returns
unfolding quoted
returns c = c.put_byte.ensures then c.put_points.ensures then c.put_byte-2.ensures

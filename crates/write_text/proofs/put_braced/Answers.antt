-- `write_text::put_braced` meets its contract: three writes in a row.
-- Assumes nothing.
use mathlib.Core.Path.{ap}
use Rattle.write_bytes.proofs.Laws.{◌then◌, says}
use Rattle.script_spec.specs.Base.{bytes}
use Rattle.script_spec.specs.Text.{brace, hex}
use Rattle.write_text.proofs.put_braced.Goals as goal

pub returns : goal.returns
unfolding brace bytes
returns c = c.put.ensures then says (ap hex c.from.ensures) c.put_hex.ensures then c.put_byte.ensures

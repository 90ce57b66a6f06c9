-- `write_atoms::parts::put_numbered` meets its contract.
-- Assumes nothing.
use mathlib.Core.Path.{ap}
use Rattle.script_spec.specs.Text.{decimal}
use Rattle.write_bytes.proofs.Laws.{says}
use Rattle.walk_names.proofs.Spelling.{written, ◌next◌}
use Rattle.write_atoms.proofs.parts.put_numbered.Goals as goal

pub returns : goal.returns
returns c = c.put_sort.ensures next written c.put.ensures next written (says (ap decimal c.from.ensures) c.put_decimal.ensures)

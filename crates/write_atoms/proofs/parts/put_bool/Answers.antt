-- `write_atoms::parts::put_bool` meets its contract.
-- Assumes nothing.
use Rattle.script_spec.specs.Base.{bytes}
use Rattle.write_bytes.proofs.Laws.{says}
use Rattle.write_atoms.specs.Parts.{truth}
use Rattle.write_atoms.proofs.parts.put_bool.Goals as goal

pub returns-then-b : goal.returns-then-b
unfolding bytes truth
returns-then-b c = says (rw c.if-b.true) c.put.ensures

pub returns-else-b : goal.returns-else-b
unfolding bytes truth
returns-else-b c = says (rw c.if-b.false) c.put-else-b.ensures

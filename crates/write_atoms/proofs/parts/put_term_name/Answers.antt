-- `write_atoms::parts::put_term_name` meets its contract.
-- Assumes nothing.
use mathlib.Core.Path.{ap}
use Rattle.script_spec.specs.Base.{bytes}
use Rattle.script_spec.specs.Walk.{numbered}
use Rattle.write_bytes.proofs.Laws.{says}
use Rattle.write_atoms.specs.Parts.{term_name_of}
use Rattle.write_atoms.proofs.parts.put_term_name.Goals as goal

pub returns : goal.returns
unfolding bytes term_name_of
returns c = says (ap (numbered (bytes "t")) c.get-name.ensures) c.put_name.ensures

-- `walk_types::declare::declare_type` meets its contract: for a type that is no datatype, and for one that is.
-- Assumes nothing.
use Rattle.walk_types.proofs.Entering.{passes_type, declares_type}
use Rattle.walk_names.proofs.Spelling.{spells_lent}
use Rattle.walk_types.proofs.declare.declare_type.Goals as goal

pub returns-then-not-is_datatype : goal.returns-then-not-is_datatype
returns-then-not-is_datatype c = passes_type c.view.ensures c.is_datatype.ensures c.if-not-is_datatype.true

pub returns : goal.returns
returns c = declares_type c.view.ensures c.is_datatype.ensures {q = c.view-2.result} c.if-not-is_datatype.false c.enter.ensures c.view-2.ensures (spells_lent c.lend.ensures)

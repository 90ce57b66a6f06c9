-- `write_types::lines::declare_record_type` meets its contract: a line, and a line after it.
-- Assumes nothing.
use Rattle.write_types.proofs.LineLaws.{record_lines_are}
use Rattle.walk_names.proofs.Spelling.{spells_lent}
use Rattle.write_types.proofs.lines.declare_record_type.Goals as goal

pub returns : goal.returns
returns c = record_lines_are _ c.put_record_comment.ensures (spells_lent c.lend.ensures)

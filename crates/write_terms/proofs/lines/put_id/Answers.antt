-- `write_terms::lines::put_id` meets its contract: piece by piece.
-- Assumes nothing.
use Rattle.script_spec.specs.Base.{bytes}
use Rattle.smtlib_script.specs.Opened.{opened}
use Rattle.write_bytes.proofs.Laws.{◌then◌}
use Rattle.write_text.specs.Written.{quoted, spelling}
use Rattle.write_terms.specs.Lines.{printed, id_line}
use Rattle.write_terms.proofs.lines.put_id.Goals as goal

pub returns : goal.returns
unfolding bytes opened id_line printed quoted spelling
returns c = c.put_word.ensures then c.put_debug.ensures then c.put_byte.ensures

-- `write_types::datatypes::EntityDeclarationLine::write` meets its contract, piece by piece.
-- Assumes nothing.
use Rattle.script_spec.specs.Base.{bytes}
use Rattle.smtlib_script.specs.Opened.{opened}
use Rattle.write_bytes.proofs.Laws.{◌then◌, says}
use Rattle.write_types.specs.Members.{entity_symbol}
use Rattle.write_types.proofs.MemberLaws.{entity_pieces}
use Rattle.write_types.proofs.datatypes.EntityDeclarationLine.write.Goals as goal

pub returns : goal.returns
unfolding bytes entity_symbol opened
returns c = says (entity_pieces _) (c.put_word.ensures then c.put_name.ensures then c.put.ensures then c.put_name-2.ensures then c.put-2.ensures then c.put_name-3.ensures then c.put-3.ensures)

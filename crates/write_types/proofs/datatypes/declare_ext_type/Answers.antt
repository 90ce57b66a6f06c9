-- `write_types::datatypes::declare_ext_type` meets its contract, piece by piece.
-- Assumes nothing.
use Rattle.script_spec.specs.Base.{bytes}
use Rattle.smtlib_script.specs.Opened.{opened}
use Rattle.write_bytes.proofs.Laws.{◌then◌, says}
use Rattle.write_types.proofs.MemberLaws.{datatype_pieces}
use Rattle.write_types.proofs.datatypes.declare_ext_type.Goals as goal

pub returns : goal.returns
unfolding bytes opened
returns c = says (datatype_pieces _ _) (c.put_word.ensures then c.put_ext_type.ensures then c.put.ensures)

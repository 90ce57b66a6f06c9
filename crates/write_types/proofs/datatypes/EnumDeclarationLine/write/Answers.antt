-- `write_types::datatypes::EnumDeclarationLine::write` meets its contract, piece by piece.
-- Assumes nothing.
use Rattle.script_spec.specs.Base.{bytes}
use Rattle.smtlib_script.specs.Opened.{opened}
use Rattle.write_types.specs.Members.{entity_symbol}
use Rattle.write_types.proofs.MemberLaws.{spells_enum}
use Rattle.write_types.proofs.datatypes.EnumDeclarationLine.write.Goals as goal

pub returns : goal.returns
unfolding bytes entity_symbol opened
returns c = spells_enum c.put_word.ensures c.put_name.ensures c.put.ensures c.put_lines.ensures c.put-2.ensures

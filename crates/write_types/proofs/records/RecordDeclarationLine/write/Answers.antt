-- `write_types::records::RecordDeclarationLine::write` meets its contract, piece by piece.
-- Assumes nothing.
use Rattle.script_spec.specs.Base.{bytes}
use Rattle.smtlib_script.specs.Opened.{opened}
use Rattle.write_types.specs.Records.{record_name}
use Rattle.write_types.proofs.RecordLaws.{spells_record}
use Rattle.write_types.proofs.records.RecordDeclarationLine.write.Goals as goal

pub returns : goal.returns
unfolding bytes record_name opened
returns c = spells_record _ c.put_word.ensures c.put_name.ensures c.put.ensures c.put_name-2.ensures c.put_spaced_parts.ensures c.put-2.ensures

-- `write_types::functions::FunCommentLine::write` meets its contract: the line of the id.
-- Assumes nothing.
use Rattle.write_types.proofs.FunctionLaws.{spells_id}
use Rattle.write_types.proofs.functions.FunCommentLine.write.Goals as goal

pub returns : goal.returns
returns c = spells_id c.text_at-id.ensures c.body_at-body.ensures c.get-offset.ensures c.comment.ensures

-- `write_types::datatype_comments::put_enum_comment` meets its contract: the comment's text, piece by piece, between its two bytes and the end of
-- the line. Assumes nothing.
use mathlib.Core.Path.{refl}
use Rattle.script_spec.specs.Base.{bytes}
use Rattle.script_spec.specs.Spelling.{entity_comment}
use Rattle.write_bytes.proofs.Laws.{says}
use Rattle.write_text.proofs.CommentLaws.{◌also◌, comment_written}
use Rattle.smtlib_script.specs.Opened.{opened}
use Rattle.smtlib_script.proofs.Lines.{line_comment}
use Rattle.write_types.proofs.datatype_comments.put_enum_comment.Goals as goal

pub returns : goal.returns
unfolding opened bytes entity_comment
returns c =
    let text = c.put.ensures also c.put-text.ensures also c.put_texts.ensures also c.put-2.ensures in
    says (line_comment _) (comment_written c.put_word.ensures refl text c.put_byte.ensures)

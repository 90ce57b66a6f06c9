-- `smtlib_script::line::comment` meets its contract: the comment's text between its two bytes and the end of the line.
-- Assumes nothing.
use mathlib.Core.Path.{refl}
use Rattle.script_spec.specs.Base.{bytes}
use Rattle.write_bytes.proofs.Laws.{says}
use Rattle.write_text.proofs.CommentLaws.{comment_written}
use Rattle.smtlib_script.specs.Opened.{opened}
use Rattle.smtlib_script.proofs.Lines.{line_comment}
use Rattle.smtlib_script.proofs.line.comment.Goals as goal

pub returns : goal.returns
unfolding opened bytes
returns c = says (line_comment _) (comment_written c.put_word.ensures refl c.put.ensures c.put_byte.ensures)

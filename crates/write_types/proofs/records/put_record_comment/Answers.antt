-- `write_types::records::put_record_comment` meets its contract: the comment's text, piece by piece, between its two bytes and the end of the line.
-- Assumes nothing.
use mathlib.Core.Path.{refl}
use Rattle.script_spec.specs.Base.{bytes}
use Rattle.write_bytes.proofs.Laws.{says}
use Rattle.write_text.proofs.CommentLaws.{◌also◌, comment_written}
use Rattle.smtlib_script.specs.Opened.{opened}
use Rattle.smtlib_script.proofs.Lines.{line_comment}
use Rattle.index_entry.proofs.Places.{names_are}
use Rattle.write_types.proofs.records.put_record_comment.Goals as goal

pub returns : goal.returns
unfolding opened bytes
returns c =
    let names = rw (c.names.ensures, names_are (c.args.attributes)) at c.put_texts.ensures in
    let text = c.put-text.ensures also names also c.put.ensures in
    says (line_comment _) (comment_written c.put_word.ensures refl text c.put_byte.ensures)

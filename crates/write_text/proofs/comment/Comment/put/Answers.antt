-- `write_text::comment::Comment::put` meets its contract: nothing where the comment is over, and else what is kept of the text.
-- Assumes nothing.
use mathlib.Core.Path.{sym}
use lib.Seq.{length-take-le}
use Rattle.write_text.proofs.CommentLaws.{goes_on, comment_over, not_over}
use Rattle.write_text.proofs.comment.Comment.put.Goals as goal

pub returns-then-is_over : goal.returns-then-is_over
returns-then-is_over c = comment_over c.is_over.ensures c.if-is_over.true

pub cut_text-kept-requires : goal.cut_text-kept-requires
cut_text-kept-requires c = (not_over _ _ c.is_over.ensures c.if-is_over.false).0

pub slice_bounds-put_blanked-end : goal.slice_bounds-put_blanked-end
slice_bounds-put_blanked-end c = sym (length-take-le _ _ c.cut_text-kept.ensures.inside)

pub returns : goal.returns
returns c = goes_on (not_over _ _ c.is_over.ensures c.if-is_over.false).1 c.cut_text-kept.ensures c.put_blanked.ensures

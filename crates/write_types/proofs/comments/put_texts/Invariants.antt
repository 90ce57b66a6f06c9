-- `write_types::comments::put_texts` meets its contract. The loop's invariant: the texts that are left, after those that were written, make
-- the whole. Assumes nothing.
use Rattle.script_spec.specs.Base.{bytes, joined}
use Rattle.index_entry.specs.Places.{texts_in}
use Rattle.write_types.proofs.CommentLaws.{led, Led}
use Rattle.write_types.proofs.comments.put_texts.Given as goal

abbrev pub invariant-loop-item : goal.invariant-loop-item
invariant-loop-item l =
    (goal.iterator-loop-item).can_next l.item-iterator × (goal.iterator-loop-item).is_finite l.item-iterator
    × Led l.fn.w l.fn.comment l.w l.text (led (texts_in l.item-iterator)) (joined (bytes ", ") (texts_in l.fn.texts))

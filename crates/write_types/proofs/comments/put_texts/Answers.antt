-- `write_types::comments::put_texts` meets its contract. The loop's invariant: the texts that are left, after those that were written, make
-- the whole. Assumes nothing.
use mathlib.Core.Path.{refl}
use Rattle.script_spec.specs.Base.{bytes, joined}
use Rattle.write_text.proofs.CommentLaws.{◌also◌, no_text}
use Rattle.write_types.proofs.CommentLaws.{led_start, led_step, led_end, led_over}
use Rattle.write_types.proofs.comments.put_texts.Goals as goal

pub loop-item-init : goal.loop-item-init
loop-item-init c = (tt, tt, rw (c.into_iter-item-iterator.ensures.into_iter_gives, c.in-Some.ensures.steps) (led_start _ refl c.put-text.ensures))

pub returns-then-is_over : goal.returns-then-is_over
returns-then-is_over c = led_over c.loop-item.invariant.2 c.is_over.ensures c.if-is_over.true

pub loop-item-preserved : goal.loop-item-preserved
unfolding bytes
loop-item-preserved c = (tt, tt, led_step _ refl (rw c.in-Some-item.ensures.steps at c.loop-item.invariant.2) (c.put.ensures also c.put-text-in-loop-item.ensures))

pub returns : goal.returns
returns c = led_end (rw c.in-None.ensures.steps.0 at c.loop-item.invariant.2)

pub returns-in_default : goal.returns-in_default
unfolding joined
returns-in_default c = rw c.in_default.ensures.steps.0 no_text

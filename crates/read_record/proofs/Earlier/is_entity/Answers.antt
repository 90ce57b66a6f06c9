-- The offset, and then the mark.
-- Assumes nothing.
use mathlib.Core.Path.{◌∙◌}
use borrow.Author.Tests.{lt-ltb, le-ltb}
use Rattle.script_spec.specs.Base.{bytes}
use Rattle.read_record.specs.Bodies.{is_entity_at}
use Rattle.read_record.proofs.Values.{pointwise_same}
use Rattle.read_record.proofs.Earlier.is_entity.Goals as goal

pub returns-then-self-i : goal.returns-then-self-i
unfolding is_entity_at
returns-then-self-i c = rw (le-ltb _ _ c.if-self-i.true)

pub returns : goal.returns
unfolding is_entity_at bytes
returns c = c.eq.ensures ∙ rw (c.part_of.ensures, c.as_slice.ensures, lt-ltb _ _ c.if-self-i.false) (pointwise_same _ _)

-- `write_types::records::put_parts` meets its contract. The loop's invariant: the parts that are left, after those that were written, make
-- the whole. Assumes nothing.
use Prim.Native.Nat.{◌<◌}
use mathlib.Core.Logic.{inl}
use borrow.Author.Rules.{rules}
use Rattle.write_types.proofs.RecordLaws.{parts_start, parts_on, parts_fit, parts_past, parts_end}
use Rattle.write_types.proofs.records.put_parts.Goals as goal

pub loop-i-init : goal.loop-i-init
loop-i-init c = let e = c.enumerate-i-items.ensures in (tt, rw (c.into_iter-i-iterator.ensures.into_iter_gives, e.source, e.count) parts_start)

pub next-requires : goal.next-requires
next-requires c = let small : c.args.attributes.left < 4294967296 = search rules in (tt, tt, inl (parts_fit c.loop-i.invariant.1 small))

pub returns-then-is_past : goal.returns-then-is_past
returns-then-is_past c = parts_past c.loop-i.invariant.1 c.is_past.ensures c.if-is_past.true

pub loop-i-preserved : goal.loop-i-preserved
loop-i-preserved c = let e = c.in-Some.ensures.steps in (tt, rw e.2 (parts_on c.loop-i.invariant.1 _ e.0 (rw e.1 at c.put_part.ensures)))

pub returns : goal.returns
returns c = parts_end c.loop-i.invariant.1 c.in-None.ensures.steps.0.0

-- The references that were passed are noted, each at an entry that was empty.
-- Assumes nothing.
use mathlib.Core.Path.{refl}
use native.Mathlib.Omega.{arith}
use Rattle.check_rules.proofs.Noting.{none_noted, noting_start, noting_all, noting_past, noting_there, noting_more}
use Rattle.check_rules.proofs.repeats.note.Goals as goal

pub returns-then-records-rows : goal.returns-then-records-rows
returns-then-records-rows c = none_noted c.if-records-rows.true

pub loop-i-init : goal.loop-i-init
loop-i-init c = noting_start c.if-records-rows.false

pub returns-then-rows-f : goal.returns-then-rows-f
returns-then-rows-f c = noting_past c.loop-i.invariant c.view.result c.view.ensures c.first_at-f.ensures c.if-rows-f.true

pub returns-then-get-ne0 : goal.returns-then-get-ne0
returns-then-get-ne0 c = noting_there c.loop-i.invariant c.view.result c.view.ensures c.first_at-f.ensures c.get.ensures c.if-get-ne0.true

pub loop-i-preserved : goal.loop-i-preserved
loop-i-preserved c = noting_more c.loop-i.invariant c.view.result c.loop-i-test.true c.view.ensures c.first_at-f.ensures c.if-rows-f.false c.get.ensures c.if-get-ne0.false c.set.ensures

pub returns : goal.returns
returns c = noting_all c.loop-i.invariant (omega (arith, c.loop-i-test.false, c.loop-i.auto)) refl

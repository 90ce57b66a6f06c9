-- The first high code point is the first of what is left of the text, behind those that passed.
-- Assumes nothing.
use mathlib.Core.Path.{refl, sym, ap, ◌∙◌}
use mathlib.Core.Option.{some}
use Rattle.std.specs.Prelude.{Some}
use Rattle.read_utf8.proofs.Laws.{next_point, next_malformed, next_end, high_start, high_more, high_stop, high_none}
use Rattle.read_utf8.proofs.first_high.Goals as goal

pub loop-n-init : goal.loop-n-init
loop-n-init c = let e = c.enumerate-n-items.ensures in rw (c.into_iter-n-iterator.ensures.into_iter_gives, e.source, e.count) (high_start c.args.s.now (ap (λ t. t.now) c.new.ensures.0) c.new.ensures.1)

pub returns-in_default : goal.returns-in_default
returns-in_default c = sym (high_none c.loop-n.invariant (next_malformed c.in-Some.ensures.steps.0 (ap Some c.in_default.is)).1)

pub returns-then-not-is_low : goal.returns-then-not-is_low
returns-then-not-is_low c = let e = c.in-Some.ensures.steps in ap some e.1 ∙ sym (high_stop c.loop-n.invariant (next_point e.0 (ap Some c.in-Ok.is)) (sym c.is_low.ensures ∙ c.if-not-is_low.true))

pub loop-n-preserved : goal.loop-n-preserved
loop-n-preserved c = let e = c.in-Some.ensures.steps in rw e.2 (high_more c.loop-n.invariant (next_point e.0 (ap Some c.in-Ok.is)) (sym c.is_low.ensures ∙ c.if-not-is_low.false))

pub returns : goal.returns
returns c = sym (high_none c.loop-n.invariant (next_end c.in-None.ensures.steps.0 refl).1)

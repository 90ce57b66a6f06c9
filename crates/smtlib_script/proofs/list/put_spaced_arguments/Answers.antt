-- `smtlib_script::list::put_spaced_arguments` meets its contract: before a turn, the arguments before those that are left are written.
-- Assumes nothing.
use mathlib.Core.Path.{◌≡◌}
use Rattle.script_spec.specs.Base.{bytes}
use Rattle.write_bytes.proofs.Laws.{◌then◌, says, nothing}
use Rattle.write_bytes.proofs.Loop.{along_step, along_end, along_past}
use Rattle.smtlib_script.proofs.Lists.{arguments_next, arguments_over, separated_next, separated_over, spaced_first, spaced_over}
use Rattle.smtlib_script.proofs.list.put_spaced_arguments.Goals as goal

pub returns-in_default : goal.returns-in_default
returns-in_default c =
    let names : c.zip-pairs.result.a.rest.now ≡ c.args.names.now = cc in
    let sorts : c.zip-pairs.result.b.rest.now ≡ c.args.sorts.now = cc in
    says (spaced_over _ _ c.in_default.ensures.steps names sorts) nothing

pub loop-name-preserved : goal.loop-name-preserved
unfolding bytes
loop-name-preserved c = along_step c.loop-name.invariant (separated_next _ (arguments_next c.in-Some-2.ensures.steps.0 c.in-Some-2.ensures.steps.1)) (c.put_byte.ensures then c.put_argument-in-loop-name.ensures)

pub returns-then-is_past : goal.returns-then-is_past
returns-then-is_past c =
    let names : c.zip-pairs.result.a.rest.now ≡ c.args.names.now = cc in
    let sorts : c.zip-pairs.result.b.rest.now ≡ c.args.sorts.now = cc in
    spaced_first _ _ c.in-Some.ensures.steps.0 c.in-Some.ensures.steps.1 names sorts c.put_argument.ensures
    (rw (← c.into_iter-name-iterator.ensures.into_iter_gives) (along_past c.loop-name.invariant c.is_past.ensures c.if-is_past.true))

pub returns : goal.returns
returns c =
    let names : c.zip-pairs.result.a.rest.now ≡ c.args.names.now = cc in
    let sorts : c.zip-pairs.result.b.rest.now ≡ c.args.sorts.now = cc in
    spaced_first _ _ c.in-Some.ensures.steps.0 c.in-Some.ensures.steps.1 names sorts c.put_argument.ensures
    (rw (← c.into_iter-name-iterator.ensures.into_iter_gives) (along_end c.loop-name.invariant (separated_over _ (arguments_over _ _ c.in-None.ensures.steps))))

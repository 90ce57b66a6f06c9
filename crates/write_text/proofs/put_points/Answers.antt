-- `write_text::put_points` meets its contract: each turn writes a run of plain bytes and one code point of what is to be written, as long
-- as the place is not past the limit. The measure is what is left of the text.
-- Assumes nothing.
use mathlib.Core.Path.{ap, ◌∙◌}
use native.Mathlib.Omega.{arith}
use denote.Ref.{Bor}
use lib.ListN.{length}
use Rattle.std.specs.Prelude.{Some}
use Rattle.script_spec.specs.Base.{Bytes}
use Rattle.write_bytes.proofs.Loop.{along_step, along_end, along_past}
use Rattle.read_utf8.proofs.Laws.{next_point, next_malformed, next_end}
use Rattle.write_text.proofs.Runs.{points_on, points_next, points_none}
use Rattle.write_text.proofs.put_points.Goals as goal

pub loop-rest-smaller : goal.loop-rest-smaller
loop-rest-smaller c = let p = next_point c.next.ensures.steps (c.in-Some-Ok.is ∙ ap Some c.in-Some-Ok.field-0-is) in omega (arith, p.smaller)

pub loop-rest-preserved : goal.loop-rest-preserved
loop-rest-preserved c =
    let p = next_point c.next.ensures.steps (c.in-Some-Ok.is ∙ ap Some c.in-Some-Ok.field-0-is) in
    let same = ap (λ (t : Bor Bytes). length t.now) c.next.ensures.steps.text in
    (along_step (points_on c.args.quotes c.loop-rest.rest c.loop-rest.invariant.0 c.put_run.ensures.run c.put_run.ensures.written) (points_next c.args.quotes p) c.put_point.ensures, omega (arith, p.inside, same))

pub returns-in-Some-Err : goal.returns-in-Some-Err
returns-in-Some-Err c =
    along_end (points_on c.args.quotes c.loop-rest.rest c.loop-rest.invariant.0 c.put_run.ensures.run c.put_run.ensures.written)
    (points_none c.args.quotes _ (next_malformed c.next.ensures.steps (c.in-Some-Err.is ∙ ap Some c.in-Some-Err.field-0-is)).1)

pub returns-in-None : goal.returns-in-None
returns-in-None c = along_end (points_on c.args.quotes c.loop-rest.rest c.loop-rest.invariant.0 c.put_run.ensures.run c.put_run.ensures.written) (points_none c.args.quotes _ (next_end c.next.ensures.steps c.in-None.is).1)

pub returns : goal.returns
returns c = along_past c.loop-rest.invariant.0 c.is_past.ensures c.loop-rest-test.false

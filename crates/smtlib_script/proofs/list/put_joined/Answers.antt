-- `smtlib_script::list::put_joined` meets its contract: before a turn, the texts before the one reached are written.
-- Assumes nothing.
use native.Mathlib.Omega.{arith}
use lib.ListN.{length-map}
use Rattle.write_bytes.proofs.Laws.{◌then◌, says, nothing}
use Rattle.write_bytes.proofs.Loop.{along_step, along_end, along_past}
use Rattle.smtlib_script.proofs.Lists.{separated_more, separated_none, joined_rest, joined_none, text_at}
use Rattle.smtlib_script.proofs.list.put_joined.Goals as goal

pub returns-in_default : goal.returns-in_default
returns-in_default c = says (joined_none _ c.args.texts.now (omega (arith, c.in_default.len_below))) nothing

pub returns-then-is_past : goal.returns-then-is_past
returns-then-is_past c = says (joined_rest _ c.args.texts.now (omega (arith, c.in-len1-up.len_at_least))) (c.put.ensures then along_past c.loop-text.invariant c.is_past.ensures c.if-is_past.true)

pub loop-text-preserved : goal.loop-text-preserved
loop-text-preserved c = along_step c.loop-text.invariant (separated_more _ _ c.loop-text.text-index (simp length-map c.loop-text-test.true)) (c.put-in-loop-text.ensures then says (text_at _ c.loop-text.text-index) c.put-in-loop-text-2.ensures)

pub returns : goal.returns
returns c = says (joined_rest _ c.args.texts.now (omega (arith, c.in-len1-up.len_at_least))) (c.put.ensures then along_end c.loop-text.invariant (separated_none _ _ c.loop-text.text-index (simp length-map c.loop-text-test.false)))

-- Each way through by its law.
-- Assumes nothing.
use Rattle.read_field.proofs.Laws.{handed_on}
use native.Mathlib.Nat.{add-sub_cancel_left}
use native.Mathlib.Omega.{arith}
use Rattle.read_record.proofs.Records.{next_short, next_unknown, next_past, next_bad, next_fine}
use Rattle.read_record.proofs.next_record.Goals as goal

pub returns-then-left-lt6 : goal.returns-then-left-lt6
returns-then-left-lt6 c = next_short _ c.args.earlier.file.now c.args.at (omega arith)

pub returns-in_default : goal.returns-in_default
returns-in_default c = next_unknown _ c.args.earlier.file.now c.args.at (omega arith) c.untyped.ensures c.in_default.ensures

pub returns-then-file-start : goal.returns-then-file-start
returns-then-file-start c = next_past _ c.args.earlier.file.now c.args.at (omega arith) c.untyped.ensures c.in-Some.kind c.in-Some.ensures _ c.word-size.ensures c.if-file-start.true

pub returns-in_err-read_under : goal.returns-in_err-read_under
returns-in_err-read_under c = rw (handed_on _ c.from_residual.ensures.1) (next_bad _ c.args.earlier.file.now c.args.at (omega arith) c.untyped.ensures c.in-Some.kind c.in-Some.ensures _ c.word-size.ensures c.if-file-start.false _ (add-sub_cancel_left _ _) c.is_typed-typed.ensures c.in_err-read_under.ensures)

pub returns : goal.returns
returns c = next_fine _ c.args.earlier.file.now c.args.at (omega arith) c.untyped.ensures c.in-Some.kind c.in-Some.ensures _ c.word-size.ensures c.if-file-start.false _ (add-sub_cancel_left _ _) c.is_typed-typed.ensures c.in_ok-read_under.ensures

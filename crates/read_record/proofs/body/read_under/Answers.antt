-- The three fields in their order, the final field, and the end of the body.
-- Assumes nothing.
use mathlib.Core.Path.{refl}
use Rattle.read_field.proofs.Laws.{handed_on, takes_next, refuses_next, refuses_stop}
use Rattle.read_record.specs.Bodies.{earlier_with}
use Rattle.read_record.specs.Fields.{body_reader, typed_reader, three}
use Rattle.read_record.proofs.Verdicts.{decided_err, decided_ok, ended_at, ended_before}
use Rattle.read_record.proofs.body.read_under.Goals as goal

pub returns-in_err-first : goal.returns-in_err-first
unfolding typed_reader body_reader three earlier_with
returns-in_err-first c = rw (handed_on _ c.from_residual.ensures.1) (decided_err _ _ _ c.new.ensures c.row_of-all.ensures refl (refuses_stop _ (refuses_stop _ c.in_err-first.ensures)))

pub returns-in_err-second : goal.returns-in_err-second
unfolding typed_reader body_reader three earlier_with
returns-in_err-second c = rw (handed_on _ c.from_residual-in_err-second.ensures.1) (decided_err _ _ _ c.new.ensures c.row_of-all.ensures refl (refuses_stop _ (refuses_next _ c.in_ok-first.ensures (refuses_stop _ c.in_err-second.ensures))))

pub returns-in_err-third : goal.returns-in_err-third
unfolding typed_reader body_reader three earlier_with
returns-in_err-third c = rw (handed_on _ c.from_residual-in_err-third.ensures.1) (decided_err _ _ _ c.new.ensures c.row_of-all.ensures refl (refuses_stop _ (refuses_next _ c.in_ok-first.ensures (refuses_next _ c.in_ok-second.ensures c.in_err-third.ensures))))

pub returns-in_err-last : goal.returns-in_err-last
unfolding typed_reader body_reader three earlier_with
returns-in_err-last c = rw (handed_on _ c.from_residual-in_err-last.ensures.1) (decided_err _ _ _ c.new.ensures c.row_of-all.ensures c.final_field.ensures (refuses_next _ (takes_next _ c.in_ok-first.ensures (takes_next _ c.in_ok-second.ensures c.in_ok-third.ensures)) c.in_err-last.ensures))

pub returns-then-left-eq0 : goal.returns-then-left-eq0
unfolding typed_reader body_reader three earlier_with
returns-then-left-eq0 c = decided_ok _ _ _ c.new.ensures c.row_of-all.ensures c.final_field.ensures (takes_next _ (takes_next _ c.in_ok-first.ensures (takes_next _ c.in_ok-second.ensures c.in_ok-third.ensures)) c.in_ok-last.ensures) (ended_at c.in_ok-last.last c.left.ensures c.if-left-eq0.true)

pub returns-else-left-eq0 : goal.returns-else-left-eq0
unfolding typed_reader body_reader three earlier_with
returns-else-left-eq0 c = decided_ok _ _ _ c.new.ensures c.row_of-all.ensures c.final_field.ensures (takes_next _ (takes_next _ c.in_ok-first.ensures (takes_next _ c.in_ok-second.ensures c.in_ok-third.ensures)) c.in_ok-last.ensures) (ended_before c.in_ok-last.last c.left.ensures c.if-left-eq0.false)

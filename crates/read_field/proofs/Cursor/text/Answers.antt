-- A count, so many bytes, and the test for UTF-8.
-- Assumes nothing.
use mathlib.Core.Path.{sym, ◌∙◌}
use Rattle.script_spec.specs.Fields.{text}
use Rattle.refusal.specs.declared.Refusal.TheVariants.{NotUtf8}
use Rattle.refusal.specs.Numbers.{number}
use Rattle.read_field.proofs.Laws.{handed_on, takes_next, refuses_next, refuses_stop, takes_ensured, takes_refused}
use Rattle.read_field.proofs.Cursor.text.Goals as goal

pub returns-in_err-n : goal.returns-in_err-n
unfolding text
returns-in_err-n c = rw (handed_on _ c.from_residual.ensures.1) (refuses_stop _ c.in_err-n.ensures)

pub returns-in_err-s : goal.returns-in_err-s
unfolding text
returns-in_err-s c = rw (handed_on _ c.from_residual-in_err-s.ensures.1) (refuses_next _ c.in_ok-n.ensures (refuses_stop _ c.in_err-s.ensures))

pub returns-then-not-is_utf8 : goal.returns-then-not-is_utf8
unfolding text number
returns-then-not-is_utf8 c = refuses_next _ c.in_ok-n.ensures (refuses_next _ c.in_ok-s.ensures (takes_refused NotUtf8 _ _ (sym c.is_utf8.ensures ∙ c.if-not-is_utf8.true)))

pub returns : goal.returns
unfolding text
returns c = takes_next _ c.in_ok-n.ensures (takes_next _ c.in_ok-s.ensures (takes_ensured _ _ _ (sym c.is_utf8.ensures ∙ c.if-not-is_utf8.false)))

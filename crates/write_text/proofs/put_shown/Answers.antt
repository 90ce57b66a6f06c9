-- `write_text::put_shown` meets its contract: by the test of `shown`.
-- Assumes nothing.
use mathlib.Core.Path.{sym, ◌∙◌}
use native.Mathlib.Omega.{arith}
use Rattle.write_bytes.proofs.Laws.{says}
use Rattle.write_text.proofs.Laws.{printable_small, shown_plain, shown_brace}
use Rattle.write_text.proofs.put_shown.Goals as goal

pub overflow_cast-c : goal.overflow_cast-c
overflow_cast-c c = omega (arith, printable_small _ (sym c.is_printable.ensures ∙ c.if-is_printable.true))

pub returns-then-is_printable : goal.returns-then-is_printable
returns-then-is_printable c = says (shown_plain _ (sym c.is_printable.ensures ∙ c.if-is_printable.true)) c.put_byte.ensures

pub returns : goal.returns
returns c = says (shown_brace _ (sym c.is_printable.ensures ∙ c.if-is_printable.false)) c.put_brace.ensures

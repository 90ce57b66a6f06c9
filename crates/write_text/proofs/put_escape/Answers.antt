-- `write_text::put_escape` meets its contract: the quote, the backslash, and any other code point.
-- Assumes nothing.
use native.Mathlib.Omega.{arith}
use Rattle.write_bytes.proofs.Laws.{says}
use Rattle.write_text.proofs.Laws.{escape_quote, escape_backslash, escape_shown}
use Rattle.write_text.proofs.put_escape.Goals as goal

pub returns-in-34 : goal.returns-in-34
returns-in-34 c = says (escape_quote _ c.in-34.is) c.put.ensures

pub returns-in-92 : goal.returns-in-92
returns-in-92 c = says (escape_backslash _ c.in-92.is) c.put_brace.ensures

pub returns-in_default : goal.returns-in_default
returns-in_default c = says (escape_shown _ (omega arith) (omega arith)) c.put_shown.ensures

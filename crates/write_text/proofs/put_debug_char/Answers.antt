-- `write_text::put_debug_char` meets its contract: six code points with a letter of their own, and any other.
-- Assumes nothing.
use mathlib.Core.Path.{ap, sym, ◌∙◌}
use native.Mathlib.Omega.{arith}
use Rattle.script_spec.specs.Text.{debug_char}
use Rattle.write_bytes.proofs.Laws.{says}
use Rattle.write_text.proofs.Laws.{debug_letters, debug_shown}
use Rattle.write_text.proofs.put_debug_char.Goals as goal

pub returns-in-34 : goal.returns-in-34
returns-in-34 c = says (debug_letters.0 ∙ sym (ap debug_char c.in-34.is)) c.put.ensures

pub returns-in-92 : goal.returns-in-92
returns-in-92 c = says (debug_letters.1 ∙ sym (ap debug_char c.in-92.is)) c.put-in-92.ensures

pub returns-in-9 : goal.returns-in-9
returns-in-9 c = says (debug_letters.2 ∙ sym (ap debug_char c.in-9.is)) c.put-in-9.ensures

pub returns-in-13 : goal.returns-in-13
returns-in-13 c = says (debug_letters.3 ∙ sym (ap debug_char c.in-13.is)) c.put-in-13.ensures

pub returns-in-10 : goal.returns-in-10
returns-in-10 c = says (debug_letters.4 ∙ sym (ap debug_char c.in-10.is)) c.put-in-10.ensures

pub returns-in-0 : goal.returns-in-0
returns-in-0 c = says (debug_letters.5 ∙ sym (ap debug_char c.in-0.is)) c.put-in-0.ensures

pub returns-in_default : goal.returns-in_default
returns-in_default c = says (debug_shown _ (omega arith) (omega arith) (omega arith) (omega arith) (omega arith) (omega arith)) c.put_shown.ensures

-- `smtlib_script::list::is_blank` meets its contract: by the number of texts.
-- Assumes nothing.
use mathlib.Core.Path.{◌∙◌}
use native.Mathlib.Omega.{arith}
use Rattle.smtlib_script.proofs.Lines.{blank_none, blank_one, blank_more}
use Rattle.smtlib_script.proofs.list.is_blank.Goals as goal

pub returns-in-empty : goal.returns-in-empty
returns-in-empty c = blank_none c.args.texts.now (omega (arith, c.in-empty.len_below))

pub returns-in-len1 : goal.returns-in-len1
returns-in-len1 c = c.is_empty.ensures ∙ blank_one c.args.texts.now (omega (arith, c.in-len1.len_at_least, c.in-len1.len_below))

pub returns-in_default : goal.returns-in_default
returns-in_default c = blank_more c.args.texts.now c.in_default.len_at_least

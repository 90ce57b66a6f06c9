-- `read_utf8::is_utf8` meets its contract: each code point passes exactly if the text is UTF-8.
-- Assumes nothing.
use mathlib.Core.Path.{◌∙◌}
use borrow.Author.Rules.{rules}
use Rattle.read_utf8.proofs.Laws.{utf8_all}
use Rattle.read_utf8.proofs.is_utf8.Goals as goal

pub returns : goal.returns
returns c = utf8_all (λ x b p q k. search rules) c.all.ensures.ran ∙ (rw (c.new.ensures.0, c.new.ensures.1))

-- `smtlib_script::list::are_utf8` meets its contract: the list is tested text by text.
-- Assumes nothing.
use mathlib.Core.Path.{◌∙◌}
use borrow.Author.Rules.{rules}
use Rattle.std.proofs.lemmas.Iterator.{YieldsList-from_slice}
use Rattle.std.proofs.lemmas.Iterator.Search.{all_from_yields_List}
use Rattle.script_spec.specs.Utf8.{is_utf8}
use Rattle.smtlib_script.proofs.Laws.{all_lent}
use Rattle.smtlib_script.proofs.list.are_utf8.Goals as goal

pub returns : goal.returns
returns c = all_from_yields_List (λ t. is_utf8 t.now) c.all.new.self _ c.all.result c.all.ensures.ran (YieldsList-from_slice c.args.texts.now cc) (λ x b q k. search rules) ∙ all_lent c.args.texts.now

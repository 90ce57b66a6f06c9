-- `smtlib_script::list::pairs_are_utf8` meets its contract: the two lists are tested pair by pair.
-- Assumes nothing.
use mathlib.Core.Path.{◌∙◌}
use mathlib.Core.Bool.{◌&&◌}
use borrow.Author.Rules.{rules}
use Rattle.std.proofs.lemmas.Iterator.{YieldsList-from_slice, YieldsList-from_zip}
use Rattle.std.proofs.lemmas.Iterator.Search.{all_from_yields_List}
use Rattle.script_spec.specs.Utf8.{is_utf8}
use Rattle.smtlib_script.proofs.Laws.{all_pairs}
use Rattle.smtlib_script.proofs.list.pairs_are_utf8.Goals as goal

pub returns : goal.returns
returns c =
    all_from_yields_List (λ p. is_utf8 p.0.now && is_utf8 p.1.now) c.all.new.self _ c.all.result c.all.ensures.ran (YieldsList-from_zip (YieldsList-from_slice c.args.xs.now cc) (YieldsList-from_slice c.args.ys.now cc)) (λ x b q k. search rules)
    ∙ all_pairs c.args.xs.now c.args.ys.now

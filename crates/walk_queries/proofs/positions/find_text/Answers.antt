-- `walk_queries::positions::find_text` meets its contract.
-- Assumes nothing.
use mathlib.Core.Path.{refl, sym, ap, ◌∙◌}
use mathlib.Core.Logic.{inl}
use native.Mathlib.Omega.{arith}
use borrow.Author.Rules.{rules}
use Rattle.std.specs.Result.{result_ok}
use Rattle.std.proofs.lemmas.Result.{Ok-from_Ok_iff}
use Rattle.std.proofs.lemmas.Iterator.Search.{position_from_yields_List}
use Rattle.std.proofs.lemmas.Iterator.Consumers.{YieldsList-from_first}
use Rattle.script_spec.specs.Base.{same}
use Rattle.index_entry.specs.Places.{texts_in}
use Rattle.index_entry.proofs.Places.{length_texts_in}
use Rattle.walk_queries.proofs.SearchLaws.{decided, text_found}
use Rattle.walk_queries.proofs.positions.find_text.Goals as goal

pub position-requires-clause-fits : goal.position-requires-clause-fits
position-requires-clause-fits c = inl (omega (arith, length_texts_in c.args.among, c.ranges.among))

pub returns-in_err-i : goal.returns-in_err-i
returns-in_err-i c =
    text_found _ _ (c.from_residual.ensures ∙ sym c.in_err-i.was
    ∙ position_from_yields_List (same c.args.name.now) _ _ c.position.result c.position.ensures.ran (YieldsList-from_first (λ x. x.now) texts_in _ refl) (λ x b q k. (search rules, decided b _ _ (search rules))))

pub returns : goal.returns
returns c =
    text_found _ _ (c.ok.ensures.value ∙ ap result_ok (Ok-from_Ok_iff _ _ _ c.try_from.ensures (omega (arith, c.in_ok-i.ensures.bound, length_texts_in c.args.among, c.ranges.among)))
    ∙ sym c.in_ok-i.was
    ∙ position_from_yields_List (same c.args.name.now) _ _ c.position.result c.position.ensures.ran (YieldsList-from_first (λ x. x.now) texts_in _ refl) (λ x b q k. (search rules, decided b _ _ (search rules))))

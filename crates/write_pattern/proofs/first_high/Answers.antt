-- `write_pattern::first_high` meets its contract.
-- Assumes nothing.
use mathlib.Core.Path.{refl, ap, ◌∙◌}
use mathlib.Core.Bool.{not}
use borrow.Author.Rules.{rules}
use Rattle.std.proofs.lemmas.Iterator.Search.{position_from_yields_List}
use Rattle.std.proofs.lemmas.Iterator.Consumers.{YieldsList-from_first}
use Rattle.script_spec.specs.Walk.{is_low, first_high}
use Rattle.refusal.specs.Numbers.{option_of}
use Rattle.refusal.proofs.Options.{place_position}
use Rattle.write_pattern.specs.Elements.{elements_in}
use Rattle.write_pattern.proofs.first_high.Goals as goal

pub returns : goal.returns
unfolding first_high
returns c = ap option_of (position_from_yields_List (λ x. not (is_low x)) c.position.new.self _ c.position.result c.position.ensures.ran (YieldsList-from_first (λ x. x) elements_in _ refl) (λ x b q k. search rules)) ∙ place_position _ _

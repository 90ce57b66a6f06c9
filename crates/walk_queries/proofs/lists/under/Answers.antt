-- `walk_queries::lists::under` meets its contract: by what is noted of an option or a set, or by the type itself.
-- Assumes nothing.
use mathlib.Core.Path.{subst}
use Rattle.index_entry.specs.Types.{TypeAt}
use Rattle.walk_queries.proofs.TypeNotes.{of_option, of_set, under_over, under_itself}
use Rattle.walk_queries.proofs.lists.under.Goals as goal

pub returns-in-Option : goal.returns-in-Option
returns-in-Option c = under_over c.get.ensures (subst (TypeAt _ _) c.in-Option.is c.type_at.ensures) of_option c.get-in-Option.ensures

pub returns-in-Set : goal.returns-in-Set
returns-in-Set c = under_over c.get.ensures (subst (TypeAt _ _) c.in-Set.is c.type_at.ensures) of_set c.get-in-Set.ensures

pub returns-in_default : goal.returns-in_default
returns-in_default c = under_itself c.get.ensures c.type_at.ensures

-- By the kind, which the mark of the record gives.
-- Assumes nothing.
use Rattle.index_search.proofs.Narrow.{narrowed}
use Rattle.check_file.proofs.Stepping.{over_as}
use Rattle.check_file.proofs.Over.{type_over, enum_over, fun_over, term_over, input_over}
use Rattle.check_file.proofs.Marked.{marked_type, marked_enum, marked_fun, marked_term, marked_input}
use Rattle.check_file.proofs.step.enter_next.Goals as goal

pub returns-in-TB : goal.returns-in-TB
returns-in-TB c = over_as (λ x. marked_type x _ search) (type_over (narrowed _ _ c.try_from.ensures c.unwrap_or-offset.ensures) c.enter_type.ensures)

pub returns-in-EN : goal.returns-in-EN
returns-in-EN c = over_as (λ x e. marked_enum x e c.in-EN.is) (enum_over (narrowed _ _ c.try_from.ensures c.unwrap_or-offset.ensures) c.enter_enum.ensures)

pub returns-in-UF : goal.returns-in-UF
returns-in-UF c = over_as (λ x e. marked_fun x e c.in-UF.is) (fun_over (narrowed _ _ c.try_from.ensures c.unwrap_or-offset.ensures) c.enter_fun.ensures)

pub returns-in-XV : goal.returns-in-XV
returns-in-XV c =
    over_as (λ x e. (marked_term x _ (search) e, e))
    (term_over (narrowed _ _ c.try_from.ensures c.unwrap_or-offset.ensures) _ c.enter_term.ensures.kept c.enter_term.ensures.entered)

pub returns-in-IN : goal.returns-in-IN
returns-in-IN c = over_as (λ x e. marked_input x e c.in-IN.is) (input_over (narrowed _ _ c.try_from.ensures c.unwrap_or-offset.ensures) c.enter_input.ensures)

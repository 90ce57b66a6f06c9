-- `check_enter::terms::enter_typed` meets its contract: rules 9 and 10, the type, the count, the depth, and then the row.
-- Assumes nothing.
use mathlib.Core.Path.{sym, ◌∙◌}
use Rattle.read_field.proofs.Laws.{handed_on}
use Rattle.check_enter.proofs.Rewritten.{keeps_left, keeps_then}
use Rattle.check_enter.proofs.TermRules.{given, not_given, term_broken, term_unlisted, term_wrong, term_many, term_deep, term_entered}
use Rattle.check_enter.proofs.terms.enter_typed.Goals as goal

pub returns-in_err-broken_rule : goal.returns-in_err-broken_rule
returns-in_err-broken_rule c =
    let U = c.broken_rule.ensures.unchanged in
    rw (handed_on _ c.from_residual.ensures.1) (record { kept = keeps_left U; go = λ M T. term_broken _ c.octets.ensures (rw (c.view.ensures.0, c.view.ensures.1, c.view.ensures.2) at c.greatest-deepest.ensures) (c.broken_rule.ensures.told M) U c.in_err-broken_rule.was })

pub returns-in_err-ty : goal.returns-in_err-ty
returns-in_err-ty c =
    let U = c.broken_rule.ensures.unchanged in
    let g = not_given (sym c.ok_or.ensures.value ∙ c.in_err-ty.was) in
    rw (handed_on _ c.from_residual-in_err-ty.ensures.1, g.1) (record { kept = keeps_left U; go = λ M T. term_unlisted _ c.octets.ensures (rw (c.view.ensures.0, c.view.ensures.1, c.view.ensures.2) at c.greatest-deepest.ensures) (c.broken_rule.ensures.told M) U T c.in_ok-broken_rule.was g.0 })

pub returns-then-writes_other : goal.returns-then-writes_other
returns-then-writes_other c =
    let U = c.broken_rule.ensures.unchanged in
    record {
      kept = keeps_left U;
      go = λ M T.
          term_wrong _ c.octets.ensures (rw (c.view.ensures.0, c.view.ensures.1, c.view.ensures.2) at c.greatest-deepest.ensures) (c.broken_rule.ensures.told M) U T c.in_ok-broken_rule.was (given (sym c.ok_or.ensures.value ∙ c.in_ok-ty.was)) (rw (c.view-2.ensures.0, c.view-2.ensures.1, c.view-2.ensures.2) at c.writes_other.ensures)
          c.if-writes_other.true;
    }

pub returns-then-records-ge-MOST : goal.returns-then-records-ge-MOST
returns-then-records-ge-MOST c =
    let U = c.broken_rule.ensures.unchanged in
    record {
      kept = keeps_left U;
      go = λ M T. term_many _ c.octets.ensures (rw (c.view.ensures.0, c.view.ensures.1, c.view.ensures.2) at c.greatest-deepest.ensures) (c.broken_rule.ensures.told M) U T c.in_ok-broken_rule.was (given (sym c.ok_or.ensures.value ∙ c.in_ok-ty.was)) (rw (c.view-2.ensures.0, c.view-2.ensures.1, c.view-2.ensures.2) at c.writes_other.ensures) c.if-writes_other.false (rw U.sizes_are at c.if-records-ge-MOST.true);
    }

pub returns-then-deepest-gt-DEEPEST_PART : goal.returns-then-deepest-gt-DEEPEST_PART
returns-then-deepest-gt-DEEPEST_PART c =
    let U = c.broken_rule.ensures.unchanged in
    record {
      kept = keeps_left U;
      go = λ M T.
          term_deep _ c.octets.ensures (rw (c.view.ensures.0, c.view.ensures.1, c.view.ensures.2) at c.greatest-deepest.ensures) (c.broken_rule.ensures.told M) U T c.in_ok-broken_rule.was (given (sym c.ok_or.ensures.value ∙ c.in_ok-ty.was)) (rw (c.view-2.ensures.0, c.view-2.ensures.1, c.view-2.ensures.2) at c.writes_other.ensures) c.if-writes_other.false (rw U.sizes_are at c.if-records-ge-MOST.false)
          c.if-deepest-gt-DEEPEST_PART.true;
    }

pub returns : goal.returns
returns c =
    let U = c.broken_rule.ensures.unchanged in
    record {
      kept = keeps_then (keeps_left U) c.store_term.ensures.kept;
      go = λ M T.
          term_entered _ c.octets.ensures (rw (c.view.ensures.0, c.view.ensures.1, c.view.ensures.2) at c.greatest-deepest.ensures) (c.broken_rule.ensures.told M) U T c.in_ok-broken_rule.was (given (sym c.ok_or.ensures.value ∙ c.in_ok-ty.was)) (rw (c.view-2.ensures.0, c.view-2.ensures.1, c.view-2.ensures.2) at c.writes_other.ensures) c.if-writes_other.false (rw U.sizes_are at c.if-records-ge-MOST.false)
          c.if-deepest-gt-DEEPEST_PART.false c.store_term.ensures;
    }

-- Records compared by mark and body.
-- Assumes nothing.
use mathlib.Core.Path.{◌≡◌, sym, ap, ◌∙◌}
use Prim.Native.Nat.{ℕ}
use mathlib.Core.Bool.{Bool, true, false, true≢false}
use mathlib.Core.List.{List}
use Rattle.script_spec.specs.Base.{Bytes}
use Rattle.index.specs.Standing.{mark_at, body_at, entry_at}
use Rattle.index_compare.proofs.Prints.{Octets}
use Rattle.index_compare.specs.View.{Decides, SameSegments, viewed}
use Rattle.index_compare.specs.declared.compare.View.TheVariants.{First}
use Rattle.index_compare.proofs.Canonical.{index_firsts, same_canonical}
use Rattle.check_rules.specs.Marks.{mark_of}
use Rattle.check_rules.proofs.Marks.{entry_mark}
use Rattle.index_search.proofs.Homes.{mark_canonical}
use Rattle.index_search.proofs.SetLaws.{same_mark}
use Rattle.index_search.specs.Found.{SameAt}

module _ (file : Bytes) (work : List ℕ) (k o p : ℕ) {r : Bool} (M : Decides r (mark_at file o ≡ mark_at file p)) where
  -- the same mark: the bodies decide
  pub same_marks : {d : Bool} → Octets file → r ≡ true → Decides d (SameSegments file (viewed work k First) o (viewed work k First) p) → SameAt file work k o p d
  same_marks octets h D =
      let marks = M.of_true h in
      record {
        go = λ f I x y X Y N.
            let S = same_canonical (index_firsts I) file o p octets marks X.reads Y.reads X.in_range Y.in_range (same_mark file o p marks X.reads Y.reads N) in
            record { true_of = λ e. D.true_of (S.from e); of_true = λ t. S.to (D.of_true t) };
      }

  -- other marks
  pub other_marks : r ≡ false → SameAt file work k o p r
  unfolding entry_at
  other_marks h =
      record {
        go = λ f I x y X Y N.
            record {
              true_of = λ e.
                  let marks = entry_mark (mark_at file o) (body_at file o) X.reads ∙ sym (mark_canonical f x) ∙ ap mark_of e ∙ mark_canonical f y ∙ sym (entry_mark (mark_at file p) (body_at file p) Y.reads) in
                  absurd (true≢false (sym (M.true_of marks) ∙ h));
              of_true = λ t. absurd (true≢false (sym t ∙ h));
            };
      }

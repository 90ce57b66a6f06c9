-- Rule 21: the type that is written in a term is the term's where the numbers of their first equal types are.
-- Assumes nothing.
use mathlib.Core.Path.{◌≡◌, refl, sym, ap, ◌∙◌}
use Prim.Native.Nat.{ℕ, ◌+◌, ◌<◌}
use mathlib.Core.Bool.{Bool, true, false, not, not-not}
use mathlib.Core.List.{List}
use mathlib.Core.Option.{Option, none, some, none-ne-some}
use lib.Dec.{eqb, eqb→eq}
use lib.ListN.{length, get_or}
use borrow.Author.Tests.{eq-eqb}
use Rattle.script_spec.specs.Base.{Bytes, if_some}
use Rattle.script_spec.specs.Tree.{eq_ty}
use Rattle.script_spec.specs.Fields.{is_typed}
use Rattle.script_spec.specs.File.{TermFile, types, type_at, written}
use Rattle.script_spec.proofs.Laws.{same_truth}
use Rattle.index.specs.Cells.{cell, type_first}
use Rattle.index.specs.First.{first_type}
use Rattle.index.specs.Lists.{number_at}
use Rattle.index.specs.Meaning.{Rows}
use Rattle.index.proofs.Firsts.{first_injective, first_types, equal_types}
use Rattle.check_enter.specs.Entering.{written_at, WrittenBelow}
use Rattle.check_enter.specs.Terms.{WritesOther}

-- ---- the test

module _ (file : Bytes) (o : ℕ) where
  written_none : is_typed (get_or file o 0) ≡ false → written_at file o ≡ none
  unfolding written_at
  written_none h = rw (h, written_at)

  written_some : is_typed (get_or file o 0) ≡ true → written_at file o ≡ some (number_at file (o + 2 + number_at file (o + 2)))
  unfolding written_at
  written_some h = rw (h, written_at)

module _ {file : Bytes} {work : List ℕ} {k o ty : ℕ} where
  pub nothing_written : is_typed (get_or file o 0) ≡ false → WritesOther file work k o ty false
  nothing_written h = record { go = λ n e. absurd (none-ne-some n (sym (written_none file o h) ∙ e)); unwritten = λ e. refl }

  pub number_written : {n first : ℕ} → is_typed (get_or file o 0) ≡ true → n ≡ number_at file (o + 2 + number_at file (o + 2)) → first ≡ cell work k type_first n → WritesOther file work k o ty (not (eqb first ty))
  number_written {n} h e g =
      let is : written_at file o ≡ some n = written_some file o h ∙ ap some (sym e) in
      record {
        go = λ m q.
            let p : some n ≡ some m = sym is ∙ q in
            let same : n ≡ m = cc in
            ap (λ (i : ℕ). not (eqb i ty)) (g ∙ ap (cell work k type_first) same);
        unwritten = λ q. absurd (none-ne-some n (sym q ∙ is));
      }

-- ---- the rule

module _ (f : TermFile) where
  -- types are equal exactly where their first equal numbers are
  equal_types_numbers : (m n : ℕ) → m < length (types f) → n < length (types f) → eq_ty (type_at f m) (type_at f n) ≡ eqb (first_type f n) (first_type f m)
  equal_types_numbers m n h k =
      same_truth _ _
      (λ t. rw (eq-eqb _ _ (sym ((first_types f).equal m n t))) tt)
      (λ t. first_injective (first_types f) equal_types m n h k (sym (eqb→eq _ _ t)))

-- rule 21 of a term whose type has this number, the first of its equals
pub rule_written : {file : Bytes} {f : TermFile} {work : List ℕ} {k o ty : ℕ} {b : Bool} → Rows file f work k → WrittenBelow file f o → ty < length (types f) → first_type f ty ≡ ty → WritesOther file work k o ty b
    → if_some (eq_ty (type_at f ty)) (written f (written_at file o)) ≡ not b
unfolding if_some written
rule_written {file} {f} {work} {k} {o} {ty} {b} I B below first_is W = from (written_at file o) refl
  where
    from : (n : Option ℕ) → written_at file o ≡ n → if_some (eq_ty (type_at f ty)) (written f n) ≡ not b
    from none e = rw (W.unwritten e) refl
    from (some n) e =
        let l = B.go n e in
        let same : eq_ty (type_at f ty) (type_at f n) ≡ eqb (cell work k type_first n) ty = rw (I.type_row n l).first (rw first_is at (equal_types_numbers f ty n below l)) in
        same ∙ sym (not-not (eqb (cell work k type_first n) ty)) ∙ ap not (sym (W.go n e))

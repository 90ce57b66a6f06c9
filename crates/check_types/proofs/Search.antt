-- The first type that is that of a term: the one that it refers to, or the one that is found by the search.
-- Assumes nothing.
use mathlib.Core.Path.{◌≡◌, refl, sym, ap, ◌∙◌}
use Prim.Native.Nat.{ℕ, ◌<◌}
use mathlib.Core.List.{List}
use mathlib.Core.Option.{some}
use lib.ListN.{length}
use Rattle.script_spec.specs.Base.{Bytes, place}
use Rattle.script_spec.specs.Tree.{eq_ty}
use Rattle.script_spec.specs.Tree.{TermMark, Var, BoolLit, BitVecLit, StringLit, Entity, ExtLit, None, Some, Set, Record, App}
use Rattle.script_spec.specs.Fields.{term}
use Rattle.script_spec.specs.File.{TermFile, types, earlier}
use Rattle.index.specs.Cells.{cell, type_first, term_type}
use Rattle.index.specs.First.{MarkInRange, InRange}
use Rattle.index.specs.Rules.{reference, type_by, type_named}
use Rattle.index.specs.Standing.{entry_at}
use Rattle.index.specs.Meaning.{Rows}
use Rattle.index.specs.declared.Sizes.{Sizes}
use Rattle.index.proofs.Rules.{reference_listed}
use Rattle.index_compare.specs.Printed.{term_segments}
use Rattle.index_compare.proofs.Prints.{Octets}
use Rattle.index_compare.specs.View.{viewed, kind_of, reference_number, of_kind, reference_numbers}
use Rattle.check_types.specs.Sought.{part_at, Refers, Unreferred, Seeks, TypeSought}
use Rattle.std.specs.Prelude as rust
use Rattle.check_types.specs.Probed.{ListedSought}
use Rattle.check_types.proofs.Read.{leading, part_term}

-- ---- a term that refers to its type, and one that does not

module _ {file : Bytes} {f : TermFile} {work : List ℕ} {k : ℕ} (I : Rows file f work k) where
  reference_found : (n : ℕ) → n < length (types f) → some (cell work k type_first n) ≡ place (eq_ty (type_named f (reference n))) (types f)
  reference_found n h = ap some (I.type_row n h).first ∙ sym (reference_listed f n h)

  referred : {o : ℕ} (R : Refers file o) (m : TermMark ℕ ℕ) (rs : List ℕ) → entry_at file o ≡ some (term m rs) → MarkInRange (earlier f) m
      → some (leading work k (term_segments m rs)) ≡ place (eq_ty (type_named f (type_by (cell work k term_type) m rs))) (types f)
  unfolding type_by leading term_segments reference_numbers of_kind kind_of reference_number viewed MarkInRange earlier
  referred R (Var id n) rs e b = reference_found n b
  referred R (BoolLit x) rs e b = absurd (R.go (BoolLit x) rs e (λ n. n) _ _ refl)
  referred R (BitVecLit n v) rs e b = absurd (R.go (BitVecLit n v) rs e (λ n. n) _ _ refl)
  referred R (StringLit s) rs e b = absurd (R.go (StringLit s) rs e (λ n. n) _ _ refl)
  referred R (Entity n id) rs e b = reference_found n b
  referred R (ExtLit v) rs e b = absurd (R.go (ExtLit v) rs e (λ n. n) _ _ refl)
  referred R (None n) rs e b = absurd (R.go (None n) rs e (λ n. n) _ _ refl)
  referred R Some rs e b = absurd (R.go Some rs e (λ n. n) _ _ refl)
  referred R (Set n) rs e b = absurd (R.go (Set n) rs e (λ n. n) _ _ refl)
  referred R (Record names) rs e b = absurd (R.go (Record names) rs e (λ n. n) _ _ refl)
  referred R (App n op) rs e b = reference_found n b.0

module _ (file : Bytes) (work : List ℕ) (sizes : Sizes) (o : ℕ) where
  pub reference_sought : {n : ℕ} → Octets file → Refers file o → n ≡ part_at file work sizes.rows o → TypeSought file work sizes o (rust.Some n)
  unfolding InRange
  reference_sought octets R q =
      record { go = λ f I c m rs e range. ap some (q ∙ part_term file octets work sizes.rows o e) ∙ referred I.index R m rs e range.0 }

  pub listed_sought : {r : rust.Option ℕ} → Unreferred file o → ListedSought file work sizes.rows sizes.types o r → TypeSought file work sizes o r
  listed_sought U L =
      record {
        go = λ f I c m rs e range.
            let x = U.go m rs e (cell work sizes.rows term_type) in
            let S : Seeks file work sizes.rows o f x.0 x.1 = record { index = I.index; mark = m; refs = rs; reads = e; in_range = range; by = x.2 } in
            rw x.2 (L.go f x.0 x.1 (record { seeks = S; count_is = c.types_are; reached = rw c.types_are I.searchable.type_slots }));
      }

-- The records while a row is stored: the memory after one store and another.
-- Assumes nothing.
use mathlib.Core.Path.{◌≡◌, refl, ap, ◌∙◌}
use Prim.Native.Nat.{ℕ, suc, ◌+◌, ◌<◌, min}
use native.Mathlib.Omega.{arith}
use mathlib.Core.List.{List}
use lib.ListN.{length}
use Rattle.index.specs.Cells.{store, with_term_row, term_offset, term_first, term_type, term_depth, term_place, note}
use Rattle.index.specs.Held.{Becomes, Stays}
use Rattle.index.specs.declared.RecordsMut.{RecordsMut}
use Rattle.index.specs.declared.Sizes.{Sizes}
use Rattle.script_spec.specs.File.{TermFile}
use Rattle.index.specs.Meaning.{SizesOf}
use Rattle.index.proofs.Cells.{length_store}
use Rattle.index_search.specs.Searchable.{Indexed}
use Rattle.check_enter.specs.Entering.{Keeps, Counted, Unchanged}

-- w is v with this memory, of the same length
pub record Rewritten (v w : RecordsMut) (work : List ℕ) : Type 0 where
  pub becomes : Becomes v w work
  pub size : length w.work.now ≡ length v.work.now

pub rewritten_none : (v : RecordsMut) → Rewritten v v v.work.now
rewritten_none v = record { becomes = record { file_is = refl; sizes_are = refl; lent = refl; memory = refl }; size = refl }

pub rewritten_from : {v w : RecordsMut} → Stays v w → Rewritten v w w.work.now
rewritten_from S = record { becomes = record { file_is = S.file_is; sizes_are = S.sizes_are; lent = S.lent; memory = refl }; size = S.size }

pub rewritten_then : {v w x : RecordsMut} {work : List ℕ} (column i a : ℕ) → Rewritten v w work → Becomes w x (store w.work.now w.sizes.rows column i a) → Rewritten v x (store work v.sizes.rows column i a)
rewritten_then {w = w} column i a R B =
    let A = R.becomes in
    record {
      becomes = record {
        file_is = B.file_is ∙ A.file_is;
        sizes_are = B.sizes_are ∙ A.sizes_are;
        lent = B.lent ∙ A.lent;
        memory = B.memory ∙ (λ j. store (A.memory j) ((ap (λ (s : Sizes). s.rows) A.sizes_are) j) column i a);
      };
      size = ap length B.memory ∙ length_store w.work.now w.sizes.rows column i a ∙ R.size;
    }

-- after the row of a term
pub rewritten_term : {v w x : RecordsMut} {work : List ℕ} (i offset first type depth place : ℕ) → Rewritten v w work → Becomes w x (with_term_row w.work.now w.sizes.rows i offset first type depth place)
    → Rewritten v x (with_term_row work v.sizes.rows i offset first type depth place)
rewritten_term {v} {w} i offset first type depth place R B =
    let A = R.becomes in
    let k = w.sizes.rows in
    record {
      becomes = record {
        file_is = B.file_is ∙ A.file_is;
        sizes_are = B.sizes_are ∙ A.sizes_are;
        lent = B.lent ∙ A.lent;
        memory = B.memory ∙ (λ j. with_term_row (A.memory j) ((ap (λ (s : Sizes). s.rows) A.sizes_are) j) i offset first type depth place);
      };
      size =
          ap length B.memory ∙ length_store _ k note i 0 ∙ length_store _ k term_place i place ∙ length_store _ k term_depth i depth ∙ length_store _ k term_type i type
          ∙ length_store _ k term_first i first ∙ length_store w.work.now k term_offset i offset ∙ R.size;
    }

-- with other counts
pub keeps_counted : {v w : RecordsMut} {work : List ℕ} → Rewritten v w work → (sizes : Sizes) → sizes.rows ≡ w.sizes.rows → Keeps v (record { file = w.file; work = w.work; sizes = sizes })
keeps_counted R sizes e = record { file_is = R.becomes.file_is; rows_are = e ∙ ap (λ (s : Sizes). s.rows) R.becomes.sizes_are; lent = R.becomes.lent; size = R.size }

pub keeps_same : (v : RecordsMut) → Keeps v v
keeps_same v = record { file_is = refl; rows_are = refl; lent = refl; size = refl }

-- the index and the sizes
pub indexed_as : {v w : RecordsMut} {work : List ℕ} {f : TermFile} → Rewritten v w work → Indexed v.file.now f work v.sizes.rows → Indexed w.file.now f w.work.now w.sizes.rows
indexed_as R I = rw (R.becomes.file_is, R.becomes.sizes_are, R.becomes.memory) I

pub sizes_as : {v w : RecordsMut} {work : List ℕ} {f : TermFile} → Rewritten v w work → SizesOf f v.sizes → SizesOf f w.sizes
sizes_as R S = rw R.becomes.sizes_are S

-- a count below 2 ^ 32 - 1 with one more
pub one_more : {m n n' : ℕ} → m ≡ min (n + 1) 4294967295 → n' ≡ n → n < 4294967295 → m ≡ suc n'
one_more {m} {n} {n'} e q h = omega arith

pub unchanged : (v : RecordsMut) → Unchanged v v
unchanged v = record { memory = refl; sizes_are = refl }

pub keeps_stays : {v w : RecordsMut} → Stays v w → Keeps v w
keeps_stays S = record { file_is = S.file_is; rows_are = ap (λ (s : Sizes). s.rows) S.sizes_are; lent = S.lent; size = S.size }

pub keeps_then : {v w x : RecordsMut} → Keeps v w → Keeps w x → Keeps v x
keeps_then K L = record { file_is = L.file_is ∙ K.file_is; rows_are = L.rows_are ∙ K.rows_are; lent = L.lent ∙ K.lent; size = L.size ∙ K.size }

-- ---- records that were left as they were

module _ {v w : RecordsMut} (U : Becomes v w v.work.now) where
  pub keeps_left : Keeps v w
  keeps_left = record { file_is = U.file_is; rows_are = ap (λ (s : Sizes). s.rows) U.sizes_are; lent = U.lent; size = ap length U.memory }

  pub unchanged_left : Unchanged v w
  unchanged_left = record { memory = U.memory; sizes_are = U.sizes_are }

  pub counted_left : {f : TermFile} → Counted f v → Counted f w
  counted_left C = record { indexed = rw (U.file_is, U.sizes_are, U.memory) C.indexed; sizes_are = rw U.sizes_are C.sizes_are }

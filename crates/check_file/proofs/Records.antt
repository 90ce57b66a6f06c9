-- Check's answer, one record at a time: what is left of the answer at a place of the file, by cases on the next record.
-- Assumes nothing.
use mathlib.Core.Path.{◌≡◌, refl, ◌∙◌}
use Prim.Native.Nat.{ℕ, zero, suc, ◌+◌, ◌*◌, ◌-◌, ◌≤◌, ◌<◌}
use native.Mathlib.Omega.{arith}
use native.Mathlib.Numerals.{unary_clauses}
use mathlib.Core.List.{[], ◌∷◌, ◌++◌}
use borrow.Author.Tests.{le-leb, lt-leb}
use lib.ListN.{length, drop, length-drop}
use Rattle.script_spec.specs.Base.{Bytes, accepted, refused}
use Rattle.script_spec.specs.Fields.{got, bad}
use Rattle.script_spec.specs.File.{TermFile, Named, next_record, records, checked}

-- ---- records

module _ (fuel : ℕ) (f : TermFile) where
  records_got : (s : Bytes) {r : Named} {rest : Bytes} → 0 < length s → next_record f s ≡ got r rest → records (suc fuel) f s ≡ records fuel (f ++ (r ∷ [])) rest
  unfolding records
  records_got [] h e = absurd (omega arith)
  records_got (b ∷ s) h e = rw (e, records)

  records_bad : (s : Bytes) {n : ℕ} → 0 < length s → next_record f s ≡ bad n → records (suc fuel) f s ≡ refused n (length f) 0
  unfolding records
  records_bad [] h e = absurd (omega arith)
  records_bad (b ∷ s) h e = rw (e, records)

records_end : (fuel : ℕ) (f : TermFile) (s : Bytes) → length s ≡ 0 → records fuel f s ≡ accepted f
unfolding records
records_end zero f s h = refl
records_end (suc fuel) f [] h = refl
records_end (suc fuel) f (b ∷ s) h = absurd (omega arith)

-- ---- a place of the file

-- the answer is that of the bytes from `at` on after the records f, with steps enough for them
pub record Rest (file : Bytes) (f : TermFile) (at : ℕ) : Type 0 where
  pub fuel : ℕ
  pub enough : length file ≤ at + fuel
  pub is : records (length file) [] file ≡ records fuel f (drop at file)

pub rest_start : (file : Bytes) → Rest file [] 0
rest_start file = record { fuel = length file; enough = omega arith; is = refl }

-- steps are left where bytes are
positive : (n : ℕ) → 0 < n → (P : ℕ → Type 0) → ((m : ℕ) → P (suc m)) → P n
positive zero h P k = absurd (omega arith)
positive (suc m) h P k = k m

module _ {file : Bytes} {f : TermFile} {at : ℕ} (R : Rest file f at) where
  bytes_left : at < length file → 0 < length (drop at file)
  bytes_left h = rw length-drop (omega arith)

  fuel_left : at < length file → 0 < R.fuel
  fuel_left h = omega (arith, R.enough)

  pub rest_end : length file ≤ at → records (length file) [] file ≡ accepted f
  rest_end h = R.is ∙ records_end R.fuel f (drop at file) (rw length-drop (omega arith))

  pub rest_bad : {n : ℕ} → at < length file → next_record f (drop at file) ≡ bad n → records (length file) [] file ≡ refused n (length f) 0
  rest_bad {n} h e = R.is ∙ positive R.fuel (fuel_left h) (λ m. records m f (drop at file) ≡ refused n (length f) 0) (λ m. records_bad m f (drop at file) (bytes_left h) e)

  pub rest_got : {at' : ℕ} {r : Named} → at < at' → at < length file → next_record f (drop at file) ≡ got r (drop at' file) → Rest file (f ++ (r ∷ [])) at'
  rest_got {at'} {r} g h e =
      record {
        fuel = R.fuel - 1;
        enough = omega (arith, R.enough);
        is = R.is ∙ positive R.fuel (fuel_left h) (λ m. records m f (drop at file) ≡ records (m - 1) (f ++ (r ∷ [])) (drop at' file)) (λ m. simp unary_clauses (records_got m f (drop at file) (bytes_left h) e));
      }

-- ---- the whole file

module _ (file : Bytes) (work : ℕ) where
  pub checked_long : 1048576 < length file → checked file work ≡ refused 1 0 0
  unfolding checked
  checked_long h = rw (lt-leb (length file) 1048576 h, checked)

  pub checked_narrow : length file ≤ 1048576 → work < 2 * length file → checked file work ≡ refused 2 0 0
  unfolding checked
  checked_narrow g h = rw (le-leb (length file) 1048576 g, lt-leb (2 * length file) work h, checked)

  pub checked_records : length file ≤ 1048576 → 2 * length file ≤ work → checked file work ≡ records (length file) [] file
  unfolding checked
  checked_records g h = rw (le-leb (length file) 1048576 g, le-leb (2 * length file) work h, checked)

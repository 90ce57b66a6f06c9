-- What it is that check accepts a file: the file is within the limits, and check takes one record after the other. `checked` taken back,
-- and made again. By cases, and by recursion on the steps.
-- Assumes nothing.
use Prim.Native.Nat.{ℕ, zero, suc, ◌*◌, ◌≤◌}
use native.Mathlib.Omega.{arith}
use mathlib.Core.Path.{◌≡◌, refl, subst}
use mathlib.Core.Bool.{Bool, true, false}
use mathlib.Core.List.{[], ◌∷◌, ◌++◌}
use lib.Dec.{leb, leb→le}
use borrow.Author.Tests.{le-leb}
use lib.ListN.{length}
use Rattle.script_spec.specs.Base.{Bytes, Answer, accepted, refused}
use Rattle.script_spec.specs.Fields.{Read, got, bad}
use Rattle.script_spec.specs.File.{Named, TermFile, next_record, records, checked}
use Rattle.script_spec.proofs.Laws.{never}
use Rattle.script_spec.proofs.Taken.{next_size}

-- after the records g the bytes s are records that check takes, and all of these make the file f
pub data AllTaken (f : TermFile) : TermFile → Bytes → Type 0 where
  all_taken : AllTaken f f []
  one_taken : {g : TermFile} {s : Bytes} {r : Named} {rest : Bytes} → next_record g s ≡ got r rest → AllTaken f (g ++ (r ∷ [])) rest → AllTaken f g s

-- a file that check accepts as f
pub record IsAccepted (file : Bytes) (work : ℕ) (f : TermFile) : Type 0 where
  pub short : length file ≤ 1048576
  pub room : 2 * length file ≤ work
  pub all : AllTaken f [] file

-- ---- records

module _ (f : TermFile) where
  records_inverse : (fuel : ℕ) (g : TermFile) (s : Bytes) → length s ≤ fuel → records fuel g s ≡ accepted f → AllTaken f g s
  unfolding records
  records_inverse zero g [] l e = let same : f ≡ g = cc in subst (λ (x : TermFile). AllTaken f x []) same all_taken
  records_inverse zero g (b ∷ s) l e = absurd (omega (arith, l))
  records_inverse (suc fuel) g [] l e = let same : f ≡ g = cc in subst (λ (x : TermFile). AllTaken f x []) same all_taken
  records_inverse (suc fuel) g (b ∷ s) l e = from (next_record g (b ∷ s)) refl e (λ r rest. records_inverse fuel (g ++ (r ∷ [])) rest)
    where
      from : (x : Read Named) → next_record g (b ∷ s) ≡ x → elim x as (λ y. Answer TermFile) [ bad n ↦ refused n (length g) 0 | got r rest ↦ records fuel (g ++ (r ∷ [])) rest ] ≡ accepted f
          → ((r : Named) (rest : Bytes) → length rest ≤ fuel → records fuel (g ++ (r ∷ [])) rest ≡ accepted f → AllTaken f (g ++ (r ∷ [])) rest) → AllTaken f g (b ∷ s)
      from (bad n) q h later = never cc
      from (got r rest) q h later = one_taken q (later r rest (omega (arith, l, next_size g (b ∷ s) q)) h)

  records_again : (fuel : ℕ) {g : TermFile} {s : Bytes} → length s ≤ fuel → AllTaken f g s → records fuel g s ≡ accepted f
  unfolding records
  records_again zero l all_taken = refl
  records_again (suc fuel) l all_taken = refl
  records_again zero {g} {s} l (one_taken h t) = absurd (omega (arith, l, next_size g s h))
  records_again (suc fuel) {g = g} {s = []} l (one_taken h t) = absurd (omega (arith, next_size g [] h))
  records_again (suc fuel) {g = g} {s = b ∷ s} l (one_taken h t) = rw (records, h) (records_again fuel (omega (arith, l, next_size g (b ∷ s) h)) t)

-- ---- files

module _ (file : Bytes) (work : ℕ) (f : TermFile) where
  pub checked_inverse : checked file work ≡ accepted f → IsAccepted file work f
  unfolding checked
  checked_inverse e = small (leb (length file) 1048576) refl e
    where
      room : leb (length file) 1048576 ≡ true → (b : Bool) → leb (2 * length file) work ≡ b → elim b as (λ y. Answer TermFile) [ false ↦ refused 2 0 0 | true ↦ records (length file) [] file ] ≡ accepted f
          → IsAccepted file work f
      room q false k h = never cc
      room q true k h =
          record {
            short = leb→le (length file) 1048576 (rw q tt);
            room = leb→le (2 * length file) work (rw k tt);
            all = records_inverse f (length file) [] file (omega arith) h;
          }

      small : (b : Bool) → leb (length file) 1048576 ≡ b
          → elim b as (λ y. Answer TermFile) [ false ↦ refused 1 0 0 | true ↦ elim (leb (2 * length file) work) [ false ↦ refused 2 0 0 | true ↦ records (length file) [] file ] ] ≡ accepted f
          → IsAccepted file work f
      small false q h = never cc
      small true q h = room q (leb (2 * length file) work) refl h

  pub checked_again : IsAccepted file work f → checked file work ≡ accepted f
  unfolding checked
  checked_again a = rw (checked, le-leb (length file) 1048576 a.short, le-leb (2 * length file) work a.room) (records_again f (length file) (omega arith) a.all)

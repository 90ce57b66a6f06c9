-- Filling the index: each way out of it.
-- Assumes nothing.
use mathlib.Core.Path.{◌≡◌, ap, ◌∙◌}
use Prim.Native.Nat.{ℕ, ◌*◌, ◌/◌, ◌≤◌, ◌<◌}
use native.Mathlib.Omega.{arith}
use mathlib.Core.List.{List}
use lib.ListN.{length, replicate}
use Rattle.std.specs.Prelude.{Ok, Err}
use Rattle.script_spec.specs.Base.{Bytes}
use Rattle.index.specs.declared.RecordsMut.{RecordsMut}
use Rattle.index.specs.Meaning.{together}
use Rattle.index.proofs.Cells.{capacity_fits}
use Rattle.index.proofs.Growth.{together_are}
use Rattle.refusal.specs.Numbers.{number, answered}
use Rattle.refusal.specs.declared.Refusal.{Refusal}
use Rattle.refusal.specs.declared.Refusal.TheVariants.{FileTooLong, MemoryTooSmall}
use Rattle.refusal.specs.declared.Refused.{Refused}
use Rattle.check_file.specs.Promise.{Fills}
use Rattle.check_file.specs.Clearing.{Refusing}
use Rattle.check_file.specs.Stepping.{EntersAll}
use Rattle.check_file.proofs.Records.{checked_long, checked_narrow, checked_records}

-- what is behind a reference, by its ghost name
pub reached : {A : Type 0} {y z : A} {m n : ℕ} → m ≡ n → (m ≡ n → y ≡ z) → y ≡ z
reached e f = f e

-- ---- refusals before the first record

module _ (file : Bytes) {work work' : List ℕ} {r : Refused} where
  pub fills_long : 1048576 < length file → Refusing work work' FileTooLong 0 r → Fills file work work' (Err r)
  unfolding answered number
  fills_long h Z = record { refuses = rw (Z.refusal_is, Z.place_is, Z.position_is) (checked_long file (length work) h); cleared = Z.cleared }

  pub fills_narrow : length file ≤ 1048576 → length work < 2 * length file → Refusing work work' MemoryTooSmall 0 r → Fills file work work' (Err r)
  unfolding answered number
  fills_narrow g h Z = record { refuses = rw (Z.refusal_is, Z.place_is, Z.position_is) (checked_narrow file (length work) g h); cleared = Z.cleared }

-- ---- after the records

module _ (file : Bytes) (work : List ℕ) {v w : RecordsMut} (is : v.file.now ≡ file) (short : length file ≤ 1048576) (room : 2 * length file ≤ length work) where
  pub fills_done : {work' : List ℕ} → EntersAll v w (Ok tt) → v.sizes.rows ≡ length file / 6 → work' ≡ w.work.now → Fills file work work' (Ok w.sizes)
  unfolding answered
  fills_done E rows left =
      let A = E.told in
      let I = rw (E.kept.file_is, is) at A.counted.indexed in
      rw left (record {
        records = A.records;
        accepts = checked_records file (length work) short room ∙ (rw is at A.is);
        rows_are = E.kept.rows_are ∙ rows;
        index = record { rows = I.index; sizes_are = A.counted.sizes_are; small = omega (arith, E.kept.rows_are, rows, short, capacity_fits (length file)) };
        unnamed = I.depths.unnamed;
      })

  pub fills_broken : {e : Refusal} {place : ℕ} {work' work'' : List ℕ} {r : Refused} → EntersAll v w (Err e) → (together w.sizes < 4294967296 → place ≡ together w.sizes) → Refusing w.work.now work'' e place r → length v.work.now ≡ length work
      → work' ≡ work'' → Fills file work work' (Err r)
  unfolding answered
  fills_broken {e} {place} E p Z same left =
      let A = E.told in
      let all : together w.sizes ≡ length A.records = together_are A.sizes_are in
      let here : place ≡ length A.records = p (omega (arith, A.few)) ∙ all in
      record {
        refuses = rw (Z.refusal_is, Z.place_is, Z.position_is, here) (checked_records file (length work) short room ∙ (rw is at A.is));
        cleared = left ∙ Z.cleared ∙ ap (λ (m : ℕ). replicate m 0) (E.kept.size ∙ same);
      }

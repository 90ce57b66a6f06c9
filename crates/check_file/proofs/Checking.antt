-- Check's promise from fill's.
-- Assumes nothing.
use mathlib.Core.Path.{◌≡◌, sym, ap}
use Prim.Native.Nat.{ℕ}
use mathlib.Core.List.{List}
use lib.ListN.{length, replicate}
use Rattle.std.specs.Prelude.{Ok, Err}
use Rattle.script_spec.specs.Base.{Bytes}
use Rattle.index.specs.declared.Sizes.{Sizes}
use Rattle.refusal.specs.Numbers.{answered}
use Rattle.refusal.specs.declared.Refused.{Refused}
use Rattle.check_file.specs.Promise.{checked_as, without_records, Checks, Fills}

module _ (file : Bytes) (work : List ℕ) where
  pub check_refused : {work' : List ℕ} {r : Refused} → Fills file work work' (Err r) → Checks file work work' (Err r)
  unfolding checked_as without_records answered
  check_refused R = record { answer = sym (ap without_records R.refuses); cleared = R.cleared }

  pub check_accepted : (work' : List ℕ) (sizes : Sizes) {work'' : List ℕ} → Fills file work work' (Ok sizes) → work'' ≡ replicate (length work) 0 → Checks file work work'' (Ok tt)
  unfolding checked_as without_records answered
  check_accepted work' sizes A z = record { answer = sym (ap without_records A.accepts); cleared = z }

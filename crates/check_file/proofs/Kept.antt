-- A step of the loop by the rule that the next record breaks, or that it breaks none.
-- Assumes nothing.
use mathlib.Core.Path.{◌≡◌, ◌∙◌}
use Prim.Native.Nat.{ℕ}
use mathlib.Core.Option.{Option, none, some}
use Rattle.script_spec.specs.Base.{Bytes}
use Rattle.script_spec.specs.Fields.{got, bad, Entry}
use Rattle.script_spec.specs.File.{TermFile, named, written, earlier, rules, broken, kept, next_record}
use Rattle.read_record.specs.Records.{read_record}
use Rattle.check_file.proofs.Reading.{next_got}

module _ (f : TermFile) (s : Bytes) {x : Entry} {ty : Option ℕ} {rest : Bytes} (read : read_record (earlier f) s ≡ got (x, ty) rest) where
  pub next_kept : broken (rules f (written f ty) (named f x)) ≡ none → next_record f s ≡ got (named f x) rest
  unfolding kept
  next_kept e = next_got f s read ∙ (rw (kept, e))

  pub next_broken : {n : ℕ} → broken (rules f (written f ty) (named f x)) ≡ some n → next_record f s ≡ bad n
  unfolding kept
  next_broken e = next_got f s read ∙ (rw (kept, e))

-- Rules 9 and 10 of a term that stands at an offset of the file.
-- Assumes nothing.
use Rattle.std.specs.Prelude.{◌≡◌, ℕ, ◌<◌, List, map, Result, Ok, Err}
use Rattle.std.proofs.Math.Option.{Option, none, some}
use Rattle.script_spec.specs.Tree.{TermMark}
use Rattle.script_spec.specs.Fields.{term}
use Rattle.script_spec.specs.File.{TermFile, broken}
use Rattle.index.specs.Cells.{cell, term_first}
use Rattle.index.specs.Standing.{entry_at}
use Rattle.index.specs.Rules.{greatest, list_rules_by}
use Rattle.index.specs.declared.RecordsMut.{RecordsMut}
use Rattle.refusal.specs.declared.Refusal.{Refusal}
use Rattle.refusal.specs.Numbers.{number}

-- the rule that is broken, by document 01's number, as an answer says it
abbrev pub broken_rule : Result (Unit {0}) Refusal → Option ℕ
broken_rule (Ok u) = none
broken_rule (Err e) = some (number e)

-- r says the rule that the term at an offset breaks, where `depth` is the greatest of its arguments' depths, each at least 1
pub record TermRule (v : RecordsMut) (o depth : ℕ) (r : Result (Unit {0}) Refusal) : Type 0 where
  pub go : (f : TermFile) (m : TermMark ℕ ℕ) (rs : List ℕ) (depth_of : ℕ → ℕ) → ((n : ℕ) → 0 < depth_of n) → depth ≡ greatest (map depth_of rs) → entry_at v.file.now o ≡ some (term m rs)
      → broken_rule r ≡ broken (list_rules_by f (cell v.work.now v.sizes.rows term_first) m rs)

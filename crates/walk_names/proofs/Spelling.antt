-- Texts over the records of a file: one after the other, equal ones, none, and where more is known.
-- Assumes nothing.
use mathlib.Core.Path.{◌≡◌}
use mathlib.Core.Bool.{Bool, true}
use mathlib.Core.List.{[], ◌++◌}
use lib.Dec.{ltb}
use Rattle.script_spec.specs.Base.{Bytes}
use Rattle.script_spec.specs.File.{TermFile}
use Rattle.script_spec.specs.Walk.{State}
use Rattle.write_bytes.specs.declared.writer.Writer.{Writer}
use Rattle.write_bytes.specs.Writing.{ceiling}
use Rattle.write_bytes.specs.Writers.{Writes, Lends}
use Rattle.write_bytes.proofs.Rest.{lent}
use Rattle.write_bytes.proofs.Laws.{◌then◌, says, nothing, stops_past}
use Rattle.index.specs.declared.Records.{Records}
use Rattle.walk_names.specs.Naming.{IndexOf, NumbersOf}
use Rattle.walk_names.specs.Spells.{Spells}
use Rattle.walk_names.proofs.Advancing.{continues_refl, ◌further◌, continues, continues_lent}

module _ {records : Records} {known : TermFile → Type 0} where
  -- a text that depends on nothing
  pub written : {v w : Writer} {s : Bytes} → Writes v w s → Spells records known (λ f S. s) v w
  written A = record { same = continues A; go = λ f S I N k. A }

  -- texts that are equal, as far as is known
  pub spells_as : {s t : TermFile → State → Bytes} {v w : Writer} → ((f : TermFile) (S : State) → IndexOf f records → NumbersOf f records S → known f → s f S ≡ t f S)
      → Spells records known s v w → Spells records known t v w
  spells_as e A = record { same = A.same; go = λ f S I N k. says (e f S I N k) (A.go f S I N k) }

  -- no text
  pub unwritten : {v : Writer} {t : TermFile → State → Bytes} → ((f : TermFile) (S : State) → IndexOf f records → NumbersOf f records S → known f → [] ≡ t f S) → Spells records known t v v
  unwritten e = spells_as e (written nothing)

  -- any text past the limit
  pub stopped : {v : Writer} {b : Bool} {t : TermFile → State → Bytes} → b ≡ ltb (ceiling v.limit) v.at → b ≡ true → Spells records known t v v
  stopped e h = record { same = continues_refl; go = λ f S I N k. stops_past e h }

  -- one text after another
  infixr 5 ◌next◌
  pub ◌next◌ : {u v w : Writer} {s t : TermFile → State → Bytes} → Spells records known s u v → Spells records known t v w → Spells records known (λ f S. s f S ++ t f S) u w
  A next B = record { same = A.same further B.same; go = λ f S I N k. A.go f S I N k then B.go f S I N k }

-- where more is known
pub knowing : {records : Records} {j k : TermFile → Type 0} {v w : Writer} {t : TermFile → State → Bytes} → ((f : TermFile) → IndexOf f records → k f → j f)
    → Spells records j t v w → Spells records k t v w
knowing h A = record { same = A.same; go = λ f S I N k. A.go f S I N (h f I k) }

-- a text in the rest of the script
pub spells_lent : {records : Records} {known : TermFile → Type 0} {t : TermFile → State → Bytes} {v w : Writer} → Lends (Spells records known t) v w → Spells records known t v w
spells_lent L = record { same = continues_lent L; go = λ f S I N k. lent (λ x y p. p.go f S I N k) L }

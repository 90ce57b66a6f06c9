-- Names in memory are the names of the walk.
-- Assumes nothing.
use mathlib.Core.Path.{◌≡◌, sym}
use Prim.Native.Nat.{ℕ, ◌<◌}
use lib.ListN.{length}
use Rattle.script_spec.specs.File.{TermFile, terms, term_at}
use Rattle.script_spec.specs.Walk.{State, names}
use Rattle.index.specs.declared.Records.{Records}
use Rattle.walk_names.proofs.Names.{name_term}
use Rattle.write_atoms.specs.Parts.{term_name_of}
use Rattle.walk_names.specs.Naming.{IndexOf, NumbersOf}

-- the name in memory
pub name_is : (records : Records) {f : TermFile} {n : ℕ} {S : State} → IndexOf f records → NumbersOf f records S → n < length (terms f) → term_name_of records n ≡ (names S).term (term_at f n)
unfolding term_name_of
name_is records {n = n} I N l = sym (name_term I.rows n N l)

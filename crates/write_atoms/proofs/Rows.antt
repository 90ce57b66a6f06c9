-- A row of the index has the entry of a term: what the term that is read again says of the tree.
-- Assumes nothing.
use mathlib.Core.Path.{◌≡◌, sym, subst}
use mathlib.Core.List.{List}
use mathlib.Core.Option.{Option, none, some}
use Prim.Native.Nat.{ℕ, ◌<◌}
use lib.ListN.{length}
use Rattle.script_spec.specs.Tree.{TermMark}
use Rattle.script_spec.specs.Fields as fields
use Rattle.script_spec.specs.Fields.{Entry}
use Rattle.script_spec.specs.File.{TermFile, terms}
use Rattle.index.specs.Cells.{cell, term_offset}
use Rattle.index.specs.Meaning.{counted}
use Rattle.index.specs.declared.Records.{Records}
use Rattle.index_entry.proofs.TermRows.{term_stands}
use Rattle.index_entry.specs.Terms.{term_said, TermAt}
use Rattle.index_entry.specs.declared.terms.TermEntry.{TermEntry}
use Rattle.write_atoms.specs.Records.{TermIs}
use Rattle.walk_names.specs.Naming.{IndexOf}
use Rattle.write_atoms.proofs.Sound.{Sound, sound_at}

-- an entry is that of a term, which has its mark and its children
abbrev pub EntryIs : TermFile → ℕ → Option Entry → Type 0
EntryIs f n none = ⊥
EntryIs f n (some (fields.type m rs)) = ⊥
EntryIs f n (some (fields.enum name ms)) = ⊥
EntryIs f n (some (fields.func id a r)) = ⊥
EntryIs f n (some (fields.term m rs)) = TermIs f n m rs
EntryIs f n (some (fields.input i)) = ⊥

module _ (records : Records) {n : ℕ} {r : TermEntry} (T : TermAt records.file.now (cell records.work.now records.sizes.rows term_offset n) r) where
  -- the term that is read again
  pub term_here : (f : TermFile) → IndexOf f records → n < length (terms f) → EntryIs f n (term_said r)
  unfolding Sound counted
  term_here f I l =
      term_stands (I.rows.term_row n l).stands (λ m rs reads marks below tree.
      subst (EntryIs f n) (sym (T.go m rs reads)) (record { tree = tree; in_range = marks; below = below; sound = sound_at records.file.now _ _ reads }))

  -- by its mark and children
  pub entry_is : {m : TermMark ℕ ℕ} {rs : List ℕ} → term_said r ≡ some (fields.term m rs) → (f : TermFile) → IndexOf f records → n < length (terms f) → TermIs f n m rs
  entry_is e f I l = subst (EntryIs f n) e (term_here f I l)

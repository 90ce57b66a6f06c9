-- A term where it is used, from its entry: by cases on the entry, and by what the index and the names in memory say.
-- Assumes nothing.
use mathlib.Core.Path.{◌≡◌, refl, sym, ap, ◌∙◌}
use mathlib.Core.Bool.{Bool, true, false}
use mathlib.Core.List.{[]}
use Prim.Native.Nat.{ℕ}
use denote.Bor.{Bor}
use Rattle.script_spec.specs.Base.{Bytes}
use Rattle.script_spec.specs.Utf8.{is_utf8}
use Rattle.script_spec.specs.Tree as tree
use Rattle.script_spec.specs.Tree.{Tm, Ty, Fun, Enums, Forest, Mark, node, nil, forest, BoolLit, BitVecLit, StringLit}
use Rattle.script_spec.specs.File.{TermFile, term_at, named_mark, members}
use Rattle.script_spec.specs.Text.{literal}
use Rattle.script_spec.specs.Spelling.{Names, bit_vec, body_over, body, inlined, atom}
use Rattle.script_spec.specs.Walk.{names}
use Rattle.write_bytes.specs.declared.writer.Writer.{Writer}
use Rattle.write_bytes.specs.Writers.{Writes}
use Rattle.read_utf8.specs.Decoding.{points}
use Rattle.read_utf8.proofs.Laws.{utf8_points}
use Rattle.index.specs.Cells.{cell, term_offset}
use Rattle.index.specs.First.{MarkInRange}
use Rattle.index.specs.Meaning.{counted}
use Rattle.index.specs.declared.Records.{Records}
use Rattle.index_entry.specs.Terms.{term_said, TermAt}
use Rattle.index_entry.specs.declared.terms.TermEntry.{TermEntry}
use Rattle.index_entry.specs.declared.terms.TermEntry.TheVariants as entry
use Rattle.write_atoms.specs.Parts.{truth, term_name_of}
use Rattle.write_atoms.specs.Records.{TermSound}
use Rattle.write_atoms.specs.Atoms.{SpellsEntity, SpellsLeaf}
use Rattle.walk_names.proofs.Spelling.{written, spells_as, knowing}
use Rattle.write_atoms.proofs.Rows.{EntryIs, term_here, entry_is}
use Rattle.write_atoms.proofs.Numbered.{name_is}

-- ---- terms that have names

-- a term that is not spells_as in full
pub named_is : (e : Enums) (ν : Names) (t : Tm) → inlined e t ≡ false → ν.term t ≡ atom e ν t
unfolding atom
named_is e ν t h = rw (h, atom)

-- a term that is
pub inlined_is : (e : Enums) (ν : Names) (t : Tm) → inlined e t ≡ true → body e ν t [] ≡ atom e ν t
unfolding atom
inlined_is e ν t h = rw (h, atom)

-- what an entry is that is no literal and no entity
pub record Other (r : TermEntry) : Type 0 where
  pub not_bool : (b : Bool) → r ≡ entry.BoolLit b → ⊥
  pub not_bits : (i j : ℕ) → r ≡ entry.BitVecLit i j → ⊥
  pub not_string : (s : Bor Bytes) → r ≡ entry.StringLit s → ⊥
  pub not_entity : (t : ℕ) (s : Bor Bytes) → r ≡ entry.Entity t s → ⊥

-- no such term is spelled in full, unless it is an application
always_named : (e : Enums) (f : TermFile) (n : ℕ) (r : TermEntry) → Other r → EntryIs f n (term_said r)
    → ((ty : Ty) (op : tree.Op Fun) (ts : Forest Mark) → node (tree.App ty op) ts ≡ term_at f n → ⊥) → inlined e (term_at f n) ≡ false
unfolding term_said named_mark inlined
always_named e f n (entry.Var s t) h i other = sym (ap (inlined e) i.tree)
always_named e f n (entry.BoolLit b) h i other = absurd (h.not_bool b refl)
always_named e f n (entry.BitVecLit w v) h i other = absurd (h.not_bits w v refl)
always_named e f n (entry.StringLit s) h i other = absurd (h.not_string s refl)
always_named e f n (entry.Entity t s) h i other = absurd (h.not_entity t s refl)
always_named e f n (entry.ExtLit v) h i other = sym (ap (inlined e) i.tree)
always_named e f n (entry.None t) h i other = sym (ap (inlined e) i.tree)
always_named e f n (entry.Some m) h i other = sym (ap (inlined e) i.tree)
always_named e f n (entry.Set t c) h i other = sym (ap (inlined e) i.tree)
always_named e f n (entry.Record c) h i other = sym (ap (inlined e) i.tree)
always_named e f n (entry.App t o c) h i other = absurd (other _ _ _ i.tree)
always_named e f n entry.Unreadable h i other = absurd i

-- ---- a term by its entry

bool_is : (e : Enums) (ν : Names) (b : Bool) → truth b ≡ atom e ν (node (BoolLit b) nil)
unfolding truth atom inlined body body_over
bool_is e ν true = refl
bool_is e ν false = refl

bits_is : (e : Enums) (ν : Names) (n v : ℕ) → bit_vec n v ≡ atom e ν (node (BitVecLit n v) nil)
unfolding atom inlined body body_over
bits_is e ν n v = refl

string_is : (e : Enums) (ν : Names) (s : Bytes) → is_utf8 s ≡ true → literal (points s) ≡ atom e ν (node (StringLit s) nil)
unfolding atom inlined body body_over
string_is e ν s h = ap literal (utf8_points s h)

module _ {records : Records} {n : ℕ} {v w : Writer} {r : TermEntry} (T : TermAt records.file.now (cell records.work.now records.sizes.rows term_offset n) r) where
  -- a truth value
  pub atom_bool : {b : Bool} → r ≡ entry.BoolLit b → Writes v w (truth b) → SpellsLeaf records n v w
  unfolding term_said named_mark forest
  atom_bool {b} e A = spells_as (λ f S I N k. bool_is (members f) (names S) b ∙ ap (atom (members f) (names S)) (entry_is records T (ap term_said e) f I k.inside).tree) (written A)

  -- a bit vector
  pub atom_bits : {i j : ℕ} → r ≡ entry.BitVecLit i j → Writes v w (bit_vec i j) → SpellsLeaf records n v w
  unfolding term_said named_mark forest
  atom_bits {i} {j} e A = spells_as (λ f S I N k. bits_is (members f) (names S) i j ∙ ap (atom (members f) (names S)) (entry_is records T (ap term_said e) f I k.inside).tree) (written A)

  -- a text
  pub atom_string : {s : Bor Bytes} → r ≡ entry.StringLit s → Writes v w (literal (points s.now)) → SpellsLeaf records n v w
  unfolding term_said named_mark forest TermSound
  atom_string {s} e A = spells_as (λ f S I N k. let here = entry_is records T (ap term_said e) f I k.inside in string_is (members f) (names S) s.now here.sound ∙ ap (atom (members f) (names S)) here.tree) (written A)

  -- an entity
  pub atom_entity : {t : ℕ} {id : Bor Bytes} → r ≡ entry.Entity t id → SpellsEntity records n t id.now v w → SpellsLeaf records n v w
  unfolding term_said named_mark forest MarkInRange counted
  atom_entity e E =
      knowing (λ f I k. let here = entry_is records T (ap term_said e) f I k.inside in record { inside = k.inside; type_inside = here.in_range; children = nil; tree = here.tree }) E

  -- a term that always has a name
  pub atom_named : Other r → Writes v w (term_name_of records n) → SpellsLeaf records n v w
  atom_named h A =
      spells_as (λ f S I N k. name_is records I N k.inside ∙ named_is (members f) (names S) (term_at f n) (always_named (members f) f n r h (term_here records T f I k.inside) k.other)) (written A)

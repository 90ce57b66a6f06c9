-- A term where it is used, from the second byte of its mark: an application, which may be told by its operator's code, or a term that
-- always has a name.
-- Assumes nothing.
use Prim.Native.Nat.{ℕ, ◌<◌}
use native.Mathlib.Omega.{arith}
use mathlib.Core.Path.{◌≡◌, refl, sym, ap, ◌∙◌, subst}
use mathlib.Core.Bool.{Bool, true, false}
use mathlib.Core.List.{List, [], ◌∷◌, map}
use mathlib.Core.Option.{none, some}
use lib.ListN.{length, get_or}
use types.Run.{OneOf, miss}
use Rattle.script_spec.specs.Base.{Bytes, bytes}
use Rattle.script_spec.specs.Tree as tree
use Rattle.script_spec.specs.Tree.{TermMark, Mark, Forest, Ty, Fun, Op, Enums, node, forest, App}
use Rattle.script_spec.specs.Fields as fields
use Rattle.script_spec.specs.File.{TermFile, terms, term_at, named_mark, members}
use Rattle.script_spec.specs.Spelling.{inlined}
use Rattle.script_spec.specs.Walk.{names}
use Rattle.script_spec.proofs.Laws.{never}
use Rattle.write_bytes.specs.declared.writer.Writer.{Writer}
use Rattle.write_bytes.specs.Writers.{Writes}
use Rattle.index.specs.Cells.{cell, term_offset}
use Rattle.index.specs.Standing.{mark_at, body_at, entry_at}
use Rattle.index.specs.declared.Records.{Records}
use Rattle.check_rules.specs.Marks.{term_bytes, mark_of}
use Rattle.check_rules.proofs.Marks.{entry_mark}
use Rattle.index_entry.proofs.TermRows.{term_stands}
use Rattle.write_atoms.specs.Parts.{term_name_of}
use Rattle.write_atoms.proofs.Numbered.{name_is}
use Rattle.walk_queries.specs.Negations.{OtherCode}
use Rattle.walk_queries.proofs.CodeLaws.{record_other}
use Rattle.walk_queries.proofs.NegationLaws.{of_unlike}
use Rattle.write_atoms.specs.Atoms.{SpellsCall, SpellsLeaf, SpellsAtom}
use Rattle.walk_names.specs.Naming.{IndexOf}
use Rattle.walk_names.proofs.Spelling.{written, spells_as, knowing}
use Rattle.write_atoms.proofs.AtomLaws.{named_is}
use Rattle.write_atoms.proofs.QueryLaws.{call_named}

-- ---- letters

-- the letter of an application
app_letter : {P : Type 0} (m : TermMark ℕ ℕ) → 65 ≡ get_or (term_bytes m) 1 0 → ((t : ℕ) (o : tree.Op ℕ) → m ≡ App t o → P) → P
unfolding term_bytes bytes
app_letter (tree.Var id t) h next = absurd (omega arith)
app_letter (tree.BoolLit b) h next = absurd (omega arith)
app_letter (tree.BitVecLit n v) h next = absurd (omega arith)
app_letter (tree.StringLit s) h next = absurd (omega arith)
app_letter (tree.Entity t id) h next = absurd (omega arith)
app_letter (tree.ExtLit v) h next = absurd (omega arith)
app_letter (tree.None t) h next = absurd (omega arith)
app_letter tree.Some h next = absurd (omega arith)
app_letter (tree.Set t) h next = absurd (omega arith)
app_letter (tree.Record ns) h next = absurd (omega arith)
app_letter (App t o) h next = next t o refl

-- the letters of literals and entities
abbrev inline : List ℕ
inline = 66 ∷ 69 ∷ 78 ∷ 83 ∷ []

-- a letter of no application, literal or entity
module _ {l : ℕ} (a : l ≡ 65 → ⊥) (b : l ≡ 66 → ⊥) (x : l ≡ 69 → ⊥) (n : l ≡ 78 → ⊥) (s : l ≡ 83 → ⊥) where
  named_letter : (e : Enums) (f : TermFile) (m : TermMark ℕ ℕ) (ts : Forest Mark) → l ≡ get_or (term_bytes m) 1 0 → inlined e (node (named_mark f m) ts) ≡ false
  unfolding term_bytes bytes named_mark inlined
  named_letter e f (tree.Var id t) ts h = refl
  named_letter e f (tree.BoolLit v) ts h = absurd (b h)
  named_letter e f (tree.BitVecLit w v) ts h = absurd (n h)
  named_letter e f (tree.StringLit v) ts h = absurd (s h)
  named_letter e f (tree.Entity t id) ts h = absurd (x h)
  named_letter e f (tree.ExtLit v) ts h = refl
  named_letter e f (tree.None t) ts h = refl
  named_letter e f tree.Some ts h = refl
  named_letter e f (tree.Set t) ts h = refl
  named_letter e f (tree.Record ns) ts h = refl
  named_letter e f (App t o) ts h = absurd (a h)

-- the mark of an application
app_marked : (f : TermFile) (m : TermMark ℕ ℕ) (ts us : Forest Mark) (ty : Ty) (op : Op Fun) → node (named_mark f m) ts ≡ node (App ty op) us → get_or (term_bytes m) 1 0 ≡ 65
unfolding named_mark term_bytes bytes
app_marked f (tree.Var id t) ts us ty op e = never (cc)
app_marked f (tree.BoolLit v) ts us ty op e = never (cc)
app_marked f (tree.BitVecLit w v) ts us ty op e = never (cc)
app_marked f (tree.StringLit v) ts us ty op e = never (cc)
app_marked f (tree.Entity t id) ts us ty op e = never (cc)
app_marked f (tree.ExtLit v) ts us ty op e = never (cc)
app_marked f (tree.None t) ts us ty op e = never (cc)
app_marked f tree.Some ts us ty op e = never (cc)
app_marked f (tree.Set t) ts us ty op e = never (cc)
app_marked f (tree.Record ns) ts us ty op e = never (cc)
app_marked f (App t o) ts us ty op e = refl

-- ---- the term with a number

module _ (records : Records) {n o l : ℕ} (place : o ≡ cell records.work.now records.sizes.rows term_offset n) (i : l ≡ get_or (mark_at records.file.now o) 1 0) where
  lettered : {P : Type 0} (f : TermFile) → IndexOf f records → n < length (terms f)
      → ((m : TermMark ℕ ℕ) (rs : List ℕ) → l ≡ get_or (term_bytes m) 1 0 → node (named_mark f m) (forest (map (term_at f) rs)) ≡ term_at f n → P) → P
  unfolding entry_at mark_of
  lettered f I inside next =
      term_stands (I.rows.term_row n inside).stands (λ m rs reads marks below tree.
      let here : entry_at records.file.now o ≡ some (fields.term m rs) = rw place reads in
      next m rs (i ∙ ap (λ (s : Bytes). get_or s 1 0) (entry_mark (mark_at records.file.now o) (body_at records.file.now o) here)) tree)

  module _ {v w : Writer} where
    pub marked_call : l ≡ 65 → SpellsCall records n v w → SpellsAtom records n v w
    unfolding named_mark
    marked_call e C = record {
      same = (C (λ t. none)).same;
      go = λ f S I N inside. lettered f I inside (λ mk rs h tree.
          app_letter mk (sym e ∙ h) (λ t op is.
          let is_call = ap (λ (mk : TermMark ℕ ℕ). node (named_mark f mk) (forest (map (term_at f) rs))) (sym is) ∙ tree in
          (C (members f)).go f S I N (record { inside = inside; result = _; op = _; children = _; tree = is_call })));
    }

    -- a term that is no application by its letter
    pub marked_leaf : OneOf inline l → SpellsLeaf records n v w → SpellsAtom records n v w
    marked_leaf h L =
        knowing (λ f I inside. lettered f I inside (λ mk rs letter tree.
        record { inside = inside; other = λ ty op ts e. absurd (miss inline 65 tt (subst (OneOf inline) (letter ∙ app_marked f mk _ ts ty op (tree ∙ sym e)) h)) })) L

    -- an application with another code than that of `Bvnego` has a name
    pub marked_other : {body : Bytes} {b : Bool} → l ≡ 65 → body ≡ body_at records.file.now o → OtherCode body b → b ≡ true → Writes v w (term_name_of records n) → SpellsAtom records n v w
    marked_other e here C h A = marked_call e (call_named (of_unlike place (record_other here C) h) (λ e. never cc) A)

    pub marked_named : (l ≡ 65 → ⊥) → (l ≡ 66 → ⊥) → (l ≡ 69 → ⊥) → (l ≡ 78 → ⊥) → (l ≡ 83 → ⊥) → Writes v w (term_name_of records n) → SpellsAtom records n v w
    marked_named a b x y z A =
        spells_as (λ f S I N inside. lettered f I inside (λ mk rs h tree.
        let no : inlined (members f) (term_at f n) ≡ false = ap (inlined (members f)) (sym tree) ∙ named_letter a b x y z (members f) f mk _ h in
        name_is records I N inside ∙ named_is (members f) (names S) (term_at f n) no)) (written A)

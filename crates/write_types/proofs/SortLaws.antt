-- What a type stands over by its mark, and the sort of a type: by cases on its entry, and by what the index and the names in memory say.
-- Assumes nothing.
use mathlib.Core.Path.{◌≡◌, refl, sym, ap, ◌∙◌, subst}
use mathlib.Core.List.{List, [], ◌∷◌, ◌++◌, map}
use mathlib.Core.Logic.{◌⊎◌, inl, inr}
use mathlib.Core.Option.{Option, none, some}
use Prim.Native.Nat.{ℕ, ◌<◌, ◌≤◌}
use native.Mathlib.Omega.{arith}
use lib.ListN.{length, get_or}
use Rattle.script_spec.specs.Base.{Bytes, bytes, place, joined}
use Rattle.script_spec.specs.Tree.{Ty, TypeMark, node, nil, forest, Bool·, Option·, Set·, eq_ty, datatype, datatype_mark}
use Rattle.script_spec.specs.Fields as fields
use Rattle.script_spec.specs.Fields.{Entry}
use Rattle.script_spec.specs.File.{TermFile, types, type_at}
use Rattle.script_spec.specs.Command.{headed, spaced}
use Rattle.script_spec.specs.Spelling.{sort, sorts, sort_from, datatype_sort}
use Rattle.script_spec.specs.Walk.{State, start, numbered, letter, names}
use Rattle.script_spec.specs.Walk as walk
use Rattle.write_bytes.specs.Writers.{Writes}
use Rattle.write_bytes.specs.declared.writer.Writer.{Writer}
use Rattle.index.specs.Cells.{cell, type_offset, type_first}
use Rattle.index.specs.First.{All, Below}
use Rattle.index.specs.Standing.{mark_at, body_at, entry_at}
use Rattle.index.specs.Meaning.{counted}
use Rattle.index.specs.declared.Records.{Records}
use Rattle.walk_names.specs.Naming.{type_names, name_at, place_of, IndexOf}
use Rattle.walk_names.proofs.Names.{place_type}
use Rattle.walk_names.proofs.Spelling.{written, spells_as, unwritten, ◌next◌, knowing}
use Rattle.check_rules.specs.Marks.{type_bytes, mark_of}
use Rattle.check_rules.proofs.Marks.{entry_mark}
use Rattle.index_entry.specs.Types.{type_said, TypeAt, PartAt}
use Rattle.index_entry.specs.declared.types.TypeEntry.{TypeEntry}
use Rattle.index_entry.specs.declared.types.TypeEntry.TheVariants as entry
use Rattle.index_entry.proofs.Rows.{type_stands}
use Rattle.index_entry.proofs.TypeEntries.{under, type_bool, type_option, type_set, type_at_lem}
use Rattle.write_types.specs.Sorts.{over_mark, over_said, OverAt, opened_part, plain_sort, SpellsSort}
use Rattle.write_types.specs.declared.sorts.Over.{Over}
use Rattle.write_types.specs.declared.sorts.Over.TheVariants as over
use Rattle.write_types.specs.declared.sorts.Whole.{Whole}
use Rattle.write_types.specs.declared.sorts.Whole.TheVariants as whole

-- ---- what a type stands over

module _ (file : Bytes) (o : ℕ) {l : ℕ} (i : l ≡ get_or (mark_at file o) 1 0) where
  pub over_truth : l ≡ 66 → OverAt file o over.Truth
  unfolding over_said type_said bytes
  over_truth h = record { go = λ m rs g. let x = (type_at_lem i refl (under h type_bool)).go m rs g in cc }

  pub over_set : {n : ℕ} → l ≡ 67 → PartAt file o n → OverAt file o (over.Part whole.Set n)
  unfolding over_said over_mark type_said bytes
  over_set h P = record { go = λ m rs g. let x = (type_at_lem i refl (under h (type_set refl))).go m rs g in let e : m ≡ Set· = cc in (e, P.set rs (rw e at g)) }

  pub over_option : {n : ℕ} → l ≡ 79 → PartAt file o n → OverAt file o (over.Part whole.Option n)
  unfolding over_said over_mark type_said bytes
  over_option h P = record { go = λ m rs g. let x = (type_at_lem i refl (under h (type_option refl))).go m rs g in let e : m ≡ Option· = cc in (e, P.option rs (rw e at g)) }

  -- any other second byte
  over_letter : {m : TypeMark} {rs : List ℕ} (k : Whole) → entry_at file o ≡ some (fields.type m rs) → m ≡ over_mark k → l ≡ get_or (type_bytes (over_mark k)) 1 0
  unfolding entry_at mark_of
  over_letter k g e = i ∙ ap (λ (s : Bytes). get_or s 1 0) (entry_mark (mark_at file o) (body_at file o) g) ∙ ap (λ (m : TypeMark). get_or (type_bytes m) 1 0) e

  pub over_nothing : (l ≡ 67 → ⊥) → (l ≡ 79 → ⊥) → OverAt file o over.Nothing
  unfolding over_said over_mark type_bytes bytes
  over_nothing c p = record { go = λ m rs g k e. other k (over_letter k g e) }
    where
      other : (k : Whole) → l ≡ get_or (type_bytes (over_mark k)) 1 0 → ⊥
      other whole.Option = p
      other whole.Set = c

-- at the same offset
pub over_at : {file : Bytes} {o o' : ℕ} {r : Over} → o ≡ o' → OverAt file o r → OverAt file o' r
over_at {file} {r = r} e B = subst (λ (n : ℕ). OverAt file n r) e B

-- ---- sorts

-- the type that an entry names
unfoldable tree_of : TermFile → Entry → Ty
tree_of f (fields.type m rs) = node m (forest (map (type_at f) rs))
tree_of f (fields.enum n ms) = node Bool· nil
tree_of f (fields.func id a r) = node Bool· nil
tree_of f (fields.term m rs) = node Bool· nil
tree_of f (fields.input n) = node Bool· nil

-- an entry that is no set and no option
abbrev Alone : Entry → Type 0
Alone e = (k : Whole) (rs : List ℕ) → e ≡ fields.type (over_mark k) rs → ⊥

module _ (f : TermFile) (S : State) where
  -- a type that stands over no part
  abbrev PlainIs : TypeEntry → Option ℕ → Option Entry → Type 0
  PlainIs r name none = Unit {0}
  PlainIs r name (some e) = Alone e → place (eq_ty (tree_of f e)) S.types ≡ name → plain_sort r name ≡ sort (names S) (tree_of f e)

  plain_is : (r : TypeEntry) (name : Option ℕ) → PlainIs r name (type_said r)
  unfolding over_mark type_said plain_sort tree_of sort sorts sort_from datatype_sort names walk.type_name datatype datatype_mark letter
  plain_is entry.Bool name = λ o h. refl
  plain_is entry.String name = λ o h. refl
  plain_is (entry.BitVec n) name = λ o h. refl
  plain_is (entry.Option n) name = λ o h. absurd (o whole.Option (n ∷ []) refl)
  plain_is (entry.Set n) name = λ o h. absurd (o whole.Set (n ∷ []) refl)
  plain_is (entry.Entity p) name = λ o h. ap (numbered (bytes "E")) (sym h)
  plain_is (entry.Ext x) name = λ o h. refl
  plain_is (entry.Record c) name = λ o h. ap (numbered (bytes "R")) (sym h)
  plain_is entry.Unreadable name = tt

-- one that has a part, and what is no type
pub plain_none : (r : TypeEntry) (name : Option ℕ) → ((x : ℕ) × (r ≡ entry.Option x)) ⊎ (((x : ℕ) × (r ≡ entry.Set x)) ⊎ (r ≡ entry.Unreadable)) → [] ≡ plain_sort r name
unfolding plain_sort
plain_none r name (inl p) = rw p.1
plain_none r name (inr (inl p)) = rw p.1
plain_none r name (inr (inr e)) = rw e

-- a type that stands over a part
over_sort : (f : TermFile) (S : State) (k : Whole) (p : ℕ) → opened_part k ++ (sort (names S) (type_at f p) ++ bytes ")") ≡ sort (names S) (node (over_mark k) (forest (map (type_at f) (p ∷ []))))
unfolding over_mark opened_part sort sorts sort_from headed spaced joined forest bytes
over_sort f S whole.Option p = refl
over_sort f S whole.Set p = refl

-- the type of truth values
truth_sort : (f : TermFile) (S : State) (rs : List ℕ) → bytes "Bool" ≡ sort (names S) (node Bool· (forest (map (type_at f) rs)))
unfolding sort sort_from
truth_sort f S rs = refl

module _ (records : Records) {t : ℕ} {x : Over} (B : OverAt records.file.now (cell records.work.now records.sizes.rows type_offset t) x) where
  pub spells_truth : {v w : Writer} → x ≡ over.Truth → Writes v w (bytes "Bool") → SpellsSort records t v w
  unfolding over_said
  spells_truth told A =
      spells_as (λ f S I N l.
      type_stands (I.rows.type_row t l).stands (λ m rs reads below tree.
      let b : m ≡ Bool· = (subst (OverAt records.file.now (cell records.work.now records.sizes.rows type_offset t)) told B).go m rs reads in
      truth_sort f S rs ∙ ap (sort (names S)) (rw b at tree)))
      (written A)

  pub spells_plain : {r : TypeEntry} {name : Option ℕ} {v w : Writer} → x ≡ over.Nothing → TypeAt records.file.now (cell records.work.now records.sizes.rows type_offset t) r
      → name ≡ place_of (name_at records.work.now records.sizes.rows type_first type_names t) → Writes v w (plain_sort r name) → SpellsSort records t v w
  unfolding tree_of over_said
  spells_plain {r} {name} told T e A =
      spells_as (λ f S I N l.
      type_stands (I.rows.type_row t l).stands (λ m rs reads below tree.
      let alone = (subst (OverAt records.file.now (cell records.work.now records.sizes.rows type_offset t)) told B).go m rs reads in
      let is : PlainIs f S r name (some (fields.type m rs)) = subst (λ (z : Option Entry). PlainIs f S r name z) (T.go m rs reads) (plain_is f S r name) in
      rw tree at (is (λ k ps q. alone k (cc)) (rw (tree, e) (place_type I.rows t N l)))))
      (written A)

  module _ {k : Whole} {p : ℕ} (told : x ≡ over.Part k p) where
    over_here : {A : Type 0} (f : TermFile) (S : State) → IndexOf f records → t < length (types f)
        → (opened_part k ++ (sort (names S) (type_at f p) ++ bytes ")") ≡ sort (names S) (type_at f t) → p < t → A) → A
    unfolding over_said Below All counted
    over_here f S I l on =
        type_stands (I.rows.type_row t l).stands (λ m rs reads below tree.
        let b = (subst (OverAt records.file.now (cell records.work.now records.sizes.rows type_offset t)) told B).go m rs reads in
        on (over_sort f S k p ∙ ap (sort (names S)) (rw (b.0, b.1) at tree)) (rw b.1 at below).0)

    -- a part that has no lower number does not occur
    pub spells_never : {v : Writer} → t ≤ p → SpellsSort records t v v
    spells_never h = unwritten (λ f S I N l. over_here f S I l (λ e b. absurd (omega arith)))

    pub spells_over : {u v w z : Writer} → Writes u v (opened_part k) → SpellsSort records p v w → Writes w z (bytes ")") → SpellsSort records t u z
    spells_over A P C =
        spells_as (λ f S I N l. over_here f S I l (λ e b. e))
        (written A next knowing (λ f I l. over_here f start I l (λ e b. omega arith)) P next written C)

-- The body of a term from its entry: by cases on the entry, over its children as they are spells_as where they are used.
-- Assumes nothing.
use mathlib.Core.Path.{◌≡◌, refl, sym, ap, ◌∙◌, subst}
use mathlib.Core.Bool.{true, false}
use mathlib.Core.List.{List, [], ◌∷◌, ◌++◌, map}
use mathlib.Core.Option.{none}
use Prim.Native.Nat.{ℕ}
use native.Mathlib.Omega.{arith}
use lib.ListN.{length}
use denote.Bor.{Bor}
use Rattle.script_spec.specs.Base.{Bytes, bytes, is_some, joined}
use Rattle.script_spec.specs.Utf8.{is_utf8}
use Rattle.script_spec.specs.Tree.{Ty, Tm, TermMark, Enums, Forest, Mark, node, nil, forest, children, Entity, Set, Record, enum_of, type_of, type_from}
use Rattle.script_spec.specs.File.{TermFile, terms, type_at, term_at, named_mark, members}
use Rattle.script_spec.specs.Text.{literal}
use Rattle.script_spec.specs.Command.{headed, spaced}
use Rattle.script_spec.specs.Spelling as spelling
use Rattle.script_spec.specs.Spelling.{Names, sort, as_sort, entity_by, ext_value, set_value, record_value, body, inlined, atom}
use Rattle.script_spec.specs.Walk.{State, names}
use Rattle.script_spec.proofs.Laws.{never}
use Rattle.write_bytes.specs.declared.writer.Writer.{Writer}
use Rattle.write_bytes.specs.Writers.{Writes}
use Rattle.read_utf8.specs.Decoding.{points}
use Rattle.read_utf8.proofs.Laws.{utf8_points}
use Rattle.index.specs.Cells.{cell, term_offset}
use Rattle.index.specs.First.{All, Below, MarkInRange}
use Rattle.index.specs.Meaning.{counted}
use Rattle.index.specs.declared.Records.{Records}
use Rattle.index.proofs.Later.{below_more}
use Rattle.script_spec.proofs.Lists.{trees_forest}
use Rattle.index_entry.specs.Terms.{value_of, children_in, term_said, TermAt}
use Rattle.index_entry.specs.declared.terms.Compound.{Compound}
use Rattle.index_entry.specs.declared.terms.Value.{Value}
use Rattle.index_entry.specs.declared.terms.TermEntry.{TermEntry}
use Rattle.index_entry.specs.declared.terms.TermEntry.TheVariants as entry
use Rattle.walk_queries.specs.Searches.{FindsMember}
use Rattle.walk_queries.proofs.AnswerLaws.{MemberSaid, member_said}
use Rattle.walk_queries.specs.declared.queries.Member.{Member}
use Rattle.walk_queries.specs.declared.queries.Member.TheVariants as member
use Rattle.write_types.specs.Sorts.{SpellsSort}
use Rattle.write_atoms.specs.Records.{TermSound, TermIs}
use Rattle.write_atoms.specs.Atoms.{SpellsAtom}
use Rattle.walk_names.proofs.Spelling.{written, spells_as, knowing, ◌next◌}
use Rattle.write_atoms.proofs.Rows.{EntryIs, term_here, entry_is}
use Rattle.write_atoms.proofs.AtomLaws.{inlined_is}
use Rattle.write_terms.specs.Arguments.{atoms}
use Rattle.write_terms.specs.Values.{sort_at, SpellsConstant, SpellsSome, SpellsSet, SpellsRecord}
use Rattle.write_terms.specs.Lines.{is_compound, own_body, TextIs, SpellsConstructed, SpellsEntityBody, SpellsBody}
use Rattle.write_terms.specs.Definitions.{PlainIs, SomeIs, SetIs, RecordIs, SpellsBodyOf}

-- ---- entities

constructed_pieces : (ty s : Bytes) → bytes "(" ++ (ty ++ (bytes " " ++ (s ++ bytes ")"))) ≡ headed ty (s ∷ [])
unfolding headed spaced joined bytes
constructed_pieces ty s = refl

pub spells_constructed : {records : Records} {t : ℕ} (id : Bytes) {v v₁ v₂ v₃ v₄ w : Writer} → Writes v v₁ (bytes "(") → SpellsSort records t v₁ v₂ → Writes v₂ v₃ (bytes " ")
    → Writes v₃ v₄ (literal (points id)) → Writes v₄ w (bytes ")") → SpellsConstructed records t id v w
spells_constructed id A P B C D = spells_as (λ f S I N l. constructed_pieces _ _) (written A next P next written B next written C next written D)

-- an entity of no enum
constructed_is : (e : Enums) (ν : Names) (T : Ty) (id : Bytes) (ts : Forest Mark) (args : List Bytes) → enum_of e T ≡ none → is_utf8 id ≡ true
    → headed (sort ν T) (literal (points id) ∷ []) ≡ body e ν (node (Entity T id) ts) args
unfolding body spelling.body_over type_of type_from entity_by
constructed_is e ν T id ts args h u = ap (λ (cs : List ℕ). headed (sort ν T) (literal cs ∷ [])) (utf8_points id u) ∙ ap (entity_by (sort ν T) id) (sym h)

-- a member of an enum is written the same way everywhere
member_body : (e : Enums) (ν : Names) (T : Ty) (id : Bytes) (ts : Forest Mark) (args : List Bytes) → is_some (enum_of e T) ≡ true → atom e ν (node (Entity T id) ts) ≡ body e ν (node (Entity T id) ts) args
unfolding inlined body spelling.body_over
member_body e ν T id ts args h = sym (inlined_is e ν (node (Entity T id) ts) h)

in_enum : (r : Member) (e : Enums) (ty : Ty) (id : Bytes) → (r ≡ member.NoEnum → ⊥) → MemberSaid r e ty id → is_some (enum_of e ty) ≡ true
unfolding MemberSaid is_some
in_enum member.NoEnum e ty id h s = absurd (h refl)
in_enum member.NotMember e ty id h s = ap is_some s.are
in_enum (member.At i) e ty id h s = ap is_some s.are

module _ {records : Records} {n t : ℕ} {id : Bytes} {v w : Writer} {r : Member} (M : FindsMember records.file.now records.work.now records.sizes t id r) where
  pub entity_constructed : r ≡ member.NoEnum → SpellsConstructed records t id v w → SpellsEntityBody records n t id v w
  unfolding MemberSaid
  entity_constructed e P args =
      spells_as (λ f S I N (k : TextIs n t id f).
      let no_enum : enum_of (members f) (type_at f t) ≡ none = member_said member.NoEnum _ _ id (rw e at (M.go f I k.is.type_inside)) in
      constructed_is (members f) (names S) _ id k.is.children args no_enum k.sound ∙ ap (λ (t : Tm). body (members f) (names S) t args) k.is.tree) (knowing (λ f I k. k.is.type_inside) P)

  pub entity_atom : (r ≡ member.NoEnum → ⊥) → SpellsAtom records n v w → SpellsEntityBody records n t id v w
  entity_atom h A args =
      spells_as (λ f S I N (k : TextIs n t id f).
      let said = member_said r _ _ id (M.go f I k.is.type_inside) in
      ap (atom (members f) (names S)) (sym k.is.tree) ∙ member_body (members f) (names S) _ id k.is.children args (in_enum r _ _ id h said) ∙ ap (λ (t : Tm). body (members f) (names S) t args) k.is.tree)
      (knowing (λ f I k. k.is.inside) A)

-- ---- a term by its entry

-- the children of a term
args_are : {f : TermFile} {n : ℕ} {m : TermMark ℕ ℕ} {rs : List ℕ} → TermIs f n m rs → (S : State) → atoms f S rs ≡ map (atom (members f) (names S)) (children (term_at f n))
unfolding atoms children
args_are {f} {rs = rs} T S = ap (map (atom (members f) (names S))) (sym (trees_forest (map (term_at f) rs)) ∙ ap children T.tree)

-- what is written over them is the body
pub over_children : {f : TermFile} {n : ℕ} {m : TermMark ℕ ℕ} {rs : List ℕ} → TermIs f n m rs → (S : State) → body (members f) (names S) (term_at f n) (atoms f S rs) ≡ own_body f S n
over_children {f} T S = ap (body (members f) (names S) (term_at f _)) (args_are T S)

-- what is written for a mark over its children
body_is : {f : TermFile} {n : ℕ} {m : TermMark ℕ ℕ} {rs : List ℕ} → TermIs f n m rs → (S : State)
    → body (members f) (names S) (node (named_mark f m) (forest (map (term_at f) rs))) (atoms f S rs) ≡ own_body f S n
body_is {f} {rs = rs} T S = ap (λ (t : Tm). body (members f) (names S) t (atoms f S rs)) T.tree ∙ over_children T S

-- its sort
sort_is : {f : TermFile} {n : ℕ} {m : TermMark ℕ ℕ} {rs : List ℕ} → TermIs f n m rs → (S : State) → sort_at f S n ≡ sort (names S) (type_of (node (named_mark f m) (forest (map (term_at f) rs))))
unfolding sort_at
sort_is T S = ap (λ (t : Tm). sort (names S) (type_of t)) (sym T.tree)

-- a set and a record of that sort
set_is : {f : TermFile} {n t : ℕ} {rs : List ℕ} → TermIs f n (Set t) rs → (S : State)
    → set_value (sort_at f S n) (atoms f S rs) ≡ own_body f S n
unfolding named_mark body spelling.body_over
set_is {f} {rs = rs} T S = ap (λ (ty : Bytes). set_value ty (atoms f S rs)) (sort_is T S) ∙ body_is T S

record_is : {f : TermFile} {n : ℕ} {ns : List Bytes} {rs : List ℕ} → TermIs f n (Record ns) rs → (S : State)
    → record_value (sort_at f S n) (atoms f S rs) ≡ own_body f S n
unfolding named_mark body spelling.body_over
record_is {f} {rs = rs} T S = ap (λ (ty : Bytes). record_value ty (atoms f S rs)) (sort_is T S) ∙ body_is T S

module _ {records : Records} {v w : Writer} where
  pub body_plain : {n : ℕ} → SpellsBody records n v w → SpellsBodyOf records n (PlainIs n) v w
  body_plain P = knowing (λ f I k. record { inside = k.inside; known = k.known.plain }) P

  pub body_some : {n m : ℕ} → SpellsSome records m v w → SpellsBodyOf records n (SomeIs n m) v w
  unfolding named_mark body spelling.body_over atoms Below All
  body_some P = spells_as (λ f S I N k. body_is k.known.is S) (knowing (λ f I k. omega (arith, k.inside, k.known.is.below.0)) P)

  module _ {c : Compound} where
    pub body_set : SpellsSet records c v w → SpellsBodyOf records c.number (SetIs c.number (children_in c.children)) v w
    body_set P =
        spells_as (λ f S I N k. set_is k.known.is S)
        (knowing (λ f I k. record { inside = k.inside; below = below_more c.number (length (terms f)) (omega (arith, k.inside)) _ k.known.is.below }) P)

    pub body_record : SpellsRecord records c v w → SpellsBodyOf records c.number (RecordIs c.number (children_in c.children)) v w
    body_record P =
        spells_as (λ f S I N k. record_is k.known.is S)
        (knowing (λ f I k. record { inside = k.inside; below = below_more c.number (length (terms f)) (omega (arith, k.inside)) _ k.known.is.below }) P)

-- the terms that are written the same way everywhere, and those that are compound
pub record Same (r : TermEntry) : Type 0 where
  pub not_entity : (t : ℕ) (id : Bor Bytes) → r ≡ entry.Entity t id → ⊥
  pub not_value : (x : Value) → r ≡ entry.ExtLit x → ⊥
  pub not_none : (t : ℕ) → r ≡ entry.None t → ⊥

same_body : (e : Enums) (ν : Names) (f : TermFile) (n : ℕ) (args : List Bytes) (r : TermEntry) → Same r → EntryIs f n (term_said r)
    → is_compound (term_at f n) ≡ false → atom e ν (term_at f n) ≡ body e ν (term_at f n) args
unfolding term_said named_mark forest atom inlined body spelling.body_over is_compound
same_body e ν f n args (entry.Var p t) h i plain = subst (λ (t : Tm). atom e ν t ≡ body e ν t args) i.tree refl
same_body e ν f n args (entry.BoolLit b) h i plain = subst (λ (t : Tm). atom e ν t ≡ body e ν t args) i.tree refl
same_body e ν f n args (entry.BitVecLit w v) h i plain = subst (λ (t : Tm). atom e ν t ≡ body e ν t args) i.tree refl
same_body e ν f n args (entry.StringLit p) h i plain = subst (λ (t : Tm). atom e ν t ≡ body e ν t args) i.tree refl
same_body e ν f n args (entry.Entity t p) h i plain = absurd (h.not_entity t p refl)
same_body e ν f n args (entry.ExtLit v) h i plain = absurd (h.not_value v refl)
same_body e ν f n args (entry.None t) h i plain = absurd (h.not_none t refl)
same_body e ν f n args (entry.Some m) h i plain = let g : true ≡ false = ap is_compound i.tree ∙ plain in never cc
same_body e ν f n args (entry.Set t c) h i plain = let g : true ≡ false = ap is_compound i.tree ∙ plain in never cc
same_body e ν f n args (entry.Record c) h i plain = let g : true ≡ false = ap is_compound i.tree ∙ plain in never cc
same_body e ν f n args (entry.App t o c) h i plain = let g : true ≡ false = ap is_compound i.tree ∙ plain in never cc
same_body e ν f n args entry.Unreadable h i plain = absurd i

module _ {records : Records} {n : ℕ} {v w : Writer} {r : TermEntry} (T : TermAt records.file.now (cell records.work.now records.sizes.rows term_offset n) r) where
  pub body_atom : Same r → SpellsAtom records n v w → SpellsBody records n v w
  body_atom h A = spells_as (λ f S I N k. same_body (members f) (names S) f n _ r h (term_here records T f I k.inside) k.known) (knowing (λ f I k. k.inside) A)

  pub body_value : {x : Value} → r ≡ entry.ExtLit x → Writes v w (ext_value (value_of x)) → SpellsBody records n v w
  unfolding term_said named_mark body spelling.body_over
  body_value e A = spells_as (λ f S I N k. body_is (entry_is records T (ap term_said e) f I k.inside) S) (written A)

  pub body_none : {t : ℕ} → r ≡ entry.None t → SpellsConstant records n (bytes "none") v w → SpellsBody records n v w
  unfolding term_said named_mark body spelling.body_over
  body_none e P =
      spells_as (λ f S I N k. let is = entry_is records T (ap term_said e) f I k.inside in ap (as_sort (bytes "none")) (sort_is is S) ∙ body_is is S) (knowing (λ f I k. k.inside) P)

  pub body_entity : {t : ℕ} {id : Bor Bytes} → r ≡ entry.Entity t id → SpellsEntityBody records n t id.now v w → SpellsBody records n v w
  unfolding term_said named_mark forest MarkInRange counted TermSound
  body_entity e P = record {
    same = (P []).same;
    go = λ f S I N k.
        let is = entry_is records T (ap term_said e) f I k.inside in
        (P _).go f S I N (record { is = record { inside = k.inside; type_inside = is.in_range; children = nil; tree = is.tree }; sound = is.sound });
  }

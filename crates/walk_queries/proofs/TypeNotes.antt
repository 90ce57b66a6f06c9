-- What is noted of the types: of an entity type its enum, of an option or a set a type under its part, of others nothing.
-- Assumes nothing.
use Prim.Native.Nat.{ℕ, ◌<◌}
use native.Mathlib.Omega.{arith}
use mathlib.Core.Path.{◌≡◌, refl, sym, ap, ◌∙◌, subst}
use mathlib.Core.List.{List, [], ◌∷◌, map}
use mathlib.Core.Option.{Option, none, some, none-ne-some}
use lib.ListN.{length}
use Rattle.script_spec.specs.Base.{Bytes, and_then}
use Rattle.script_spec.specs.Tree as tree
use Rattle.script_spec.specs.Tree.{Ty, TypeMark, Datatype, node, nil, cons, forest, datatype_mark, datatype, name_of_entity, entity_name, attributes_of, attributes}
use Rattle.script_spec.specs.Fields as fields
use Rattle.script_spec.specs.File.{TermFile, types, type_at}
use Rattle.script_spec.proofs.Laws.{never}
use Rattle.index.specs.Cells.{cell, type_offset, type_list}
use Rattle.index.specs.First.{All, Below}
use Rattle.index.specs.Names.{enum_number}
use Rattle.index.specs.Meaning.{used_entries, Under, itself, deeper, TypeNoted, Rows, counted}
use Rattle.index.specs.declared.Sizes.{Sizes}
use Rattle.index_entry.specs.Types.{type_said, TypeAt}
use Rattle.index_entry.specs.Terms.{names_in}
use Rattle.index_entry.specs.declared.types.TypeEntry.{TypeEntry}
use Rattle.index_entry.specs.declared.types.TypeEntry.TheVariants as entry
use Rattle.index_entry.proofs.Rows.{type_stands}
use Rattle.walk_queries.specs.Made.{UnderAt, Sole, NotesSole}
use Rattle.walk_queries.proofs.Attributes.{datatype_said, datatype_here}
use Rattle.walk_queries.proofs.EntityLaws.{no_attributes, entity_unnamed}

-- ---- datatypes have no type under them

-- a type over one part that is no datatype has no name and no attributes
over_unnamed : {ty : Ty} {m : TypeMark} {part : Ty} → ty ≡ node m (cons part nil) → datatype_mark m ≡ none → entity_name ty ≡ none
unfolding entity_name datatype and_then
over_unnamed e plain = ap entity_name e ∙ ap (λ (d : Option Datatype). and_then d name_of_entity) plain

over_unattributed : {ty : Ty} {m : TypeMark} {part : Ty} → ty ≡ node m (cons part nil) → datatype_mark m ≡ none → attributes ty ≡ none
unfolding attributes datatype and_then
over_unattributed e plain = ap attributes e ∙ ap (λ (d : Option Datatype). and_then d attributes_of) plain

-- what is noted of a record type is free
pub record_noted : {f : TermFile} {t : ℕ} (v : ℕ) {names : List Bytes} → attributes (type_at f t) ≡ some names → TypeNoted f t v
record_noted {f} {t} v h = record {
  enum_is = λ name q. no_attributes (type_at f t) q h;
  under_is = λ m part e plain. absurd (none-ne-some _ (sym (over_unattributed e plain) ∙ h));
}

-- the enum of an entity type
pub entity_noted : {f : TermFile} {t v : ℕ} {text : Bytes} → entity_name (type_at f t) ≡ some text → v ≡ enum_number f text → TypeNoted f t v
entity_noted {f} {t} {v} {text} h is = record {
  enum_is = λ name q. let both : some text ≡ some name = sym h ∙ q in let same : text ≡ name = cc in is ∙ ap (enum_number f) same;
  under_is = λ m part e plain. absurd (none-ne-some _ (sym (over_unnamed e plain) ∙ h));
}

-- ---- other types

-- a type that is neither a record type nor an entity type has no attributes
no_list : (r : TypeEntry) → Sole r → and_then (datatype_said r) attributes_of ≡ none
unfolding datatype_said and_then attributes_of
no_list entry.Bool h = refl
no_list entry.String h = refl
no_list (entry.BitVec n) h = refl
no_list (entry.Option n) h = refl
no_list (entry.Set n) h = refl
no_list (entry.Entity name) h = absurd (h.0 name refl)
no_list (entry.Ext x) h = refl
no_list (entry.Record c) h = absurd (h.1 c refl)
no_list entry.Unreadable h = refl

pub sole_unattributed : {file : Bytes} {work : List ℕ} {k t : ℕ} {r : TypeEntry} → TypeAt file (cell work k type_offset t) r → Sole r → (f : TermFile) → Rows file f work k → t < length (types f)
    → attributes (type_at f t) ≡ none
unfolding attributes
sole_unattributed {r = r} T h f I l = ap (λ (d : Option Datatype). and_then d attributes_of) (datatype_here T f I l) ∙ no_list r h

-- the part of an option or a set
pub data Over : TypeEntry → ℕ → Type 0 where
  of_option : {p : ℕ} → Over (entry.Option p) p
  of_set : {p : ℕ} → Over (entry.Set p) p

over_plain : {r : TypeEntry} {p : ℕ} → Over r p → (m : TypeMark) (rs : List ℕ) → type_said r ≡ some (fields.type m rs) → (datatype_mark m ≡ none) × (rs ≡ p ∷ [])
unfolding type_said datatype_mark
over_plain {p = p} of_option m rs e = let mark : tree.Option· ≡ m = cc in (sym (ap datatype_mark mark), cc)
over_plain {p = p} of_set m rs e = let mark : tree.Set· ≡ m = cc in (sym (ap datatype_mark mark), cc)

over_never : (r : TypeEntry) → ((p : ℕ) → r ≡ entry.Option p → ⊥) → ((p : ℕ) → r ≡ entry.Set p → ⊥) → (p : ℕ) → Over r p → ⊥
over_never r option set p of_option = option p refl
over_never r option set p of_set = set p refl

-- a type over one part that is no datatype is an option or a set
over_is : {A : Type 0} (f : TermFile) (r : TypeEntry) (m : TypeMark) (rs : List ℕ) {part : Ty} → type_said r ≡ some (fields.type m rs) → datatype_mark m ≡ none → forest (map (type_at f) rs) ≡ cons part nil
    → ((p : ℕ) → Over r p → A) → A
unfolding type_said datatype_mark forest
over_is f entry.Bool m rs e plain q next = let z : rs ≡ [] = cc in never (let w = rw z at q in cc)
over_is f entry.String m rs e plain q next = let z : rs ≡ [] = cc in never (let w = rw z at q in cc)
over_is f (entry.BitVec n) m rs e plain q next = let z : rs ≡ [] = cc in never (let w = rw z at q in cc)
over_is f (entry.Option n) m rs e plain q next = next n of_option
over_is f (entry.Set n) m rs e plain q next = next n of_set
over_is f (entry.Entity name) m rs e plain q next = let z : rs ≡ [] = cc in never (let w = rw z at q in cc)
over_is f (entry.Ext x) m rs e plain q next = let z : rs ≡ [] = cc in never (let w = rw z at q in cc)
over_is f (entry.Record c) m rs e plain q next =
    let mark : tree.Declared (tree.record_of (names_in c)) ≡ m = cc in absurd (none-ne-some _ (sym plain ∙ sym (ap datatype_mark mark)))
over_is f entry.Unreadable m rs e plain q next = never (cc)

module _ {file : Bytes} {f : TermFile} {work : List ℕ} {k t : ℕ} {r : TypeEntry} (T : TypeAt file (cell work k type_offset t) r) (I : Rows file f work k) (l : t < length (types f)) where
  -- the tree of an option or a set, and its part before it
  pub over_here : {A : Type 0} {p : ℕ} → Over r p → ((m : TypeMark) → datatype_mark m ≡ none → node m (cons (type_at f p) nil) ≡ type_at f t → p < t → A) → A
  unfolding forest Below All counted
  over_here {A} {p} O next =
      type_stands (I.type_row t l).stands (λ m rs reads below tree.
      let said = over_plain O m rs (T.go m rs reads) in
      next m said.0 (rw said.1 at tree) (rw said.1 at below).0)

  -- what is noted of an option or a set
  pub over_noted : {v p : ℕ} → Over r p → (v < length (types f)) × Under (type_at f p) (type_at f v) → Sole r → TypeNoted f t v
  over_noted {v} {p} O U h =
      over_here O (λ m plain tree less. record {
        enum_is = λ name q. absurd (none-ne-some name (sym (entity_unnamed T h.0 f I l) ∙ q));
        under_is = λ n part e bare.
            let same : node m (cons (type_at f p) nil) ≡ node n (cons part nil) = tree ∙ e in
            let is : type_at f p ≡ part = cc in
            (U.0, rw is at U.1);
      })

  -- and of one that has no part
  pub sole_noted : (v : ℕ) → ((p : ℕ) → Over r p → ⊥) → Sole r → TypeNoted f t v
  sole_noted v other h = record {
    enum_is = λ name q. absurd (none-ne-some name (sym (entity_unnamed T h.0 f I l) ∙ q));
    under_is = λ n part e bare.
        type_stands (I.type_row t l).stands (λ m rs reads below tree.
        let same : node m (forest (map (type_at f) rs)) ≡ node n (cons part nil) = tree ∙ e in
        let mark : n ≡ m = cc in
        let parts : forest (map (type_at f) rs) ≡ cons part nil = cc in
        absurd (over_is f r m rs (T.go m rs reads) (rw mark at bare) parts other));
  }

-- ---- while lists are made

-- a type that the type p is, or that is under it
module _ {file : Bytes} {sizes : Sizes} {p o : ℕ} {r : TypeEntry} {work : List ℕ} (at : o ≡ cell work sizes.rows type_offset p) (T : TypeAt file o r) where
  pub under_over : {n v : ℕ} → Over r n → v ≡ cell work sizes.rows type_list p → UnderAt file sizes p work v
  unfolding used_entries
  under_over {n} {v} O e = record {
    go = λ f work₀ ty next K l less L.
        let here : o ≡ cell work₀ sizes.rows type_offset p = at ∙ L.same type_offset p l in
        over_here (subst (λ (o : ℕ). TypeAt file o r) here T) K.index l O (λ m plain tree below.
        let U = (L.noted p less).under_is m (type_at f n) (sym tree) plain in
        rw e (U.0, rw (← tree) (deeper plain U.1)));
  }

  pub under_itself : UnderAt file sizes p work p
  under_itself = record { go = λ f work₀ ty next K l less L. (l, itself) }

-- what is noted of a type by its entry
module _ {file : Bytes} {sizes : Sizes} {r : TypeEntry} {work : List ℕ} where
  pub notes_over : {x : TypeEntry} {p v : ℕ} → r ≡ x → Over x p → UnderAt file sizes p work v → NotesSole file sizes r work v
  unfolding used_entries
  notes_over {x} {p} {v} e over U = record {
    go = λ f work₀ t next K l L T h.
        let O = subst (λ (y : TypeEntry). Over y p) (sym e) over in
        let here = subst (λ (o : ℕ). TypeAt file o r) (L.same type_offset t l) T in
        over_here here K.index l O (λ m plain tree less. over_noted here K.index l O (U.go f work₀ t next K (omega arith) less L) h);
  }

  pub notes_none : (v : ℕ) → ((p : ℕ) → r ≡ entry.Option p → ⊥) → ((p : ℕ) → r ≡ entry.Set p → ⊥) → NotesSole file sizes r work v
  unfolding used_entries
  notes_none v option set = record {
    go = λ f work₀ t next K l L T h. sole_noted (subst (λ (o : ℕ). TypeAt file o r) (L.same type_offset t l) T) K.index l v (over_never r option set) h;
  }

-- Entries of one mark are equal with other numbers for their references exactly where their bodies' segments are, and the references
-- among an entry's segments are its children, in order.
-- Assumes nothing.
use Prim.Native.Nat.{ℕ}
use mathlib.Core.Path.{◌≡◌, refl, sym, ap, ◌∙◌}
use mathlib.Core.List.{List, [], ◌∷◌, ◌++◌, map}
use mathlib.Core.Option.{some}
use lib.ListN.{length-map}
use Rattle.script_spec.specs.Base.{Bytes, collect}
use Rattle.script_spec.specs.Tree.{TypeMark, Bool·, String·, Option·, Set·, BitVec·, Declared, entity, extension, record_of}
use Rattle.script_spec.specs.Tree.{TermMark, Var, BoolLit, BitVecLit, StringLit, Entity, ExtLit, None, Some, Set, Record, App, Op, Plain, Ext, RecordGet, StringLike, Uuf, ZeroExtend}
use Rattle.script_spec.specs.Fields.{Entry, type, enum, func, term, input}
use Rattle.index.specs.First.{renamed_op, renamed, renumbered}
use Rattle.index.specs.Standing.{entry_of}
use Rattle.index_compare.specs.Segment.{Segment, plain, type_ref, term_ref, mapped, type_refs, term_refs}
use Rattle.index_compare.specs.Machine.{segments}
use Rattle.index_compare.specs.Printed.{low_bytes, text_bytes, op_segments, named_references, count_before, type_segments, term_segments, segments_of}
use Rattle.index_compare.proofs.Prints.{Octets}
use Rattle.index_compare.proofs.Shown.{segments_shown}

-- ---- other numbers

module _ (types funs terms : ℕ → ℕ) where
  abbrev g : Segment → Segment
  g = mapped types funs terms

  module _ (wrap : ℕ → Segment) (number : ℕ → ℕ) (only : (n : ℕ) → g (wrap n) ≡ wrap (number n)) where
    refs_mapped : (rs : List ℕ) → map g (map wrap rs) ≡ map wrap (map number rs)
    refs_mapped [] = refl
    refs_mapped (n ∷ rs) = λ i. only n i ∷ refs_mapped rs i

    named_mapped : (names : List Bytes) (rs : List ℕ) → map g (named_references wrap names rs) ≡ named_references wrap names (map number rs)
    unfolding named_references mapped
    named_mapped [] rs = refs_mapped rs
    named_mapped (a ∷ names) [] = ap (λ (l : List Segment). plain (text_bytes a) ∷ l) (named_mapped names [])
    named_mapped (a ∷ names) (n ∷ rs) = λ i. plain (text_bytes a) ∷ only n i ∷ named_mapped names rs i

  types_mapped : (rs : List ℕ) → map g (map type_ref rs) ≡ map type_ref (map types rs)
  unfolding mapped
  types_mapped rs = refs_mapped type_ref types (λ n. refl) rs

  terms_mapped : (rs : List ℕ) → map g (map term_ref rs) ≡ map term_ref (map terms rs)
  unfolding mapped
  terms_mapped rs = refs_mapped term_ref terms (λ n. refl) rs

  counted_mapped : (rs : List ℕ) → map g (count_before rs (map term_ref rs)) ≡ count_before (map terms rs) (map term_ref (map terms rs))
  unfolding count_before mapped
  counted_mapped rs = λ i. plain (low_bytes 4 (sym (length-map rs terms) i)) ∷ terms_mapped rs i

  type_mapped : (m : TypeMark) (rs : List ℕ) → map g (type_segments m rs) ≡ type_segments m (map types rs)
  unfolding type_segments count_before mapped
  type_mapped Bool· rs = ap (λ (l : List Segment). plain [] ∷ l) (types_mapped rs)
  type_mapped String· rs = ap (λ (l : List Segment). plain [] ∷ l) (types_mapped rs)
  type_mapped Option· rs = types_mapped rs
  type_mapped Set· rs = types_mapped rs
  type_mapped (BitVec· n) rs = rw (types_mapped rs)
  type_mapped (Declared (entity a)) rs = rw (types_mapped rs)
  type_mapped (Declared (extension x)) rs = rw (types_mapped rs)
  type_mapped (Declared (record_of names)) rs = rw (named_mapped type_ref types (λ n. refl) names rs)

  op_mapped : (o : Op ℕ) (l : List Segment) → map g (op_segments o ++ l) ≡ op_segments (renamed_op types funs o) ++ map g l
  unfolding op_segments renamed_op mapped
  op_mapped (Plain o) l = refl
  op_mapped (Ext o) l = refl
  op_mapped (RecordGet a) l = refl
  op_mapped (StringLike p) l = refl
  op_mapped (Uuf f) l = refl
  op_mapped (ZeroExtend n) l = refl

  term_mapped : (m : TermMark ℕ ℕ) (rs : List ℕ) → map g (term_segments m rs) ≡ term_segments (renamed types funs m) (map terms rs)
  unfolding term_segments renamed count_before mapped
  term_mapped (Var id n) rs = rw (terms_mapped rs)
  term_mapped (BoolLit b) rs = rw (terms_mapped rs)
  term_mapped (BitVecLit n v) rs = rw (terms_mapped rs)
  term_mapped (StringLit s) rs = rw (terms_mapped rs)
  term_mapped (Entity n id) rs = rw (terms_mapped rs)
  term_mapped (ExtLit v) rs = rw (terms_mapped rs)
  term_mapped (None n) rs = rw (terms_mapped rs)
  term_mapped Some rs = terms_mapped rs
  term_mapped (Set n) rs = ap (λ (l : List Segment). type_ref (types n) ∷ l) (counted_mapped rs)
  term_mapped (Record names) rs = rw (named_mapped term_ref terms (λ n. refl) names rs)
  term_mapped (App n o) rs = ap (λ (l : List Segment). type_ref (types n) ∷ l) (op_mapped o (count_before rs (map term_ref rs)) ∙ ap (λ (l : List Segment). op_segments (renamed_op types funs o) ++ l) (counted_mapped rs))

  pub segments_of_renumbered : (x : Entry) → map g (segments_of x) ≡ segments_of (renumbered types funs terms x)
  unfolding segments_of renumbered mapped
  segments_of_renumbered (type m rs) = type_mapped m rs
  segments_of_renumbered (enum n ms) = refl
  segments_of_renumbered (func id a r) = refl
  segments_of_renumbered (term m rs) = term_mapped m rs
  segments_of_renumbered (input n) = refl

  -- entries of one mark that are equal with other numbers have segments that agree with these numbers
  pub segments_agree : (mark body body' : Bytes) {x y : Entry} → Octets body → Octets body' → entry_of mark body ≡ some x → entry_of mark body' ≡ some y
      → renumbered types funs terms x ≡ renumbered types funs terms y → map g (segments mark body) ≡ map g (segments mark body')
  segments_agree mark body body' {x} {y} o o' e e' q =
      ap (map g) (segments_shown mark body o e) ∙ segments_of_renumbered x ∙ ap segments_of q ∙ sym (segments_of_renumbered y)
      ∙ ap (map g) (sym (segments_shown mark body' o' e'))

-- ---- references in order

type_refs_lem : (rs : List ℕ) → type_refs (map type_ref rs) ≡ rs
unfolding type_refs collect
type_refs_lem [] = refl
type_refs_lem (n ∷ rs) = ap (λ (l : List ℕ). n ∷ l) (type_refs_lem rs)

pub named_type_refs : (names : List Bytes) (rs : List ℕ) → type_refs (named_references type_ref names rs) ≡ rs
unfolding named_references type_refs collect
named_type_refs [] rs = type_refs_lem rs
named_type_refs (a ∷ names) [] = named_type_refs names []
named_type_refs (a ∷ names) (n ∷ rs) = ap (λ (l : List ℕ). n ∷ l) (named_type_refs names rs)

-- the type references of a type are its parts
pub type_refs_type : (m : TypeMark) (rs : List ℕ) → type_refs (segments_of (type m rs)) ≡ rs
unfolding segments_of type_segments count_before type_refs collect
type_refs_type Bool· rs = type_refs_lem rs
type_refs_type String· rs = type_refs_lem rs
type_refs_type Option· rs = type_refs_lem rs
type_refs_type Set· rs = type_refs_lem rs
type_refs_type (BitVec· n) rs = type_refs_lem rs
type_refs_type (Declared (entity a)) rs = type_refs_lem rs
type_refs_type (Declared (extension x)) rs = type_refs_lem rs
type_refs_type (Declared (record_of names)) rs = named_type_refs names rs

term_refs_lem : (rs : List ℕ) → term_refs (map term_ref rs) ≡ rs
unfolding term_refs collect
term_refs_lem [] = refl
term_refs_lem (n ∷ rs) = ap (λ (l : List ℕ). n ∷ l) (term_refs_lem rs)

named_term_refs : (names : List Bytes) (rs : List ℕ) → term_refs (named_references term_ref names rs) ≡ rs
unfolding named_references term_refs collect
named_term_refs [] rs = term_refs_lem rs
named_term_refs (a ∷ names) [] = named_term_refs names []
named_term_refs (a ∷ names) (n ∷ rs) = ap (λ (l : List ℕ). n ∷ l) (named_term_refs names rs)

op_term_refs : (o : Op ℕ) (l : List Segment) → term_refs (op_segments o ++ l) ≡ term_refs l
unfolding op_segments term_refs collect
op_term_refs (Plain o) l = refl
op_term_refs (Ext o) l = refl
op_term_refs (RecordGet a) l = refl
op_term_refs (StringLike p) l = refl
op_term_refs (Uuf f) l = refl
op_term_refs (ZeroExtend n) l = refl

-- the term references of a term are its children
pub term_refs_term : (m : TermMark ℕ ℕ) (rs : List ℕ) → term_refs (segments_of (term m rs)) ≡ rs
unfolding segments_of term_segments count_before term_refs collect
term_refs_term (Var id n) rs = term_refs_lem rs
term_refs_term (BoolLit b) rs = term_refs_lem rs
term_refs_term (BitVecLit n v) rs = term_refs_lem rs
term_refs_term (StringLit s) rs = term_refs_lem rs
term_refs_term (Entity n id) rs = term_refs_lem rs
term_refs_term (ExtLit v) rs = term_refs_lem rs
term_refs_term (None n) rs = term_refs_lem rs
term_refs_term Some rs = term_refs_lem rs
term_refs_term (Set n) rs = term_refs_lem rs
term_refs_term (Record names) rs = named_term_refs names rs
term_refs_term (App n o) rs = op_term_refs o (count_before rs (map term_ref rs)) ∙ term_refs_lem rs

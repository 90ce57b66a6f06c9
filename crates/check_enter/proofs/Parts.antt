-- What a record that is entered is, by its mark and its numbers, and what the index says of these: the rules that it must keep, and
-- its depth.
-- Assumes nothing.
use mathlib.Core.Path.{◌≡◌, sym, ap, ◌∙◌}
use Prim.Native.Nat.{ℕ, suc}
use mathlib.Core.List.{List, map}
use mathlib.Core.Option.{Option, some}
use lib.ListN.{length}
use Rattle.script_spec.specs.Base.{Bytes}
use Rattle.script_spec.specs.Tree.{Ty, Tm, node, forest, depth}
use Rattle.script_spec.specs.Fields.{Entry}
use Rattle.script_spec.specs.Fields as fields
use Rattle.script_spec.specs.File.{TermFile, Named, type, term, types, terms, type_at, term_at, named, named_mark, earlier, rules}
use Rattle.script_spec.proofs.Laws.{never}
use Rattle.index.specs.Cells.{cell, type_depth, term_first, term_type, term_depth}
use Rattle.index.specs.First.{InRange}
use Rattle.index.specs.Rules.{greatest, rules_by}
use Rattle.index.specs.Standing.{entry_at}
use Rattle.index.specs.Meaning.{Stands}
use Rattle.index.proofs.Rules.{rules_numbers, depth_numbers}
use Rattle.index_search.specs.Searchable.{Indexed}
use Rattle.check_types.proofs.Same.{type_value}

-- the record at an offset is read as a mark and numbers, and names x
pub record Parts {A : Type 0} (make : A → List ℕ → Entry) (file : Bytes) (f : TermFile) (o : ℕ) (x : Named) : Type 0 where
  pub m : A
  pub rs : List ℕ
  pub reads : entry_at file o ≡ some (make m rs)
  pub in_range : InRange (earlier f) (make m rs)
  pub names : named f (make m rs) ≡ x

-- of a type, and of a term
abbrev pub TypeParts : Bytes → TermFile → ℕ → Ty → Type 0
TypeParts file f o t = Parts fields.type file f o (type t)

abbrev pub TermParts : Bytes → TermFile → ℕ → Tm → Type 0
TermParts file f o t = Parts fields.term file f o (term t)

-- ---- a record that stands at an offset

module _ {file : Bytes} {f : TermFile} {o : ℕ} where
  pub type_parts : {t : Ty} → Stands file f (earlier f) o (type t) → TypeParts file f o t
  unfolding named
  type_parts {t} s = from s.entry s.reads s.in_range s.names
    where
      from : (x : Entry) → entry_at file o ≡ some x → InRange (earlier f) x → named f x ≡ type t → TypeParts file f o t
      from (fields.type m rs) e h q = record { m = m; rs = rs; reads = e; in_range = h; names = q }
      from (fields.enum n ms) e h q = never (cc)
      from (fields.func id a r) e h q = never (cc)
      from (fields.term m rs) e h q = never (cc)
      from (fields.input n) e h q = never (cc)

  pub term_parts : {t : Tm} → Stands file f (earlier f) o (term t) → TermParts file f o t
  unfolding named
  term_parts {t} s = from s.entry s.reads s.in_range s.names
    where
      from : (x : Entry) → entry_at file o ≡ some x → InRange (earlier f) x → named f x ≡ term t → TermParts file f o t
      from (fields.type m rs) e h q = never (cc)
      from (fields.enum n ms) e h q = never (cc)
      from (fields.func id a r) e h q = never (cc)
      from (fields.term m rs) e h q = record { m = m; rs = rs; reads = e; in_range = h; names = q }
      from (fields.input n) e h q = never (cc)

-- ---- by the index

-- the greatest number that a column has for the references
unfoldable pub deepest : {A : Type 0} {make : A → List ℕ → Entry} {file : Bytes} {f : TermFile} {o : ℕ} {x : Named} → List ℕ → ℕ → ℕ → Parts make file f o x → ℕ
deepest work k column P = greatest (map (cell work k column) P.rs)

pub term_value : {t u : Tm} → term t ≡ term u → t ≡ u
term_value e = cc

module _ {file : Bytes} {f : TermFile} {work : List ℕ} {k o : ℕ} (I : Indexed file f work k) where
  -- the rules by the numbers
  pub rules_by_lem : {A : Type 0} {make : A → List ℕ → Entry} {x : Named} (P : Parts make file f o x) (ty : Option Ty)
      → rules f ty x ≡ rules_by f (cell work k type_depth) (cell work k term_first) (cell work k term_type) (cell work k term_depth) ty (make P.m P.rs)
  rules_by_lem {make = make} P ty =
      sym (ap (rules f ty) P.names)
      ∙ rules_numbers f (cell work k type_depth) (cell work k term_first) (cell work k term_type) (cell work k term_depth) I.depths.type_depth_is (λ n h. (I.index.term_row n h).first)
      (λ n h. (I.index.term_row n h).type_is) I.depths.term_depth_is ty (make P.m P.rs) P.in_range

  pub type_depth_is : {t : Ty} (P : TypeParts file f o t) → suc (deepest work k type_depth P) ≡ depth t
  unfolding named deepest InRange earlier
  type_depth_is {t} P =
      let same : node P.m (forest (map (type_at f) P.rs)) ≡ t = type_value P.names in
      sym (depth_numbers (type_at f) (length (types f)) (cell work k type_depth) I.depths.type_depth_is P.m P.rs P.in_range) ∙ ap depth same

  pub term_depth_is : {t : Tm} (P : TermParts file f o t) → suc (deepest work k term_depth P) ≡ depth t
  unfolding named deepest InRange earlier
  term_depth_is {t} P =
      let same : node (named_mark f P.m) (forest (map (term_at f) P.rs)) ≡ t = term_value P.names in
      sym (depth_numbers (term_at f) (length (terms f)) (cell work k term_depth) I.depths.term_depth_is (named_mark f P.m) P.rs P.in_range.1) ∙ ap depth same

-- Entries in a file with one record more: references stay in range, and an entry keeps what it names and its canonical entry.
-- Assumes nothing.
use Prim.Native.Nat.{ℕ, ◌≤◌, ◌<◌}
use native.Mathlib.Nat.{le_refl}
use native.Mathlib.Omega.{arith}
use mathlib.Core.Path.{◌≡◌, refl, ap}
use mathlib.Core.List.{List, [], ◌∷◌, ◌++◌}
use lib.Dec.{T}
use lib.ListN.{length, length-append}
use Rattle.script_spec.specs.Tree.{TermMark, Var, BoolLit, BitVecLit, StringLit, Entity, ExtLit, None, Some, Set, Record, App, Op, Plain, Ext, RecordGet, StringLike, Uuf, ZeroExtend}
use Rattle.script_spec.specs.Fields.{Entry, Earlier, type, enum, func, term, input}
use Rattle.script_spec.specs.File as file
use Rattle.script_spec.specs.File.{TermFile, Named, types, funs, terms, named, earlier}
use Rattle.index.specs.First.{settled, canonical, All, Below, OpInRange, MarkInRange, InRange}
use Rattle.index.proofs.Growth.{lists_append, types_kept, funs_kept, terms_kept}
use Rattle.index.proofs.Renamed.{map_agree, renamed_agree, renumbered_agree, named_mark_renamed}

-- more may be referred to
pub record More (e e' : Earlier) : Type 0 where
  pub types_more : e.types ≤ e'.types
  pub funs_more : e.funs ≤ e'.funs
  pub terms_more : e.terms ≤ e'.terms

-- more may be referred to, and a type that is a `TE` stays one
pub record Widens (e e' : Earlier) : Type 0 where
  pub more : More e e'
  pub entities_kept : (n : ℕ) → n < e.types → T (e.is_entity n) → T (e'.is_entity n)

pub widens_refl : (e : Earlier) → Widens e e
widens_refl e = record { more = record { types_more = le_refl _; funs_more = le_refl _; terms_more = le_refl _ }; entities_kept = λ n h t. t }

pub length_more : {A : Type 0} (xs ys : List A) {zs : List A} → zs ≡ xs ++ ys → length xs ≤ length zs
length_more xs ys e = rw (e, length-append) (omega arith)

module _ (f : TermFile) (r : Named) where
  pub more_append : More (earlier f) (earlier (f ++ (r ∷ [])))
  unfolding earlier
  more_append =
      let l = lists_append f r in
      record {
        types_more = length_more (types f) (types (r ∷ [])) l.types_are;
        funs_more = length_more (funs f) (funs (r ∷ [])) l.funs_are;
        terms_more = length_more (terms f) (terms (r ∷ [])) l.terms_are;
      }

-- ---- references stay in range

pub below_more : (a b : ℕ) → a ≤ b → (rs : List ℕ) → Below a rs → Below b rs
unfolding All Below
below_more a b l [] h = tt
below_more a b l (n ∷ rs) h = (omega (arith, h.0), below_more a b l rs h.1)

module _ {e e' : Earlier} (E : More e e') where
  type_more : (n : ℕ) → n < e.types → n < e'.types
  type_more n h = omega (arith, E.types_more)

  op_more : (o : Op ℕ) → OpInRange e o → OpInRange e' o
  unfolding OpInRange
  op_more (Plain o) h = tt
  op_more (Ext o) h = tt
  op_more (RecordGet a) h = tt
  op_more (StringLike p) h = tt
  op_more (Uuf n) h = omega (arith, E.funs_more)
  op_more (ZeroExtend n) h = tt

  mark_more : (m : TermMark ℕ ℕ) → MarkInRange e m → MarkInRange e' m
  unfolding MarkInRange
  mark_more (Var id n) h = type_more n h
  mark_more (BoolLit b) h = tt
  mark_more (BitVecLit n v) h = tt
  mark_more (StringLit s) h = tt
  mark_more (Entity n id) h = type_more n h
  mark_more (ExtLit v) h = tt
  mark_more (None n) h = type_more n h
  mark_more Some h = tt
  mark_more (Set n) h = type_more n h
  mark_more (Record names) h = tt
  mark_more (App n o) h = (type_more n h.0, op_more o h.1)

  pub in_range_more : (x : Entry) → InRange e x → InRange e' x
  unfolding InRange
  in_range_more (type m rs) h = below_more _ _ E.types_more rs h
  in_range_more (enum n ms) h = tt
  in_range_more (func id a r) h = (type_more a h.0, type_more r h.1)
  in_range_more (term m rs) h = (mark_more m h.0, below_more _ _ E.terms_more rs h.1)
  in_range_more (input n) h = omega (arith, E.terms_more)

-- ---- entries keep what they name

module _ (f : TermFile) (r : Named) where
  pub named_kept : (x : Entry) → InRange (earlier f) x → named (f ++ (r ∷ [])) x ≡ named f x
  unfolding InRange earlier named
  named_kept (type m rs) h = rw (map_agree (types_kept f r).name_kept rs h)
  named_kept (enum n ms) h = refl
  named_kept (func id a b) h = rw ((types_kept f r).name_kept a h.0, (types_kept f r).name_kept b h.1)
  named_kept (term m rs) h = rw (named_mark_renamed (f ++ (r ∷ [])) m, renamed_agree (earlier f) (types_kept f r).name_kept (funs_kept f r).name_kept m h.0, ← named_mark_renamed f m, map_agree (terms_kept f r).name_kept rs h.1)
  named_kept (input n) h = ap file.input ((terms_kept f r).name_kept n h)

  pub canonical_kept : (x : Entry) → InRange (earlier f) x → canonical (f ++ (r ∷ [])) x ≡ canonical f x
  unfolding earlier canonical
  canonical_kept x h = ap settled (renumbered_agree (earlier f) (types_kept f r).first_kept (funs_kept f r).first_kept (terms_kept f r).first_kept x h)

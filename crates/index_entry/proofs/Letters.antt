-- The mark of a type begins with T, and the mark of a term with X, so the second byte tells it.
-- Assumes nothing.
use mathlib.Core.Path.{◌≡◌, refl, sym, ap, ◌∙◌}
use mathlib.Core.List.{List, [], ◌∷◌}
use mathlib.Core.Option.{some}
use Prim.Native.Nat.{ℕ}
use lib.ListN.{get_or}
use Rattle.script_spec.specs.Base.{Bytes, bytes}
use Rattle.script_spec.specs.Tree.{TypeMark, Bool·, String·, Option·, Set·, BitVec·, Declared, entity, extension, record_of}
use Rattle.script_spec.specs.Tree.{TermMark, Var, BoolLit, BitVecLit, StringLit, Entity, ExtLit, None, Some, Set, Record, App}
use Rattle.script_spec.specs.Fields.{type, term}
use Rattle.index.specs.Standing.{entry_of}
use Rattle.check_rules.specs.Marks.{datatype_bytes, type_bytes, term_bytes, mark_of}
use Rattle.check_rules.proofs.Marks.{entry_mark}

-- the mark with a second byte
abbrev pub type_marked : ℕ → Bytes
type_marked l = 84 ∷ l ∷ []

abbrev pub term_marked : ℕ → Bytes
term_marked l = 88 ∷ l ∷ []

pub type_bytes_lem : (t : TypeMark) → type_marked (get_or (type_bytes t) 1 0) ≡ type_bytes t
unfolding type_bytes datatype_bytes bytes
type_bytes_lem Bool· = refl
type_bytes_lem String· = refl
type_bytes_lem Option· = refl
type_bytes_lem Set· = refl
type_bytes_lem (BitVec· n) = refl
type_bytes_lem (Declared (entity n)) = refl
type_bytes_lem (Declared (extension x)) = refl
type_bytes_lem (Declared (record_of names)) = refl

term_bytes_lem : (m : TermMark ℕ ℕ) → term_marked (get_or (term_bytes m) 1 0) ≡ term_bytes m
unfolding term_bytes bytes
term_bytes_lem (Var id n) = refl
term_bytes_lem (BoolLit b) = refl
term_bytes_lem (BitVecLit n v) = refl
term_bytes_lem (StringLit s) = refl
term_bytes_lem (Entity n id) = refl
term_bytes_lem (ExtLit v) = refl
term_bytes_lem (None n) = refl
term_bytes_lem Some = refl
term_bytes_lem (Set n) = refl
term_bytes_lem (Record names) = refl
term_bytes_lem (App n op) = refl

module _ (mark body : Bytes) {rs : List ℕ} where
  pub type_marked_lem : {t : TypeMark} → entry_of mark body ≡ some (type t rs) → type_marked (get_or mark 1 0) ≡ mark
  unfolding mark_of
  type_marked_lem {t} e = let i = entry_mark mark body e in ap (λ (s : Bytes). type_marked (get_or s 1 0)) i ∙ type_bytes_lem t ∙ sym i

  pub term_marked_lem : {m : TermMark ℕ ℕ} → entry_of mark body ≡ some (term m rs) → term_marked (get_or mark 1 0) ≡ mark
  unfolding mark_of
  term_marked_lem {m} e = let i = entry_mark mark body e in ap (λ (s : Bytes). term_marked (get_or s 1 0)) i ∙ term_bytes_lem m ∙ sym i

module _ (body : Bytes) {l : ℕ} {rs : List ℕ} where
  -- the second byte of a type's mark, and of a term's
  pub type_letter_lem : {t : TypeMark} → entry_of (type_marked l) body ≡ some (type t rs) → l ≡ get_or (type_bytes t) 1 0
  unfolding mark_of
  type_letter_lem e = ap (λ (s : Bytes). get_or s 1 0) (entry_mark (type_marked l) body e)

  pub term_letter : {m : TermMark ℕ ℕ} → entry_of (term_marked l) body ≡ some (term m rs) → l ≡ get_or (term_bytes m) 1 0
  unfolding mark_of
  term_letter e = ap (λ (s : Bytes). get_or s 1 0) (entry_mark (term_marked l) body e)

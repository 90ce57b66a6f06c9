-- What a record's kind says of a type, and of the type of a term: the second byte of the type's mark, and how many parts it has.
-- Assumes nothing.
use mathlib.Core.Path.{◌≡◌, refl, sym, ap, ◌∙◌, subst}
use Prim.Native.Nat.{ℕ}
use native.Mathlib.Omega.{arith}
use mathlib.Core.List.{List, []}
use mathlib.Core.Option.{some}
use lib.ListN.{length, get_or}
use Rattle.script_spec.specs.Base.{Bytes}
use Rattle.script_spec.specs.Tree.{TypeMark, Bool·, String·, Option·, Set·, BitVec·, Declared, entity, extension, record_of}
use Rattle.script_spec.specs.Tree.{TermMark, Var, BoolLit, BitVecLit, StringLit, Entity, ExtLit, None, Some, Set, Record, App}
use Rattle.script_spec.specs.Fields.{Entry, type, enum, func, term, input, marks, leaf}
use Rattle.script_spec.proofs.Computes
use Rattle.index.specs.First.{All}
use Rattle.index.specs.Rules.{TypeBy, reference, listed, type_by}
use Rattle.index.specs.Standing.{loose, mark_at, body_at, entry_at}
use Rattle.index.proofs.Readers.{◌&◌}
use Rattle.index_compare.proofs.Standing.{entry_of_inverse}
use Rattle.index_compare.proofs.Agreement.{lookup_all}
use Rattle.check_rules.specs.Marks.{datatype_bytes, type_bytes, mark_of}
use Rattle.check_rules.proofs.Marks.{entry_mark, Yields, yields_pure, yields_after}
use Rattle.check_types.specs.declared.Sought.{Sought}
use Rattle.check_types.specs.Sought.{kind_sought, mark_letter, KindSought}

-- P holds of the mark and the parts of a type, unless it is referred to
unfoldable pub Over : (TypeMark → List ℕ → Type 0) → TypeBy → Type 0
Over P (reference n) = Unit {0}
Over P (listed t parts) = P t parts

pub over : (P : TypeMark → List ℕ → Type 0) {b : TypeBy} {t : TypeMark} {parts : List ℕ} → b ≡ listed t parts → Over P b → P t parts
unfolding Over
over P e h = subst (Over P) e h

-- ---- letters

-- the second byte of a type's mark
abbrev pub letter_of : TypeMark → ℕ
letter_of t = get_or (type_bytes t) 1 0

-- the bytes of a mark
letter_from : {s r : Bytes} → s ≡ r → get_or s 1 0 ≡ get_or r 1 0
letter_from e = ap (λ (m : Bytes). get_or m 1 0) e

-- the second byte of the mark of a type that stands at an offset
pub type_letter_lem : (file : Bytes) (o : ℕ) {l : ℕ} → l ≡ get_or (mark_at file o) 1 0 → {t : TypeMark} {rs : List ℕ} → entry_at file o ≡ some (type t rs) → l ≡ letter_of t
unfolding entry_at mark_of
type_letter_lem file o q e = q ∙ letter_from (entry_mark (mark_at file o) (body_at file o) e)

-- the letter of what is sought is that of the type of the term
pub sought_kind_letter : (file : Bytes) (o : ℕ) (s : Sought) → KindSought file o (kind_sought s) → {m : TermMark ℕ ℕ} {rs : List ℕ} → entry_at file o ≡ some (term m rs) → (τ : ℕ → ℕ) {t : TypeMark} {ps : List ℕ} → type_by τ m rs ≡ listed t ps → letter_of t ≡ mark_letter s
unfolding mark_letter
sought_kind_letter file o s K {m} {rs} e τ {t} {ps} by = sym (letter_from (K.go m rs e τ t ps by))

-- a term that does not refer to its type has no entity type
pub no_entity : (τ : ℕ → ℕ) (m : TermMark ℕ ℕ) (rs : List ℕ) → Over (λ t parts. letter_of t ≡ 69 → ⊥) (type_by τ m rs)
unfolding Over type_by type_bytes datatype_bytes Computes.base
no_entity τ (Var id n) rs = tt
no_entity τ (BoolLit b) rs = λ h. omega arith
no_entity τ (BitVecLit n v) rs = λ h. omega arith
no_entity τ (StringLit s) rs = λ h. omega arith
no_entity τ (Entity n id) rs = tt
no_entity τ (ExtLit v) rs = λ h. omega arith
no_entity τ (None n) rs = λ h. omega arith
no_entity τ Some rs = λ h. omega arith
no_entity τ (Set n) rs = λ h. omega arith
no_entity τ (Record names) rs = λ h. omega arith
no_entity τ (App n op) rs = tt

-- ---- how many parts

-- a type of this mark has n parts; a record type may have any number
unfoldable pub Sized : TypeMark → ℕ → Type 0
Sized Bool· n = n ≡ 0
Sized String· n = n ≡ 0
Sized Option· n = n ≡ 1
Sized Set· n = n ≡ 1
Sized (BitVec· w) n = n ≡ 0
Sized (Declared (entity a)) n = n ≡ 0
Sized (Declared (extension x)) n = n ≡ 0
Sized (Declared (record_of names)) n = Unit {0}

-- the type of an entry, or of the term that it is, has as many parts as its mark says
unfoldable pub SizedEntry : Entry → Type 0
SizedEntry (type t rs) = Sized t (length rs)
SizedEntry (enum n ms) = Unit {0}
SizedEntry (func id a r) = Unit {0}
SizedEntry (term m rs) = (τ : ℕ → ℕ) → Over (λ t parts. Sized t (length parts)) (type_by τ m rs)
SizedEntry (input n) = Unit {0}

marks_sized : All (λ p. Yields SizedEntry p.1) (marks loose)
unfolding All marks leaf SizedEntry Sized Over type_by
marks_sized =
    yields_pure _ refl
    & yields_pure _ refl
    & yields_after _ (λ a. yields_pure _ refl)
    & yields_after _ (λ a. yields_pure _ refl)
    & yields_after _ (λ a. yields_pure _ refl)
    & yields_after _ (λ a. yields_pure _ refl)
    & yields_after _ (λ a. yields_pure _ refl)
    & yields_after _ (λ a. yields_pure _ tt)
    & yields_after _ (λ a. yields_after _ (λ b. yields_pure _ tt))
    & yields_after _ (λ a. yields_after _ (λ b. yields_after _ (λ c. yields_pure _ tt)))
    & yields_after _ (λ a. yields_after _ (λ b. yields_pure _ (λ τ. tt)))
    & yields_after _ (λ a. yields_pure _ (λ τ. refl))
    & yields_after _ (λ a. yields_after _ (λ b. yields_after _ (λ c. yields_pure _ (λ τ. refl))))
    & yields_after _ (λ a. yields_pure _ (λ τ. refl))
    & yields_after _ (λ a. yields_after _ (λ b. yields_pure _ (λ τ. tt)))
    & yields_after _ (λ a. yields_pure _ (λ τ. refl))
    & yields_after _ (λ a. yields_pure _ (λ τ. refl))
    & yields_after _ (λ a. yields_pure _ (λ τ. refl))
    & yields_after _ (λ a. yields_after _ (λ b. yields_pure _ (λ τ. refl)))
    & yields_after _ (λ a. yields_pure _ (λ τ. tt))
    & yields_after _ (λ a. yields_after _ (λ b. yields_after _ (λ c. yields_pure _ (λ τ. tt))))
    & yields_after _ (λ a. yields_pure _ tt)
    & tt

pub entry_sized : (file : Bytes) (o : ℕ) {x : Entry} → entry_at file o ≡ some x → SizedEntry x
unfolding entry_at
entry_sized file o {x} e =
    let h = entry_of_inverse (mark_at file o) (body_at file o) e in
    (lookup_all (λ m r. Yields SizedEntry r) (mark_at file o) (marks loose) marks_sized h.found).go (body_at file o) [] x h.reads

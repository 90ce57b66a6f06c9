-- The kind of a mark is that of the entry which stands under it: each kind is told by its mark.
-- Assumes nothing.
use mathlib.Core.Path.{◌≡◌, refl, sym, ap, ◌∙◌}
use Prim.Native.Nat.{ℕ}
use mathlib.Core.List.{List, [], ◌∷◌}
use mathlib.Core.Option.{some, some_inj, none-ne-some}
use Rattle.std.specs.Prelude.{Option as Optional, None as Nothing, Some as Just}
use Rattle.script_spec.specs.Base.{Bytes, bytes, lookup}
use Rattle.script_spec.specs.Tree.{TypeMark, Bool·, String·, Option·, Set·, BitVec·, Declared, entity, extension, record_of}
use Rattle.script_spec.specs.Tree.{TermMark, Var, BoolLit, BitVecLit, StringLit, Entity, ExtLit, None, Some, Set, Record, App}
use Rattle.script_spec.specs.Fields.{Entry, type, enum, func, term, input}
use Rattle.script_spec.proofs.Computes
use Rattle.index.specs.Standing.{loose, entry_at, mark_at, body_at}
use Rattle.index_compare.proofs.Standing.{entry_of_inverse}
use Rattle.read_record.specs.Marks.{mark, MarkedAs, Marked}
use Rattle.read_record.specs.declared.mark.Kind.{Kind}
use Rattle.read_record.specs.declared.mark.Kind.TheVariants as kind
use Rattle.check_rules.specs.Marks.{datatype_bytes, type_bytes, term_bytes, mark_of}
use Rattle.check_rules.proofs.Marks.{entry_mark}

-- ---- the kind of an entry

-- the kind of a type
unfoldable pub type_kind : TypeMark → Kind
type_kind Bool· = kind.TB
type_kind String· = kind.TS
type_kind Option· = kind.TO
type_kind Set· = kind.TC
type_kind (BitVec· n) = kind.TV
type_kind (Declared (entity n)) = kind.TE
type_kind (Declared (extension x)) = kind.TX
type_kind (Declared (record_of names)) = kind.TR

-- the kind of a term
unfoldable pub term_kind : TermMark ℕ ℕ → Kind
term_kind (Var id n) = kind.XV
term_kind (BoolLit b) = kind.XB
term_kind (BitVecLit n v) = kind.XN
term_kind (StringLit s) = kind.XS
term_kind (Entity n id) = kind.XE
term_kind (ExtLit v) = kind.XX
term_kind (None n) = kind.X0
term_kind Some = kind.X1
term_kind (Set n) = kind.XC
term_kind (Record names) = kind.XR
term_kind (App n op) = kind.XA

-- the kind of an entry
unfoldable pub kind_of : Entry → Kind
kind_of (type m rs) = type_kind m
kind_of (enum n ms) = kind.EN
kind_of (func id a r) = kind.UF
kind_of (term m rs) = term_kind m
kind_of (input n) = kind.IN

-- its mark is the entry's
type_mark : (m : TypeMark) → mark (type_kind m) ≡ type_bytes m
unfolding mark type_kind type_bytes datatype_bytes
type_mark Bool· = refl
type_mark String· = refl
type_mark Option· = refl
type_mark Set· = refl
type_mark (BitVec· n) = refl
type_mark (Declared (entity n)) = refl
type_mark (Declared (extension x)) = refl
type_mark (Declared (record_of names)) = refl

term_mark : (m : TermMark ℕ ℕ) → mark (term_kind m) ≡ term_bytes m
unfolding mark term_kind term_bytes
term_mark (Var id n) = refl
term_mark (BoolLit b) = refl
term_mark (BitVecLit n v) = refl
term_mark (StringLit s) = refl
term_mark (Entity n id) = refl
term_mark (ExtLit v) = refl
term_mark (None n) = refl
term_mark Some = refl
term_mark (Set n) = refl
term_mark (Record names) = refl
term_mark (App n op) = refl

kind_mark : (x : Entry) → mark (kind_of x) ≡ mark_of x
unfolding mark kind_of mark_of
kind_mark (type m rs) = type_mark m
kind_mark (enum n ms) = refl
kind_mark (func id a r) = refl
kind_mark (term m rs) = term_mark m
kind_mark (input n) = refl

-- ---- the kind by the mark

-- the kinds by their marks
unfoldable kinds : List (Bytes × Kind)
kinds =
    (bytes "TB", kind.TB) ∷ (bytes "TS", kind.TS) ∷ (bytes "TV", kind.TV) ∷ (bytes "TO", kind.TO) ∷ (bytes "TC", kind.TC) ∷ (bytes "TE", kind.TE)
    ∷ (bytes "TX", kind.TX) ∷ (bytes "TR", kind.TR) ∷ (bytes "EN", kind.EN) ∷ (bytes "UF", kind.UF) ∷ (bytes "XV", kind.XV) ∷ (bytes "XB", kind.XB)
    ∷ (bytes "XN", kind.XN) ∷ (bytes "XS", kind.XS) ∷ (bytes "XE", kind.XE) ∷ (bytes "XX", kind.XX) ∷ (bytes "X0", kind.X0) ∷ (bytes "X1", kind.X1)
    ∷ (bytes "XC", kind.XC) ∷ (bytes "XR", kind.XR) ∷ (bytes "XA", kind.XA) ∷ (bytes "IN", kind.IN) ∷ []

kinds_mark : (k : Kind) → lookup (mark k) kinds ≡ some k
unfolding mark kinds Computes.base
kinds_mark kind.TB = refl
kinds_mark kind.TS = refl
kinds_mark kind.TV = refl
kinds_mark kind.TO = refl
kinds_mark kind.TC = refl
kinds_mark kind.TE = refl
kinds_mark kind.TX = refl
kinds_mark kind.TR = refl
kinds_mark kind.EN = refl
kinds_mark kind.UF = refl
kinds_mark kind.XV = refl
kinds_mark kind.XB = refl
kinds_mark kind.XN = refl
kinds_mark kind.XS = refl
kinds_mark kind.XE = refl
kinds_mark kind.XX = refl
kinds_mark kind.X0 = refl
kinds_mark kind.X1 = refl
kinds_mark kind.XC = refl
kinds_mark kind.XR = refl
kinds_mark kind.XA = refl
kinds_mark kind.IN = refl

-- the kind of the mark that an entry stands under
pub entry_kind : (file : Bytes) (o : ℕ) {k : Kind} {x : Entry} → Marked (mark_at file o) (Just k) → entry_at file o ≡ some x → k ≡ kind_of x
unfolding entry_at MarkedAs
entry_kind file o {k} {x} M e =
    let same : mark k ≡ mark (kind_of x) = sym M.is ∙ entry_mark (mark_at file o) (body_at file o) e ∙ sym (kind_mark x) in
    some_inj.0 (sym (kinds_mark k) ∙ ap (λ (s : Bytes). lookup s kinds) same ∙ kinds_mark (kind_of x))

-- an entry stands under a mark
pub entry_marked : (file : Bytes) (o : ℕ) {k : Optional Kind} {x : Entry} → Marked (mark_at file o) k → entry_at file o ≡ some x → k ≡ Just (kind_of x)
unfolding entry_at MarkedAs
entry_marked file o {k = Just k} M e = ap Just (entry_kind file o M e)
entry_marked file o {k = Nothing} M e = let h = entry_of_inverse (mark_at file o) (body_at file o) e in absurd (none-ne-some h.reader (sym (M.is loose) ∙ h.found))

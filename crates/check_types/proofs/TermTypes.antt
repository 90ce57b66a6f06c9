-- The kind of a term's type by the term's kind, and whether the term refers to its type.
-- Assumes nothing.
use mathlib.Core.Path.{◌≡◌, refl, sym, ap, ◌∙◌, subst}
use Prim.Native.Nat.{ℕ}
use mathlib.Core.List.{List}
use mathlib.Core.Option.{some}
use Rattle.std.specs.Prelude as rust
use Rattle.script_spec.specs.Base.{Bytes}
use Rattle.script_spec.specs.Tree.{TypeMark, TermMark, Var, BoolLit, BitVecLit, StringLit, Entity, ExtLit, None, Some, Set, Record, App}
use Rattle.script_spec.specs.Fields.{term}
use Rattle.index.specs.Rules.{listed, type_by}
use Rattle.index.specs.Standing.{mark_at, entry_at}
use Rattle.read_record.specs.Marks.{mark, Marked}
use Rattle.read_record.specs.declared.mark.Kind.{Kind}
use Rattle.read_record.specs.declared.mark.Kind.TheVariants as kind
use Rattle.check_rules.specs.Marks.{datatype_bytes, type_bytes}
use Rattle.check_rules.proofs.EntryKinds.{term_kind, kind_of, entry_kind}
use Rattle.check_types.specs.declared.Sought.{Sought}
use Rattle.check_types.specs.Sought.{kind_sought, FieldsOf, Wanted, Refers, Unreferred}
use Rattle.check_types.proofs.Letters.{Over, over}

-- the kind of a term at an offset
pub term_kind_lem : (file : Bytes) (o : ℕ) {k : Kind} → Marked (mark_at file o) (rust.Some k) → {m : TermMark ℕ ℕ} {rs : List ℕ} → entry_at file o ≡ some (term m rs) → k ≡ term_kind m
unfolding kind_of
term_kind_lem file o M e = entry_kind file o M e

-- ---- the kind of its type

-- the kind of the type of a term of this kind; none for a term that refers to its type, and for what is no term
unfoldable pub sought_of : Kind → rust.Option Kind
sought_of kind.TB = rust.None
sought_of kind.TS = rust.None
sought_of kind.TV = rust.None
sought_of kind.TO = rust.None
sought_of kind.TC = rust.None
sought_of kind.TE = rust.None
sought_of kind.TX = rust.None
sought_of kind.TR = rust.None
sought_of kind.EN = rust.None
sought_of kind.UF = rust.None
sought_of kind.XV = rust.None
sought_of kind.XB = rust.Some kind.TB
sought_of kind.XN = rust.Some kind.TV
sought_of kind.XS = rust.Some kind.TS
sought_of kind.XE = rust.None
sought_of kind.XX = rust.Some kind.TX
sought_of kind.X0 = rust.Some kind.TO
sought_of kind.X1 = rust.Some kind.TO
sought_of kind.XC = rust.Some kind.TC
sought_of kind.XR = rust.Some kind.TR
sought_of kind.XA = rust.None
sought_of kind.IN = rust.None

-- the mark of the kind that is sought, if one is
abbrev MarkSought : rust.Option Kind → Bytes → Type 0
MarkSought (rust.Some k) s = mark k ≡ s
MarkSought rust.None s = ⊥

sought_mark : (τ : ℕ → ℕ) (m : TermMark ℕ ℕ) (rs : List ℕ) → Over (λ t parts. MarkSought (sought_of (term_kind m)) (type_bytes t)) (type_by τ m rs)
unfolding Over type_by mark sought_of term_kind type_bytes datatype_bytes
sought_mark τ (Var id n) rs = tt
sought_mark τ (BoolLit b) rs = refl
sought_mark τ (BitVecLit n v) rs = refl
sought_mark τ (StringLit s) rs = refl
sought_mark τ (Entity n id) rs = tt
sought_mark τ (ExtLit v) rs = refl
sought_mark τ (None n) rs = refl
sought_mark τ Some rs = refl
sought_mark τ (Set n) rs = refl
sought_mark τ (Record names) rs = refl
sought_mark τ (App n op) rs = tt

module _ (file : Bytes) (o : ℕ) {k : Kind} (M : Marked (mark_at file o) (rust.Some k)) {m : TermMark ℕ ℕ} {rs : List ℕ} (e : entry_at file o ≡ some (term m rs)) (τ : ℕ → ℕ) {t : TypeMark} {ps : List ℕ} (by : type_by τ m rs ≡ listed t ps) where
  sought_told : {r : rust.Option Kind} → sought_of k ≡ r → MarkSought r (type_bytes t)
  sought_told q =
      subst (λ (r : rust.Option Kind). MarkSought r (type_bytes t)) (ap sought_of (sym (term_kind_lem file o M e)) ∙ q)
      (over (λ u us. MarkSought (sought_of (term_kind m)) (type_bytes u)) by (sought_mark τ m rs))

-- a term that has a kind of type does not refer to it
unreferred : (τ : ℕ → ℕ) (m : TermMark ℕ ℕ) (rs : List ℕ) {r : Kind} → sought_of (term_kind m) ≡ rust.Some r → (t : TypeMark) × (ps : List ℕ) × (type_by τ m rs ≡ listed t ps)
unfolding sought_of term_kind type_by
unreferred τ (Var id n) rs q = let z : ⊥ = cc in absurd z
unreferred τ (BoolLit x) rs q = (_, _, refl)
unreferred τ (BitVecLit n v) rs q = (_, _, refl)
unreferred τ (StringLit s) rs q = (_, _, refl)
unreferred τ (Entity n id) rs q = let z : ⊥ = cc in absurd z
unreferred τ (ExtLit v) rs q = (_, _, refl)
unreferred τ (None n) rs q = (_, _, refl)
unreferred τ Some rs q = (_, _, refl)
unreferred τ (Set n) rs q = (_, _, refl)
unreferred τ (Record names) rs q = (_, _, refl)
unreferred τ (App n op) rs q = let z : ⊥ = cc in absurd z

-- what is sought, with the fields of the term
pub sought_some : (file : Bytes) (work : List ℕ) (i o : ℕ) {k : Kind} → Marked (mark_at file o) (rust.Some k) → {s : Sought} → sought_of k ≡ rust.Some (kind_sought s) → FieldsOf file work i o s → Wanted file work i o s × Unreferred file o
sought_some file work i o M q fields = (
  record { kind_is = record { go = λ m rs e τ t ps by. sought_told file o M e τ by q }; fields_are = fields },
  record { go = λ m rs e τ. unreferred τ m rs (ap sought_of (sym (term_kind_lem file o M e)) ∙ q) },
)

-- a term of none of the kinds that have such a type refers to it
module _ {k : Kind} (xb : k ≡ kind.XB → ⊥) (xs : k ≡ kind.XS → ⊥) (xn : k ≡ kind.XN → ⊥) (xx : k ≡ kind.XX → ⊥) (x0 : k ≡ kind.X0 → ⊥) (x1 : k ≡ kind.X1 → ⊥) (xc : k ≡ kind.XC → ⊥) (xr : k ≡ kind.XR → ⊥) where
  unlisted : (m : TermMark ℕ ℕ) (rs : List ℕ) (τ : ℕ → ℕ) → k ≡ term_kind m → Over (λ t ps. ⊥) (type_by τ m rs)
  unfolding Over type_by term_kind
  unlisted (Var id n) rs τ e = tt
  unlisted (BoolLit b) rs τ e = absurd (xb e)
  unlisted (BitVecLit n v) rs τ e = absurd (xn e)
  unlisted (StringLit s) rs τ e = absurd (xs e)
  unlisted (Entity n id) rs τ e = tt
  unlisted (ExtLit v) rs τ e = absurd (xx e)
  unlisted (None n) rs τ e = absurd (x0 e)
  unlisted Some rs τ e = absurd (x1 e)
  unlisted (Set n) rs τ e = absurd (xc e)
  unlisted (Record names) rs τ e = absurd (xr e)
  unlisted (App n op) rs τ e = tt

  pub sought_nothing : (file : Bytes) (o : ℕ) → Marked (mark_at file o) (rust.Some k) → Refers file o
  sought_nothing file o M = record { go = λ m rs e τ t ps by. over (λ u us. ⊥) by (unlisted m rs τ (term_kind_lem file o M e)) }

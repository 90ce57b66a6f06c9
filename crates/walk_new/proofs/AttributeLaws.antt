-- The tests of `RecordGet`: its first child's type has a name, and is a record type with the attribute.
-- Assumes nothing.
use Prim.Native.Nat.{ℕ, ◌<◌}
use mathlib.Core.Path.{◌≡◌, refl, sym, ap, ◌∙◌, subst}
use mathlib.Core.Bool.{Bool, true, false}
use mathlib.Core.List.{List, [], ◌∷◌, map}
use mathlib.Core.Logic.{inl, inr}
use native.Mathlib.Omega.{arith}
use lib.ListN.{length}
use Rattle.std.specs.Prelude.{Result, Ok, Err}
use Rattle.std.specs.Prelude as std
use Rattle.std.specs.Option as option
use Rattle.script_spec.specs.Base.{Bytes, any, is_some}
use Rattle.script_spec.specs.Tree.{Tm, Ty, type_of, eq_ty}
use Rattle.script_spec.specs.File.{TermFile, types, term_at, type_at}
use Rattle.script_spec.specs.Walk.{State, went, stopped, ◌>>◌, refuse_unless, record_get}
use Rattle.script_spec.proofs.Laws.{any_place}
use Rattle.refusal.specs.declared.Refusal.{Refusal}
use Rattle.refusal.specs.declared.Refusal.TheVariants as refusal
use Rattle.refusal.specs.Numbers.{number, option_of}
use Rattle.index.specs.Cells.{cell, type_first, term_type}
use Rattle.index.specs.First.{All, Below}
use Rattle.index.specs.declared.Sizes.{Sizes}
use Rattle.walk_names.specs.Naming.{name_at, type_names, place_of, first_of, names_of}
use Rattle.walk_names.specs.declared.naming.Named.TheVariants as type
use Rattle.walk_names.proofs.Names.{place_type}
use Rattle.walk_names.specs.Progress.{memory, rows, Indexed, Went, Advances}
use Rattle.walk_names.specs.declared.walk.Walk.{Walk}
use Rattle.walk_names.specs.declared.walk.Stopped.{Stopped}
use Rattle.walk_names.proofs.Advancing.{advances_by, advances_passed, advances_stopped}
use Rattle.walk_queries.specs.Searches.{stands, attribute_answer, asked_attribute, FindsAttribute}
use Rattle.walk_queries.specs.Searches as asked
use Rattle.walk_queries.proofs.AnswerLaws.{attribute_there, attribute_nowhere}
use Rattle.walk_new.specs.Steps.{TypedAt, ParentAt, attribute_walk, get_walk}

-- ---- names

-- whether a type has a name, as it is read
pub is_named : (o : std.Option ℕ) (t : ℕ) {named : Bool} {work work' : List ℕ} {sizes sizes' : Sizes} → work ≡ work' → sizes ≡ sizes' → option_of o ≡ place_of (name_at work sizes.rows (first_of type.Types) (names_of type.Types) t) → named ≡ option.is_some o → named ≡ is_some (place_of (name_at work' sizes'.rows type_first type_names t))
unfolding is_some
is_named o t e g h q = q ∙ said o ∙ ap is_some (rw (e, g) at h)
  where
    said : (o : std.Option ℕ) → option.is_some o ≡ is_some (option_of o)
    said (std.Some n) = refl
    said std.None = refl

-- ---- attributes

-- the three tests of a type: a name, attributes, this attribute
get_unnamed : (t : Tm) (a : Bytes) (ty : Ty) (S : State) → any (eq_ty ty) S.types ≡ false → record_get t a (ty ∷ []) S ≡ stopped 18 t 0
unfolding record_get ◌>>◌ refuse_unless
get_unnamed t a ty S e = rw (e, record_get, ◌>>◌)

get_refused : (t : Tm) (a : Bytes) (ty : Ty) (S : State) {m : ℕ} → any (eq_ty ty) S.types ≡ true → asked.refusal m ≡ asked_attribute a ty → record_get t a (ty ∷ []) S ≡ stopped m t 0
unfolding record_get ◌>>◌ refuse_unless is_some
get_refused t a ty S e h = elim (attribute_nowhere a ty h) [
  | inl w ↦ rw (e, w.0, w.1, record_get, ◌>>◌)
  | inr w ↦ rw (e, w.0, w.1, w.2, record_get, ◌>>◌)
]

get_found : (t : Tm) (a : Bytes) (ty : Ty) (S : State) {i : ℕ} → any (eq_ty ty) S.types ≡ true → stands i ≡ asked_attribute a ty → record_get t a (ty ∷ []) S ≡ went S
unfolding record_get ◌>>◌ refuse_unless is_some
get_found t a ty S e h = let w = attribute_there a ty h in rw (e, w.0, w.1, record_get, ◌>>◌)

module _ {t : ℕ} (a : Bytes) {v : Walk} {named : Bool} (name : named ≡ is_some (place_of (name_at (memory v) (rows v) type_first type_names t))) where
  -- whether the type has a name
  any_type : {f : TermFile} {limit : ℕ} {o : Bytes} {S : State} → Indexed f v → Went f limit o v S → t < length (types f) → any (eq_ty (type_at f t)) S.types ≡ named
  any_type {f} {S = S} I W l = any_place (eq_ty (type_at f t)) S.types ∙ ap is_some (place_type I.rows t W.numbers l) ∙ sym name

  pub attribute_unnamed : {n : ℕ} → named ≡ false → Advances (TypedAt n t) (attribute_walk n t a) v v (Err (record { refusal = refusal.TypeNotDeclared; term = n; position = 0 }))
  unfolding attribute_walk number
  attribute_unnamed {n} h = advances_stopped _ (λ f limit o S I r W. (r.below, get_unnamed (term_at f n) a (type_at f t) S (any_type I W r.type_below ∙ h)))

  module _ {n : ℕ} {x : Result ℕ Refusal} (h : named ≡ true) (A : FindsAttribute v.records.now.file.now (memory v) v.records.now.sizes t a x) where
    pub attribute_refused : {r : Refusal} → x ≡ Err r → Advances (TypedAt n t) (attribute_walk n t a) v v (Err (record { refusal = r; term = n; position = 0 }))
    unfolding attribute_walk attribute_answer
    attribute_refused e =
        advances_stopped _ (λ f limit o S I r W.
        (r.below, get_refused (term_at f n) a (type_at f t) S (any_type I W r.type_below ∙ h) (sym (ap attribute_answer e) ∙ A.go f I r.type_below)))

    pub attribute_found : {i : ℕ} → x ≡ Ok i → Advances (TypedAt n t) (attribute_walk n t a) v v (Ok tt)
    unfolding attribute_walk attribute_answer
    attribute_found e =
        advances_passed (λ f limit o S I r W. get_found (term_at f n) a (type_at f t) S (any_type I W r.type_below ∙ h) (sym (ap attribute_answer e) ∙ A.go f I r.type_below))

-- ---- the first child

-- only the first type is asked
get_first : (t : Tm) (a : Bytes) (ty ty' : Ty) (tys : List Ty) (S : State) → ty ≡ ty' → record_get t a (ty ∷ tys) S ≡ record_get t a (ty' ∷ []) S
unfolding record_get
get_first t a ty ty' tys S e = rw e

-- the first of numbers below a bound
first_below : (n r : ℕ) (rs : List ℕ) → Below n (r ∷ rs) → r < n
unfolding Below All
first_below n r rs h = h.0

module _ {n : ℕ} {rs : List ℕ} (a : Bytes) {v : Walk} where
  -- no child
  pub get_none : rs ≡ [] → Advances (ParentAt n rs) (get_walk n a) v v (Err (record { refusal = refusal.NoArgument; term = n; position = 0 }))
  unfolding get_walk record_get refuse_unless number
  get_none e = advances_stopped _ (λ f limit o S I r W. (r.below, rw (r.are, e)))

  -- the first child's type
  pub get_child : {r t : ℕ} {qs : List ℕ} {x : Result (Unit {0}) Stopped} → rs ≡ r ∷ qs → t ≡ cell (memory v) (rows v) term_type r → Advances (TypedAt n t) (attribute_walk n t a) v v x → Advances (ParentAt n rs) (get_walk n a) v v x
  unfolding get_walk attribute_walk
  get_child {r} {t} {qs} split q A =
      advances_by (λ f S I R.
      let low : r < n = first_below n r qs (subst (Below n) split R.lower) in
      let within = R.below in
      let row = I.rows.term_row r (omega arith) in (
        record { below = R.below; type_below = rw q row.type_below },
        ap (λ (ts : List Tm). record_get (term_at f n) a (map type_of ts) S) (R.are ∙ ap (map (term_at f)) split) ∙ get_first (term_at f n) a _ (type_at f t) _ S (sym row.type_is ∙ ap (type_at f) (sym q)),
      )) A

-- The search for a first equal record is a search for an equal canonical entry: for types, functions and terms, once for any
-- elements.
-- Assumes nothing.
use Prim.Native.Nat.{ℕ, ◌<◌}
use mathlib.Core.Path.{◌≡◌, sym, ap, ◌∙◌}
use mathlib.Core.Bool.{Bool}
use mathlib.Core.List.{List}
use mathlib.Core.Option.{Option, none, some}
use lib.Dec.{T}
use lib.ListN.{length, get_or}
use Rattle.script_spec.specs.Base.{place}
use Rattle.script_spec.specs.Tree.{eq_ty, eq_fun, eq_tm}
use Rattle.script_spec.specs.Fields.{Entry}
use Rattle.script_spec.specs.File.{TermFile, Named, type, func, term, types, funs, terms, type_at, fun_at, term_at, named, earlier}
use Rattle.script_spec.proofs.Laws.{eq_ty_eq, eq_fun_eq}
use Rattle.index.specs.First.{first, first_type, first_fun, first_term, canonical, InRange, Entries}
use Rattle.index.proofs.Firsts.{Equality, equal_types, equal_funs, equal_terms, place_first, place_none, first_equal}
use Rattle.index.proofs.Rules.{OnlyTypes}
use Rattle.index.proofs.Canonical.{canonical_equal, canonical_injective, canonical_terms, term_injective}

module _ (f : TermFile) {A : Type 0} (wrap : A → Named) where
  -- what a search over these entries finds for an entry e that names x: a record equal to x, or that there is none
  pub record Searched (count : ℕ) (first : ℕ → ℕ) (place : A → Option ℕ) (ε : ℕ → Entry) : Type 0 where
    pub found : (e : Entry) (x : A) → InRange (earlier f) e → named f e ≡ wrap x → (n : ℕ) → n < count → canonical f (ε n) ≡ canonical f e → place x ≡ some (first n)
    pub absent : (e : Entry) (x : A) → named f e ≡ wrap x → ((n : ℕ) → n < count → canonical f (ε n) ≡ canonical f e → ⊥) → place x ≡ none

module _ (f : TermFile) {A : Type 0} {eq : A → A → Bool} (E : Equality eq) (d : A) (xs : List A) (wrap : A → Named) where
  -- where entries of one canonical entry name equal elements, and those that name equal elements have one
  searched : ((e e' : Entry) (x y : A) → InRange (earlier f) e → InRange (earlier f) e' → named f e ≡ wrap x → named f e' ≡ wrap y → canonical f e ≡ canonical f e' → T (eq x y))
      → ((e e' : Entry) (x y : A) → named f e ≡ wrap x → named f e' ≡ wrap y → T (eq x y) → canonical f e ≡ canonical f e')
      → (ε : ℕ → Entry) → Entries f wrap (length xs) (λ n. get_or xs n d) ε → Searched f wrap (length xs) (λ n. first eq xs (get_or xs n d)) (λ x. place (eq x) xs) ε
  searched injective equal ε N =
      record {
        found = λ e x h q n l c.
            let same : T (eq x (get_or xs n d)) = injective e (ε n) x (get_or xs n d) h (N.in_range n l) q (N.names n l) (sym c) in
            place_first E d xs n l x same ∙ ap some (first_equal E x (get_or xs n d) same xs);
        absent = λ e x q none_equal.
            place_none (eq x) d xs (λ n l t. none_equal n l (equal (ε n) e (get_or xs n d) x (N.names n l) q (E.symmetric x (get_or xs n d) t)));
      }

  -- where elements refer to types only, and equal ones are the same
  searched_exact : ((a b : A) → T (eq a b) → a ≡ b) → ((a b : A) → wrap a ≡ wrap b → a ≡ b) → ((a : A) → OnlyTypes (wrap a))
      → (ε : ℕ → Entry) → Entries f wrap (length xs) (λ n. get_or xs n d) ε → Searched f wrap (length xs) (λ n. first eq xs (get_or xs n d)) (λ x. place (eq x) xs) ε
  searched_exact sound value only =
      searched
      (λ e e' x y h h' p q c.
      let same : x ≡ y = value x y (sym p ∙ canonical_injective f e e' h h' (rw p (only x)) (rw q (only y)) c ∙ q) in
      rw same (E.reflexive y))
      (λ e e' x y p q t. canonical_equal f e e' (p ∙ ap wrap (sound x y t) ∙ sym q))

module _ (f : TermFile) (ε : ℕ → Entry) where
  pub types_searched : Entries f type (length (types f)) (type_at f) ε → Searched f type (length (types f)) (first_type f) (λ t. place (eq_ty t) (types f)) ε
  unfolding type_at first_type OnlyTypes
  types_searched = searched_exact f equal_types _ (types f) type eq_ty_eq (λ a b e. cc) (λ a. tt) ε

  pub funs_searched : Entries f func (length (funs f)) (fun_at f) ε → Searched f func (length (funs f)) (first_fun f) (λ g. place (eq_fun g) (funs f)) ε
  unfolding fun_at first_fun OnlyTypes
  funs_searched = searched_exact f equal_funs _ (funs f) func eq_fun_eq (λ a b e. cc) (λ a. tt) ε

  pub terms_searched : Entries f term (length (terms f)) (term_at f) ε → Searched f term (length (terms f)) (first_term f) (λ t. place (eq_tm t) (terms f)) ε
  unfolding term_at first_term
  terms_searched = searched f equal_terms _ (terms f) term (term_injective f) (canonical_terms f) ε

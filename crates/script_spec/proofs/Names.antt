-- The names of what stands in the tables: each is its letter and digits, and a name gives its thing back, so that different things
-- have different names. By cases on things; a table gives back what stands at a place.
-- Assumes nothing.
use Prim.Native.Nat.{ℕ, zero, suc}
use mathlib.Core.Path.{◌≡◌, refl, sym, ap, ◌∙◌, subst}
use mathlib.Core.Logic.{◌⊎◌, inl, inr}
use mathlib.Core.Bool.{Bool, true, false, not, ◌||◌}
use mathlib.Core.List.Memᴰ
use mathlib.Core.List.{List, [], ◌∷◌, ◌++◌, map, map-append, Memᴰ}
use mathlib.Core.Option.{Option, none, some}
use lib.Dec.{T, eqb, T_not, not_T}
use borrow.Author.Tests.{eq-eqb}
use Rattle.script_spec.specs.Base.{Bytes, bytes, is_some, any, place, place_from, at, lookup, and_then, same}
use Rattle.script_spec.specs.Tree.{Forest, TypeMark, node, nil, eq_ty, eq_fun, eq_tm, Enums, datatype, datatype_mark, entity, extension, record_of, ExtType, IPAddr, Decimal, Datetime, Duration, Bool·, String·, Option·, Set·, BitVec·, Declared}
use Rattle.script_spec.specs.Text.{decimal}
use Rattle.script_spec.specs.Spelling.{Names, sort, sort_from, datatype_sort, ext_name}
use Rattle.script_spec.specs.Walk.{State, numbered, letter, type_name, names}
use Rattle.script_spec.specs.Faithful.{Thing, term, func, type, name_of, digits_only, lettered, datatype_named, well_named, unique}
use Rattle.script_spec.proofs.Laws.{eq_ty_eq, eq_fun_eq, same_refl, same_eq, and_parts, and_both, or_cases, any_cases, any_place}
use Rattle.script_spec.proofs.Log.{nameable, reversed}
use Rattle.script_spec.proofs.Lists.{mem_reversed}
use Rattle.script_spec.proofs.Invariant.{Tabled, Distinct}
use Rattle.script_spec.proofs.Values.{value, value_decimal, decimal_digits_only}
use Rattle.script_spec.proofs.Computes

-- ---- places

-- t is the only entry of a table that is equal to it
abbrev Only : {A : Type 0} → (A → A → Bool) → List A → A → Type 0
Only {A} eq xs t = (x : A) → Memᴰ x xs → T (eq t x) → t ≡ x

module _ {A : Type 0} (eq : A → A → Bool) where
  -- what a table has at the place of one of its entries
  place_at : (xs : List A) (t : A) → Only eq xs t → T (any (eq t) xs) → (n : ℕ) × (place (eq t) xs ≡ some n) × (at n xs ≡ some t)
  unfolding any place place_from at
  place_at [] t o h = absurd h
  place_at (x ∷ xs) t o h = go (eq t x) (λ k. o x (Memᴰ.head refl) k) h (λ k. place_at xs t (λ y m. o y (Memᴰ.tail m)) k)
    where
      go : (b : Bool) → (T b → t ≡ x) → T (b || any (eq t) xs) → (T (any (eq t) xs) → (n : ℕ) × (place (eq t) xs ≡ some n) × (at n xs ≡ some t))
          → (n : ℕ) × (place_from b (place (eq t) xs) ≡ some n) × (at n (x ∷ xs) ≡ some t)
      go true p k ih = (zero, refl, ap some (sym (p tt)))
      go false p k ih = let r = ih k in (suc r.0, ap (place_from false) r.1, r.2)

-- ---- things back from names

-- an extension type's mark
unfoldable pub is_extension : TypeMark → Bool
is_extension Bool· = false
is_extension String· = false
is_extension Option· = false
is_extension Set· = false
is_extension (BitVec· n) = false
is_extension (Declared (entity name)) = false
is_extension (Declared (extension x)) = true
is_extension (Declared (record_of names)) = false

-- an extension type has no parts
unfoldable pub Bare : Thing → Type 0
Bare (term t) = Unit {0}
Bare (func f) = Unit {0}
Bare (type (node m ts)) = T (is_extension m) → ts ≡ nil

-- the extension types by their names
extensions : List (Bytes × Thing)
extensions = map (λ x. (ext_name x, type (node (Declared (extension x)) nil))) (IPAddr ∷ Decimal ∷ Datetime ∷ Duration ∷ [])

-- the thing with a name: by the letter, what stands at the number's place, or else an extension type
thing_of : State → Bytes → Option Thing
thing_of s [] = none
thing_of s (b ∷ r) =
    elim (eqb b 116) [
      | true ↦ and_then (at (value 0 r) s.terms) (λ t. some (term t))
      | false ↦ elim (eqb b 102) [
        | true ↦ and_then (at (value 0 r) s.funs) (λ f. some (func f))
        | false ↦ elim (eqb b 69 || eqb b 82) [
          | true ↦ and_then (at (value 0 r) s.types) (λ ty. some (type ty))
          | false ↦ lookup (b ∷ r) extensions
        ]
      ]
    ]

-- a name by a table gives back the entry
module _ {A : Type 0} (eq : A → A → Bool) where
  numbered_back : (s : State) (letters : Bytes) (th : A → Thing) (xs : List A) → ((r : Bytes) → thing_of s (letters ++ r) ≡ and_then (at (value 0 r) xs) (λ x. some (th x)))
      → (a : A) → Only eq xs a → T (any (eq a) xs) → thing_of s (numbered letters (place (eq a) xs)) ≡ some (th a)
  unfolding numbered and_then
  numbered_back s letters th xs read a o h =
      let r = place_at eq xs a o h in
      ap (λ (o : Option ℕ). thing_of s (numbered letters o)) r.1
      ∙ read (decimal r.0)
      ∙ ap (λ (v : ℕ). and_then (at v xs) (λ x. some (th x))) (value_decimal r.0)
      ∙ ap (λ (o : Option A). and_then o (λ x. some (th x))) r.2

extension_back : (s : State) (x : ExtType) → thing_of s (ext_name x) ≡ some (type (node (Declared (extension x)) nil))
unfolding thing_of extensions Computes.base ext_name
extension_back s IPAddr = refl
extension_back s Decimal = refl
extension_back s Datetime = refl
extension_back s Duration = refl

-- a term is the only one of the table that is equal to it
unfoldable pub OnlyOne : State → Thing → Type 0
OnlyOne s (term t) = Only eq_tm s.terms t
OnlyOne s (func f) = Unit {0}
OnlyOne s (type ty) = Unit {0}

thing_of_name : (e : Enums) (s : State) (th : Thing) → OnlyOne s th → Tabled s th → T (nameable e th) → Bare th → thing_of s (name_of (names s) th) ≡ some th
unfolding thing_of name_of names type_name letter bytes Tabled OnlyOne nameable Bare is_extension sort sort_from datatype_sort datatype datatype_mark is_some
thing_of_name e s (term t) o h n b = numbered_back eq_tm s (bytes "t") term s.terms (λ r. refl) t o h
thing_of_name e s (func f) o h n b = numbered_back eq_fun s (bytes "f") func s.funs (λ r. refl) f (λ g m k. eq_fun_eq f g k) h
thing_of_name e s (type (node Bool· ts)) o h n b = absurd n
thing_of_name e s (type (node String· ts)) o h n b = absurd n
thing_of_name e s (type (node Option· ts)) o h n b = absurd n
thing_of_name e s (type (node Set· ts)) o h n b = absurd n
thing_of_name e s (type (node (BitVec· k) ts)) o h n b = absurd n
thing_of_name e s (type (node (Declared (entity name)) ts)) o h n b = numbered_back eq_ty s (bytes "E") type s.types (λ r. refl) (node (Declared (entity name)) ts) (λ u m k. eq_ty_eq (node (Declared (entity name)) ts) u k) h
thing_of_name e s (type (node (Declared (extension x)) ts)) o h n b = extension_back s x ∙ ap (λ (us : Forest TypeMark). some (type (node (Declared (extension x)) us))) (sym (b tt))
thing_of_name e s (type (node (Declared (record_of names)) ts)) o h n b = numbered_back eq_ty s (bytes "R") type s.types (λ r. refl) (node (Declared (record_of names)) ts) (λ u m k. eq_ty_eq (node (Declared (record_of names)) ts) u k) h

-- different things have different names
pub name_of_injective : (e : Enums) (s : State) (a b : Thing) → OnlyOne s a → OnlyOne s b → Tabled s a → Tabled s b → T (nameable e a) → T (nameable e b) → Bare a → Bare b
    → name_of (names s) a ≡ name_of (names s) b → a ≡ b
name_of_injective e s a b oa ob ta tb na nb la lb p =
    let q : some a ≡ some b = sym (thing_of_name e s a oa ta na la) ∙ ap (thing_of s) p ∙ thing_of_name e s b ob tb nb lb in
    cc

-- ---- letters and digits

lettered_some : (l : ℕ) (o : Option ℕ) → T (is_some o) → T (lettered l (numbered (l ∷ []) o))
unfolding lettered numbered is_some
lettered_some l none h = absurd h
lettered_some l (some n) h = and_both (eqb l l) (digits_only (decimal n)) (rw (eq-eqb l l refl) tt) (decimal_digits_only n)

lettered_place : {A : Type 0} (l : ℕ) (p : A → Bool) (xs : List A) → T (any p xs) → T (lettered l (numbered (l ∷ []) (place p xs)))
lettered_place l p xs h = lettered_some l (place p xs) (subst T (any_place p xs) h)

pub name_of_well_named : (e : Enums) (s : State) (th : Thing) → Tabled s th → T (nameable e th) → T (well_named (names s) th)
unfolding well_named datatype_named names type_name letter bytes Tabled nameable sort sort_from datatype_sort datatype datatype_mark is_some
name_of_well_named e s (term t) h n = lettered_place 116 (eq_tm t) s.terms h
name_of_well_named e s (func f) h n = lettered_place 102 (eq_fun f) s.funs h
name_of_well_named e s (type (node Bool· ts)) h n = absurd n
name_of_well_named e s (type (node String· ts)) h n = absurd n
name_of_well_named e s (type (node Option· ts)) h n = absurd n
name_of_well_named e s (type (node Set· ts)) h n = absurd n
name_of_well_named e s (type (node (BitVec· k) ts)) h n = absurd n
name_of_well_named e s (type (node (Declared (entity name)) ts)) h n = let t = node (Declared (entity name)) ts in lettered_place 69 (eq_ty t) s.types h
name_of_well_named e s (type (node (Declared (extension x)) ts)) h n = same_refl (ext_name x)
name_of_well_named e s (type (node (Declared (record_of names)) ts)) h n = let t = node (Declared (record_of names)) ts in lettered_place 82 (eq_ty t) s.types h

-- ---- lists of names

mem_one : {m n : Bytes} → T (any (same m) (n ∷ [])) → m ≡ n
unfolding any
mem_one {m} {n} h = elim (or_cases (same m n) false h) [ inl k ↦ same_eq m n k | inr k ↦ absurd k ]

unique_snoc : (ns : List Bytes) (n : Bytes) → T (unique ns) → ((m : Bytes) → Memᴰ m ns → m ≡ n → ⊥) → T (unique (ns ++ (n ∷ [])))
unfolding unique any
unique_snoc [] n h k = tt
unique_snoc (m ∷ ns) n h k =
    let q = and_parts (not (any (same m) ns)) (unique ns) h in
    and_both (not (any (same m) (ns ++ (n ∷ [])))) (unique (ns ++ (n ∷ [])))
    (not_T (any (same m) (ns ++ (n ∷ []))) (λ a. elim (any_cases (same m) ns (n ∷ []) a) [ inl b ↦ T_not (any (same m) ns) q.0 b | inr b ↦ k m (Memᴰ.head refl) (mem_one b) ]))
    (unique_snoc ns n q.1 (λ x y. k x (Memᴰ.tail y)))

mem_map : {A B : Type 0} (f : A → B) (b : B) (xs : List A) → Memᴰ b (map f xs) → (a : A) × Memᴰ a xs × (b ≡ f a)
mem_map f b [] m = absurd (Memᴰ.not-nil m)
mem_map {A} f b (x ∷ xs) m = go (Memᴰ.cases_cons m) (λ k. mem_map f b xs k)
  where
    go : (b ≡ f x) ⊎ Memᴰ b (map f xs) → (Memᴰ b (map f xs) → (a : A) × Memᴰ a xs × (b ≡ f a)) → (a : A) × Memᴰ a (x ∷ xs) × (b ≡ f a)
    go (inl p) ih = (x, Memᴰ.head refl, p)
    go (inr k) ih = let r = ih k in (r.0, Memᴰ.tail r.1, r.2)

-- the names of a log of different things
pub unique_names : (ν : Names) (log : List Thing) → Distinct log → ((a b : Thing) → Memᴰ a log → Memᴰ b log → name_of ν a ≡ name_of ν b → a ≡ b)
    → T (unique (map (name_of ν) (reversed log)))
unfolding unique reversed Distinct
unique_names ν [] d inj = tt
unique_names ν (th ∷ log) d inj =
    subst (λ (ns : List Bytes). T (unique ns)) (sym (map-append (name_of ν) (reversed log) (th ∷ [])))
    (unique_snoc (map (name_of ν) (reversed log)) (name_of ν th) (unique_names ν log d.1 (λ a b m k. inj a b (Memᴰ.tail m) (Memᴰ.tail k)))
    (λ n m p. let r = mem_map (name_of ν) n (reversed log) m in
    let k = mem_reversed r.0 log r.1 in
    let q : r.0 ≡ th = inj r.0 th (Memᴰ.tail k) (Memᴰ.head refl) (sym r.2 ∙ p) in
    d.0 (Memᴰ.cast (sym q) k)))

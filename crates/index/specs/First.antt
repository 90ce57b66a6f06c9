-- Numbers of first equal records, and entries whose references are such numbers. Two records are equal exactly where their numbers
-- are, so that numbers are compared and never trees.
-- Assumes nothing.
use Rattle.std.specs.Prelude.{ℕ, zero, ◌<◌, ◌≡◌, Bool, true, false, eqb, ltb, List, [], ◌∷◌, map}
use Rattle.std.proofs.Math.Option.{Option, none, some}
use Rattle.script_spec.specs.Base.{Bytes, place, lookup}
use Rattle.script_spec.specs.Tree.{eq_ty, eq_fun, eq_tm, is_set}
use Rattle.script_spec.specs.Tree.{TermMark, Var, BoolLit, BitVecLit, StringLit, Entity, ExtLit, None, Some, Set, Record, App, Op, Plain, Ext, RecordGet, StringLike, Uuf, ZeroExtend}
use Rattle.script_spec.specs.Fields.{Entry, type, enum, func, term, input, Earlier, Reader, got, marks, whole}
use Rattle.script_spec.specs.File.{TermFile, Named, types, funs, terms, type_at, fun_at, term_at, named, earlier}

-- the number that was found, or else n
unfoldable pub or_else : ℕ → Option ℕ → ℕ
or_else n none = n
or_else n (some m) = m

-- the place of the first element that is equal to x; 0 where there is none
unfoldable pub first : {A : Type 0} → (A → A → Bool) → List A → A → ℕ
first eq xs x = or_else zero (place (eq x) xs)

-- the number of the first record that is equal to the type with number n
unfoldable pub first_type : TermFile → ℕ → ℕ
first_type f n = first eq_ty (types f) (type_at f n)

-- that of the function
unfoldable pub first_fun : TermFile → ℕ → ℕ
first_fun f n = first eq_fun (funs f) (fun_at f n)

-- that of the term
unfoldable pub first_term : TermFile → ℕ → ℕ
first_term f n = first eq_tm (terms f) (term_at f n)

-- ---- entries

module _ {R R' F F' : Type 0} (types : R → R') (funs : F → F') where
  -- an operator with another name for its function
  unfoldable pub renamed_op : Op F → Op F'
  renamed_op (Plain o) = Plain o
  renamed_op (Ext o) = Ext o
  renamed_op (RecordGet a) = RecordGet a
  renamed_op (StringLike p) = StringLike p
  renamed_op (Uuf g) = Uuf (funs g)
  renamed_op (ZeroExtend n) = ZeroExtend n

  -- a mark with other names for its type and its function
  unfoldable pub renamed : TermMark R F → TermMark R' F'
  renamed (Var id ty) = Var id (types ty)
  renamed (BoolLit b) = BoolLit b
  renamed (BitVecLit n v) = BitVecLit n v
  renamed (StringLit s) = StringLit s
  renamed (Entity ty id) = Entity (types ty) id
  renamed (ExtLit v) = ExtLit v
  renamed (None ty) = None (types ty)
  renamed Some = Some
  renamed (Set ty) = Set (types ty)
  renamed (Record names) = Record names
  renamed (App ty op) = App (types ty) (renamed_op op)

-- an entry with other numbers for the types, functions and terms that it refers to
unfoldable pub renumbered : (ℕ → ℕ) → (ℕ → ℕ) → (ℕ → ℕ) → Entry → Entry
renumbered types funs terms (type m rs) = type m (map types rs)
renumbered types funs terms (enum n ms) = enum n ms
renumbered types funs terms (func id a r) = func id (types a) (types r)
renumbered types funs terms (term m rs) = term (renamed types funs m) (map terms rs)
renumbered types funs terms (input n) = input (terms n)

-- ---- canonical entries

-- a number put in its place among ascending ones, unless it is there
unfoldable pub inserted : ℕ → List ℕ → List ℕ
inserted n [] = n ∷ []
inserted n (m ∷ ms) = elim (ltb n m) [ true ↦ n ∷ m ∷ ms | false ↦ elim (eqb n m) [ true ↦ m ∷ ms | false ↦ m ∷ inserted n ms ] ]

-- numbers in ascending order, each once
unfoldable pub ascended : List ℕ → List ℕ
ascended [] = []
ascended (n ∷ ns) = inserted n (ascended ns)

-- the numbers of a record's terms: those of a set in ascending order
unfoldable pub in_order : Bool → List ℕ → List ℕ
in_order true ns = ascended ns
in_order false ns = ns

-- an entry with the elements of a set in ascending order
unfoldable pub settled : Entry → Entry
settled (type m rs) = type m rs
settled (enum n ms) = enum n ms
settled (func id a r) = func id a r
settled (term m rs) = term m (in_order (is_set m) rs)
settled (input n) = input n

-- an entry with each reference replaced by the number of the first equal record, and these of a set in ascending order
unfoldable pub canonical : TermFile → Entry → Entry
canonical f x = settled (renumbered (first_type f) (first_fun f) (first_term f) x)

-- the entry is no set
pub record NoSet (x : Entry) : Type 0 where
  pub no : (t : ℕ) (rs : List ℕ) → x ≡ term (Set t) rs → ⊥

-- ---- references in range

-- every item is in P
unfoldable pub All : {A : Type 0} → (A → Type 0) → List A → Type 0
All P [] = Unit {0}
All P (x ∷ xs) = P x × All P xs

-- every number is below a count
unfoldable pub Below : ℕ → List ℕ → Type 0
Below count ns = All (λ n. n < count) ns

module _ (e : Earlier) where
  -- the reference of an operator is to an earlier record
  unfoldable pub OpInRange : Op ℕ → Type 0
  OpInRange (Plain o) = Unit {0}
  OpInRange (Ext o) = Unit {0}
  OpInRange (RecordGet a) = Unit {0}
  OpInRange (StringLike p) = Unit {0}
  OpInRange (Uuf n) = n < e.funs
  OpInRange (ZeroExtend n) = Unit {0}

  -- the references of a mark are to earlier records
  unfoldable pub MarkInRange : TermMark ℕ ℕ → Type 0
  MarkInRange (Var id n) = n < e.types
  MarkInRange (BoolLit b) = Unit {0}
  MarkInRange (BitVecLit n v) = Unit {0}
  MarkInRange (StringLit s) = Unit {0}
  MarkInRange (Entity n id) = n < e.types
  MarkInRange (ExtLit v) = Unit {0}
  MarkInRange (None n) = n < e.types
  MarkInRange Some = Unit {0}
  MarkInRange (Set n) = n < e.types
  MarkInRange (Record names) = Unit {0}
  MarkInRange (App n op) = (n < e.types) × OpInRange op

  -- every reference of an entry is to an earlier record
  unfoldable pub InRange : Entry → Type 0
  InRange (type m rs) = Below e.types rs
  InRange (enum n ms) = Unit {0}
  InRange (func id a r) = (a < e.types) × (r < e.types)
  InRange (term m rs) = MarkInRange m × Below e.terms rs
  InRange (input n) = n < e.terms

-- x is the entry that a mark and a body are read as
pub record ReadAs (e : Earlier) (mark body : Bytes) (x : Entry) : Type 0 where
  pub reader : Reader Entry
  pub found : lookup mark (marks e) ≡ some reader
  pub reads : whole (reader body) ≡ got x []

-- ε n is the entry of the record with number n, for the numbers below a count; `wrap` is `type`, `func` or `term`
pub record Entries (f : TermFile) {A : Type 0} (wrap : A → Named) (count : ℕ) (name : ℕ → A) (ε : ℕ → Entry) : Type 0 where
  pub in_range : (n : ℕ) → n < count → InRange (earlier f) (ε n)
  pub names : (n : ℕ) → n < count → named f (ε n) ≡ wrap (name n)

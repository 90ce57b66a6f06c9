-- A record in which a type is written, as check takes it: its fields without the type, a term, and the number of the term's type in its last
-- four bytes. By the structure of the readers, and by the rule that the term keeps.
-- Assumes nothing.
use Prim.Native.Nat.{ℕ, ◌+◌, ◌-◌, ◌≤◌, ◌<◌}
use native.Mathlib.Omega.{arith}
use mathlib.Core.Path.{◌≡◌, refl, sym, ap, ◌∙◌, subst}
use mathlib.Core.Bool.{Bool, true, false, true≢false}
use mathlib.Core.List.{List, [], ◌∷◌, ◌++◌}
use mathlib.Core.Option.{Option, none, some, none-ne-some}
use lib.Dec.{T, eqb}
use lib.ListN.{length, take, drop, get_or}
use lib.Seq.{take-add, drop-drop, length-take-le, take_at, drop_at}
use Rattle.script_spec.specs.Base.{Bytes, bytes, if_some}
use Rattle.script_spec.specs.Tree.{Ty, Tm, type_of, eq_ty}
use Rattle.script_spec.specs.Fields.{Entry, Earlier, Read, got, Reader, low, marks, leaf, is_typed, untyped, untyped_mark, with_type}
use Rattle.script_spec.specs.Fields as fields
use Rattle.script_spec.specs.File.{Named, TermFile, types, type_at, named, written, earlier, Rule, list_rules, rules, broken}
use Rattle.script_spec.specs.File as files
use Rattle.script_spec.specs.Faithful.{Every, every, also}
use Rattle.script_spec.proofs.Laws.{eq_ty_eq}
use Rattle.script_spec.proofs.Tables.{lookup_entry}
use Rattle.script_spec.proofs.Fronts.{reader_front, Behind, typed_behind}
use Rattle.script_spec.proofs.Taken.{stated, last_number, Fielded, body_fits, Taken}
use Rattle.script_spec.proofs.BareEntry.{made_value, Makes, makes_pure, makes_bind}

-- ---- what has a written type is a term

-- a term's record
unfoldable is_term : Entry → Bool
is_term (fields.type m rs) = false
is_term (fields.enum n ms) = false
is_term (fields.func id a r) = false
is_term (fields.term m rs) = true
is_term (fields.input n) = false

-- a mark that begins with `X`
unfoldable begins_x : Bytes → Bool
begins_x [] = false
begins_x (a ∷ s) = eqb a 88

-- the reader of a mark that begins with `X` makes terms
record MakesTerm (m : Bytes) (r : Reader Entry) : Type 0 where
  go : T (begins_x m) → Makes (λ x. T (is_term x)) r

another_mark : {m : Bytes} {r : Reader Entry} → begins_x m ≡ false → MakesTerm m r
another_mark e = record { go = λ h. absurd (rw e at h) }

term_mark : {m : Bytes} {r : Reader Entry} → Makes (λ x. T (is_term x)) r → MakesTerm m r
term_mark h = record { go = λ b. h }

marks_term : (e : Earlier) → Every (λ (p : Bytes × Reader Entry). MakesTerm p.0 p.1) (marks e)
unfolding marks leaf bytes begins_x is_term
marks_term e = search (makes_bind, makes_pure, tt, another_mark, term_mark, every, also) depth 40 fits 5000

-- ---- a term keeps the rule of the type that is written in its record

-- the first of some rules that are kept
pub first_kept : (r : Rule) (rs : List Rule) → broken (r ∷ rs) ≡ none → (r.1 ≡ true) × (broken rs ≡ none)
unfolding broken
first_kept r rs = from r.1
  where
    from : (b : Bool) → elim b as (λ y. Option ℕ) [ true ↦ broken rs | false ↦ some r.0 ] ≡ none → (b ≡ true) × (broken rs ≡ none)
    from true h = (refl, h)
    from false h = absurd (none-ne-some r.0 (sym h))

later_kept : (qs rs : List Rule) → broken (qs ++ rs) ≡ none → broken rs ≡ none
later_kept [] rs h = h
later_kept (q ∷ qs) rs h = later_kept qs rs (first_kept q (qs ++ rs) h).1

pub written_kept : (f : TermFile) (ty : Option Ty) (t : Tm) → broken (rules f ty (files.term t)) ≡ none → if_some (eq_ty (type_of t)) ty ≡ true
unfolding rules
written_kept f ty t h = (first_kept _ _ (first_kept _ _ (later_kept (list_rules t) _ h)).1).0

-- ---- the next record

-- the mark that a `Y` mark repeats begins with `X`
pub untyped_is : (a : ℕ) → is_typed a ≡ true → untyped a ≡ 88
unfolding untyped
untyped_is a h = rw (untyped, h)

repeats_x : (s : Bytes) → is_typed (get_or s 0 0) ≡ true → T (begins_x (untyped_mark (take 2 s)))
unfolding is_typed untyped_mark begins_x
repeats_x [] h = absurd (true≢false (sym h))
repeats_x (a ∷ s) h = subst (λ (n : ℕ). T (eqb n 88)) (sym (untyped_is a h)) tt

term_named : (f : TermFile) (x : Entry) → T (is_term x) → (t : Tm) × (named f x ≡ files.term t)
unfolding is_term named
term_named f (fields.type m rs) h = absurd h
term_named f (fields.enum n ms) h = absurd h
term_named f (fields.func id a r) h = absurd h
term_named f (fields.term m rs) h = (_, refl)
term_named f (fields.input n) h = absurd h

-- a body that ends with four bytes
module _ (n size : ℕ) (t : Bytes) (is : n + 4 ≡ size) (fits : size ≤ length t) where
  four_apart : take size t ≡ take n t ++ take 4 (drop n t)
  four_apart = ap (λ (k : ℕ). take k t) (sym is) ∙ take-add n 4 t

  size_before : length (take n t) ≡ n
  size_before = length-take-le n t (omega arith)

  before_four : take n (take size t) ≡ take n t
  before_four = ap (take n) four_apart ∙ take_at (take n t) (take 4 (drop n t)) n size_before

  last_four : drop n (take size t) ≡ take 4 (drop n t)
  last_four = ap (drop n) four_apart ∙ drop_at (take n t) (take 4 (drop n t)) n size_before

-- a record in which a type is written, as it was read
module _ (e : Earlier) (s : Bytes) {x : Entry} {ty : Option ℕ} (t : Fielded e s (x, ty)) (typed : is_typed (get_or s 0 0) ≡ true) where
  abbrev body : Bytes
  body = take (stated s) (drop 6 s)

  body_behind : Behind e t.reader body x ty
  body_behind = typed_behind (reader_front e (untyped_mark (take 2 s)) t.marked) body x ty (ap (λ (b : Bool). with_type e b t.reader body) (sym typed) ∙ t.read)

  body_size : length body ≡ stated s
  body_size = length-take-le (stated s) (drop 6 s) (body_fits t)

  pub four_fit : length body - 4 + 4 ≡ stated s
  four_fit = omega (arith, body_behind.fits, body_size)

  pub own_fields : t.reader (take (length body - 4) (drop 6 s)) ≡ got x []
  own_fields = ap t.reader (sym (before_four (length body - 4) (stated s) (drop 6 s) four_fit (body_fits t))) ∙ body_behind.fields

  own_number : low (drop (length body - 4) body) ≡ last_number s
  unfolding last_number
  own_number =
      let place : 6 + (length body - 4) ≡ 2 + stated s = omega (arith, four_fit) in
      ap low
      (last_four (length body - 4) (stated s) (drop 6 s) four_fit (body_fits t)
      ∙ ap (take 4) (drop-drop (length body - 4) 6 s ∙ ap (λ (n : ℕ). drop n s) place))

  pub own_type : ty ≡ some (last_number s)
  own_type = body_behind.ty_is ∙ ap some own_number

  pub own_below : last_number s < e.types
  own_below = subst (λ (n : ℕ). n < e.types) own_number body_behind.below

-- and check takes it
module _ (f : TermFile) (s : Bytes) {r : Named} {rest : Bytes} (t : Taken f s r rest) (typed : is_typed (get_or s 0 0) ≡ true) where
  pub own_term : (tm : Tm) × (r ≡ files.term tm)
  own_term =
      let m = lookup_entry MakesTerm (untyped_mark (take 2 s)) (marks (earlier f)) (marks_term (earlier f)) t.fields.marked in
      let is : T (is_term t.entry) = made_value t.entry [] ((m.go (repeats_x s typed)).go _) (own_fields (earlier f) s t.fields typed) in
      let n = term_named f t.entry is in
      (n.0, sym t.names ∙ n.1)

  pub own_type_is : type_at f (last_number s) ≡ type_of own_term.0
  unfolding written if_some
  own_type_is =
      let rule = written_kept f (written f t.type) own_term.0 (subst (λ (x : Named). broken (rules f (written f t.type) x) ≡ none) own_term.1 t.keeps) in
      let own = own_type (earlier f) s t.fields typed in
      let same : eq_ty (type_of own_term.0) (type_at f (last_number s)) ≡ true = ap (λ (o : Option ℕ). if_some (eq_ty (type_of own_term.0)) (written f o)) (sym own) ∙ rule in
      sym (eq_ty_eq (type_of own_term.0) (type_at f (last_number s)) (rw same tt))

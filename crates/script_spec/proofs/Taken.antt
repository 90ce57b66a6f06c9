-- What a record was read as, and that one which check takes keeps its rules: `next_record` taken back, and made again, also before other
-- bytes and with another front. By cases.
-- Assumes nothing.
use mathlib.Core.Path.{◌≡◌, refl, sym, ap, ◌∙◌}
use mathlib.Core.Bool.{Bool, true, false}
use mathlib.Core.List.{[], ◌∷◌, ◌++◌, append_assoc}
use mathlib.Core.Option.{Option, none, some}
use Prim.Native.Nat.{ℕ, ◌+◌, ◌≤◌}
use native.Mathlib.Omega.{arith}
use lib.Dec.{leb, leb→le}
use borrow.Author.Tests.{le-leb}
use lib.ListN.{length, take, drop, get_or, length-append, length-drop}
use lib.Seq.{take-add, drop-drop, length-take-le, take_at, drop_at}
use Rattle.script_spec.specs.Base.{Bytes, lookup}
use Rattle.script_spec.specs.Tree.{Ty}
use Rattle.script_spec.specs.Fields.{Entry, Earlier, Typed, Read, got, bad, Reader, low, marks, is_typed, untyped, untyped_mark, with_type, whole}
use Rattle.script_spec.specs.File.{Named, TermFile, named, written, earlier, rules, broken, kept, judged, next_record}
use Rattle.script_spec.proofs.Lists.{take_two}
use Rattle.script_spec.proofs.Readers.{bad_not_got, got_value, got_rest}

-- the size that a record states
unfoldable pub stated : Bytes → ℕ
stated s = low (take 4 (drop 2 s))

-- the number that stands in the last four bytes of the record that s begins with
unfoldable pub last_number : Bytes → ℕ
last_number s = low (take 4 (drop (2 + stated s) s))

-- ---- a record by its fields

-- the record that s begins with as it is read: by the reader of its mark, its whole body, with the type that is written behind the fields
pub record Fielded (e : Earlier) (s : Bytes) (x : Typed) : Type 0 where
  pub six : leb 6 (length s) ≡ true
  pub reader : Reader Entry
  pub marked : lookup (untyped_mark (take 2 s)) (marks e) ≡ some reader
  pub fits : leb (stated s) (length (drop 6 s)) ≡ true
  pub read : with_type e (is_typed (get_or s 0 0)) reader (take (stated s) (drop 6 s)) ≡ got x []

module _ {e : Earlier} {s : Bytes} {x : Typed} (t : Fielded e s x) where
  pub header_fits : 6 ≤ length s
  header_fits = leb→le 6 (length s) (rw t.six tt)

  pub body_fits : stated s ≤ length (drop 6 s)
  body_fits = leb→le (stated s) (length (drop 6 s)) (rw t.fits tt)

-- what is made of a body that was read
module _ {A : Type 0} (e : Earlier) (s : Bytes) (make : Read Typed → Read A) where
  -- what is made of the record that s begins with
  abbrev pub made_of : Read A
  made_of =
      elim (leb 6 (length s)) [
        | false ↦ bad 3
        | true ↦ elim (lookup (untyped_mark (take 2 s)) (marks e)) [
          | none ↦ bad 4
          | some reader ↦ elim (leb (stated s) (length (drop 6 s))) [ false ↦ bad 3 | true ↦ make (whole (with_type e (is_typed (get_or s 0 0)) reader (take (stated s) (drop 6 s)))) ]
        ]
      ]

  -- where refusals are kept
  module _ (refuses : (n : ℕ) → make (bad n) ≡ bad n) {a : A} {rest : Bytes} where
    whole_inverse : (x : Read Typed) → make (whole x) ≡ got a rest → (y : Typed) × (x ≡ got y []) × (make (got y []) ≡ got a rest)
    unfolding whole
    whole_inverse (bad n) h = absurd (bad_not_got n a rest (sym (refuses n) ∙ h))
    whole_inverse (got y (c ∷ left)) h = absurd (bad_not_got 5 a rest (sym (refuses 5) ∙ h))
    whole_inverse (got y []) h = (y, refl, h)

    pub made_inverse : made_of ≡ got a rest → (x : Typed) × Fielded e s x × (make (got x []) ≡ got a rest)
    made_inverse h = header (leb 6 (length s)) refl h
      where
        mark : Bytes
        mark = untyped_mark (take 2 s)

        answer : Reader Entry → Read A
        answer reader = make (whole (with_type e (is_typed (get_or s 0 0)) reader (take (stated s) (drop 6 s))))

        body : leb 6 (length s) ≡ true → (reader : Reader Entry) → lookup mark (marks e) ≡ some reader → (b : Bool) → leb (stated s) (length (drop 6 s)) ≡ b
            → elim b as (λ y. Read A) [ false ↦ bad 3 | true ↦ answer reader ] ≡ got a rest → (x : Typed) × Fielded e s x × (make (got x []) ≡ got a rest)
        body l reader m false q h = absurd (bad_not_got 3 a rest h)
        body l reader m true q h =
            let w = whole_inverse _ h in
            (w.0, record { six = l; reader = reader; marked = m; fits = q; read = w.1 }, w.2)

        found : leb 6 (length s) ≡ true → (o : Option (Reader Entry)) → lookup mark (marks e) ≡ o
            → elim o as (λ y. Read A) [ none ↦ bad 4 | some reader ↦ elim (leb (stated s) (length (drop 6 s))) [ false ↦ bad 3 | true ↦ answer reader ] ] ≡ got a rest
            → (x : Typed) × Fielded e s x × (make (got x []) ≡ got a rest)
        found l none q h = absurd (bad_not_got 4 a rest h)
        found l (some reader) q h = body l reader q (leb (stated s) (length (drop 6 s))) refl h

        header : (b : Bool) → leb 6 (length s) ≡ b
            → elim b as (λ y. Read A) [
              | false ↦ bad 3
              | true ↦ elim (lookup mark (marks e)) [ none ↦ bad 4 | some reader ↦ elim (leb (stated s) (length (drop 6 s))) [ false ↦ bad 3 | true ↦ answer reader ] ]
            ] ≡ got a rest
            → (x : Typed) × Fielded e s x × (make (got x []) ≡ got a rest)
        header false q h = absurd (bad_not_got 3 a rest h)
        header true q h = found q (lookup mark (marks e)) refl h

-- ---- a record that check takes

-- the record r that s begins with after the records f, as it was read
pub record Taken (f : TermFile) (s : Bytes) (r : Named) (rest : Bytes) : Type 0 where
  pub entry : Entry
  pub type : Option ℕ
  pub fields : Fielded (earlier f) s (entry, type)
  pub names : named f entry ≡ r
  pub keeps : broken (rules f (written f type) r) ≡ none
  pub left : drop (stated s) (drop 6 s) ≡ rest

module _ (f : TermFile) {r : Named} {rest : Bytes} where
  kept_inverse : (ty : Option Ty) (x : Named) (left : Bytes) → kept f ty x left ≡ got r rest → (broken (rules f ty r) ≡ none) × (x ≡ r) × (left ≡ rest)
  unfolding kept
  kept_inverse ty x left e = from (broken (rules f ty x)) refl e
    where
      from : (o : Option ℕ) → broken (rules f ty x) ≡ o → elim o as (λ y. Read Named) [ none ↦ got x left | some n ↦ bad n ] ≡ got r rest → (broken (rules f ty r) ≡ none) × (x ≡ r) × (left ≡ rest)
      from none q h = let same : x ≡ r = got_value x r left rest h in (ap (λ (y : Named). broken (rules f ty y)) (sym same) ∙ q, same, got_rest x r left rest h)
      from (some n) q h = absurd (bad_not_got n r rest h)

  pub next_inverse : (s : Bytes) → next_record f s ≡ got r rest → Taken f s r rest
  unfolding next_record stated judged
  next_inverse s e =
      let left : Bytes = drop (stated s) (drop 6 s) in
      let m = made_inverse (earlier f) s (judged f left) (λ n. refl) e in
      let k = kept_inverse (written f m.0.1) (named f m.0.0) left m.2 in
      record { entry = m.0.0; type = m.0.1; fields = m.1; names = k.1; keeps = k.0; left = k.2 }

  -- the bytes after a record are those after as many as it states
  pub next_left : (s : Bytes) → next_record f s ≡ got r rest → drop (6 + stated s) s ≡ rest
  next_left s e = sym (drop-drop (stated s) 6 s) ∙ (next_inverse s e).left

  pub next_size : (s : Bytes) → next_record f s ≡ got r rest → 6 + stated s + length rest ≡ length s
  next_size s e =
      let x = (next_inverse s e).fields in
      let left : length (drop (6 + stated s) s) ≡ length rest = ap length (next_left s e) in
      omega (arith, header_fits x, body_fits x, left, length-drop (6 + stated s) s, length-drop 6 s)

  pub next_again : (s : Bytes) → Taken f s r rest → next_record f s ≡ got r rest
  unfolding next_record stated judged whole kept
  next_again s t =
      let x = t.fields in
      rw (next_record, x.six, x.marked, x.fits, x.read, t.names, kept, t.keeps, t.left) (ap (λ (y : Named). got y rest) t.names)

-- ---- a record by its bytes

-- a mark of two bytes, four for the size and as many as it states, whatever follows
module _ (a b : ℕ) (z p q : Bytes) (four : length z ≡ 4) (size : length p ≡ low z) where
  abbrev laid : Bytes
  laid = (a ∷ b ∷ (z ++ p)) ++ q

  apart : drop 2 laid ≡ z ++ (p ++ q)
  apart = append_assoc z p q

  behind : drop 6 laid ≡ p ++ q
  behind = ap (drop 4) apart ∙ drop_at z (p ++ q) 4 four

  laid_states : stated laid ≡ low z
  unfolding stated
  laid_states = ap (λ (t : Bytes). low (take 4 t)) apart ∙ ap low (take_at z (p ++ q) 4 four)

  laid_left : drop (stated laid) (drop 6 laid) ≡ q
  laid_left = (λ i. drop (laid_states i) (behind i)) ∙ drop_at p q (low z) size

  laid_fielded : {e : Earlier} {x : Typed} (reader : Reader Entry) → lookup (untyped a ∷ b ∷ []) (marks e) ≡ some reader → with_type e (is_typed a) reader p ≡ got x [] → Fielded e laid x
  unfolding untyped_mark
  laid_fielded {e} reader m h = record {
    six = le-leb 6 (length laid) (omega (arith, four, length-append (z ++ p) q, length-append z p));
    reader = reader;
    marked = m;
    fits = rw (laid_states, behind) (le-leb (low z) (length (p ++ q)) (omega (arith, size, length-append p q)));
    read = ap (with_type e (is_typed a) reader) ((λ i. take (laid_states i) (behind i)) ∙ take_at p q (low z) size) ∙ h;
  }

-- the record that s begins with, with the first byte a and the size z
unfoldable pub fronted : ℕ → Bytes → Bytes → Bytes
fronted a z s = a ∷ get_or s 1 0 ∷ (z ++ take (low z) (drop 6 s))

-- a record that check takes
module _ (f : TermFile) (s : Bytes) {r : Named} {rest : Bytes} (t : Taken f s r rest) where
  -- is taken for the same with another front, if the fields are read the same and the rules are kept, whatever follows
  pub next_fronted : (a : ℕ) (z : Bytes) (type : Option ℕ) → untyped a ≡ untyped (get_or s 0 0) → length z ≡ 4 → low z ≤ stated s
      → with_type (earlier f) (is_typed a) t.fields.reader (take (low z) (drop 6 s)) ≡ got (t.entry, type) [] → broken (rules f (written f type) r) ≡ none → (q : Bytes) → next_record f (fronted a z s ++ q) ≡ got r q
  unfolding fronted untyped_mark
  next_fronted a z type same four le read keeps q =
      let b = get_or s 1 0 in
      let p : Bytes = take (low z) (drop 6 s) in
      let size : length p ≡ low z = length-take-le (low z) (drop 6 s) (omega (arith, le, body_fits t.fields)) in
      let mark : untyped_mark (take 2 s) ≡ untyped a ∷ b ∷ [] = ap untyped_mark (take_two s (omega (arith, header_fits t.fields))) ∙ ap (λ (n : ℕ). n ∷ b ∷ []) (sym same) in
      next_again f (fronted a z s ++ q)
      record {
        entry = t.entry;
        type = type;
        fields = laid_fielded a b z p q four size t.fields.reader (ap (λ (m : Bytes). lookup m (marks (earlier f))) (sym mark) ∙ t.fields.marked) read;
        names = t.names;
        keeps = keeps;
        left = laid_left a b z p q four size;
      }

  -- so it is as it stands
  pub next_alone : (q : Bytes) → next_record f (take (6 + stated s) s ++ q) ≡ got r q
  unfolding stated fronted
  next_alone q =
      let z : Bytes = take 4 (drop 2 s) in
      let two : take 2 s ≡ get_or s 0 0 ∷ get_or s 1 0 ∷ [] = take_two s (omega (arith, header_fits t.fields)) in
      let parts : take (6 + stated s) s ≡ fronted (get_or s 0 0) z s = take-add 6 (stated s) s ∙ ap (λ (l : Bytes). l ++ take (stated s) (drop 6 s)) (take-add 2 4 s ∙ ap (λ (l : Bytes). l ++ z) two) in
      let four : length z ≡ 4 = length-take-le 4 (drop 2 s) (omega (arith, header_fits t.fields, length-drop 2 s)) in
      ap (λ (l : Bytes). next_record f (l ++ q)) parts ∙ next_fronted (get_or s 0 0) z t.type refl four (omega arith) t.fields.read t.keeps q

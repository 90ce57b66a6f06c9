-- Laws of marks: bytes that are no mark, and kinds that have one.
-- Assumes nothing.
use mathlib.Core.Path.{◌≡◌, refl, ap}
use Prim.Native.Nat.{ℕ}
use mathlib.Core.Bool.{true, false, ◌&&◌}
use borrow.Author.Tests.{ne_eqb}
use lib.Dec.{eqb}
use mathlib.Core.List.{List, [], ◌∷◌}
use mathlib.Core.Option.{none}
use Rattle.std.specs.Prelude.{None, Some}
use Rattle.script_spec.specs.Base.{Bytes, bytes, same, any, firsts, lookup, is_some}
use Rattle.script_spec.specs.Fields.{Earlier, marks}
use Rattle.script_spec.proofs.Laws.{or_false}
use Rattle.read_record.specs.Marks.{mark, MarkedAs, Marked, reader_of}
use Rattle.read_record.specs.declared.mark.Kind.{Kind}
use Rattle.read_record.specs.declared.mark.Kind.TheVariants as kind

-- a table whose texts all differ from s has nothing for s
lookup_none : {A : Type 0} (s : Bytes) (t : List (Bytes × A)) → any (same s) (firsts t) ≡ false → lookup s t ≡ none
unfolding lookup any firsts
lookup_none s [] h = refl
lookup_none s (p ∷ ps) h = let q = or_false (same s p.0) (any (same s) (firsts ps)) h in rw (lookup, q.0) (lookup_none s ps q.1)

-- the marks, as the table of readers lists them
unfoldable pub names : List Bytes
names = bytes "TB" ∷ bytes "TS" ∷ bytes "TV" ∷ bytes "TO" ∷ bytes "TC" ∷ bytes "TE" ∷ bytes "TX" ∷ bytes "TR" ∷ bytes "EN" ∷ bytes "UF" ∷ bytes "XV" ∷ bytes "XB" ∷ bytes "XN" ∷ bytes "XS" ∷ bytes "XE" ∷ bytes "XX" ∷ bytes "X0" ∷ bytes "X1" ∷ bytes "XC" ∷ bytes "XR" ∷ bytes "XA" ∷ bytes "IN" ∷ []

names_marks : (e : Earlier) → firsts (marks e) ≡ names
unfolding firsts marks names
names_marks e = refl

pub unmarked : (s : Bytes) → any (same s) names ≡ false → (e : Earlier) → lookup s (marks e) ≡ none
unmarked s h e = lookup_none s (marks e) (rw (names_marks e) h)

-- x is none of these numbers
abbrev pub NoneOf : List ℕ → ℕ → Type 0
NoneOf [] x = Unit {0}
NoneOf (y ∷ ys) x = NoneOf ys x × (x ≡ y → ⊥)

-- marks with the same first byte as two bytes, by their second bytes, which are all others
pub other_second : (b : ℕ) (ys : List ℕ) → NoneOf ys b → any (λ y. eqb b y && true) ys ≡ false
unfolding any
other_second b [] h = refl
other_second b (y ∷ ys) h = rw (any, ne_eqb b y h.1) (other_second b ys h.0)

-- x begins none of these texts
abbrev pub BeginsNone : List Bytes → ℕ → Type 0
BeginsNone [] x = Unit {0}
BeginsNone ([] ∷ ms) x = BeginsNone ms x
BeginsNone ((y ∷ m) ∷ ms) x = BeginsNone ms x × (x ≡ y → ⊥)

pub other_first : (a : ℕ) (s : Bytes) (ms : List Bytes) → BeginsNone ms a → any (same (a ∷ s)) ms ≡ false
unfolding any same
other_first a s [] h = refl
other_first a s ([] ∷ ms) h = other_first a s ms h
other_first a s ((y ∷ m) ∷ ms) h = rw (any, same, ne_eqb a y h.1) (other_first a s ms h.0)

-- the reader of a kind is the one that the table has for the bytes
pub lookup_kind : (s : Bytes) (k : Kind) (e : Earlier) → Marked s (Some k) → lookup s (marks e) ≡ reader_of e k
unfolding MarkedAs reader_of
lookup_kind s k e h = ap (λ (m : Bytes). lookup m (marks e)) h.is

-- bytes of no kind have none
pub lookup_no_kind : (s : Bytes) (e : Earlier) → Marked s None → lookup s (marks e) ≡ none
unfolding MarkedAs
lookup_no_kind s e h = h.is e

-- every kind has a reader
pub known_kind : (k : Kind) (e : Earlier) → is_some (reader_of e k) ≡ true
unfolding reader_of mark marks lookup same bytes is_some
known_kind kind.TB e = refl
known_kind kind.TS e = refl
known_kind kind.TV e = refl
known_kind kind.TO e = refl
known_kind kind.TC e = refl
known_kind kind.TE e = refl
known_kind kind.TX e = refl
known_kind kind.TR e = refl
known_kind kind.EN e = refl
known_kind kind.UF e = refl
known_kind kind.XV e = refl
known_kind kind.XB e = refl
known_kind kind.XN e = refl
known_kind kind.XS e = refl
known_kind kind.XE e = refl
known_kind kind.XX e = refl
known_kind kind.X0 e = refl
known_kind kind.X1 e = refl
known_kind kind.XC e = refl
known_kind kind.XR e = refl
known_kind kind.XA e = refl
known_kind kind.IN e = refl

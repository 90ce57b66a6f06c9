-- Sets listed in any order: two listings get one name, and the script keeps the one that the encoder meets first. By computation.
-- Assumes nothing.
use Prim.Native.Nat.{ℕ}
use Prim.Native.String.{String}
use mathlib.Core.Path.{◌≡◌, refl}
use mathlib.Core.List.{List, [], ◌∷◌, ◌++◌}
use Rattle.script_spec.specs.Base.{Bytes, Answer, accepted, refused}
use Rattle.script_spec.specs.Walk.{encoded}
use Rattle.script_spec.proofs.Computes
use Rattle.script_examples.proofs.Records
use Rattle.script_examples.proofs.Records.{u32, text, refs, rec, file, bool, var, app, input}
use Rattle.script_examples.proofs.Lines.{lines, after_option}

-- opens what the proofs below compute with
computes : Unit {0}
unfolding Records.computes lines after_option Computes.base Computes.utf8 Computes.tree Computes.fields Computes.file Computes.text Computes.command Computes.spelling Computes.walk Computes.listing
computes = tt

-- the answer of encode
abbrev pub answer : List Bytes → Answer Bytes
answer rs = encoded (file rs) 16384 65536

-- Bool, String, sets of strings (types 0, 1, 2); variables a and b of type String (terms 0 and 1)
abbrev pub start : List Bytes
start = bool ∷ rec "TS" [] ∷ rec "TC" (u32 1 ∷ []) ∷ var "a" 1 ∷ var "b" 1 ∷ []

-- a set of strings
abbrev pub set : List ℕ → Bytes
set ns = rec "XC" (u32 1 ∷ refs ns ∷ [])

-- what the scripts of these files have in common
abbrev pub declared : List String → Bytes
declared ls = after_option ("; \"a\"" ∷ "(declare-const t0 String)" ∷ "; \"b\"" ∷ "(declare-const t1 String)" ∷ ls)

-- a set and the same in another order, compared: one name, the listing of the first
pub two_listings : answer (start ++ (set (0 ∷ 1 ∷ []) ∷ set (1 ∷ 0 ∷ []) ∷ app 0 20 [] (2 ∷ 3 ∷ []) ∷ input 4 ∷ [])) ≡ accepted (declared
    ("(define-fun t2 () (Set String) (set.insert t0 t1 (as set.empty (Set String))))"
    ∷ "(define-fun t3 () Bool (= t2 t2))"
    ∷ "(assert t3)"
    ∷ []))
unfolding computes
two_listings = refl

-- The listing kept is the one that the encoder meets first and not the one that stands first in the file: the input that comes first
-- uses the later record. Nested in an option, the other listing gives the same term, so the two inputs are one term asserted twice.
pub met_first : answer (start ++ (set (0 ∷ 1 ∷ []) ∷ set (1 ∷ 0 ∷ []) ∷ rec "TO" (u32 2 ∷ []) ∷ rec "X1" (u32 2 ∷ []) ∷ rec "X1" (u32 3 ∷ []) ∷ app 0 20 [] (5 ∷ 5 ∷ []) ∷ app 0 20 [] (4 ∷ 5 ∷ []) ∷ input 6 ∷ input 7 ∷ [])) ≡ accepted (after_option
    ("; \"b\""
    ∷ "(declare-const t0 String)"
    ∷ "; \"a\""
    ∷ "(declare-const t1 String)"
    ∷ "(define-fun t2 () (Set String) (set.insert t0 t1 (as set.empty (Set String))))"
    ∷ "(define-fun t3 () (Option (Set String)) (some t2))"
    ∷ "(define-fun t4 () Bool (= t3 t3))"
    ∷ "(assert t4)"
    ∷ "(assert t4)"
    ∷ []))
unfolding computes
met_first = refl

-- sets of sets: {{a, b}, {a}} and {{a}, {b, a}} are one set
pub nested : answer (start ++ (rec "TC" (u32 2 ∷ []) ∷ set (0 ∷ 1 ∷ []) ∷ set (0 ∷ []) ∷ set (1 ∷ 0 ∷ []) ∷ rec "XC" (u32 2 ∷ refs (2 ∷ 3 ∷ []) ∷ []) ∷ rec "XC" (u32 2 ∷ refs (3 ∷ 4 ∷ []) ∷ []) ∷ app 0 20 [] (5 ∷ 6 ∷ []) ∷ input 7 ∷ [])) ≡ accepted (declared
    ("(define-fun t2 () (Set String) (set.insert t0 t1 (as set.empty (Set String))))"
    ∷ "(define-fun t3 () (Set String) (set.insert t0 (as set.empty (Set String))))"
    ∷ "(define-fun t4 () (Set (Set String)) (set.insert t2 t3 (as set.empty (Set (Set String)))))"
    ∷ "(define-fun t5 () Bool (= t4 t4))"
    ∷ "(assert t5)"
    ∷ []))
unfolding computes
nested = refl

-- each set keeps its own listing: the outer set is met as {{a, b}, {a}}, but {b, a} was met before, so that no record spells the script's
pub each_by_itself : answer (start ++ (rec "TC" (u32 2 ∷ []) ∷ set (1 ∷ 0 ∷ []) ∷ set (0 ∷ 1 ∷ []) ∷ set (0 ∷ []) ∷ rec "XC" (u32 2 ∷ refs (3 ∷ 4 ∷ []) ∷ []) ∷ input 2 ∷ input 5 ∷ [])) ≡ accepted (after_option
    ("; \"b\""
    ∷ "(declare-const t0 String)"
    ∷ "; \"a\""
    ∷ "(declare-const t1 String)"
    ∷ "(define-fun t2 () (Set String) (set.insert t0 t1 (as set.empty (Set String))))"
    ∷ "(define-fun t3 () (Set String) (set.insert t1 (as set.empty (Set String))))"
    ∷ "(define-fun t4 () (Set (Set String)) (set.insert t2 t3 (as set.empty (Set (Set String)))))"
    ∷ "(assert t2)"
    ∷ "(assert t4)"
    ∷ []))
unfolding computes
each_by_itself = refl

-- a set under the `false` of a `Bvnego` is not met: the listing after it is kept
pub not_met : answer (start ++ (set (0 ∷ 1 ∷ []) ∷ set (1 ∷ 0 ∷ []) ∷ app 0 5 [] (2 ∷ []) ∷ input 4 ∷ input 3 ∷ [])) ≡ accepted (after_option
    ("; \"b\""
    ∷ "(declare-const t1 String)"
    ∷ "; \"a\""
    ∷ "(declare-const t2 String)"
    ∷ "(define-fun t3 () (Set String) (set.insert t1 t2 (as set.empty (Set String))))"
    ∷ "(assert false)"
    ∷ "(assert t3)"
    ∷ []))
unfolding computes
not_met = refl

-- a set whose elements are one set in two listings has equal elements: refused 9, at its record
pub equal_elements : answer (start ++ (rec "TC" (u32 2 ∷ []) ∷ set (0 ∷ 1 ∷ []) ∷ set (1 ∷ 0 ∷ []) ∷ rec "XC" (u32 2 ∷ refs (2 ∷ 3 ∷ []) ∷ []) ∷ [])) ≡ refused 9 8 0
unfolding computes
equal_elements = refl

-- the place of a refusal is the first record that is equal to the refused term, in whatever listing: the get on a set stands in two listings
pub refused_first : answer (start ++ (set (0 ∷ 1 ∷ []) ∷ set (1 ∷ 0 ∷ []) ∷ app 0 26 (text "x") (2 ∷ []) ∷ app 0 26 (text "x") (3 ∷ []) ∷ input 5 ∷ [])) ≡ refused 18 7 0
unfolding computes
refused_first = refl

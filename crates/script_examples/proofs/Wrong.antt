-- Scripts that are not faithful: what demand 3 rules out, each by a small file and a script written as text that is wrong in one
-- place. By what the bytes of a faithful script give away (`Inversion`).
-- Assumes nothing.
use Prim.Native.Nat.{ℕ, ◌≤◌}
use Prim.Native.String.{String}
use native.Mathlib.Omega.{arith}
use mathlib.Core.Path.{◌≡◌, refl, sym, ap, ◌∙◌, subst}
use mathlib.Core.List.Memᴰ
use mathlib.Core.List.{List, [], ◌∷◌, ◌++◌, map, tail, nil≢cons}
use mathlib.Core.Option
use mathlib.Core.Option.{some}
use lib.Dec.{T, eqb}
use lib.ListN.{length, get_or, get_elem?, drop}
use Rattle.script_spec.specs.Base.{Bytes, bytes, any, collect}
use Rattle.script_spec.specs.Tree.{Tm, node, nil, forest, Var, Set, And, Eq, Not}
use Rattle.script_spec.specs.File.{TermFile, type, term, input, members, inputs}
use Rattle.script_spec.specs.Listing.{sets_of, listed, as_listed}
use Rattle.script_spec.specs.Smtlib.{word, commands_of}
use Rattle.script_spec.specs.Faithful.{Faithful, Says, full, is_input, is_child, also, every}
use Rattle.script_spec.proofs.Asked.{bool, apply}
use Rattle.script_spec.proofs.Computes
use Rattle.script_spec.proofs.Laws.{any_left, any_right}
use Rattle.script_examples.proofs.Lines.{lines, after_option}
use Rattle.script_examples.proofs.Readings
use Rattle.script_examples.proofs.Readings.{assertion_read}
use Rattle.script_examples.proofs.Inversion.{bool_set, simple, simple_type, names_unique, assertions_count, bare_of, unfolded_of, order_of, terms_fit}

-- ---- terms and files

-- a variable of type Bool
abbrev pub var : String → Tm
var id = node (Var (bytes id) bool) nil

-- two variables, and terms of them
abbrev pub a : Tm
a = var "a"

abbrev pub b : Tm
b = var "b"

abbrev pub not_a : Tm
not_a = apply Not (a ∷ [])

abbrev pub a_and_b : Tm
a_and_b = apply And (a ∷ b ∷ [])

abbrev pub a_equals_b : Tm
a_equals_b = apply Eq (a ∷ b ∷ [])

-- a set of these terms
abbrev pub set : List Tm → Tm
set ts = node (Set bool) (forest ts)

-- the set of the two variables, listed one way and the other
abbrev pub a_b : Tm
a_b = set (a ∷ b ∷ [])

abbrev pub b_a : Tm
b_a = set (b ∷ a ∷ [])

-- one input: not a
abbrev pub negation : TermFile
negation = type bool ∷ term a ∷ term not_a ∷ input not_a ∷ []

-- two inputs: a, and not a
abbrev pub contradiction : TermFile
contradiction = type bool ∷ term a ∷ term not_a ∷ input a ∷ input not_a ∷ []

-- one input: a and b
abbrev pub conjunction : TermFile
conjunction = type bool ∷ term a ∷ term b ∷ term a_and_b ∷ input a_and_b ∷ []

-- one input: a equals b
abbrev pub equality : TermFile
equality = type bool ∷ term a ∷ term b ∷ term a_equals_b ∷ input a_equals_b ∷ []

-- two inputs: b, which tells the variables' names apart, and the set listed [b a]; a record before that one, which no input needs, lists
-- it [a b]
abbrev pub spare_listing : TermFile
spare_listing = type bool ∷ type bool_set ∷ term a ∷ term b ∷ term a_b ∷ term b_a ∷ input b ∷ input b_a ∷ []

-- two inputs: the set listed [a b], and the same listed [b a]
abbrev pub both_listings : TermFile
both_listings = type bool ∷ type bool_set ∷ term a ∷ term b ∷ term a_b ∷ term b_a ∷ input a_b ∷ input b_a ∷ []

-- ---- the wrong scripts

-- nothing at all, for any file
pub nothing_written : (f : TermFile) → Faithful f [] → ⊥
unfolding Computes.smtlib Computes.faithful
nothing_written f h = nil≢cons h.commands

-- the Option lines alone, for any file with an input
pub option_alone : (f : TermFile) (t : Tm) (ts : List Tm) → inputs f ≡ t ∷ ts → Faithful f (after_option []) → ⊥
unfolding lines after_option as_listed Readings.computes Computes.base Computes.smtlib Computes.faithful
option_alone f t ts i h =
    let k : 0 ≡ length (map (listed (sets_of (inputs f))) (inputs f)) = assertions_count h in
    let l : 0 ≡ length (map (listed (sets_of (inputs f))) (t ∷ ts)) = k ∙ ap (λ (us : List Tm). length (map (listed (sets_of (inputs f))) us)) i in
    omega arith

-- so for the file of one negation
pub option_alone_negation : Faithful negation (after_option []) → ⊥
unfolding Computes.base Computes.file
option_alone_negation = option_alone negation not_a [] refl

-- a bare `true`, for any file: the input in its place is spelled `true`
pub bare_true : (f : TermFile) (s : Bytes) (h : Says (members f) (as_listed (inputs f)) (commands_of s)) (k : ℕ) → get_elem? (collect assertion_read (tail (commands_of s))) k ≡ some (word (bytes "true") ∷ [])
    → Option.map (full (members f) h.names) (get_elem? (as_listed (inputs f)) k) ≡ some (bytes "true")
unfolding Computes.base Computes.smtlib Computes.faithful
bare_true f s h k p = bare_of h (bytes "true") tt k p

-- opens what the proofs below compute with
computes : Unit {0}
unfolding lines after_option simple simple_type Readings.computes Computes.base Computes.tree Computes.file Computes.listing Computes.command Computes.spelling Computes.smtlib Computes.faithful
computes = tt

-- the first input right, and a bare assertion for the second
pub bare_assertion : Faithful contradiction (after_option
    ("(declare-const t0 Bool)"
    ∷ "(define-fun t1 () Bool (not t0))"
    ∷ "(assert t0)"
    ∷ "(assert true)"
    ∷ [])) → ⊥
unfolding computes
bare_assertion h = let k : ◌≡◌ {A = ℕ} 116 40 = ap (λ (l : List Bytes). get_or (get_or l 1 []) 0 0) (unfolded_of h tt) in omega arith

-- two unlike variables under one name
pub one_name : Faithful equality (after_option
    ("(declare-const t0 Bool)"
    ∷ "(define-fun t1 () Bool (= t0 t0))"
    ∷ "(assert t1)"
    ∷ [])) → ⊥
unfolding computes
one_name h =
    let input = is_input (Memᴰ.head refl) in
    let k : 3 ≤ 2 = terms_fit h (a ∷ b ∷ a_equals_b ∷ []) tt
    (also (is_child input tt (Memᴰ.head refl), tt) (also (is_child input tt (Memᴰ.tail (Memᴰ.head refl)), tt) (also (input, tt) every))) in
    omega arith

-- the same with a command for each of them
pub one_name_twice : Faithful equality (after_option
    ("(declare-const t0 Bool)"
    ∷ "(declare-const t0 Bool)"
    ∷ "(define-fun t1 () Bool (= t0 t0))"
    ∷ "(assert t1)"
    ∷ [])) → ⊥
unfolding computes
one_name_twice h = names_unique h

-- a needed variable that is not declared
pub undeclared : Faithful negation (after_option
    ("(define-fun t1 () Bool (not t0))"
    ∷ "(assert t1)"
    ∷ [])) → ⊥
unfolding computes
undeclared h = order_of h tt

-- a definition that drops a condition
pub condition_dropped : Faithful conjunction (after_option
    ("(declare-const t0 Bool)"
    ∷ "(declare-const t1 Bool)"
    ∷ "(define-fun t2 () Bool (and t0))"
    ∷ "(assert t2)"
    ∷ [])) → ⊥
unfolding computes
condition_dropped h =
    subst (λ (l : List Bytes). T (any (eqb 32) (drop 5 (get_or l 0 [])))) (sym (unfolded_of h tt))
    (any_left (eqb 32) (h.names.term a ++ (32 ∷ h.names.term b)) (41 ∷ []) (any_right (eqb 32) (h.names.term a) (32 ∷ h.names.term b) tt))

-- an assertion too many
pub extra_assertion : Faithful negation (after_option
    ("(declare-const t0 Bool)"
    ∷ "(define-fun t1 () Bool (not t0))"
    ∷ "(assert t1)"
    ∷ "(assert t0)"
    ∷ [])) → ⊥
unfolding computes
extra_assertion h = let k : ◌≡◌ {A = ℕ} 2 1 = assertions_count h in omega arith

-- a name used before its command
pub used_before : Faithful negation (after_option
    ("(define-fun t1 () Bool (not t0))"
    ∷ "(declare-const t0 Bool)"
    ∷ "(assert t1)"
    ∷ [])) → ⊥
unfolding computes
used_before h = order_of h tt

-- a definition that uses its own name
pub used_in_itself : Faithful negation (after_option
    ("(declare-const t0 Bool)"
    ∷ "(define-fun t1 () Bool (not t1))"
    ∷ "(assert t1)"
    ∷ [])) → ⊥
unfolding computes
used_in_itself h = order_of h tt

-- a set listed as the file does first, and not as the encoder meets it first
pub listed_in_file_order : Faithful spare_listing (after_option
    ("(declare-const t0 Bool)"
    ∷ "(declare-const t1 Bool)"
    ∷ "(define-fun t2 () (Set Bool) (set.insert t1 t0 (as set.empty (Set Bool))))"
    ∷ "(assert t0)"
    ∷ "(assert t2)"
    ∷ [])) → ⊥
unfolding computes
listed_in_file_order h =
    let p = unfolded_of h tt in
    let b_named : h.names.term b ≡ bytes "t0" = sym (ap (λ (l : List Bytes). get_or l 0 []) p) in
    let digit : Bytes → ℕ = λ n. get_or ((n ++ (32 ∷ (h.names.term a ++ bytes " (as set.empty (Set Bool))"))) ++ (41 ∷ [])) 1 0 in
    let k : ◌≡◌ {A = ℕ} 49 48 = ap (λ (l : List Bytes). get_or (get_or l 1 []) 13 0) p ∙ ap digit b_named in
    omega arith

-- a name for each listing of one set
pub listed_twice : Faithful both_listings (after_option
    ("(declare-const t0 Bool)"
    ∷ "(declare-const t1 Bool)"
    ∷ "(define-fun t2 () (Set Bool) (set.insert t0 t1 (as set.empty (Set Bool))))"
    ∷ "(define-fun t3 () (Set Bool) (set.insert t1 t0 (as set.empty (Set Bool))))"
    ∷ "(assert t2)"
    ∷ "(assert t3)"
    ∷ [])) → ⊥
unfolding computes
listed_twice h =
    let p = unfolded_of h tt in
    let k : ◌≡◌ {A = ℕ} 48 49 = ap (λ (l : List Bytes). get_or (get_or l 0 []) 13 0) p ∙ sym (ap (λ (l : List Bytes). get_or (get_or l 1 []) 13 0) p) in
    omega arith

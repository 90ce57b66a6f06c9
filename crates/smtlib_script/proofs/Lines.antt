-- The line of each command as the pieces that it is written by.
-- Assumes nothing.
use Prim.Native.Nat.{◌<◌}
use native.Mathlib.Nat.{not-suc-le-zero}
use native.Mathlib.Omega.{arith}
use mathlib.Core.Path.{◌≡◌, refl, ◌∙◌}
use mathlib.Core.Bool.{true, false, true≢false, false≢true}
use mathlib.Core.List.{List, [], ◌∷◌, ◌++◌, append_assoc, map}
use lib.ListN.{length, get_or}
use lib.Dec.{eqb}
use borrow.Author.Tests.{ne_eqb}
use denote.Ref.{Bor}
use Rattle.script_spec.specs.Base.{Bytes, bytes, empty, joined}
use Rattle.script_spec.specs.Text.{one_line}
use Rattle.script_spec.specs.Command.{line, spelled, headed, listed, spaced, constructor_list, datatype_body, comment, declare_datatype, declare_const, declare_fun, define_fun, assert_that, set_logic, set_option}

pub line_comment : (s : Bytes) → bytes "; " ++ (one_line s ++ bytes "\n") ≡ line (comment s)
unfolding line spelled bytes
line_comment s = refl

pub line_declare_const : (n t : Bytes) → bytes "(declare-const " ++ (spaced (n ∷ t ∷ []) ++ bytes ")\n") ≡ line (declare_const n t)
unfolding line spelled headed bytes
line_declare_const n t = simp append_assoc

pub line_declare_fun : (n : Bytes) (ts : List Bytes) (t : Bytes)
    → bytes "(declare-fun " ++ (n ++ (bytes " " ++ (listed ts ++ (bytes " " ++ (t ++ bytes ")\n"))))) ≡ line (declare_fun n ts t)
unfolding line spelled headed bytes spaced joined
line_declare_fun n ts t = simp append_assoc

pub line_define_fun : (n : Bytes) (ps : List (Bytes × Bytes)) (t b : Bytes)
    → bytes "(define-fun " ++ (n ++ (bytes " " ++ (listed (map (λ p. listed (p.0 ∷ p.1 ∷ [])) ps) ++ (bytes " " ++ (spaced (t ∷ b ∷ []) ++ bytes ")\n"))))) ≡ line (define_fun n ps t b)
unfolding line spelled headed bytes spaced joined
line_define_fun n ps t b = simp append_assoc

pub line_assert : (b : Bytes) → bytes "(assert " ++ (b ++ bytes ")\n") ≡ line (assert_that b)
unfolding line spelled headed bytes spaced joined
line_assert b = simp append_assoc

pub line_set_logic : (l : Bytes) → bytes "(set-logic " ++ (l ++ bytes ")\n") ≡ line (set_logic l)
unfolding line spelled headed bytes spaced joined
line_set_logic l = simp append_assoc

pub line_set_option : (o v : Bytes) → bytes "(set-option " ++ (bytes ":" ++ (spaced (o ∷ v ∷ []) ++ bytes ")\n")) ≡ line (set_option o v)
unfolding line spelled headed bytes spaced joined
line_set_option o v = simp append_assoc

-- ---- datatypes

empty_length : (s : Bytes) → eqb (length s) 0 ≡ empty s
unfolding empty
empty_length [] = refl
empty_length (b ∷ s) = ne_eqb (length (b ∷ s)) 0 (λ (e : length (b ∷ s) ≡ 0). absurd (omega arith))

-- a lent list of texts that is written as nothing
pub blank_none : (ts : List (Bor Bytes)) → length ts ≡ 0 → true ≡ empty (spaced (map (λ x. x.now) ts))
unfolding spaced joined empty
blank_none [] h = refl
blank_none (t ∷ ts) h = absurd (omega arith)

pub blank_one : (ts : List (Bor Bytes)) → length ts ≡ 1 → eqb (length (get_or ts 0 (record { ref_ptr = (0, 0); now = [] })).now) 0 ≡ empty (spaced (map (λ x. x.now) ts))
unfolding spaced joined
blank_one [] h = absurd (omega arith)
blank_one (t ∷ []) h = empty_length t.now
blank_one (t ∷ u ∷ ts) h = absurd (omega arith)

pub blank_more : (ts : List (Bor Bytes)) → 1 < length ts → false ≡ empty (spaced (map (λ x. x.now) ts))
unfolding spaced joined empty bytes
blank_more [] h = absurd (not-suc-le-zero h)
blank_more (t ∷ []) h = absurd (omega arith)
blank_more (t ∷ u ∷ ts) h = go t.now
  where
    go : (s : Bytes) → false ≡ empty (s ++ (32 ∷ joined (bytes " ") (u.now ∷ map (λ x. x.now) ts)))
    go [] = refl
    go (b ∷ s) = refl

pub body_plain : (s : Bytes) (cs : List Bytes) → empty s ≡ true → constructor_list cs ≡ datatype_body s cs
unfolding datatype_body empty
body_plain [] cs h = refl
body_plain (b ∷ s) cs h = absurd (false≢true h)

parametric : (s c : Bytes) → empty s ≡ false → bytes "(par " ++ ((bytes "(" ++ (s ++ bytes ")")) ++ (bytes " " ++ (c ++ bytes ")"))) ≡ headed (bytes "par") ((bytes "(" ++ (s ++ bytes ")")) ∷ c ∷ [])
unfolding headed bytes spaced joined
parametric s c h = simp append_assoc

parametric_body : (s : Bytes) (cs : List Bytes) → empty s ≡ false → headed (bytes "par") ((bytes "(" ++ (s ++ bytes ")")) ∷ constructor_list cs ∷ []) ≡ datatype_body s cs
unfolding datatype_body empty
parametric_body [] cs h = absurd (true≢false h)
parametric_body (b ∷ s) cs h = refl

pub body_parametric : (ps cs : List Bytes) → empty (spaced ps) ≡ false → bytes "(par " ++ (listed ps ++ (bytes " " ++ (constructor_list cs ++ bytes ")"))) ≡ datatype_body (spaced ps) cs
unfolding listed
body_parametric ps cs h = parametric (spaced ps) (constructor_list cs) h ∙ parametric_body (spaced ps) cs h

pub line_declare_datatype : (n : Bytes) (ps cs : List Bytes) → bytes "(declare-datatype " ++ (n ++ (bytes " " ++ (datatype_body (spaced ps) cs ++ bytes ")\n"))) ≡ line (declare_datatype n ps cs)
unfolding line spelled headed bytes spaced joined
line_declare_datatype n ps cs = simp append_assoc

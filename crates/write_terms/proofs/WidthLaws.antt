-- The argument of a comparison has at most 128 bits: its type stands in the file.
-- Assumes nothing.
use mathlib.Core.Path.{◌≡◌, ap, ◌∙◌, subst}
use mathlib.Core.Bool.{Bool, true, false}
use mathlib.Core.List.{List, [], ◌∷◌, map}
use Prim.Native.Nat.{ℕ, ◌<◌, ◌≤◌}
use lib.ListN.{length}
use Rattle.script_spec.specs.Base.{Bytes, is_yes}
use Rattle.script_spec.specs.Tree.{Ty, Mark, Forest, TypeMark, TermMark, node, nil, cons, forest, Bool·, String·, Option·, Set·, BitVec·, Declared, App, Plain, Bvnego, type_of, types_of, mark_dec, Negation, ordinary, comparison, negation_over, negation_with, negation}
use Rattle.script_spec.specs.File.{TermFile, types, terms, term_at, type_at}
use Rattle.script_spec.proofs.Laws.{never}
use Rattle.index.specs.First.{All, Below}
use Rattle.index.specs.Meaning.{Rows}
use Rattle.index_entry.proofs.Rows.{type_stands}
use Rattle.write_atoms.proofs.Sound.{Sound, TypeSound, sound_at}
use Rattle.write_atoms.specs.Records.{TermIs}

-- a bit vector type
over_bits : (m : TypeMark) (w : ℕ) → negation_over m ≡ comparison w → m ≡ BitVec· w
unfolding negation_over
over_bits Bool· w h = never (cc)
over_bits String· w h = never (cc)
over_bits Option· w h = never (cc)
over_bits Set· w h = never (cc)
over_bits (BitVec· n) w h = cc
over_bits (Declared d) w h = never (cc)

by_test : (b : Bool) (z : Negation) (w : ℕ) → elim b as (λ x. Negation) [ true ↦ z | false ↦ ordinary ] ≡ comparison w → z ≡ comparison w
by_test true z w h = h
by_test false z w h = never (cc)

negation_types : (m : Mark) (ts : Forest Mark) (w : ℕ) → negation (node m ts) ≡ comparison w → negation_with (types_of ts) ≡ comparison w
unfolding negation
negation_types m ts w h = by_test (is_yes (mark_dec m (App (node Bool· nil) (Plain Bvnego)))) (negation_with (types_of ts)) w h

-- the width of a type of the file
type_small : {file : Bytes} {f : TermFile} {work : List ℕ} {k t w : ℕ} {ps : Forest TypeMark} → Rows file f work k → t < length (types f) → type_at f t ≡ node (BitVec· w) ps → w ≤ 128
unfolding Sound TypeSound
type_small {file} {t = t} {w = w} I l e =
    type_stands (I.type_row t l).stands (λ m rs reads below tree.
    let is : m ≡ BitVec· w = cc in
    subst TypeSound is (sound_at file _ _ reads))

-- one argument
one_argument : {P : Type 0} (ty : Ty) (w : ℕ) → negation_with (cons ty nil) ≡ comparison w → ((ps : Forest TypeMark) → ty ≡ node (BitVec· w) ps → P) → P
unfolding negation_with
one_argument (node m ps) w h next = next ps (ap (λ (m : TypeMark). node m ps) (over_bits m w h))

-- more arguments
more_arguments : (t u : Ty) (us : Forest TypeMark) (w : ℕ) → negation_with (cons t (cons u us)) ≡ comparison w → ◌≡◌ {A = ℕ} 0 1
unfolding negation_with
more_arguments (node m ps) u us w h = cc

children_small : {file : Bytes} {f : TermFile} {work : List ℕ} {k w : ℕ} → Rows file f work k → (rs : List ℕ) → Below (length (terms f)) rs
    → negation_with (types_of (forest (map (term_at f) rs))) ≡ comparison w → w ≤ 128
unfolding types_of forest negation_with Below All
children_small I [] b h = never (cc)
children_small {f = f} {w = w} I (r ∷ []) b h =
    one_argument (type_of (term_at f r)) w h (λ ps e. let row = I.term_row r b.0 in type_small I row.type_below (row.type_is ∙ e))
children_small {f = f} {w = w} I (r ∷ r' ∷ rs) b h = never (more_arguments (type_of (term_at f r)) (type_of (term_at f r')) (types_of (forest (map (term_at f) rs))) w h)

pub width_small : {file : Bytes} {f : TermFile} {work : List ℕ} {k n w : ℕ} {m : TermMark ℕ ℕ} {rs : List ℕ} → Rows file f work k → Below (length (terms f)) rs → TermIs f n m rs
    → negation (term_at f n) ≡ comparison w → w ≤ 128
width_small {w = w} {rs = rs} I b T h = children_small I rs b (negation_types _ _ w (ap negation T.tree ∙ h))

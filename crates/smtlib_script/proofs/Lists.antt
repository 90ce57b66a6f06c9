-- Laws of lists of texts that are written from the first to the last: lists that are lent, joined, and paired.
-- Assumes nothing.
use Prim.Native.Nat.{ℕ, ◌+◌, ◌-◌, ◌≤◌, ◌<◌}
use native.Mathlib.Nat.{not-suc-le-zero}
use native.Mathlib.Numerals.{add-one}
use native.Mathlib.Omega.{arith}
use mathlib.Core.Path.{◌≡◌, refl, sym, ap, ◌∙◌}
use mathlib.Core.Logic.{◌⊎◌, inl, inr}
use mathlib.Core.List.{List, [], ◌∷◌, ◌++◌, append-nil, append_assoc, map, zip, zip_with}
use lib.ListN.{length, take, drop, get_or, drop_of_length-le, get_or-map}
use lib.Seq.{drop-cons, take_all}
use denote.Ref.{Bor}
use Rattle.script_spec.specs.Base.{Bytes, bytes, joined, collect}
use Rattle.script_spec.specs.Command.{spaced}
use Rattle.write_bytes.specs.declared.writer.Writer.{Writer}
use Rattle.write_bytes.specs.Writers.{Writes}
use Rattle.write_bytes.proofs.Laws.{◌then◌, says}
use Rattle.smtlib_script.specs.Arguments.{argument, arguments}

-- an element of a lent list of texts
pub text_at : (ts : List (Bor Bytes)) (i : ℕ) → (get_or ts i (record { ref_ptr = (0, 0); now = [] })).now ≡ get_or (map (λ x. x.now) ts) i []
text_at ts i = sym (get_or-map (λ x. x.now) ts i (record { ref_ptr = (0, 0); now = [] }))

-- ---- joined

pub joined_none : (sep : Bytes) (ts : List (Bor Bytes)) → length ts ≡ 0 → [] ≡ joined sep (map (λ x. x.now) ts)
unfolding joined
joined_none sep [] h = refl
joined_none sep (t ∷ ts) h = absurd (omega arith)

-- each text with a separator before it
unfoldable pub separated : Bytes → List Bytes → Bytes
separated sep ts = collect (λ t. sep ++ t) ts

pub separated_more : (sep : Bytes) (ts : List Bytes) (i : ℕ) → i < length ts → separated sep (drop i ts) ≡ (sep ++ get_or ts i []) ++ separated sep (drop (i + 1) ts)
unfolding separated collect
separated_more sep ts i h = rw (drop-cons ts i [] h, add-one)

pub separated_none : (sep : Bytes) (ts : List Bytes) (i : ℕ) → length ts ≤ i → separated sep (drop i ts) ≡ []
unfolding separated collect
separated_none sep ts i h = rw (drop_of_length-le ts h)

joined_cons : (sep t : Bytes) (ts : List Bytes) → t ++ separated sep ts ≡ joined sep (t ∷ ts)
unfolding separated collect joined
joined_cons sep t [] = append-nil t
joined_cons sep t (u ∷ us) = rw (← joined_cons sep u us) (simp append_assoc)

-- the first text of a lent list, and each of the part after it, as that is lent, with a separator before it
pub joined_rest : (sep : Bytes) (ts : List (Bor Bytes)) → 0 < length ts
    → (get_or ts 0 (record { ref_ptr = (0, 0); now = [] })).now ++ separated sep (map (λ x. x.now) (take (length ts - 1) (drop 1 ts))) ≡ joined sep (map (λ x. x.now) ts)
joined_rest sep [] h = absurd (not-suc-le-zero h)
joined_rest sep (t ∷ ts) h =
    let all : take (length (t ∷ ts) - 1) ts ≡ ts = take_all (length (t ∷ ts) - 1) ts (omega arith) in
    rw all (joined_cons sep t.now (map (λ x. x.now) ts))

-- ---- paired

-- the arguments of the pairs of two lent lists
abbrev pub lent_arguments : List (Bor Bytes) → List (Bor Bytes) → List Bytes
lent_arguments xs ys = arguments (zip (map (λ x. x.now) xs) (map (λ x. x.now) ys))

pub arguments_next : {xs ys rest others : List (Bor Bytes)} {x y : Bor Bytes} → xs ≡ x ∷ rest → ys ≡ y ∷ others → lent_arguments xs ys ≡ argument (x.now, y.now) ∷ lent_arguments rest others
unfolding zip zip_with
arguments_next e f = rw (e, f)

-- one of the two lists is over
pub arguments_over : {S T : Type 0} {P : S → Type 0} {Q : T → Type 0} (xs ys : List (Bor Bytes)) → ((s : S) × ((length xs ≡ 0) × P s)) ⊎ ((t : T) × ((length ys ≡ 0) × Q t)) → lent_arguments xs ys ≡ []
unfolding zip zip_with
arguments_over [] ys e = refl
arguments_over (x ∷ xs) [] e = refl
arguments_over (x ∷ xs) (y ∷ ys) (inl a) = absurd (omega (arith, a.1.0))
arguments_over (x ∷ xs) (y ∷ ys) (inr b) = absurd (omega (arith, b.1.0))

pub separated_next : (sep : Bytes) {ts us : List Bytes} {t : Bytes} → ts ≡ t ∷ us → separated sep ts ≡ (sep ++ t) ++ separated sep us
unfolding separated collect
separated_next sep e = rw e

pub separated_over : (sep : Bytes) {ts : List Bytes} → ts ≡ [] → separated sep ts ≡ []
unfolding separated collect
separated_over sep e = rw e

-- the first argument is written, and then the others: those that two iterators have left of two lists
pub spaced_first : (xs ys : List (Bor Bytes)) {all every rest others : List (Bor Bytes)} {x y : Bor Bytes} {u v w : Writer}
    → all ≡ x ∷ rest → every ≡ y ∷ others → all ≡ xs → every ≡ ys → Writes u v (argument (x.now, y.now)) → Writes v w (separated (bytes " ") (lent_arguments rest others)) → Writes u w (spaced (lent_arguments xs ys))
unfolding spaced
spaced_first xs ys {rest = rest} {others} {x} {y} e f h k first others_written =
    says (joined_cons (bytes " ") (argument (x.now, y.now)) (lent_arguments rest others) ∙ ap (joined (bytes " ")) (sym (arguments_next (sym h ∙ e) (sym k ∙ f)))) (first then others_written)

pub spaced_over : {S T : Type 0} {P : S → Type 0} {Q : T → Type 0} (xs ys : List (Bor Bytes)) {all every : List (Bor Bytes)}
    → ((s : S) × ((length all ≡ 0) × P s)) ⊎ ((t : T) × ((length every ≡ 0) × Q t)) → all ≡ xs → every ≡ ys → [] ≡ spaced (lent_arguments xs ys)
unfolding spaced joined
spaced_over xs ys o e f = rw (arguments_over xs ys (rw (e, f) at o))

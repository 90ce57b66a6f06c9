-- The sizes with one record more of each kind.
-- Assumes nothing.
use mathlib.Core.Path.{◌≡◌, sym, ap, ◌∙◌}
use Prim.Native.Nat.{ℕ, suc}
use mathlib.Core.List.{List, [], ◌∷◌, ◌++◌}
use native.Mathlib.Numerals.{add-one}
use lib.ListN.{length, length-append}
use Rattle.script_spec.specs.Base.{Bytes}
use Rattle.script_spec.specs.Tree.{Ty, Fun, Tm}
use Rattle.script_spec.specs.File.{TermFile, type, enum, func, term, input, types, funs, terms, enums, inputs}
use Rattle.index.specs.Meaning.{SizesOf}
use Rattle.index.specs.declared.Sizes.{Sizes}
use Rattle.index.proofs.Growth.{lists_type, lists_enum, lists_func, lists_term, lists_input}

length_last : {A : Type 0} (xs : List A) (x : A) → length (xs ++ (x ∷ [])) ≡ suc (length xs)
length_last xs x = length-append xs (x ∷ []) ∙ add-one (length xs)

-- one record more of a kind, and as many of another
module _ {A : Type 0} {n : ℕ} (xs : List A) {zs : List A} (is : n ≡ length xs) where
  one_more : {m : ℕ} (x : A) → m ≡ suc n → zs ≡ xs ++ (x ∷ []) → m ≡ length zs
  one_more x e q = e ∙ ap suc is ∙ sym (ap length q ∙ length_last xs x)

  as_many : zs ≡ xs → n ≡ length zs
  as_many q = is ∙ sym (ap length q)

module _ {f : TermFile} {sizes : Sizes} (S : SizesOf f sizes) where
  pub sizes_type : (t : Ty) {m : ℕ} → m ≡ suc sizes.types → SizesOf (f ++ (type t ∷ [])) (record { rows = sizes.rows; types = m; funs = sizes.funs; terms = sizes.terms; enums = sizes.enums; inputs = sizes.inputs })
  sizes_type t e = let L = lists_type f t in record { types_are = one_more (types f) S.types_are t e L.types_are; funs_are = as_many (funs f) S.funs_are L.funs_are; terms_are = as_many (terms f) S.terms_are L.terms_are; enums_are = as_many (enums f) S.enums_are L.enums_are; inputs_are = as_many (inputs f) S.inputs_are L.inputs_are }

  pub sizes_enum : (n : Bytes) (ms : List Bytes) {m : ℕ} → m ≡ suc sizes.enums → SizesOf (f ++ (enum n ms ∷ [])) (record { rows = sizes.rows; types = sizes.types; funs = sizes.funs; terms = sizes.terms; enums = m; inputs = sizes.inputs })
  sizes_enum n ms e = let L = lists_enum f n ms in record { types_are = as_many (types f) S.types_are L.types_are; funs_are = as_many (funs f) S.funs_are L.funs_are; terms_are = as_many (terms f) S.terms_are L.terms_are; enums_are = one_more (enums f) S.enums_are (n, ms) e L.enums_are; inputs_are = as_many (inputs f) S.inputs_are L.inputs_are }

  pub sizes_func : (g : Fun) {m : ℕ} → m ≡ suc sizes.funs → SizesOf (f ++ (func g ∷ [])) (record { rows = sizes.rows; types = sizes.types; funs = m; terms = sizes.terms; enums = sizes.enums; inputs = sizes.inputs })
  sizes_func g e = let L = lists_func f g in record { types_are = as_many (types f) S.types_are L.types_are; funs_are = one_more (funs f) S.funs_are g e L.funs_are; terms_are = as_many (terms f) S.terms_are L.terms_are; enums_are = as_many (enums f) S.enums_are L.enums_are; inputs_are = as_many (inputs f) S.inputs_are L.inputs_are }

  pub sizes_term : (t : Tm) {m : ℕ} → m ≡ suc sizes.terms → SizesOf (f ++ (term t ∷ [])) (record { rows = sizes.rows; types = sizes.types; funs = sizes.funs; terms = m; enums = sizes.enums; inputs = sizes.inputs })
  sizes_term t e = let L = lists_term f t in record { types_are = as_many (types f) S.types_are L.types_are; funs_are = as_many (funs f) S.funs_are L.funs_are; terms_are = one_more (terms f) S.terms_are t e L.terms_are; enums_are = as_many (enums f) S.enums_are L.enums_are; inputs_are = as_many (inputs f) S.inputs_are L.inputs_are }

  pub sizes_input : (t : Tm) {m : ℕ} → m ≡ suc sizes.inputs → SizesOf (f ++ (input t ∷ [])) (record { rows = sizes.rows; types = sizes.types; funs = sizes.funs; terms = sizes.terms; enums = sizes.enums; inputs = m })
  sizes_input t e = let L = lists_input f t in record { types_are = as_many (types f) S.types_are L.types_are; funs_are = as_many (funs f) S.funs_are L.funs_are; terms_are = as_many (terms f) S.terms_are L.terms_are; enums_are = as_many (enums f) S.enums_are L.enums_are; inputs_are = one_more (inputs f) S.inputs_are t e L.inputs_are }

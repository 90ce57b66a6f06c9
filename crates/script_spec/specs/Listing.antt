-- The listing of sets in a script: equal sets are all listed as the one that the encoder meets first. It is made from the inputs'
-- trees; nothing here knows of the encoder's tables.
-- Assumes nothing.
use Rattle.std.specs.Prelude.{Bool, true, false, not, ◌||◌, List, [], ◌∷◌, ◌++◌, map}
use Rattle.std.proofs.Math.Option.{Option, none, some}
use Rattle.script_spec.specs.Base.{collect, seconds, first_of}
use Rattle.script_spec.specs.Tree.{Tm, Mark, Forest, node, nil, cons, forest, mark, children, is_set, is_falsehood, eq_tm}

-- a list if the test passes, and else no elements
unfoldable pub only : {A : Type 0} → Bool → List A → List A
only true xs = xs
only false xs = []

-- the sets in a term in the order in which the encoder completes them, each after its elements. The encoder passes over what stands
-- under the `false` of a `Bvnego`; `passed` says whether the sets there count too.
unfoldable mutual
  pub sets_in : Bool → Tm → List Tm
  sets_in passed (node m ts) = only (passed || not (is_falsehood (node m ts))) (sets_in_each passed ts) ++ only (is_set m) (node m ts ∷ [])

  pub sets_in_each : Bool → Forest Mark → List Tm
  sets_in_each passed nil = []
  sets_in_each passed (cons t ts) = sets_in passed t ++ sets_in_each passed ts

-- the sets in the inputs: those that the encoder meets, in its order, and then all. A set that stands only where the encoder passes
-- over it comes after each that it meets.
unfoldable pub sets_of : List Tm → List Tm
sets_of ins = collect (sets_in false) ins ++ collect (sets_in true) ins

-- of terms with what stands for each, what stands for the first that is equal to t, whatever its listing
unfoldable pub stand_in : List (Tm × Tm) → Tm → List Tm
stand_in [] t = []
stand_in (p ∷ ps) t = elim (eq_tm t p.0) [ true ↦ p.1 ∷ [] | false ↦ stand_in ps t ]

-- what stands for the children of a term: in the order of an equal set, or else in their own
unfoldable pub in_order_of : Option Tm → List (Tm × Tm) → List Tm
in_order_of none ps = seconds ps
in_order_of (some s) ps = collect (stand_in ps) (children s)

-- the first of `sets` that is equal to a set
unfoldable pub first_listing : List Tm → Tm → Option Tm
first_listing sets t = elim (is_set (mark t)) [ true ↦ first_of (eq_tm t) sets | false ↦ none ]

-- a term with each set in it listed as the first equal one of `sets`
unfoldable mutual
  pub listed : List Tm → Tm → Tm
  listed sets (node m ts) = node m (forest (in_order_of (first_listing sets (node m ts)) (listed_each sets ts)))

  -- each term with itself so listed
  pub listed_each : List Tm → Forest Mark → List (Tm × Tm)
  listed_each sets nil = []
  listed_each sets (cons t ts) = (t, listed sets t) ∷ listed_each sets ts

-- the inputs as their script lists them
unfoldable pub as_listed : List Tm → List Tm
as_listed ins = map (listed (sets_of ins)) ins

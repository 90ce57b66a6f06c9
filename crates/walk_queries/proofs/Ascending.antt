-- The attributes and members of an accepted file ascend, since each of its records keeps rule 9.
-- Assumes nothing.
use Prim.Native.Nat.{ℕ, zero, suc, ◌<◌}
use native.Mathlib.Omega.{arith}
use mathlib.Core.Path.{◌≡◌, sym, ap, ◌∙◌}
use mathlib.Core.Bool.{true}
use mathlib.Core.List.{List, [], ◌∷◌, ◌++◌}
use mathlib.Core.Option.{Option, none}
use lib.ListN.{length, get_or}
use Rattle.script_spec.specs.Base.{Bytes, accepted, if_some, ascending, collect}
use Rattle.script_spec.specs.Tree.{Ty, attributes}
use Rattle.script_spec.specs.File.{TermFile, Named, type, enum, func, term, input, types, enums, type_at, written, rules, broken, checked}
use Rattle.script_spec.proofs.OwnType.{first_kept}
use Rattle.script_spec.proofs.Taken.{next_inverse}
use Rattle.script_spec.proofs.Accepted.{AllTaken, all_taken, one_taken, checked_inverse}
use Rattle.index.specs.First.{All}
use Rattle.walk_queries.specs.Made.{Ascends}

-- ---- texts that ascend

-- the attributes or the members of a record ascend
OwnAscend : Named → Type 0
OwnAscend (type t) = if_some ascending (attributes t) ≡ true
OwnAscend (enum n ms) = ascending ms ≡ true
OwnAscend (func g) = Unit {0}
OwnAscend (term t) = Unit {0}
OwnAscend (input t) = Unit {0}

own_ascend : (f : TermFile) (ty : Option Ty) (r : Named) → broken (rules f ty r) ≡ none → OwnAscend r
unfolding rules OwnAscend
own_ascend f ty (type t) h = (first_kept _ _ h).0
own_ascend f ty (enum n ms) h = (first_kept _ _ h).0
own_ascend f ty (func g) h = tt
own_ascend f ty (term t) h = tt
own_ascend f ty (input t) h = tt

all_more : (f : TermFile) (r : Named) → All OwnAscend f → OwnAscend r → All OwnAscend (f ++ (r ∷ []))
unfolding All
all_more [] r h o = (o, tt)
all_more (x ∷ f) r h o = (h.0, all_more f r h.1 o)

taken_ascend : {f g : TermFile} {s : Bytes} → AllTaken f g s → All OwnAscend g → All OwnAscend f
taken_ascend all_taken h = h
taken_ascend (one_taken {g = g} {s = s} {r = r} e t) h =
    let k = next_inverse g s e in
    taken_ascend t (all_more g r h (own_ascend g (written g k.type) r k.keeps))

-- ---- by number

all_at : {A : Type 0} (P : A → Type 0) (xs : List A) (d : A) → All P xs → (n : ℕ) → n < length xs → P (get_or xs n d)
unfolding All
all_at P [] d h n l = absurd (omega arith)
all_at P (x ∷ xs) d h zero l = h.0
all_at P (x ∷ xs) d h (suc n) l = all_at P xs d h.1 n (omega arith)

types_ascend : (f : TermFile) → All OwnAscend f → All (λ t. if_some ascending (attributes t) ≡ true) (types f)
unfolding types collect All OwnAscend
types_ascend [] h = tt
types_ascend (type t ∷ f) h = (h.0, types_ascend f h.1)
types_ascend (enum n ms ∷ f) h = types_ascend f h.1
types_ascend (func g ∷ f) h = types_ascend f h.1
types_ascend (term t ∷ f) h = types_ascend f h.1
types_ascend (input t ∷ f) h = types_ascend f h.1

enums_ascend : (f : TermFile) → All OwnAscend f → All (λ (e : Bytes × List Bytes). ascending e.1 ≡ true) (enums f)
unfolding enums collect All OwnAscend
enums_ascend [] h = tt
enums_ascend (type t ∷ f) h = enums_ascend f h.1
enums_ascend (enum n ms ∷ f) h = (h.0, enums_ascend f h.1)
enums_ascend (func g ∷ f) h = enums_ascend f h.1
enums_ascend (term t ∷ f) h = enums_ascend f h.1
enums_ascend (input t ∷ f) h = enums_ascend f h.1

ascends_all : (f : TermFile) → All OwnAscend f → Ascends f
unfolding type_at if_some
ascends_all f h =
    record {
      attributes_ascend = λ t names l e. ap (if_some ascending) (sym e) ∙ all_at (λ (ty : Ty). if_some ascending (attributes ty) ≡ true) (types f) _ (types_ascend f h) t l;
      members_ascend = λ n names l e. ap ascending (sym e) ∙ all_at (λ (x : Bytes × List Bytes). ascending x.1 ≡ true) (enums f) ([], []) (enums_ascend f h) n l;
    }

pub accepted_ascends : (file : Bytes) (n : ℕ) (f : TermFile) → checked file n ≡ accepted f → Ascends f
unfolding All
accepted_ascends file n f e = ascends_all f (taken_ascend (checked_inverse file n f e).all tt)

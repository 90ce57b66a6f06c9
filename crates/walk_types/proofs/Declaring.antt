-- The walk's steps over a type and a function in parts: what is known is left, what is new comes after its parts and is still new then.
-- Assumes nothing.
use Prim.Native.Nat.{suc, ◌<◌}
use mathlib.Core.Path.{◌≡◌, sym, ap, ◌∙◌, subst}
use mathlib.Core.Bool.{true, false, true≢false}
use mathlib.Core.List.{List, [], ◌∷◌, ◌++◌}
use mathlib.Core.Option.{none, some}
use native.Mathlib.Omega.{arith}
use Rattle.script_spec.specs.Base.{Bytes, any}
use Rattle.script_spec.specs.Tree.{Ty, Fun, uuf, TypeMark, Forest, node, depth, depths, eq_ty, eq_fun, Enums, Datatype, datatype}
use Rattle.script_spec.specs.Command.{Command, comment}
use Rattle.script_spec.specs.Spelling.{type_comment, type_declaration}
use Rattle.script_spec.specs.Walk.{State, Step, went, stopped, ◌>>◌, names, enter_type, write, writing, declare_type, encode_type, encode_types, declare_function, encode_uuf}
use Rattle.script_spec.proofs.Laws.{is_true, never_true}
use Rattle.script_spec.proofs.Steps.{ends_went}
use Rattle.script_spec.proofs.Entered.{encode_type_only, encode_types_only}
use Rattle.walk_names.proofs.Steps.{unless_known, unless_new}

-- ---- a type

module _ (e : Enums) where
  pub declares_none : (t : Ty) (s : State) → datatype t ≡ none → declare_type e t s ≡ went s
  unfolding declare_type
  declares_none t s h = rw (declare_type, h)

  pub declares_some : (t : Ty) (s : State) (d : Datatype) → datatype t ≡ some d
      → declare_type e t s ≡ went (write (type_comment e d ++ (type_declaration e (names (enter_type t s)) d t ∷ [])) (enter_type t s))
  unfolding declare_type
  declares_some t s d h = rw (declare_type, h)

  -- a type that is in the table is left
  pub type_left : (t : Ty) (s : State) → any (eq_ty t) s.types ≡ true → encode_type e t s ≡ went s
  unfolding encode_type
  type_left (node m ts) s h = unless_known (λ s. any (eq_ty (node m ts)) s.types) _ s h

  module _ (m : TypeMark) (ts : Forest TypeMark) where
    -- any other comes after its parts
    here_new : (s : State) → any (eq_ty (node m ts)) s.types ≡ false → ◌>>◌ (encode_types e ts) (declare_type e (node m ts)) s ≡ encode_type e (node m ts) s
    unfolding encode_type
    here_new s h = sym (unless_new (λ s. any (eq_ty (node m ts)) s.types) _ s h)

    pub type_new : (t : Ty) (s : State) → node m ts ≡ t → any (eq_ty t) s.types ≡ false → ◌>>◌ (encode_types e ts) (declare_type e t) s ≡ encode_type e t s
    type_new t s tree = subst (λ (u : Ty). any (eq_ty u) s.types ≡ false → ◌>>◌ (encode_types e ts) (declare_type e u) s ≡ encode_type e u s) tree (here_new s)

    -- and is not in the table after them
    still_here : (s s₁ : State) → encode_types e ts s ≡ went s₁ → any (eq_ty (node m ts)) s.types ≡ false → any (eq_ty (node m ts)) s₁.types ≡ false
    unfolding depth
    still_here s s₁ p h =
        never_true (any (eq_ty (node m ts)) s₁.types) (λ k.
        let l : depths ts < suc (depths ts) = omega arith in
        let q = is_true (any (eq_ty (node m ts)) s.types) ((ends_went (encode_types_only e ts s) p).types (node m ts) l k) in
        true≢false (sym q ∙ h))

    pub type_still_new : (t : Ty) (s s₁ : State) → node m ts ≡ t → any (eq_ty t) s.types ≡ false → encode_types e ts s ≡ went s₁ → any (eq_ty t) s₁.types ≡ false
    type_still_new t s s₁ tree h p = subst (λ (u : Ty). any (eq_ty u) s.types ≡ false → any (eq_ty u) s₁.types ≡ false) tree (still_here s s₁ p) h

-- ---- a function

module _ (e : Enums) where
  -- a function that is in the table is left
  pub fun_left : (g : Fun) (s : State) → any (eq_fun g) s.funs ≡ true → encode_uuf e g s ≡ went s
  unfolding encode_uuf
  fun_left (uuf id a b) s h = unless_known (λ s. any (eq_fun (uuf id a b)) s.funs) _ s h

  -- any other comes after its comment and its types
  pub fun_new : (id : Bytes) (a b : Ty) (s : State) → any (eq_fun (uuf id a b)) s.funs ≡ false
      → ◌>>◌ (writing (comment id ∷ [])) (◌>>◌ (encode_type e a) (◌>>◌ (encode_type e b) (declare_function (uuf id a b)))) s ≡ encode_uuf e (uuf id a b) s
  unfolding encode_uuf
  fun_new id a b s h = sym (unless_new (λ s. any (eq_fun (uuf id a b)) s.funs) _ s h)

  -- walking a type enters no function
  pub type_funs : (t : Ty) (s s₁ : State) → encode_type e t s ≡ went s₁ → s₁.funs ≡ s.funs
  type_funs t s s₁ h = (ends_went (encode_type_only e t s) h).funs

-- the functions that a step has come to
funs_of : Step → List Fun
funs_of (went s) = s.funs
funs_of (stopped n t q) = []

-- nor does a command that is written
pub writing_funs : (cs : List Command) (s s₁ : State) → writing cs s ≡ went s₁ → s₁.funs ≡ s.funs
unfolding writing write funs_of
writing_funs cs s s₁ h = sym (ap funs_of h)

-- The walk over a function: what has a name is left, what is new comes after its comment and its types.
-- Assumes nothing.
use Prim.Native.Nat.{ℕ}
use mathlib.Core.Path.{◌≡◌, sym, ap, ◌∙◌, subst}
use mathlib.Core.Bool.{true, false}
use mathlib.Core.List.{[], ◌∷◌}
use Rattle.std.specs.Prelude as std
use Rattle.std.specs.Prelude.{Ok}
use Rattle.script_spec.specs.Base.{any}
use Rattle.script_spec.specs.Tree.{Fun, uuf, eq_fun}
use Rattle.script_spec.specs.File.{members, type_at, fun_at}
use Rattle.script_spec.specs.Command.{comment}
use Rattle.script_spec.specs.Walk.{went, writing, encode_type, declare_function, encode_uuf, ◌>>◌}
use Rattle.refusal.specs.Numbers.{option_of}
use Rattle.index.specs.Cells.{cell, fun_offset, fun_first}
use Rattle.index.specs.Meaning.{counted}
use Rattle.index_entry.specs.Symbols.{FunAt}
use Rattle.index_entry.specs.declared.symbols.Fun as entry
use Rattle.index_entry.proofs.Rows.{fun_stands}
use Rattle.walk_names.specs.Naming.{fun_names, name_at, place_of}
use Rattle.walk_names.specs.Progress.{memory, rows, Holds, Passes}
use Rattle.walk_names.specs.declared.walk.Walk.{Walk}
use Rattle.walk_names.proofs.Names.{known_fun}
use Rattle.walk_names.proofs.Advancing.{remains_trans, indexed_remains, went_on, advances_passed}
use Rattle.walk_names.proofs.Steps.{then_went}
use Rattle.write_types.specs.Functions.{id_of}
use Rattle.walk_types.specs.Types.{type_ready, type_walk, fun_ready, fun_walk, id_walk, NewFun, declare_fun_walk}
use Rattle.walk_types.proofs.Declaring.{fun_left, fun_new, type_funs, writing_funs}

module _ (g : ℕ) {v : Walk} (r : std.Option ℕ) (e : option_of r ≡ place_of (name_at (memory v) (rows v) fun_first fun_names g)) where
  -- a function that has a name is left
  pub leaves_fun : std.is_some r ≡ true → Passes (fun_ready g) (fun_walk g) v v
  unfolding fun_ready fun_walk
  leaves_fun h = advances_passed (λ f limit o S I R W. fun_left (members f) (fun_at f g) S (known_fun I.rows W.numbers g r R e ∙ h))

  -- any other comes after its comment and its types
  pub encodes_fun : {entry : entry.Fun} {v₁ v₂ v₃ v₄ : Walk} → std.is_some r ≡ false → FunAt v.records.now.file.now (cell (memory v) (rows v) fun_offset g) entry
      → Passes (fun_ready g) (id_walk g) v v₁ → Passes (type_ready entry.argument) (type_walk entry.argument) v₁ v₂ → Passes (type_ready entry.result) (type_walk entry.result) v₂ v₃
      → Passes (NewFun g) (declare_fun_walk g) v₃ v₄ → Passes (fun_ready g) (fun_walk g) v v₄
  unfolding type_ready type_walk fun_ready fun_walk id_walk declare_fun_walk id_of counted
  encodes_fun {entry} {v₁} {v₂} {v₃} {v₄} h F A B C D = record {
    remains = remains_trans A.remains (remains_trans B.remains (remains_trans C.remains D.remains));
    go = λ f limit o S I R W.
        fun_stands (I.rows.fun_row g R).stands (λ id a b reads la lb tree.
        let said = F.go id a b reads in
        let ν = members f in
        let tree' : uuf id (type_at f entry.argument) (type_at f entry.result) ≡ fun_at f g = rw (said.argument_is, said.result_is) tree in
        let new : any (eq_fun (fun_at f g)) S.funs ≡ false = known_fun I.rows W.numbers g r R e ∙ h in
        let I₁ = indexed_remains A.remains I in
        let I₂ = indexed_remains B.remains I₁ in
        let I₃ = indexed_remains C.remains I₂ in
        let G = Holds f limit o v₄ (Ok tt) (encode_uuf ν (fun_at f g) S) in
        went_on {P = G} (id_walk g f S) (A.go f limit o S I R W) (λ S₁ q₁ W₁.
        went_on {P = G} (type_walk entry.argument f S₁) (B.go f limit o S₁ I₁ (rw said.argument_is la) W₁) (λ S₂ q₂ W₂.
        went_on {P = G} (type_walk entry.result f S₂) (C.go f limit o S₂ I₂ (rw said.result_is lb) W₂) (λ S₃ q₃ W₃.
        let ta = type_at f entry.argument in
        let tb = type_at f entry.result in
        let same = type_funs ν tb S₂ S₃ q₃ ∙ type_funs ν ta S₁ S₂ q₂ ∙ writing_funs (comment (id_of (fun_at f g)) ∷ []) S S₁ q₁ in
        let last = D.go f limit o S₃ I₃ (record { inside = R; new = ap (any (eq_fun (fun_at f g))) same ∙ new }) W₃ in
        let said₁ : writing (comment id ∷ []) S ≡ went S₁ = rw (← tree') at q₁ in
        let d = declare_function (uuf id ta tb) in
        let chain : encode_uuf ν (uuf id ta tb) S ≡ d S₃ =
        sym (fun_new ν id ta tb S (rw tree' new)) ∙ then_went (writing (comment id ∷ [])) (◌>>◌ (encode_type ν ta) (◌>>◌ (encode_type ν tb) d)) S S₁ said₁
        ∙ then_went (encode_type ν ta) (◌>>◌ (encode_type ν tb) d) S₁ S₂ q₂ ∙ then_went (encode_type ν tb) d S₂ S₃ q₃ in
        subst (λ (h : Fun). Holds f limit o v₄ (Ok tt) (encode_uuf ν h S)) tree' (rw chain (rw (← tree') at last))))));
  }

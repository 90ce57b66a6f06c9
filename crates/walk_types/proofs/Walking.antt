-- The walk over a type and its parts: what has a name is left, what is new comes after its parts; parts are encoded one after the other.
-- Assumes nothing.
use Prim.Native.Nat.{ℕ, ◌<◌, ◌≤◌}
use mathlib.Core.Path.{◌≡◌, refl, sym, ◌∙◌}
use mathlib.Core.Option.{none}
use mathlib.Core.Bool.{Bool, true, false}
use mathlib.Core.List.{List, [], ◌∷◌, map}
use native.Mathlib.Omega.{arith}
use Rattle.std.specs.Prelude as std
use Rattle.std.specs.Prelude.{Ok}
use Rattle.script_spec.specs.Tree.{forest}
use Rattle.script_spec.specs.File.{members, type_at}
use Rattle.script_spec.specs.Walk.{encode_type, encode_types}
use Rattle.refusal.specs.Numbers.{option_of}
use Rattle.index.specs.Cells.{cell, type_offset, type_first}
use Rattle.index.specs.First.{All, Below}
use Rattle.index.specs.Meaning.{counted}
use Rattle.index.specs.declared.Records.{Records}
use Rattle.index_entry.specs.Terms.{children_in}
use Rattle.index_entry.specs.declared.terms.Children.{Children}
use Rattle.index_entry.proofs.Rows.{type_stands}
use Rattle.walk_names.specs.Naming.{type_names, name_at, place_of}
use Rattle.walk_names.specs.Progress.{memory, rows, Remains, Holds, Passes}
use Rattle.walk_names.specs.declared.walk.Walk.{Walk}
use Rattle.walk_names.proofs.Names.{known_type}
use Rattle.walk_names.proofs.Advancing.{remains_refl, remains_trans, indexed_remains, went_on, advances_passed, advances_by, advances_then}
use Rattle.walk_names.proofs.Steps.{then_went}
use Rattle.walk_types.specs.Types.{type_ready, type_walk, PartsAt, PartsReady, parts_walk, NewType, declare_walk, Settled, IsLeft}
use Rattle.script_spec.proofs.Laws.{never}
use Rattle.walk_types.proofs.Declaring.{type_left, type_new, type_still_new}

-- ---- a type

none_is : (r : std.Option ℕ) → std.is_some r ≡ false → option_of r ≡ none
none_is std.None h = refl
none_is (std.Some n) h = never cc

-- a settled type is left
pub leaves_settled : {t : ℕ} {v : Walk} {q : Records} {b : Bool} → (q.file.now ≡ v.records.now.file.now) × (q.work.now ≡ v.records.now.work.now) × (q.sizes ≡ v.records.now.sizes) → Settled q t b
    → b ≡ true → Passes (type_ready t) (type_walk t) v v
unfolding type_ready
leaves_settled V P h = advances_passed (λ f limit o S I R W. P.go h f S (rw (V.0, V.1, V.2) I) (rw (V.1, V.2) W.numbers) R)

module _ {t : ℕ} {v : Walk} where
  -- a type that has a name is left
  module _ (r : std.Option ℕ) {b : Bool} (e : option_of r ≡ place_of (name_at (memory v) (rows v) type_first type_names t)) (q : b ≡ std.is_some r) where
    pub left_named : b ≡ true → IsLeft t v true
    unfolding type_ready type_walk
    left_named h = record {
      left = λ g. advances_passed (λ f limit o S I R W. type_left (members f) (type_at f t) S (known_type I.rows W.numbers t r R e ∙ sym q ∙ h));
      new = λ g. never cc;
    }

    -- and so is a settled one
    pub left_settled : {p : Records} {s : Bool} → b ≡ false → (p.file.now ≡ v.records.now.file.now) × (p.work.now ≡ v.records.now.work.now) × (p.sizes ≡ v.records.now.sizes) → Settled p t s → IsLeft t v s
    left_settled h V P = record { left = leaves_settled V P; new = λ g. sym e ∙ none_is r (sym q ∙ h) }

  -- any other comes after its parts
  pub encodes_type : {c : Children} {w x : Walk} → place_of (name_at (memory v) (rows v) type_first type_names t) ≡ none → PartsAt v.records.now.file.now (cell (memory v) (rows v) type_offset t) c
      → Passes (PartsReady t (children_in c)) (parts_walk (children_in c)) v w → Passes (NewType t) (declare_walk t) w x → Passes (type_ready t) (type_walk t) v x
  unfolding type_ready type_walk parts_walk declare_walk counted
  encodes_type {c} {w} {x} h P A D = record {
    remains = remains_trans A.remains D.remains;
    go = λ f limit o S I R W.
        type_stands (I.rows.type_row t R).stands (λ m rs reads below tree.
        let ps : children_in c ≡ rs = P.go m rs reads in
        let tree' = rw (← ps) at tree in
        let new = known_type I.rows W.numbers t std.None R (sym h) in
        let ts = forest (map (type_at f) (children_in c)) in
        went_on {P = Holds f limit o x (Ok tt) (encode_type (members f) (type_at f t) S)} (encode_types (members f) ts S) (A.go f limit o S I (record { inside = R; below = rw ps below }) W) (λ S₁ q W₁.
        rw (← type_new (members f) m ts (type_at f t) S tree' new, then_went (encode_types (members f) ts) (declare_walk t f) S S₁ q)
        (D.go f limit o S₁ (indexed_remains A.remains I) (record { inside = R; new = type_still_new (members f) m ts (type_at f t) S S₁ tree' new q }) W₁)));
  }

-- ---- the parts

-- encoding the parts `rest` from here makes encoding `whole` from the start
pub record PartsLeft (t : ℕ) (whole : List ℕ) (v w : Walk) (rest : List ℕ) : Type 0 where
  pub remains : Remains v w
  pub go : (x : Walk) → Passes (PartsReady t rest) (parts_walk rest) w x → Passes (PartsReady t whole) (parts_walk whole) v x

pub parts_start : {t : ℕ} {ps : List ℕ} {v : Walk} → PartsLeft t ps v v ps
parts_start = record { remains = remains_refl; go = λ x A. A }

module _ {t : ℕ} {whole rest : List ℕ} {v w : Walk} (L : PartsLeft t whole v w rest) where
  -- one part more
  pub parts_on : {n : ℕ} {ps : List ℕ} {x : Walk} → rest ≡ n ∷ ps → n < t → Passes (type_ready n) (type_walk n) w x → PartsLeft t whole v x ps
  unfolding type_ready type_walk parts_walk encode_types forest Below All
  parts_on {n} {ps} {x} e l A = record {
    remains = remains_trans L.remains A.remains;
    go = λ y B.
        let first : Passes (PartsReady t (n ∷ ps)) (type_walk n) w x = advances_by (λ f S I R. let i = R.inside in (omega arith, refl)) A in
        let both : Passes (PartsReady t (n ∷ ps)) (parts_walk (n ∷ ps)) w y = advances_then (type_walk n) (parts_walk ps) first B (λ f S S' I R q. record { inside = R.inside; below = R.below.1 }) in
        L.go y (rw e both);
  }

  -- none is left
  pub parts_end : rest ≡ [] → Passes (PartsReady t whole) (parts_walk whole) v w
  unfolding parts_walk encode_types forest
  parts_end e =
      let none : Passes (PartsReady t []) (parts_walk []) w w = advances_passed (λ f limit o S I R W. refl) in
      L.go w (rw e none)

  -- a part that has no lower number does not occur
  pub parts_never : {n : ℕ} {ps : List ℕ} → rest ≡ n ∷ ps → t ≤ n → Passes (PartsReady t whole) (parts_walk whole) v w
  unfolding Below All
  parts_never {n} {ps} e h =
      let none : Passes (PartsReady t (n ∷ ps)) (parts_walk (n ∷ ps)) w w = advances_passed (λ f limit o S I R W. absurd (let l = R.below.0 in omega arith)) in
      L.go w (rw e none)

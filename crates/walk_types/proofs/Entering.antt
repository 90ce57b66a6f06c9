-- A type or a function that is entered has the next name of its table, and what declares it is written after.
-- Assumes nothing.
use Prim.Native.Nat.{ℕ}
use mathlib.Core.Path.{◌≡◌, refl}
use mathlib.Core.Bool.{Bool, true, false}
use mathlib.Core.List.{[], ◌∷◌, ◌++◌}
use mathlib.Core.Option.{Option, none, some}
use Rattle.script_spec.specs.Base.{is_some}
use Rattle.script_spec.specs.Tree.{datatype}
use Rattle.script_spec.specs.File.{TermFile, members, type_at, fun_at}
use Rattle.script_spec.specs.Command.{comment}
use Rattle.script_spec.specs.Spelling.{type_comment, type_declaration, fun_declaration}
use Rattle.script_spec.specs.Walk.{State, names, enter_type, enter_fun, writing, declare_function}
use Rattle.script_spec.proofs.Laws.{never}
use Rattle.write_bytes.proofs.Laws.{says}
use Rattle.write_bytes.specs.declared.writer.Writer.{Writer}
use Rattle.index.specs.declared.Records.{Records}
use Rattle.walk_names.specs.Naming.{IndexOf, NumbersOf}
use Rattle.walk_names.specs.Progress.{Indexed, Went, Enters, Passes}
use Rattle.walk_names.specs.declared.naming.Named.TheVariants as named
use Rattle.walk_names.specs.declared.walk.Walk.{Walk}
use Rattle.write_bytes.specs.Writers.{Lends}
use Rattle.write_bytes.proofs.Rest.{lent}
use Rattle.walk_names.proofs.Advancing.{script_one, continues_lent, indexed_remains, remains_trans, rewritten, remains_writes, went_writes, advances_passed, advances_writes}
use Rattle.walk_names.proofs.Entering.{remains_enters, enters_type, enters_fun}
use Rattle.write_types.specs.Functions.{id_of, SpellsFunId, SpellsFun}
use Rattle.write_types.specs.Lines.{type_lines, SpellsType}
use Rattle.walk_types.specs.Types.{IsDatatype, NewType, declare_walk, fun_ready, id_walk, NewFun, declare_fun_walk}
use Rattle.walk_types.proofs.Declaring.{declares_none, declares_some}

-- ---- the records as a walk shows them

module _ {f : TermFile} (v : Walk) (r : Records) (V : (r.file.now ≡ v.records.now.file.now) × (r.work.now ≡ v.records.now.work.now) × (r.sizes ≡ v.records.now.sizes)) where
  pub index_viewed : Indexed f v → IndexOf f r
  index_viewed I = rw (V.0, V.1, V.2) I

  pub numbers_viewed : {limit : ℕ} {o : _} {S : State} → Went f limit o v S → NumbersOf f r S
  numbers_viewed W = rw (V.1, V.2) W.numbers

-- ---- a type

-- a datatype or none
either : {A P : Type 0} (o : Option A) (b : Bool) → b ≡ is_some o → (b ≡ false → o ≡ none) × (b ≡ true → ((d : A) → o ≡ some d → P) → P)
unfolding is_some
either none b e = (λ h. refl, λ h on. never cc)
either (some d) b e = (λ h. never cc, λ h on. on d refl)

module _ {t : ℕ} {v : Walk} {r : Records} {b : Bool} (V : (r.file.now ≡ v.records.now.file.now) × (r.work.now ≡ v.records.now.work.now) × (r.sizes ≡ v.records.now.sizes)) (D : IsDatatype r t b) where
  -- a type that is no datatype
  pub passes_type : b ≡ false → Passes (NewType t) (declare_walk t) v v
  unfolding declare_walk
  passes_type h = advances_passed (λ f limit o S I R W. declares_none (members f) (type_at f t) S ((either {P = ℕ} (datatype (type_at f t)) b (D.go f (index_viewed v r V I) R.inside)).0 h))

  -- a datatype
  pub declares_type : {w : Walk} {q : Records} {x : Writer} → b ≡ true → Enters named.Types t v w
      → (q.file.now ≡ w.records.now.file.now) × (q.work.now ≡ w.records.now.work.now) × (q.sizes ≡ w.records.now.sizes) → SpellsType q t w.script.now x
      → Passes (NewType t) (declare_walk t) v (rewritten w x)
  unfolding declare_walk type_lines
  declares_type {w} {q} {x} h E V' L = record {
    remains = remains_trans (remains_enters E) (remains_writes L.same);
    go = λ f limit o S I R W.
        let W' = enters_type I W E R.inside R.new in
        (either (datatype (type_at f t)) b (D.go f (index_viewed v r V I) R.inside)).1 h (λ d is.
        rw (declares_some (members f) (type_at f t) S d is)
        (went_writes (type_comment (members f) d ++ (type_declaration (members f) (names (enter_type (type_at f t) S)) d (type_at f t) ∷ [])) W'
        (rw (type_lines, is) at (L.go f (enter_type (type_at f t) S) (index_viewed w q V' (indexed_remains (remains_enters E) I)) (numbers_viewed w q V' W') R.inside))));
  }

-- ---- a function

-- a function's comment in the rest of the script
pub id_lent : {r : Records} {g : ℕ} {v w : Writer} → Lends (SpellsFunId r g) v w → SpellsFunId r g v w
id_lent L = record { same = continues_lent L; go = λ f I k. lent (λ x y p. p.go f I k) L }

module _ {g : ℕ} {v : Walk} where
  -- its comment
  pub writes_id : {r : Records} {x : Writer} → (r.file.now ≡ v.records.now.file.now) × (r.work.now ≡ v.records.now.work.now) × (r.sizes ≡ v.records.now.sizes) → SpellsFunId r g v.script.now x
      → Passes (fun_ready g) (id_walk g) v (rewritten v x)
  unfolding fun_ready id_walk writing
  writes_id {r} V L = advances_writes (λ f S. comment (id_of (fun_at f g)) ∷ []) L.same (λ f limit o S I R W. (says (script_one (comment (id_of (fun_at f g)))) (L.go f (index_viewed v r V I) R), refl))

  -- its name and its declaration
  pub declares_fun : {w : Walk} {q : Records} {x : Writer} → Enters named.Funs g v w
      → (q.file.now ≡ w.records.now.file.now) × (q.work.now ≡ w.records.now.work.now) × (q.sizes ≡ w.records.now.sizes) → SpellsFun q g w.script.now x
      → Passes (NewFun g) (declare_fun_walk g) v (rewritten w x)
  unfolding declare_fun_walk declare_function
  declares_fun {w} {q} {x} E V' L = record {
    remains = remains_trans (remains_enters E) (remains_writes L.same);
    go = λ f limit o S I R W.
        let W' = enters_fun I W E R.inside R.new in
        went_writes (fun_declaration (names (enter_fun (fun_at f g) S)) (fun_at f g) ∷ []) W'
        (says (script_one (fun_declaration (names (enter_fun (fun_at f g) S)) (fun_at f g)))
        (L.go f (enter_fun (fun_at f g) S) (index_viewed w q V' (indexed_remains (remains_enters E) I)) (numbers_viewed w q V' W') R.inside));
  }

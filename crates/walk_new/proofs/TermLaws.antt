-- A new term by its entry: what its record has says which step it takes.
-- Assumes nothing.
use Prim.Native.Nat.{ℕ, ◌<◌}
use mathlib.Core.Path.{◌≡◌, refl, sym, ap, ◌∙◌, subst}
use mathlib.Core.Bool.{Bool, false}
use mathlib.Core.List.{List, []}
use mathlib.Core.Logic.{◌⊎◌, inl, inr}
use mathlib.Core.Option.{none, some}
use lib.ListN.{length}
use denote.Ref.{Bor}
use Rattle.std.specs.Prelude.{Result, Ok}
use Rattle.script_spec.specs.Base.{Bytes}
use Rattle.script_spec.specs.Tree as tree
use Rattle.script_spec.specs.Tree.{Tm, Ty, Forest, Mark, TermMark, node, nil, forest, Enums, enum_of, is_variable, negation}
use Rattle.script_spec.specs.Fields.{term}
use Rattle.script_spec.specs.File.{TermFile, terms, members, term_at, named_mark}
use Rattle.script_spec.specs.Walk.{State, went, define_term, define_entity, define_app, encode_new}
use Rattle.index.specs.Cells.{cell, term_offset}
use Rattle.index.specs.First.{MarkInRange}
use Rattle.index.specs.Meaning.{counted}
use Rattle.index.specs.declared.Records.{Records}
use Rattle.index.specs.declared.RecordsMut.{RecordsMut}
use Rattle.read_operator.specs.Operators.{op_of}
use Rattle.read_operator.specs.declared.Op.{Op}
use Rattle.index_entry.specs.Terms.{value_of, children_in, term_said, TermAt}
use Rattle.index_entry.specs.declared.terms.Children.{Children}
use Rattle.index_entry.specs.declared.terms.TermEntry.{TermEntry}
use Rattle.index_entry.specs.declared.terms.TermEntry.TheVariants as entry
use Rattle.index_entry.specs.declared.terms.Value.{Value}
use Rattle.walk_names.specs.Progress.{memory, rows, Indexed, Advances}
use Rattle.walk_names.specs.declared.walk.Walk.{Walk}
use Rattle.walk_names.specs.declared.walk.Stopped.{Stopped}
use Rattle.walk_names.proofs.Advancing.{advances_by, advances_passed}
use Rattle.write_atoms.specs.Records.{TermSound, TermIs}
use Rattle.write_atoms.proofs.Rows.{EntryIs, term_here, entry_is}
use Rattle.write_terms.specs.Lines.{is_compound}
use Rattle.write_terms.specs.Definitions.{PlainIs, SomeIs, SetIs, RecordIs}
use Rattle.walk_new.specs.Steps.{NewAt, LiteralAt, new_walk}
use Rattle.walk_new.specs.News.{VariableAt, KnownAt, EntityAt, AppAt, define_walk, entity_walk, app_walk}

-- ---- the term of an entry

-- the records of a walk, to be read
abbrev held_by : RecordsMut → Records
held_by r = record { file = r.file; work = record { ref_ptr = r.work.ref_ptr; now = r.work.now }; sizes = r.sizes }

read_at : (v : Walk) (n : ℕ) {o : ℕ} {r : TermEntry} → o ≡ cell (memory v) (rows v) term_offset n → TermAt v.records.now.file.now o r → TermAt v.records.now.file.now (cell (memory v) (rows v) term_offset n) r
read_at v n {r = r} at T = subst (λ (j : ℕ). TermAt v.records.now.file.now j r) at T

module _ (v : Walk) {n o : ℕ} {r : TermEntry} (at : o ≡ cell (memory v) (rows v) term_offset n) (T : TermAt v.records.now.file.now o r) where
  -- the term whose entry says this mark and these children
  is_term : {m : TermMark ℕ ℕ} {rs : List ℕ} → term_said r ≡ some (term m rs) → (f : TermFile) → Indexed f v → n < length (terms f) → TermIs f n m rs
  is_term e f I l = entry_is (held_by v.records.now) (read_at v n at T) e f I l

  -- an entry that says none does not occur
  no_term : term_said r ≡ none → (f : TermFile) → Indexed f v → n < length (terms f) → ⊥
  no_term e f I l = subst (EntryIs f n) e (term_here (held_by v.records.now) (read_at v n at T) f I l)

-- ---- the step of each mark

module _ (e : Enums) (u : Tm) (ts : Forest Mark) (S : State) where
  step_entity : (ty : Ty) (id : Bytes) → u ≡ node (tree.Entity ty id) ts → encode_new e u S ≡ define_entity e u id (enum_of e ty) S
  unfolding encode_new
  step_entity ty id h = rw h

  step_some : u ≡ node tree.Some ts → encode_new e u S ≡ define_term e u S
  unfolding encode_new
  step_some h = rw h

  step_set : (ty : Ty) → u ≡ node (tree.Set ty) ts → encode_new e u S ≡ define_term e u S
  unfolding encode_new
  step_set ty h = rw h

  step_record : (ns : List Bytes) → u ≡ node (tree.Record ns) ts → encode_new e u S ≡ define_term e u S
  unfolding encode_new
  step_record ns h = rw h

  step_app : (ty : Ty) (op : tree.Op tree.Fun) → u ≡ node (tree.App ty op) ts → encode_new e u S ≡ define_app e u op (negation u) S
  unfolding encode_new
  step_app ty op h = rw h

-- the step of an extension literal or of `none`
module _ (e : Enums) (u : Tm) (ts : Forest Mark) (S : State) where
  step_ext : (x : tree.Value) → u ≡ node (tree.ExtLit x) ts → encode_new e u S ≡ define_term e u S
  unfolding encode_new
  step_ext x h = rw h

  step_none : (ty : Ty) → u ≡ node (tree.None ty) ts → encode_new e u S ≡ define_term e u S
  unfolding encode_new
  step_none ty h = rw h

-- ---- the step of each entry

module _ {v w : Walk} {n o : ℕ} {r : TermEntry} {x : Result (Unit {0}) Stopped} (at : o ≡ cell (memory v) (rows v) term_offset n) (T : TermAt v.records.now.file.now o r) where
  pub new_var : {s : Bor Bytes} {t : ℕ} → r ≡ entry.Var s t → Advances (VariableAt n) (new_walk n) v w x → Advances (NewAt n) (new_walk n) v w x
  unfolding term_said named_mark is_variable
  new_var e A =
      advances_by (λ f S I y.
      let K = is_term v at T (ap term_said e) f I y.below in
      (record { at = y; is = ap is_variable (sym K.tree) }, refl)) A

  pub new_string : {s : Bor Bytes} → r ≡ entry.StringLit s → Advances (LiteralAt n s.now) (new_walk n) v w x → Advances (NewAt n) (new_walk n) v w x
  unfolding term_said named_mark TermSound
  new_string e A =
      advances_by (λ f S I y.
      let K = is_term v at T (ap term_said e) f I y.below in
      (record { below = y.below; utf8 = K.sound; rest = _; is = sym K.tree }, refl)) A

  pub new_entity : {s : Bor Bytes} {t : ℕ} → r ≡ entry.Entity t s → Advances (EntityAt n t s.now) (entity_walk n t s.now) v w x → Advances (NewAt n) (new_walk n) v w x
  unfolding term_said named_mark forest new_walk entity_walk TermSound MarkInRange counted
  new_entity e A =
      advances_by (λ f S I y.
      let K = is_term v at T (ap term_said e) f I y.below in
      (record { at = record { at = y; is = record { inside = y.below; type_inside = K.in_range; children = nil; tree = K.tree } }; utf8 = K.sound }, step_entity (members f) (term_at f n) _ S _ _ (sym K.tree))) A

  pub new_some : {m : ℕ} → r ≡ entry.Some m → Advances (KnownAt n (SomeIs n m)) (define_walk n) v w x → Advances (NewAt n) (new_walk n) v w x
  unfolding term_said named_mark new_walk define_walk
  new_some e A =
      advances_by (λ f S I y.
      let is = is_term v at T (ap term_said e) f I y.below in
      (record { at = y; is = record { is = is } }, step_some (members f) (term_at f n) _ S (sym is.tree))) A

  module _ {c : Children} where
    pub new_set : {t : ℕ} → r ≡ entry.Set t c → Advances (KnownAt n (SetIs n (children_in c))) (define_walk n) v w x → Advances (NewAt n) (new_walk n) v w x
    unfolding term_said named_mark new_walk define_walk
    new_set {t} e A =
        advances_by (λ f S I y.
        let is = is_term v at T (ap term_said e) f I y.below in
        (record { at = y; is = record { element = t; is = is } }, step_set (members f) (term_at f n) _ S _ (sym is.tree))) A

    pub new_record : r ≡ entry.Record c → Advances (KnownAt n (RecordIs n (children_in c))) (define_walk n) v w x → Advances (NewAt n) (new_walk n) v w x
    unfolding term_said named_mark new_walk define_walk
    new_record e A =
        advances_by (λ f S I y.
        let is = is_term v at T (ap term_said e) f I y.below in
        (record { at = y; is = record { names = _; is = is } }, step_record (members f) (term_at f n) _ S _ (sym is.tree))) A

    pub new_app : {t : ℕ} {op : Op} → r ≡ entry.App t op c → Advances (AppAt (record { op = op; arguments = c; number = n })) (app_walk n (op_of op)) v w x → Advances (NewAt n) (new_walk n) v w x
    unfolding term_said named_mark new_walk app_walk
    new_app {t} e A =
        advances_by (λ f S I y.
        let is = is_term v at T (ap term_said e) f I y.below in
        (record { at = y; result = t; is = is }, step_app (members f) (term_at f n) _ S _ _ (sym is.tree))) A

  -- a term that is not compound, and is defined whatever it holds
  new_plain : (m : TermMark ℕ ℕ) → term_said r ≡ some (term m []) → ((f : TermFile) (S : State) (ts : Forest Mark) → term_at f n ≡ node (named_mark f m) ts → (is_compound (term_at f n) ≡ false) × (encode_new (members f) (term_at f n) S ≡ define_term (members f) (term_at f n) S))
      → Advances (KnownAt n (PlainIs n)) (define_walk n) v w x → Advances (NewAt n) (new_walk n) v w x
  unfolding new_walk define_walk
  new_plain m e h A =
      advances_by (λ f S I y.
      let K = is_term v at T e f I y.below in
      let d = h f S _ (sym K.tree) in
      (record { at = y; is = record { plain = d.0 } }, d.1)) A

  pub new_defined : ((y : Value) × (r ≡ entry.ExtLit y)) ⊎ ((t : ℕ) × (r ≡ entry.None t)) → Advances (KnownAt n (PlainIs n)) (define_walk n) v w x → Advances (NewAt n) (new_walk n) v w x
  unfolding term_said named_mark is_compound
  new_defined (inl p) A = new_plain (tree.ExtLit (value_of p.0)) (ap term_said p.1) (λ f S ts is. (ap is_compound is, step_ext (members f) (term_at f n) ts S _ is)) A
  new_defined (inr p) A = new_plain (tree.None p.0) (ap term_said p.1) (λ f S ts is. (ap is_compound is, step_none (members f) (term_at f n) ts S _ is)) A

module _ {v : Walk} {n o : ℕ} {r : TermEntry} (at : o ≡ cell (memory v) (rows v) term_offset n) (T : TermAt v.records.now.file.now o r) where
  -- a literal that is spelled where it is used
  new_nothing : (x : TermMark ℕ ℕ) (ss : List ℕ) → term_said r ≡ some (term x ss) → ((f : TermFile) (ts : Forest Mark) (S : State) → encode_new (members f) (node (named_mark f x) ts) S ≡ went S)
      → Advances (NewAt n) (new_walk n) v v (Ok tt)
  unfolding new_walk
  new_nothing x ss e h =
      advances_passed (λ f limit b S I y W.
      let K = is_term v at T e f I y.below in
      ap (λ (u : Tm). encode_new (members f) u S) (sym K.tree) ∙ h f _ S)

  -- a literal, or what is no term
  pub new_left : ((b : Bool) × (r ≡ entry.BoolLit b)) ⊎ (((width : ℕ) × (value : ℕ) × (r ≡ entry.BitVecLit width value)) ⊎ (r ≡ entry.Unreadable)) → Advances (NewAt n) (new_walk n) v v (Ok tt)
  unfolding term_said named_mark encode_new
  new_left (inl p) = new_nothing _ _ (ap term_said p.1) (λ f ts S. refl)
  new_left (inr (inl p)) = new_nothing _ _ (ap term_said p.2) (λ f ts S. refl)
  new_left (inr (inr e)) = advances_passed (λ f limit b S I y W. absurd (no_term v at T (ap term_said e) f I y.below))

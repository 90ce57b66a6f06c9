-- The heads of applications, from the operator of an entry.
-- Assumes nothing.
use mathlib.Core.Path.{◌≡◌, refl, sym, ap, ◌∙◌}
use mathlib.Core.List.{List, [], ◌∷◌, ◌++◌}
use mathlib.Core.Logic.{inl, inr}
use mathlib.Core.Option.{none, some}
use Prim.Native.Nat.{ℕ, ◌<◌}
use lib.ListN.{length}
use denote.Bor.{Bor}
use Rattle.std.specs.Prelude as std
use Rattle.script_spec.specs.Base.{Bytes, bytes, joined, and_then}
use Rattle.script_spec.specs.Tree as tree
use Rattle.script_spec.specs.Tree.{Ty, Forest, TypeMark, forest, type_of, types_of, attribute}
use Rattle.script_spec.specs.File.{TermFile, types, type_at, term_at, named_op}
use Rattle.script_spec.specs.Text.{decimal}
use Rattle.script_spec.specs.Command.{headed, spaced}
use Rattle.script_spec.specs.Spelling.{Names, sort, attribute_name, selector_by, selector}
use Rattle.script_spec.specs.Walk.{numbered, names}
use Rattle.refusal.specs.Numbers.{option_of}
use Rattle.write_bytes.specs.declared.writer.Writer.{Writer}
use Rattle.write_bytes.specs.Writers.{Writes}
use Rattle.index.specs.Cells.{cell, term_type, fun_first}
use Rattle.index.specs.First.{All, Below, OpInRange}
use Rattle.index.specs.Meaning.{counted}
use Rattle.index.specs.declared.Records.{Records}
use Rattle.walk_names.specs.Naming.{fun_names, name_at, place_of, IndexOf}
use Rattle.walk_names.proofs.Names.{name_fun}
use Rattle.read_operator.specs.Operators.{op_of}
use Rattle.read_operator.specs.declared.Op.{Op}
use Rattle.read_operator.specs.declared.Op.TheVariants as op
use Rattle.index_entry.specs.Terms.{children_in}
use Rattle.index_entry.specs.declared.terms.Children.{Children}
use Rattle.index_entry.specs.declared.terms.Application.{Application}
use Rattle.refusal.specs.declared.Refusal.{Refusal}
use Rattle.walk_queries.specs.Searches.{attribute_answer, asked_attribute, FindsAttribute}
use Rattle.walk_queries.proofs.AnswerLaws.{attribute_there, attribute_nowhere}
use Rattle.write_atoms.specs.Symbols.{symbol, symbol_of}
use Rattle.write_atoms.specs.Parts.{SpellsNumbered}
use Rattle.walk_names.proofs.Spelling.{written, spells_as, unwritten, knowing}
use Rattle.write_terms.specs.Arguments.{HasTerms}
use Rattle.write_terms.specs.Applications.{types_at, head_of, SpellsSelector, SpellsOperatorHead}

-- ---- selectors

-- the first of some terms decides
selector_first : (ν : Names) (f : TermFile) (a : Bytes) (n : ℕ) (ns : List ℕ) (ty : Ty) → ty ≡ type_of (term_at f n) → selector_by (sort ν ty) (attribute a ty) ≡ selector ν a (types_at f (n ∷ ns))
unfolding types_at forest types_of selector
selector_first ν f a n ns ty e = ap (λ (t : Ty). selector_by (sort ν t) (attribute a t)) e

no_attribute : (r : std.Result ℕ Refusal) (a : Bytes) (ty : Ty) → ((i : ℕ) → r ≡ std.Ok i → ⊥) → attribute_answer r ≡ asked_attribute a ty → attribute a ty ≡ none
unfolding attribute_answer attribute and_then
no_attribute (std.Ok i) a ty h e = absurd (h i refl)
no_attribute (std.Err x) a ty h e = elim (attribute_nowhere a ty e) [
  | inl w ↦ rw w.1
  | inr w ↦ w.2
]

module _ (records : Records) (c : Children) (name : Bytes) where
  -- no argument
  pub selector_none : {v : Writer} → children_in c ≡ [] → SpellsSelector records c name v v
  unfolding types_at forest types_of selector
  selector_none e = unwritten (λ f S I N b. rw e)

  module _ {n t : ℕ} {ns : List ℕ} {r : std.Result ℕ Refusal} (cs : children_in c ≡ n ∷ ns) (e : t ≡ cell records.work.now records.sizes.rows term_type n) (F : FindsAttribute records.file.now records.work.now records.sizes t name r) where
    -- the type of the first argument
    first_child : {P : Type 0} (f : TermFile) → IndexOf f records → HasTerms (children_in c) f
        → (t < length (types f) → type_at f t ≡ type_of (term_at f n) → attribute_answer r ≡ asked_attribute name (type_at f t) → P) → P
    unfolding Below All
    first_child f I b next =
        let below = rw cs at b in
        let row = I.rows.term_row n below.0 in
        let inside : t < length (types f) = rw e row.type_below in
        next inside (rw e row.type_is) (F.go f I inside)

    pub selector_at : {i : ℕ} {v w : Writer} → r ≡ std.Ok i → SpellsNumbered records t (bytes "_a") i v w → SpellsSelector records c name v w
    unfolding attribute_answer selector_by attribute_name
    selector_at {i} h P =
        spells_as (λ f S I N b.
        first_child f I b (λ inside ty said.
        let found : attribute name (type_at f t) ≡ some i = (attribute_there name (type_at f t) (sym (ap attribute_answer h) ∙ said)).1 in
        ap (selector_by (sort (names S) (type_at f t))) (sym found) ∙ selector_first (names S) f name n ns _ ty ∙ (rw cs))) (knowing (λ f I b. first_child f I b (λ inside ty said. inside)) P)

    pub selector_nowhere : {v : Writer} → ((i : ℕ) → r ≡ std.Ok i → ⊥) → SpellsSelector records c name v v
    unfolding selector_by
    selector_nowhere h =
        unwritten (λ f S I N b.
        first_child f I b (λ inside ty said.
        ap (selector_by (sort (names S) (type_at f t))) (sym (no_attribute r name (type_at f t) h said)) ∙ selector_first (names S) f name n ns _ ty ∙ (rw cs)))

-- ---- heads

pub zero_extend_pieces : (n : ℕ) → bytes "(_ zero_extend " ++ (decimal n ++ bytes ")") ≡ headed (bytes "_") (bytes "zero_extend" ∷ decimal n ∷ [])
unfolding headed spaced joined bytes
zero_extend_pieces n = refl

-- an operator of the code by what it is in the tree
pub op_cases : {P : Type 0} (o : Op) → ((x : tree.PlainOp) → op_of o ≡ tree.Plain x → P) → ((x : tree.ExtOp) → op_of o ≡ tree.Ext x → P) → ((a : Bor Bytes) → o ≡ op.RecordGet a → P)
    → ((p : Bor Bytes) → o ≡ op.StringLike p → P) → ((g : ℕ) → o ≡ op.Uuf g → P) → ((n : ℕ) → o ≡ op.ZeroExtend n → P) → P
unfolding op_of
op_cases op.And plain ext get like call extend = plain _ refl
op_cases op.Bvadd plain ext get like call extend = plain _ refl
op_cases op.Bvlshr plain ext get like call extend = plain _ refl
op_cases op.Bvmul plain ext get like call extend = plain _ refl
op_cases op.Bvneg plain ext get like call extend = plain _ refl
op_cases op.Bvnego plain ext get like call extend = plain _ refl
op_cases op.Bvsaddo plain ext get like call extend = plain _ refl
op_cases op.Bvsdiv plain ext get like call extend = plain _ refl
op_cases op.Bvshl plain ext get like call extend = plain _ refl
op_cases op.Bvsle plain ext get like call extend = plain _ refl
op_cases op.Bvslt plain ext get like call extend = plain _ refl
op_cases op.Bvsmod plain ext get like call extend = plain _ refl
op_cases op.Bvsmulo plain ext get like call extend = plain _ refl
op_cases op.Bvsrem plain ext get like call extend = plain _ refl
op_cases op.Bvssubo plain ext get like call extend = plain _ refl
op_cases op.Bvsub plain ext get like call extend = plain _ refl
op_cases op.Bvudiv plain ext get like call extend = plain _ refl
op_cases op.Bvule plain ext get like call extend = plain _ refl
op_cases op.Bvult plain ext get like call extend = plain _ refl
op_cases op.Bvurem plain ext get like call extend = plain _ refl
op_cases op.Eq plain ext get like call extend = plain _ refl
op_cases (op.Ext x) plain ext get like call extend = ext _ refl
op_cases op.Ite plain ext get like call extend = plain _ refl
op_cases op.Not plain ext get like call extend = plain _ refl
op_cases op.OptionGet plain ext get like call extend = plain _ refl
op_cases op.Or plain ext get like call extend = plain _ refl
op_cases (op.RecordGet a) plain ext get like call extend = get a refl
op_cases op.SetInter plain ext get like call extend = plain _ refl
op_cases op.SetMember plain ext get like call extend = plain _ refl
op_cases op.SetSubset plain ext get like call extend = plain _ refl
op_cases (op.StringLike p) plain ext get like call extend = like p refl
op_cases (op.Uuf g) plain ext get like call extend = call g refl
op_cases (op.ZeroExtend n) plain ext get like call extend = extend n refl

-- the operators whose head is a symbol; a pattern stands after the arguments
pub record Symbolic (o : Op) : Type 0 where
  pub not_get : (name : Bor Bytes) → o ≡ op.RecordGet name → ⊥
  pub not_function : (g : ℕ) → o ≡ op.Uuf g → ⊥
  pub not_extend : (n : ℕ) → o ≡ op.ZeroExtend n → ⊥

symbol_head : (ν : Names) (f : TermFile) (o : Op) (tys : Forest TypeMark) → Symbolic o → symbol_of o ≡ head_of ν (named_op f (op_of o)) tys
unfolding symbol_of symbol op_of named_op head_of
symbol_head ν f o tys h =
    op_cases o (λ x e. rw e) (λ x e. rw e) (λ a e. absurd (h.not_get a e)) (λ p e. rw e) (λ g e. absurd (h.not_function g e)) (λ n e. absurd (h.not_extend n e))

module _ {records : Records} {call : Application} {v w : Writer} where
  pub head_selector : {name : Bor Bytes} → call.op ≡ op.RecordGet name → SpellsSelector records call.arguments name.now v w → SpellsOperatorHead records call v w
  unfolding op_of named_op head_of
  head_selector e P = spells_as (λ f S I N k. rw e) (knowing (λ f I k. k.below) P)

  pub head_function : {g : ℕ} (name : std.Option ℕ) → call.op ≡ op.Uuf g → option_of name ≡ place_of (name_at records.work.now records.sizes.rows fun_first fun_names g)
      → Writes v w (numbered (bytes "f") (option_of name)) → SpellsOperatorHead records call v w
  unfolding op_of named_op head_of OpInRange counted
  head_function {g} name e h A = spells_as (λ f S I N k. ap (numbered (bytes "f")) h ∙ sym (name_fun I.rows g N (rw e at k.op_in_range)) ∙ (rw e)) (written A)

  pub head_extend : {m : ℕ} → call.op ≡ op.ZeroExtend m → Writes v w (headed (bytes "_") (bytes "zero_extend" ∷ decimal m ∷ [])) → SpellsOperatorHead records call v w
  unfolding op_of named_op head_of
  head_extend e A = spells_as (λ f S I N k. rw e) (written A)

  pub head_symbol : Symbolic call.op → Writes v w (symbol_of call.op) → SpellsOperatorHead records call v w
  head_symbol h A = spells_as (λ f S I N k. symbol_head (names S) f call.op _ h) (written A)

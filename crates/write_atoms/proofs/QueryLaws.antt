-- Entities and applications where they are used, from what is asked of them: an enum's members, and what a `Bvnego` becomes.
-- Assumes nothing.
use mathlib.Core.Path.{◌≡◌, refl, sym, ap, ◌∙◌}
use mathlib.Core.Bool.{false}
use mathlib.Core.List.{List, []}
use mathlib.Core.Option.{Option, none, some, none-ne-some}
use Rattle.std.specs.Prelude as std
use Rattle.std.specs.Prelude.{SomeIff}
use Prim.Native.Nat.{ℕ, suc, ◌-◌, ◌≤◌}
use native.Mathlib.Omega.{arith}
use Rattle.script_spec.specs.Base.{Bytes, bytes, is_some, and_then, same, place}
use Rattle.script_spec.specs.Tree.{Ty, Fun, Tm, Op, Enums, Forest, Mark, node, Entity, App, type_of, types_of, type_from, enum_of, Negation, falsehood, negation, is_falsehood}
use Rattle.script_spec.specs.File.{TermFile, type_at, term_at, members}
use Rattle.script_spec.specs.Spelling.{Names, sort, member_name, member_by, entity_by, application, negated, body_over, body, inlined, atom}
use Rattle.script_spec.specs.Walk.{State, names}
use Rattle.script_spec.proofs.Laws.{never}
use Rattle.walk_queries.proofs.NegationLaws.{falsehood_is}
use Rattle.write_bytes.specs.declared.writer.Writer.{Writer}
use Rattle.write_bytes.specs.Writers.{Writes}
use Rattle.index.specs.Cells.{cell, term_first, note}
use Rattle.index.specs.First.{first_term}
use Rattle.index.specs.declared.Records.{Records}
use Rattle.index.proofs.Firsts.{first_below, first_terms}
use Rattle.walk_names.specs.Naming.{place_of, IndexOf, NumbersOf}
use Rattle.walk_names.proofs.Notes.{note_equal}
use Rattle.write_atoms.specs.Parts.{term_name_of, SpellsNumbered}
use Rattle.write_atoms.proofs.Numbered.{name_is}
use Rattle.walk_queries.specs.Negations.{negation_said, NegationOf}
use Rattle.walk_queries.specs.Searches.{FindsMember}
use Rattle.walk_queries.proofs.AnswerLaws.{Placed, MemberSaid, member_said}
use Rattle.walk_queries.specs.declared.queries.Member.{Member}
use Rattle.walk_queries.specs.declared.queries.Member.TheVariants as member
use Rattle.walk_queries.specs.declared.queries.Negated.{Negated}
use Rattle.walk_queries.specs.declared.queries.Negated.TheVariants as answer
use Rattle.write_atoms.specs.Atoms.{EntityIs, CallIs, SpellsEntity, SpellsCall}
use Rattle.walk_names.proofs.Spelling.{written, spells_as, unwritten, knowing}
use Rattle.write_atoms.proofs.AtomLaws.{named_is, inlined_is}

-- ---- entities

-- an entity of an enum, by its place among the members
member_is : (e : Enums) (ν : Names) (T : Ty) (id : Bytes) (ts : Forest Mark) (ms : List Bytes) (o : Option ℕ) → enum_of e T ≡ some ms → place (same id) ms ≡ o
    → member_by (sort ν T) o ≡ atom e ν (node (Entity T id) ts)
unfolding inlined body body_over type_of type_from entity_by is_some
member_is e ν T id ts ms o h i =
    ap (member_by (sort ν T)) (sym i) ∙ ap (entity_by (sort ν T) id) (sym h) ∙ inlined_is e ν (node (Entity T id) ts) (ap is_some h)

-- an entity of no enum
entity_named : (e : Enums) (T : Ty) (id : Bytes) (ts : Forest Mark) → enum_of e T ≡ none → inlined e (node (Entity T id) ts) ≡ false
unfolding inlined is_some
entity_named e T id ts h = ap is_some h

-- a place that is noted
noted_there : (m i : ℕ) (o : std.Option ℕ) → SomeIff o (1 ≤ m) (m - 1) → o ≡ std.Some i → place_of m ≡ some i
unfolding place_of
noted_there m i std.None h e = never cc
noted_there m i (std.Some j) h e = let same_place : j ≡ i = cc in let is : m ≡ suc i = omega (arith, h.0, h.1, same_place) in rw is refl

-- a place in what may be an enum is one in an enum
in_enum : (e : Enums) (T : Ty) (id : Bytes) {i : ℕ} → and_then (enum_of e T) (place (same id)) ≡ some i → Placed e T id (some i)
unfolding and_then
in_enum e T id {i} = by (enum_of e T) refl
  where
    by : (o : Option (List Bytes)) → enum_of e T ≡ o → and_then o (place (same id)) ≡ some i → Placed e T id (some i)
    by none h q = never cc
    by (some ms) h q = record { members = ms; are = h; is = q }

module _ {records : Records} {n t : ℕ} {id : Bytes} {i : ℕ} {v w : Writer} (P : SpellsNumbered records t (bytes "_m") i v w) where
  -- a member by its place
  member_by_place : ((f : TermFile) (S : State) → IndexOf f records → NumbersOf f records S → EntityIs n t id f → Placed (members f) (type_at f t) id (some i)) → SpellsEntity records n t id v w
  unfolding member_by member_name
  member_by_place h =
      spells_as (λ f S I N (k : EntityIs n t id f).
      let found : Placed (members f) (type_at f t) id (some i) = h f S I N k in
      member_is (members f) (names S) _ id k.children _ (some i) found.are found.is ∙ ap (atom (members f) (names S)) k.tree) (knowing (λ f I k. k.type_inside) P)

  -- by the place that is noted of the first equal term
  pub entity_noted : {first m : ℕ} (o : std.Option ℕ) → first ≡ cell records.work.now records.sizes.rows term_first n → m ≡ cell records.work.now records.sizes.rows note first → SomeIff o (1 ≤ m) (m - 1) → o ≡ std.Some i
      → SpellsEntity records n t id v w
  unfolding place_of
  entity_noted {m = m} o at read h e =
      let there : place_of m ≡ some i = noted_there m i o h e in
      member_by_place (λ f S I N k.
      let F = first_terms f in
      let first_is = at ∙ (I.rows.term_row n k.inside).first in
      let is = read ∙ ap (cell records.work.now records.sizes.rows note) first_is in
      let says = N.notes.says (first_term f n) (first_below F n k.inside) (λ z. none-ne-some i (ap place_of (sym (is ∙ z)) ∙ there)) in
      in_enum (members f) (type_at f t) id ((note_equal (F.names n k.inside) says).entity _ id k.children (sym k.tree) ∙ ap place_of (sym is) ∙ there))

module _ {records : Records} {n t : ℕ} {id : Bytes} {r : Member} (M : FindsMember records.file.now records.work.now records.sizes t id r) where
  pub entity_by_name : {v w : Writer} → r ≡ member.NoEnum → Writes v w (term_name_of records n) → SpellsEntity records n t id v w
  unfolding MemberSaid
  entity_by_name e A =
      spells_as (λ f S I N (k : EntityIs n t id f).
      let no_enum : enum_of (members f) (type_at f t) ≡ none = member_said member.NoEnum _ _ id (rw e at (M.go f I k.type_inside)) in
      name_is records I N k.inside ∙ named_is (members f) (names S) (term_at f n) (sym (ap (inlined (members f)) k.tree) ∙ entity_named (members f) _ id k.children no_enum)) (written A)

  pub entity_member : {i : ℕ} {v w : Writer} → r ≡ member.At i → SpellsNumbered records t (bytes "_m") i v w → SpellsEntity records n t id v w
  unfolding MemberSaid
  entity_member {i} e P = member_by_place P (λ f S I N k. member_said (member.At i) _ _ id (rw e at (M.go f I k.type_inside)))

  pub entity_stranger : {v : Writer} → r ≡ member.NotMember → SpellsEntity records n t id v v
  unfolding MemberSaid member_by
  entity_stranger e =
      unwritten (λ f S I N (k : EntityIs n t id f).
      let found : Placed (members f) (type_at f t) id none = member_said member.NotMember _ _ id (rw e at (M.go f I k.type_inside)) in
      member_is (members f) (names S) _ id k.children _ none found.are found.is ∙ ap (atom (members f) (names S)) k.tree)

-- ---- applications

false_is : (e : Enums) (ν : Names) (ty : Ty) (op : Op Fun) (ts : Forest Mark) → negation (node (App ty op) ts) ≡ falsehood → bytes "false" ≡ atom e ν (node (App ty op) ts)
unfolding inlined body body_over negated
false_is e ν ty op ts h =
    ap (λ (z : Negation). negated z (application ν op (types_of ts) []) []) (sym h) ∙ inlined_is e ν (node (App ty op) ts) (falsehood_is (node (App ty op) ts) h)

not_false : (r : Negated) → (r ≡ answer.Falsehood → ⊥) → (t : Tm) → negation_said r ≡ negation t → is_falsehood t ≡ false
unfolding negation_said is_falsehood
not_false answer.Ordinary h t e = rw (← e, is_falsehood)
not_false answer.Falsehood h t e = absurd (h refl)
not_false (answer.Comparison n) h t e = rw (← e, is_falsehood)

module _ {records : Records} {n : ℕ} {v w : Writer} {r : Negated} (M : NegationOf records.file.now records.work.now records.sizes n r) where
  pub call_false : r ≡ answer.Falsehood → Writes v w (bytes "false") → SpellsCall records n v w
  unfolding negation_said
  call_false e A es =
      spells_as (λ f S I N (k : CallIs n f).
      let is : negation (node (App k.result k.op) k.children) ≡ falsehood = ap negation k.tree ∙ sym (M.go f I k.inside) ∙ ap negation_said e in
      false_is es (names S) k.result k.op k.children is ∙ ap (atom es (names S)) k.tree) (written A)

  pub call_named : (r ≡ answer.Falsehood → ⊥) → Writes v w (term_name_of records n) → SpellsCall records n v w
  unfolding inlined
  call_named h A es =
      spells_as (λ f S I N (k : CallIs n f).
      let is : inlined es (term_at f n) ≡ false = ap (inlined es) (sym k.tree) ∙ ap is_falsehood k.tree ∙ not_false r h (term_at f n) (M.go f I k.inside) in
      name_is records I N k.inside ∙ named_is es (names S) (term_at f n) is) (written A)

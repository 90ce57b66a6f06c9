-- A term that is still new after a step, and entities by the enum that their type is.
-- Assumes nothing.
use Prim.Native.Nat.{ℕ, ◌+◌, ◌^◌, ◌<◌}
use native.Mathlib.Numerals.{add-one}
use mathlib.Core.Path.{◌≡◌, refl, sym, ap, ◌∙◌, subst}
use mathlib.Core.Bool.{true, false}
use mathlib.Core.List.{List}
use mathlib.Core.Option.{Option, none, some}
use lib.Dec.{T}
use Rattle.std.specs.Prelude.{Option as Optional, None, Some, SomeIff, unwrap_or, Result, Ok, Err}
use Rattle.script_spec.specs.Base.{Bytes, any, and_then, same, place, is_some}
use Rattle.script_spec.specs.Utf8.{code_points}
use Rattle.script_spec.specs.Tree.{Ty, Tm, Forest, Mark, node, Entity, Enums, enum_of, eq_tm}
use Rattle.script_spec.specs.File.{TermFile, members, type_at, term_at}
use Rattle.script_spec.specs.Walk as walk
use Rattle.script_spec.specs.Walk.{State, Step, went, ◌>>◌, refuse_unless, first_high, refuse_high, define_entity}
use Rattle.script_spec.proofs.Laws.{never, any_place}
use Rattle.script_spec.proofs.Equal.{eq_tm_sym}
use Rattle.script_spec.proofs.Steps.{Ends, ends_went, ends_high}
use Rattle.script_spec.proofs.EnteredTerms.{New}
use Rattle.refusal.specs.declared.Refusal.TheVariants as refusal
use Rattle.refusal.specs.Numbers.{number, option_of}
use Rattle.read_utf8.specs.Decoding.{points}
use Rattle.read_utf8.proofs.Laws.{utf8_points}
use Rattle.index.specs.Cells.{cell, store, term_first, note}
use Rattle.index.specs.First.{first_term}
use Rattle.index.specs.Held.{Becomes}
use Rattle.index.specs.declared.RecordsMut.{RecordsMut}
use Rattle.index.proofs.Firsts.{first_below, first_terms}
use Rattle.walk_names.specs.Naming.{place_of, NoteSays}
use Rattle.walk_names.proofs.Notes.{note_equal}
use Rattle.walk_names.specs.Progress.{memory, rows, Advances}
use Rattle.walk_names.specs.declared.walk.Walk.{Walk}
use Rattle.walk_names.specs.declared.walk.Stopped.{Stopped}
use Rattle.walk_names.proofs.Advancing.{advances_by, advances_stopped, advances_then, advances_stays}
use Rattle.walk_names.proofs.Entering.{held, advances_noted}
use Rattle.walk_queries.specs.Searches.{FindsMember}
use Rattle.walk_queries.proofs.AnswerLaws.{Placed, MemberSaid, member_said}
use Rattle.walk_queries.specs.declared.queries.Member.{Member}
use Rattle.walk_queries.specs.declared.queries.Member.TheVariants as member
use Rattle.write_atoms.specs.Atoms.{EntityIs}
use Rattle.write_terms.specs.Lines.{is_compound}
use Rattle.write_terms.specs.Definitions.{PlainIs}
use Rattle.walk_new.specs.Steps.{NewAt, term_ready, enter_walk, high_walk, high_told}
use Rattle.walk_new.specs.News.{KnownAt, StringAt, EntityAt, define_walk, string_walk, entity_walk}
use Rattle.walk_new.proofs.Testing.{advances_high}

-- ---- steps that leave a term new

-- a step that leaves it new leaves it new where it went
pub new_after : {n : ℕ} {f : TermFile} {S S' : State} {x : Step} → NewAt n f S → Ends (New (term_at f n)) (λ m u q. Unit {0}) x → x ≡ went S' → NewAt n f S'
new_after r h e = record { below = r.below; new = ends_went h e }

-- ---- entities

module _ (e : Enums) (t : Tm) (id : Bytes) (o : Option (List Bytes)) (ms : List Bytes) (S : State) (h : o ≡ some ms) where
  -- no member, and a member
  not_member : any (same id) ms ≡ false → define_entity e t id o S ≡ walk.stopped 14 t 0
  unfolding define_entity ◌>>◌ refuse_unless
  not_member g = rw (h, g, define_entity, ◌>>◌)

  is_member : any (same id) ms ≡ true → define_entity e t id o S ≡ walk.enter t S
  unfolding define_entity ◌>>◌ refuse_unless
  is_member g = rw (h, g, define_entity, ◌>>◌)

module _ {n : ℕ} {id : Bytes} {v : Walk} (o : Optional ℕ) (e : option_of o ≡ first_high (points id)) where
  -- the text is tested
  text_tested : Advances (StringAt n id) (high_walk 15 (code_points id) n) v v (high_told o refusal.HighId n)
  unfolding high_walk number term_ready
  text_tested = advances_by (λ f S I s. (s.at.at.below, ap (λ (cs : List ℕ). refuse_high 15 (term_at f n) cs S) (sym (utf8_points id s.utf8)))) (advances_high _ o refusal.HighId n e)

  -- an entity whose type is no enum: the text, then the definition
  pub string_entity : {w : Walk} {x : Result (Unit {0}) Stopped} → o ≡ None → Advances (KnownAt n (PlainIs n)) (define_walk n) v w x → Advances (StringAt n id) (string_walk n id) v w x
  unfolding string_walk high_walk
  string_entity h D =
      advances_then (high_walk 15 (code_points id) n) (define_walk n) (rw h at text_tested) D
      (λ f S S' I s q. record { at = new_after s.at.at (ends_high 15 (term_at f n) (code_points id) S s.at.at.new (λ i k. tt)) q; is = s.at.is })

  pub string_stopped : {i : ℕ} → o ≡ Some i → Advances (StringAt n id) (string_walk n id) v v (Err (record { refusal = refusal.HighId; term = n; position = i }))
  unfolding string_walk
  string_stopped h = advances_stays (high_walk 15 (code_points id) n) (define_walk n) (rw h at text_tested)

-- what a note says of a member
note_of_member : (e : Enums) (ty : Ty) (id : Bytes) (ts : Forest Mark) {i m : ℕ} → Placed e ty id (some i) → place_of m ≡ some i → NoteSays e (node (Entity ty id) ts) m
unfolding and_then
note_of_member e ty id ts h p =
    record {
      literal = λ s ts' is. never cc;
      entity = λ ty' id' ts' is. let a : ty ≡ ty' = cc in let b : id ≡ id' = cc in rw (← a, ← b, h.are, and_then) (h.is ∙ sym p);
    }

-- the place that is noted
pub place_noted : {i : ℕ} (o : Optional ℕ) → SomeIff o (i + 1 < 2 ^ 32) (i + 1) → (unwrap_or o 0 ≡ 0 → ⊥) → place_of (unwrap_or o 0) ≡ some i
unfolding place_of
place_noted None h q = absurd (q refl)
place_noted {i} (Some m) h q = rw (h.1, add-one i) refl

module _ {n t : ℕ} {id : Bytes} {v : Walk} {r : Member} (F : FindsMember v.records.now.file.now (memory v) v.records.now.sizes t id r) where
  pub entity_plain : {w : Walk} {x : Result (Unit {0}) Stopped} → r ≡ member.NoEnum → Advances (StringAt n id) (string_walk n id) v w x → Advances (EntityAt n t id) (entity_walk n t id) v w x
  unfolding entity_walk string_walk high_walk define_walk define_entity MemberSaid is_compound
  entity_plain e A =
      advances_by (λ f S I s.
      let h : enum_of (members f) (type_at f t) ≡ none = subst (λ (y : Member). MemberSaid y (members f) (type_at f t) id) e (member_said r (members f) (type_at f t) id (F.go f I s.at.is.type_inside)) in
      (record { at = record { at = s.at.at; is = record { plain = ap is_compound (sym s.at.is.tree) } }; utf8 = s.utf8 }, ap (λ (o : Option (List Bytes)). define_entity (members f) (term_at f n) id o S) h)) A

  pub entity_outside : r ≡ member.NotMember → Advances (EntityAt n t id) (entity_walk n t id) v v (Err (record { refusal = refusal.NotMember; term = n; position = 0 }))
  unfolding entity_walk MemberSaid is_some number
  entity_outside e =
      advances_stopped _ (λ f limit o S I s W.
      let h : Placed (members f) (type_at f t) id none = subst (λ (y : Member). MemberSaid y (members f) (type_at f t) id) e (member_said r (members f) (type_at f t) id (F.go f I s.at.is.type_inside)) in
      (s.at.at.below, not_member (members f) (term_at f n) id _ h.members S h.are (any_place (same id) h.members ∙ ap is_some h.is)))

  entity_entered : {i : ℕ} {w : Walk} → r ≡ member.At i → Advances (NewAt n) (enter_walk n) v w (Ok tt) → Advances (EntityAt n t id) (entity_walk n t id) v w (Ok tt)
  unfolding entity_walk enter_walk MemberSaid is_some
  entity_entered {i} e E =
      advances_by (λ f S I s.
      let h : Placed (members f) (type_at f t) id (some i) = subst (λ (y : Member). MemberSaid y (members f) (type_at f t) id) e (member_said r (members f) (type_at f t) id (F.go f I s.at.is.type_inside)) in
      (s.at.at, is_member (members f) (term_at f n) id _ h.members S h.are (any_place (same id) h.members ∙ ap is_some h.is))) E

  -- a member is entered, and its place is noted of the first equal term
  pub entity_member : {i first m : ℕ} {w : Walk} {x : RecordsMut} → r ≡ member.At i → Advances (NewAt n) (enter_walk n) v w (Ok tt) → first ≡ cell (memory w) (rows w) term_first n → ((m ≡ 0 → ⊥) → place_of m ≡ some i)
      → Becomes w.records.now x (store (memory w) (rows w) note first m) → Advances (EntityAt n t id) (entity_walk n t id) v (held w x) (Ok tt)
  unfolding MemberSaid
  entity_member {i} {first} {m} e E at place B =
      advances_noted first m B (entity_walk n t id) (entity_entered e E) (λ f S I J s.
      let is : EntityIs n t id f = s.at.is in
      let first_is : first ≡ first_term f n = at ∙ (J.rows.term_row n is.inside).first in
      let h : Placed (members f) (type_at f t) id (some i) = subst (λ (y : Member). MemberSaid y (members f) (type_at f t) id) e (member_said r (members f) (type_at f t) id (F.go f I is.type_inside)) in
      let same : T (eq_tm (term_at f n) (term_at f (first_term f n))) = eq_tm_sym (term_at f (first_term f n)) (term_at f n) ((first_terms f).names n is.inside) in
      rw first_is (first_below (first_terms f) n is.inside, λ q. note_equal same (rw (← is.tree) (note_of_member (members f) (type_at f t) id is.children h (place q)))))

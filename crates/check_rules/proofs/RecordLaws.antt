-- Rule 9 of a type, by its kind and the list of its body.
-- Assumes nothing.
use mathlib.Core.Path.{◌≡◌, refl, ap, ◌∙◌, subst}
use Prim.Native.Nat.{ℕ}
use mathlib.Core.Bool.{Bool, true}
use mathlib.Core.List.{List, [], ◌∷◌}
use mathlib.Core.Option.{some}
use types.Run.{OneOf, miss}
use borrow.Enum.Refused.{Among, opened}
use denote.Ref.{Bor}
use Rattle.std.specs.Prelude.{Option as Optional, None, Some}
use Rattle.read_field.specs.declared.Cursor.{Cursor}
use denote.Enum.Declared.{tag_of}
use Rattle.script_spec.specs.Base.{Bytes, if_some, ascending}
use Rattle.script_spec.specs.Tree.{TypeMark, Bool·, String·, Option·, Set·, BitVec·, Declared, entity, extension, record_of, node, nil, attributes}
use Rattle.script_spec.specs.Fields.{type}
use Rattle.script_spec.proofs.Computes
use Rattle.script_spec.proofs.Laws.{never}
use Rattle.index.specs.Standing.{entry_of, entry_at, mark_at, body_at}
use Rattle.check_rules.specs.Decided.{DecidesList}
use Rattle.check_rules.specs.Tests.{item_text}
use Rattle.check_rules.specs.Records.{TypeAscends}
use Rattle.read_record.specs.Marks.{Marked}
use Rattle.read_record.specs.declared.mark.Kind.{Kind}
use Rattle.read_record.specs.declared.mark.Kind.TheVariants as kind
use Rattle.read_record.specs.contracts.mark.Kind.{the_type}
use Rattle.check_rules.proofs.EntryKinds.{type_kind, kind_of, entry_marked}
use Rattle.check_rules.proofs.Shapes.{record_type_read}

-- the places of all kinds but TR
abbrev other_tags : List ℕ
other_tags = 0 ∷ 1 ∷ 2 ∷ 3 ∷ 4 ∷ 5 ∷ 6 ∷ 8 ∷ 9 ∷ 10 ∷ 11 ∷ 12 ∷ 13 ∷ 14 ∷ 15 ∷ 16 ∷ 17 ∷ 18 ∷ 19 ∷ 20 ∷ 21 ∷ []

-- a type is a record type where its kind is TR
no_attributes : (m : TypeMark) → OneOf other_tags (tag_of the_type (type_kind m)) → true ≡ if_some ascending (attributes (node m nil))
unfolding type_kind Computes.base Computes.tree
no_attributes Bool· h = refl
no_attributes String· h = refl
no_attributes Option· h = refl
no_attributes Set· h = refl
no_attributes (BitVec· n) h = refl
no_attributes (Declared (entity n)) h = refl
no_attributes (Declared (extension x)) h = refl
no_attributes (Declared (record_of names)) h = absurd (miss other_tags 7 tt h)

type_listed : (mark body : Bytes) (b : Bool) (m : TypeMark) (rs : List ℕ) → type_kind m ≡ kind.TR → DecidesList (item_text true) ascending body 0 b → entry_of mark body ≡ some (type m rs)
    → b ≡ if_some ascending (attributes (node m nil))
unfolding type_kind Computes.base Computes.tree item_text
type_listed mark body b Bool· rs l D e = never (cc)
type_listed mark body b String· rs l D e = never (cc)
type_listed mark body b Option· rs l D e = never (cc)
type_listed mark body b Set· rs l D e = never (cc)
type_listed mark body b (BitVec· n) rs l D e = never (cc)
type_listed mark body b (Declared (entity n)) rs l D e = never (cc)
type_listed mark body b (Declared (extension x)) rs l D e = never (cc)
type_listed mark body b (Declared (record_of names)) rs l D e = D.go names [] (record_type_read mark body e)

module _ (file : Bytes) (o : ℕ) {k : Optional Kind} (marked : Marked (mark_at file o) k) where
  kind_of_entry : {m : TypeMark} {rs : List ℕ} → entry_at file o ≡ some (type m rs) → k ≡ Some (type_kind m)
  unfolding kind_of
  kind_of_entry e = entry_marked file o marked e

  -- of another kind
  pub ascends_other : {l : Kind} → k ≡ Some l → Among other_tags (tag_of the_type l) → TypeAscends file o true
  ascends_other {l} q h = record { go = λ m rs e. let same : l ≡ type_kind m = cc (q, kind_of_entry e) in no_attributes m (subst (λ (x : Kind). OneOf other_tags (tag_of the_type x)) same (opened h)) }

  -- of no kind
  pub ascends_none : k ≡ None → TypeAscends file o true
  ascends_none q = record { go = λ m rs e. never (cc (q, kind_of_entry e)) }

  pub ascends_record : {c : Cursor} {body : Bor Bytes} {b : Bool} → k ≡ Some kind.TR → body.now ≡ body_at file o → (c.body ≡ body) × (c.at ≡ 0) → DecidesList (item_text true) ascending c.body.now c.at b → TypeAscends file o b
  unfolding entry_at
  ascends_record {c} {body} {b} h q starts D =
      let there : c.body.now ≡ body_at file o = ap (λ (s : Bor Bytes). s.now) starts.0 ∙ q in
      let at_start : DecidesList (item_text true) ascending (body_at file o) 0 b = rw (there, starts.1) at D in
      record { go = λ m rs e. let same : type_kind m ≡ kind.TR = cc (h, kind_of_entry e) in type_listed (mark_at file o) (body_at file o) b m rs same at_start e }

-- Attributes of record types and members of enums: by the datatype that a type's record has.
-- Assumes nothing.
use Prim.Native.Nat.{ℕ, ◌<◌, ◌≤◌}
use native.Mathlib.Omega.{arith}
use mathlib.Core.Path.{◌≡◌, refl, sym, ap, ◌∙◌, subst}
use mathlib.Core.Bool.{Bool, true, false}
use mathlib.Core.List.{List}
use mathlib.Core.Option.{Option, none, some}
use lib.ListN.{length}
use denote.Ref.{Bor}
use borrow.Author.Tests.{lt-ltb, le-ltb, ltb-true, ltb-false}
use lib.Dec.{ltb}
use Rattle.script_spec.specs.Base.{Bytes, and_then, same, place}
use Rattle.script_spec.specs.Tree.{Datatype, entity_name, attributes_of, attributes, enum_of}
use Rattle.script_spec.specs.File.{TermFile, types, enums, members, type_at}
use Rattle.refusal.specs.Numbers.{number, option_of}
use Rattle.refusal.specs.declared.Refusal.{Refusal}
use Rattle.refusal.specs.declared.Refusal.TheVariants.{NoAttribute, NotRecord}
use Rattle.index.specs.Cells.{cell, type_offset, enum_offset, enum_list, type_list}
use Rattle.index.specs.Standing.{body_at}
use Rattle.index.specs.Meaning.{Index}
use Rattle.index.specs.declared.Sizes.{Sizes}
use Rattle.std.specs.Prelude as std
use Rattle.std.specs.Bool.{then_some}
use Rattle.std.specs.Option.{ok_or}
use Rattle.index.specs.Lists.{Listed}
use Rattle.index_entry.specs.Places.{texts_in}
use Rattle.index_entry.specs.Terms.{names_of}
use Rattle.index_entry.specs.Types.{TypeAt}
use Rattle.index_entry.specs.Symbols.{EnumAt}
use Rattle.index_entry.specs.declared.lists.Texts.{Texts}
use Rattle.index_entry.specs.declared.terms.Children.{Children}
use Rattle.index_entry.specs.declared.types.TypeEntry.{TypeEntry}
use Rattle.index_entry.specs.declared.types.TypeEntry.TheVariants as entry
use Rattle.index_search.specs.Enums.{enum_at, members_at}
use Rattle.index_search.proofs.EnumLaws.{number_members}
use Rattle.walk_queries.specs.Searches.{attribute_answer, place_or, FindsAttribute, IsEnum, IsEnumType, FindsIn, FindsMember}
use Rattle.walk_queries.proofs.AnswerLaws.{asked_plain, asked_record, MemberSaid, member_answer_lem}
use Rattle.walk_queries.specs.Found.{FindsText, Finds}
use Rattle.walk_queries.proofs.Attributes.{datatype_said, datatype_here, attributes_here, attributes_inside, members_here}
use Rattle.walk_queries.proofs.EntityLaws.{entity_named, entity_unnamed}
use Rattle.walk_queries.specs.declared.queries.Member.TheVariants as member

no_record : (r : TypeEntry) → ((c : Children) → r ≡ entry.Record c → ⊥) → and_then (datatype_said r) attributes_of ≡ none
unfolding datatype_said and_then attributes_of
no_record entry.Bool h = refl
no_record entry.String h = refl
no_record (entry.BitVec n) h = refl
no_record (entry.Option n) h = refl
no_record (entry.Set n) h = refl
no_record (entry.Entity name) h = refl
no_record (entry.Ext x) h = refl
no_record (entry.Record c) h = absurd (h c refl)
no_record entry.Unreadable h = refl

-- what is found, or the refusal
answered : (o : std.Option ℕ) → place_or 16 (option_of o) ≡ attribute_answer (ok_or o NoAttribute)
unfolding attribute_answer number place_or
answered (std.Some i) = refl
answered std.None = refl

module _ {file : Bytes} {work : List ℕ} {sizes : Sizes} {t : ℕ} {r : TypeEntry} (T : TypeAt file (cell work sizes.rows type_offset t) r) where
  -- ---- attributes

  pub not_record : {name : Bytes} → ((c : Children) → r ≡ entry.Record c → ⊥) → FindsAttribute file work sizes t name (std.Err NotRecord)
  unfolding attribute_answer number attributes
  not_record h = record {
    go = λ f I l. sym (asked_plain _ _ (ap (λ (d : Option Datatype). and_then d attributes_of) (datatype_here T f I.rows l) ∙ no_record r h));
  }

  module _ {c : Children} {among : Texts} {list : ℕ} {name : Bytes} {q : std.Option ℕ} (e : r ≡ entry.Record c) (n : among ≡ names_of c) (list-is : list ≡ cell work sizes.rows type_list t)
      (F : Finds work sizes.rows list among name q) where
    found_here : (f : TermFile) → Index file f work sizes → t < length (types f) → FindsText (names_of c) name q
    unfolding names_of
    found_here f I l =
        let finds : Finds work sizes.rows list (names_of c) name q = subst (λ (x : Texts). Finds work sizes.rows list x name q) n F in
        finds.go (λ base h.
        subst (λ (s : Bytes). Listed s 4 (texts_in (names_of c)) work sizes.rows base) (sym (attributes_inside T e))
        (I.rows.listed.of_types.list t base l (sym list-is ∙ h) (texts_in (names_of c)) (attributes_here T e f I.rows l)))

    pub attribute_found : {x : std.Result ℕ Refusal} → x ≡ ok_or q NoAttribute → FindsAttribute file work sizes t name x
    attribute_found {x} h = record { go = λ f I l. ap attribute_answer h ∙ sym (asked_record name (type_at f t) (attributes_here T e f I.rows l) ∙ ap (place_or 16) (found_here f I l).is ∙ answered q) }

  -- ---- enums

  pub not_entity : ((name : Bor Bytes) → r ≡ entry.Entity name → ⊥) → IsEnumType file work sizes t std.None
  unfolding enum_of and_then IsEnum
  not_entity h = record { go = λ f I l. ap (λ (x : Option Bytes). and_then x (members f)) (entity_unnamed T h f I.rows l) }

  module _ {e : ℕ} {name : Bor Bytes} (is : r ≡ entry.Entity name) (noted : e ≡ cell work sizes.rows type_list t) where
    members_noted : (f : TermFile) → Index file f work sizes → t < length (types f) → enum_of (members f) (type_at f t) ≡ members_at f e
    unfolding enum_of and_then
    members_noted f I l =
        let named : entity_name (type_at f t) ≡ some name.now = entity_named T is f I.rows l in
        ap (λ (x : Option Bytes). and_then x (members f)) named ∙ number_members f name.now ∙ ap (members_at f) (sym (noted ∙ (I.noted t l).enum_is _ named))

    entity_enum : e < sizes.enums → IsEnumType file work sizes t (std.Some e)
    unfolding IsEnum members_at
    entity_enum h = record {
      go = λ f I l.
          let inside : e < length (enums f) = omega (arith, I.sizes_are.enums_are) in
          (inside, members_noted f I l ∙ (rw (members_at, lt-ltb e (length (enums f)) inside)));
    }

    entity_alone : sizes.enums ≤ e → IsEnumType file work sizes t std.None
    unfolding IsEnum members_at
    entity_alone h = record { go = λ f I l. members_noted f I l ∙ (rw (members_at, le-ltb e (length (enums f)) (omega (arith, I.sizes_are.enums_are)))) }

    entity_by : (b : Bool) → ltb e sizes.enums ≡ b → IsEnumType file work sizes t (then_some b e)
    entity_by true h = entity_enum (ltb-true e sizes.enums h)
    entity_by false h = entity_alone (ltb-false e sizes.enums h)

    -- the noted number, where there is such an enum
    pub entity_number : IsEnumType file work sizes t (then_some (ltb e sizes.enums) e)
    entity_number = entity_by (ltb e sizes.enums) refl

-- ---- members

pub finds_in : {file : Bytes} {work : List ℕ} {sizes : Sizes} {e o list : ℕ} {id : Bytes} {x : Texts} {q : std.Option ℕ} → o ≡ cell work sizes.rows enum_offset e → EnumAt file o x
    → list ≡ cell work sizes.rows enum_list e → Finds work sizes.rows list x id q → FindsIn file work sizes e id q
unfolding enum_at
finds_in {file} {work} {sizes} {e} {o} {id = id} {x} {q} place_is E list-is F = record {
  go = λ f I l.
      let are = members_here place_is E f I.rows l in
      let found = F.go (λ base h.
      subst (λ (s : Bytes). Listed s x.skip (texts_in x) work sizes.rows base) (ap (body_at file) (sym place_is) ∙ sym are.within)
      (subst (λ (n : ℕ). Listed (body_at file (cell work sizes.rows enum_offset e)) n (texts_in x) work sizes.rows base) (sym are.dense)
      (I.rows.listed.of_enums.list e base l (sym list-is ∙ h) (texts_in x) (sym are.members_are)))) in
      ap (place (same id)) (sym are.members_are) ∙ found.is;
}

module _ {file : Bytes} {work : List ℕ} {sizes : Sizes} {t : ℕ} {r : std.Option ℕ} (E : IsEnumType file work sizes t r) where
  enum_there : (f : TermFile) → Index file f work sizes → t < length (types f) → (x : std.Option ℕ) → r ≡ x → IsEnum f (enum_of (members f) (type_at f t)) x
  enum_there f I l x e = subst (IsEnum f (enum_of (members f) (type_at f t))) e (E.go f I l)

  pub no_enum : {id : Bytes} → r ≡ std.None → FindsMember file work sizes t id member.NoEnum
  unfolding MemberSaid IsEnum
  no_enum e = record { go = λ f I l. member_answer_lem member.NoEnum _ _ _ (enum_there f I l std.None e) }

  module _ {e : ℕ} {id : Bytes} {q : std.Option ℕ} (is : r ≡ std.Some e) (F : FindsIn file work sizes e id q) where
    pub member_at : {i : ℕ} → q ≡ std.Some i → FindsMember file work sizes t id (member.At i)
    unfolding MemberSaid IsEnum
    member_at {i} p = record {
      go = λ f I l. let h = enum_there f I l (std.Some e) is in member_answer_lem (member.At i) _ _ _ (record { members = (enum_at f e).1; are = h.1; is = F.go f I h.0 ∙ ap option_of p });
    }

    pub not_member : q ≡ std.None → FindsMember file work sizes t id member.NotMember
    unfolding MemberSaid IsEnum
    not_member p = record {
      go = λ f I l. let h = enum_there f I l (std.Some e) is in member_answer_lem member.NotMember _ _ _ (record { members = (enum_at f e).1; are = h.1; is = F.go f I h.0 ∙ ap option_of p });
    }

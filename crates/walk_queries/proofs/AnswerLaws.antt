-- What an answer says of an attribute of a type, and of a member of one, from document 01's answer for it.
-- Assumes nothing.
use Prim.Native.Nat.{ℕ}
use mathlib.Core.Path.{◌≡◌, refl, sym, ap}
use mathlib.Core.Bool.{true}
use mathlib.Core.List.{List}
use mathlib.Core.Option.{Option, none, some}
use mathlib.Core.Logic.{◌⊎◌, inl, inr}
use Rattle.script_spec.specs.Base.{Bytes, is_some, and_then, same, place}
use Rattle.script_spec.specs.Tree.{Ty, Enums, attributes, attribute, enum_of}
use Rattle.script_spec.proofs.Laws.{never}
use Rattle.walk_queries.specs.Searches.{stands, refusal, place_or, asked_attribute, member_answer, asked_member}
use Rattle.walk_queries.specs.declared.queries.Member.{Member}
use Rattle.walk_queries.specs.declared.queries.Member.TheVariants as member

-- a place or a refusal tells the place
place_missing : (n : ℕ) (p : Option ℕ) → refusal n ≡ place_or n p → p ≡ none
unfolding place_or
place_missing n none e = refl
place_missing n (some i) e = never (cc)

place_there : (n i : ℕ) (p : Option ℕ) → stands i ≡ place_or n p → p ≡ some i
unfolding place_or
place_there n i none e = never (cc)
place_there n i (some j) e = let same_place : i ≡ j = cc in ap some (sym same_place)

-- ---- attributes

-- the type is a record type that has the attribute at a place
pub attribute_there : {i : ℕ} (name : Bytes) (ty : Ty) → stands i ≡ asked_attribute name ty → (is_some (attributes ty) ≡ true) × (attribute name ty ≡ some i)
unfolding asked_attribute attribute and_then is_some
attribute_there {i} name ty = by (attributes ty) refl
  where
    by : (o : Option (List Bytes)) → attributes ty ≡ o → stands i ≡ asked_attribute name ty → (is_some (attributes ty) ≡ true) × (attribute name ty ≡ some i)
    by none h e = never (cc)
    by (some ns) h e = rw (attribute, h) (refl, place_there 16 i (place (same name) ns) (rw (asked_attribute, h) at e))

-- the type is no record type, or one that lacks the attribute
pub attribute_nowhere : {n : ℕ} (name : Bytes) (ty : Ty) → refusal n ≡ asked_attribute name ty
    → ((n ≡ 17) × (attributes ty ≡ none)) ⊎ ((n ≡ 16) × (is_some (attributes ty) ≡ true) × (attribute name ty ≡ none))
unfolding asked_attribute attribute and_then is_some place_or
attribute_nowhere {n} name ty = by (attributes ty) refl
  where
    lacking : (ns : List Bytes) (p : Option ℕ) → attributes ty ≡ some ns → place (same name) ns ≡ p → refusal n ≡ place_or 16 p → ((n ≡ 16) × (is_some (attributes ty) ≡ true) × (attribute name ty ≡ none))
    lacking ns none h q e = let m : n ≡ 16 = cc in (m, ap is_some h, rw (attribute, h) q)
    lacking ns (some i) h q e = never (cc)

    by : (o : Option (List Bytes)) → attributes ty ≡ o → refusal n ≡ asked_attribute name ty
        → ((n ≡ 17) × (attributes ty ≡ none)) ⊎ ((n ≡ 16) × (is_some (attributes ty) ≡ true) × (attribute name ty ≡ none))
    by none h e = let m : n ≡ 17 = cc in inl (m, h)
    by (some ns) h e = inr (lacking ns (place (same name) ns) h refl (rw (asked_attribute, h) at e))

-- what is asked of a type that is no record type, and of one
pub asked_plain : (name : Bytes) (ty : Ty) → attributes ty ≡ none → asked_attribute name ty ≡ refusal 17
unfolding asked_attribute
asked_plain name ty e = rw (asked_attribute, e)

pub asked_record : (name : Bytes) (ty : Ty) {ns : List Bytes} → attributes ty ≡ some ns → asked_attribute name ty ≡ place_or 16 (place (same name) ns)
unfolding asked_attribute place_or
asked_record name ty e = rw (asked_attribute, e)

-- ---- members

-- a type is an enum in which a member has a place, or none
pub record Placed (e : Enums) (ty : Ty) (id : Bytes) (p : Option ℕ) : Type 0 where
  pub members : List Bytes
  pub are : enum_of e ty ≡ some members
  pub is : place (same id) members ≡ p

-- what an answer says of a member of a type
unfoldable pub MemberSaid : Member → Enums → Ty → Bytes → Type 0
MemberSaid member.NoEnum e ty id = enum_of e ty ≡ none
MemberSaid member.NotMember e ty id = Placed e ty id none
MemberSaid (member.At i) e ty id = Placed e ty id (some i)

pub member_said : (r : Member) (e : Enums) (ty : Ty) (id : Bytes) → member_answer r ≡ asked_member e ty id → MemberSaid r e ty id
unfolding MemberSaid member_answer asked_member
member_said r e ty id = by r (enum_of e ty) refl
  where
    by : (r : Member) (o : Option (List Bytes)) → enum_of e ty ≡ o → member_answer r ≡ asked_member e ty id → MemberSaid r e ty id
    by member.NoEnum none h q = h
    by member.NoEnum (some ns) h q = never (cc)
    by member.NotMember none h q = never (cc)
    by member.NotMember (some ns) h q = record { members = ns; are = h; is = place_missing 14 (place (same id) ns) (cc) }
    by (member.At i) none h q = never (cc)
    by (member.At i) (some ns) h q = record { members = ns; are = h; is = place_there 14 i (place (same id) ns) (cc) }

pub member_answer_lem : (r : Member) (e : Enums) (ty : Ty) (id : Bytes) → MemberSaid r e ty id → member_answer r ≡ asked_member e ty id
unfolding MemberSaid member_answer asked_member place_or
member_answer_lem member.NoEnum e ty id s = rw (asked_member, s)
member_answer_lem member.NotMember e ty id s = rw (asked_member, s.are, s.is)
member_answer_lem (member.At i) e ty id s = rw (asked_member, s.are, s.is)

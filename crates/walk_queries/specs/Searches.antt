-- Where an attribute stands in a record type, and a member in an enum.
-- Assumes nothing.
use Rattle.std.specs.Prelude.{ℕ, ◌<◌, ◌≡◌, List, length, Result, Ok, Err}
use Rattle.std.specs.Prelude as std
use Rattle.std.proofs.Math.Option.{Option, none, some}
use Rattle.script_spec.specs.Base.{Bytes, same, place}
use Rattle.script_spec.specs.Tree.{Ty, Enums, attributes, enum_of}
use Rattle.script_spec.specs.File.{TermFile, types, enums, members, type_at}
use Rattle.refusal.specs.Numbers.{number, option_of}
use Rattle.refusal.specs.declared.Refusal.{Refusal}
use Rattle.index.specs.Meaning.{Index}
use Rattle.index.specs.declared.Sizes.{Sizes}
use Rattle.index_search.specs.Enums.{enum_at}
use Rattle.walk_queries.specs.declared.queries.Member.{Member}
use Rattle.walk_queries.specs.declared.queries.Member.TheVariants as member

-- where a text stands in its list, or the number by which a term that needs it is refused; the refusal's place is that term's record
pub data Asked : Type 0 where
  stands : ℕ → Asked
  refusal : ℕ → Asked

-- document 01's answer for each case of an attribute: its place in the type, or the refusal's number
unfoldable pub attribute_answer : Result ℕ Refusal → Asked
attribute_answer (Ok i) = stands i
attribute_answer (Err r) = refusal (number r)

-- the place of a text in a list, or a refusal with this number
unfoldable pub place_or : ℕ → Option ℕ → Asked
place_or n none = refusal n
place_or n (some i) = stands i

-- what document 01 answers of an attribute of a type: 17 where that is no record type, 16 where it has no such attribute
unfoldable pub asked_attribute : Bytes → Ty → Asked
asked_attribute name ty = elim (attributes ty) [ none ↦ refusal 17 | some names ↦ place_or 16 (place (same name) names) ]

-- an attribute of the type with number t, whatever file was accepted
pub record FindsAttribute (file : Bytes) (work : List ℕ) (sizes : Sizes) (t : ℕ) (name : Bytes) (r : Result ℕ Refusal) : Type 0 where
  pub go : (f : TermFile) → Index file f work sizes → t < length (types f) → attribute_answer r ≡ asked_attribute name (type_at f t)

-- document 01's answer for each case of a member: none for a type that is no enum, its place in the enum, or the refusal's number
unfoldable pub member_answer : Member → Option Asked
member_answer member.NoEnum = none
member_answer member.NotMember = some (refusal 14)
member_answer (member.At i) = some (stands i)

-- what document 01 answers of a member of a type: 14 where that is an enum without it
unfoldable pub asked_member : Enums → Ty → Bytes → Option Asked
asked_member e ty id = elim (enum_of e ty) [ none ↦ none | some names ↦ some (place_or 14 (place (same id) names)) ]

-- these members are those of the enum with this number, if there is one
unfoldable pub IsEnum : TermFile → Option (List Bytes) → std.Option ℕ → Type 0
IsEnum f found (std.Some e) = (e < length (enums f)) × (found ≡ some (enum_at f e).1)
IsEnum f found std.None = found ≡ none

module _ (file : Bytes) (work : List ℕ) (sizes : Sizes) where
  -- the enum that the type with number t is, whatever file was accepted
  pub record IsEnumType (t : ℕ) (r : std.Option ℕ) : Type 0 where
    pub go : (f : TermFile) → Index file f work sizes → t < length (types f) → IsEnum f (enum_of (members f) (type_at f t)) r

  -- a member of the enum with number e
  pub record FindsIn (e : ℕ) (id : Bytes) (r : std.Option ℕ) : Type 0 where
    pub go : (f : TermFile) → Index file f work sizes → e < length (enums f) → place (same id) (enum_at f e).1 ≡ option_of r

  -- a member of the type with number t
  pub record FindsMember (t : ℕ) (id : Bytes) (r : Member) : Type 0 where
    pub go : (f : TermFile) → Index file f work sizes → t < length (types f) → member_answer r ≡ asked_member (members f) (type_at f t) id

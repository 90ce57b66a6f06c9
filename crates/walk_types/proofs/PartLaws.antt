-- The parts of a type by what its entry says.
-- Assumes nothing.
use Prim.Native.Nat.{ℕ}
use mathlib.Core.Path.{◌≡◌, refl, sym, ◌∙◌}
use mathlib.Core.Logic.{◌⊎◌, inl, inr}
use mathlib.Core.List.{List, [], ◌∷◌}
use mathlib.Core.Option.{some}
use Rattle.script_spec.specs.Base.{Bytes}
use Rattle.script_spec.specs.Tree.{TypeMark, Option·, Set·}
use Rattle.script_spec.specs.Fields.{type}
use Rattle.script_spec.proofs.Laws.{never}
use Rattle.index.specs.Lists.{number_at}
use Rattle.index.specs.Standing.{body_at, entry_at}
use Rattle.index_entry.specs.Types.{type_said, TypeAt}
use Rattle.index_entry.specs.Terms.{children_in}
use Rattle.index_entry.specs.declared.terms.Children.{Children}
use Rattle.index_entry.specs.declared.types.TypeEntry.{TypeEntry}
use Rattle.index_entry.specs.declared.types.TypeEntry.TheVariants as entry
use Rattle.index_entry.proofs.Parts.{part_is}
use Rattle.walk_types.specs.Types.{PartsAt}

module _ {file : Bytes} {offset : ℕ} {ty : TypeEntry} {r : Children} (T : TypeAt file offset ty) where
  -- an option or a set has the part that its body begins with
  pub alone_at : {body : Bytes} → body ≡ body_at file offset → ((x : ℕ) × (ty ≡ entry.Option x)) ⊎ ((x : ℕ) × (ty ≡ entry.Set x)) → children_in r ≡ number_at body 0 ∷ [] → PartsAt file offset r
  unfolding type_said
  alone_at b k e = record { go = λ m rs g. go k m rs g }
    where
      go : ((x : ℕ) × (ty ≡ entry.Option x)) ⊎ ((x : ℕ) × (ty ≡ entry.Set x)) → (m : TypeMark) (rs : List ℕ) → entry_at file offset ≡ some (type m rs) → children_in r ≡ rs
      go (inl p) m rs g = let s : some (type Option· (p.0 ∷ [])) ≡ some (type m rs) = rw p.1 at (T.go m rs g) in let q : m ≡ Option· = cc in e ∙ sym ((part_is file offset b refl).option rs (rw q at g))
      go (inr p) m rs g = let s : some (type Set· (p.0 ∷ [])) ≡ some (type m rs) = rw p.1 at (T.go m rs g) in let q : m ≡ Set· = cc in e ∙ sym ((part_is file offset b refl).set rs (rw q at g))

  -- a record type has its attributes
  pub listed_at : ty ≡ entry.Record r → PartsAt file offset r
  unfolding type_said
  listed_at e = record { go = λ m rs g. let s = rw e at (T.go m rs g) in cc }

  -- any other type has no parts
  pub none_at : ((x : ℕ) → ty ≡ entry.Option x → ⊥) → ((x : ℕ) → ty ≡ entry.Set x → ⊥) → ((c : Children) → ty ≡ entry.Record c → ⊥) → children_in r ≡ [] → PartsAt file offset r
  unfolding type_said
  none_at o s k e = record { go = λ m rs g. e ∙ go ty refl m rs (T.go m rs g) }
    where
      go : (q : TypeEntry) → ty ≡ q → (m : TypeMark) (rs : List ℕ) → type_said q ≡ some (type m rs) → [] ≡ rs
      go entry.Bool h m rs g = cc
      go entry.String h m rs g = cc
      go (entry.BitVec n) h m rs g = cc
      go (entry.Option n) h m rs g = absurd (o n h)
      go (entry.Set n) h m rs g = absurd (s n h)
      go (entry.Entity p) h m rs g = cc
      go (entry.Ext x) h m rs g = cc
      go (entry.Record c) h m rs g = absurd (k c h)
      go entry.Unreadable h m rs g = never (cc)

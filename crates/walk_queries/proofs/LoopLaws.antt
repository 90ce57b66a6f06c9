-- The loops over the types and the enums whose lists are made, by the lists so far.
-- Assumes nothing.
use Prim.Native.Nat.{ℕ}
use mathlib.Core.Path.{◌≡◌, ◌∙◌, subst}
use mathlib.Core.List.{List}
use lib.ListN.{length}
use Rattle.script_spec.specs.Base.{Bytes}
use Rattle.script_spec.specs.File.{TermFile, types}
use Rattle.index.specs.Meaning.{SizesOf}
use Rattle.index.specs.Held.{Stays}
use Rattle.index.specs.declared.Sizes.{Sizes}
use Rattle.index.specs.declared.RecordsMut.{RecordsMut}
use Rattle.walk_queries.specs.Made.{Listing, KnownRecords, MakesLists}
use Rattle.walk_queries.proofs.ListLaws.{listing_end}

module _ (file : Bytes) (sizes : Sizes) where
  -- the lists of the first types are made, and their enums noted
  pub record TypesSoFar (work₀ : List ℕ) (t next : ℕ) (work : List ℕ) : Type 0 where
    pub go : (f : TermFile) → KnownRecords file f sizes.rows sizes.terms work₀ → SizesOf f sizes → Listing file f sizes.rows work₀ t 0 next work

  -- and of the first enums, after those of the types
  pub record EnumsSoFar (work₀ : List ℕ) (e next : ℕ) (work : List ℕ) : Type 0 where
    pub go : (f : TermFile) → KnownRecords file f sizes.rows sizes.terms work₀ → SizesOf f sizes → Listing file f sizes.rows work₀ (length (types f)) e next work

-- ---- over records that are changed

module _ (u v : RecordsMut) where
  -- the lists of the first types, of the records that were u and are v
  pub record ListingTypes (t next : ℕ) : Type 0 where
    pub stays : Stays u v
    pub so_far : TypesSoFar u.file.now u.sizes u.work.now t next v.work.now

  -- and of the first enums
  pub record ListingEnums (e next : ℕ) : Type 0 where
    pub stays : Stays u v
    pub so_far : EnumsSoFar u.file.now u.sizes u.work.now e next v.work.now

module _ {u v : RecordsMut} where
  -- all lists
  pub listing_made : {e next : ℕ} → ListingEnums u v e next → e ≡ u.sizes.enums → MakesLists u.file.now u.sizes u.work.now v.work.now
  listing_made {next = next} L all = record {
    go = λ f I A.
        let K : KnownRecords u.file.now f u.sizes.rows u.sizes.terms u.work.now = record { index = I.rows; ascends = A; terms_are = I.sizes_are.terms_are } in
        listing_end I (subst (λ (n : ℕ). Listing u.file.now f u.sizes.rows u.work.now (length (types f)) n next v.work.now) (all ∙ I.sizes_are.enums_are) (L.so_far.go f K I.sizes_are));
  }

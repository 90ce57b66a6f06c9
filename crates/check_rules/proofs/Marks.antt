-- An entry stands under its mark: each mark's reader gives entries of that mark only.
-- Assumes nothing.
use mathlib.Core.Path.{◌≡◌, refl, subst}
use mathlib.Core.List.{[]}
use mathlib.Core.Option.{some}
use Rattle.script_spec.specs.Base.{Bytes}
use Rattle.script_spec.specs.Fields.{Entry, got, Reader, ◌>>=◌, pure, marks, leaf}
use Rattle.script_spec.proofs.Readers.{bind_inverse, pure_inverse}
use Rattle.index.specs.First.{All}
use Rattle.index.specs.Standing.{loose, entry_of}
use Rattle.index.proofs.Readers.{◌&◌}
use Rattle.index_compare.proofs.Standing.{entry_of_inverse}
use Rattle.index_compare.proofs.Agreement.{lookup_all}
use Rattle.check_rules.specs.Marks.{datatype_bytes, type_bytes, term_bytes, mark_of}

-- every value that a reader gives is in P
pub record Yields {A : Type 0} (P : A → Type 0) (r : Reader A) : Type 0 where
  pub go : (s rest : Bytes) (a : A) → r s ≡ got a rest → P a

module _ {A : Type 0} {P : A → Type 0} where
  pub yields_pure : (a : A) → P a → Yields P (pure a)
  yields_pure a h = record { go = λ s rest b e. subst P (pure_inverse a s e).0 h }

  pub yields_after : {B : Type 0} (r : Reader B) {k : B → Reader A} → ((b : B) → Yields P (k b)) → Yields P (◌>>=◌ r k)
  yields_after r {k} H = record { go = λ s rest b e. let x = bind_inverse r k s e in (H x.value).go x.mid rest b x.after }

-- a mark's reader gives entries of that mark
abbrev Gives : Bytes → Reader Entry → Type 0
Gives s r = Yields (λ x. s ≡ mark_of x) r

marks_give : All (λ p. Gives p.0 p.1) (marks loose)
unfolding All marks leaf mark_of type_bytes datatype_bytes term_bytes
marks_give =
    yields_pure _ refl
    & yields_pure _ refl
    & yields_after _ (λ a. yields_pure _ refl)
    & yields_after _ (λ a. yields_pure _ refl)
    & yields_after _ (λ a. yields_pure _ refl)
    & yields_after _ (λ a. yields_pure _ refl)
    & yields_after _ (λ a. yields_pure _ refl)
    & yields_after _ (λ a. yields_pure _ refl)
    & yields_after _ (λ a. yields_after _ (λ b. yields_pure _ refl))
    & yields_after _ (λ a. yields_after _ (λ b. yields_after _ (λ c. yields_pure _ refl)))
    & yields_after _ (λ a. yields_after _ (λ b. yields_pure _ refl))
    & yields_after _ (λ a. yields_pure _ refl)
    & yields_after _ (λ a. yields_after _ (λ b. yields_after _ (λ c. yields_pure _ refl)))
    & yields_after _ (λ a. yields_pure _ refl)
    & yields_after _ (λ a. yields_after _ (λ b. yields_pure _ refl))
    & yields_after _ (λ a. yields_pure _ refl)
    & yields_after _ (λ a. yields_pure _ refl)
    & yields_after _ (λ a. yields_pure _ refl)
    & yields_after _ (λ a. yields_after _ (λ b. yields_pure _ refl))
    & yields_after _ (λ a. yields_pure _ refl)
    & yields_after _ (λ a. yields_after _ (λ b. yields_after _ (λ c. yields_pure _ refl)))
    & yields_after _ (λ a. yields_pure _ refl)
    & tt

pub entry_mark : (mark body : Bytes) {x : Entry} → entry_of mark body ≡ some x → mark ≡ mark_of x
entry_mark mark body {x} e =
    let h = entry_of_inverse mark body e in
    (lookup_all Gives mark (marks loose) marks_give h.found).go body [] x h.reads

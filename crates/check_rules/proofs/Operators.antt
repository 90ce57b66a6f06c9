-- The code of an operator says whether it is `RecordGet`: by the table of operators, line by line.
-- Assumes nothing.
use mathlib.Core.Path.{◌≡◌, refl, sym, ap, ◌∙◌}
use Prim.Native.Nat.{ℕ, zero, suc}
use mathlib.Core.Bool.{not}
use mathlib.Core.List.{List, [], ◌∷◌}
use mathlib.Core.Option.{some, none-ne-some}
use lib.Dec.{eqb}
use lib.ListN.{get_or}
use lib.Seq.{get_or-drop}
use Rattle.script_spec.specs.Base.{Bytes, at}
use Rattle.script_spec.specs.Tree.{Op, App}
use Rattle.script_spec.specs.Fields.{Reader, operators, operator, plain, marks, list, ref, term}
use Rattle.script_spec.specs.File.{TermFile, named_op, needs_arguments}
use Rattle.script_spec.proofs.Computes
use Rattle.script_spec.proofs.Readers.{bind_inverse, pure_inverse, ref_inverse, coded_inverse}
use Rattle.index.proofs.Readers.{◌&◌}
use Rattle.index.specs.Standing.{loose, entry_of}
use Rattle.check_rules.specs.Marks.{term_bytes, mark_of}
use Rattle.check_rules.proofs.Marks.{Yields, yields_pure, yields_after}
use Rattle.check_rules.proofs.Shapes.{read_by}

-- each line of a table is in P at its place
Lines : {A : Type 0} (P : ℕ → A → Type 0) → List A → Type 0
Lines P [] = Unit {0}
Lines P (x ∷ xs) = P zero x × Lines (λ n. P (suc n)) xs

at_line : {A : Type 0} (P : ℕ → A → Type 0) (xs : List A) (n : ℕ) (x : A) → Lines P xs → at n xs ≡ some x → P n x
unfolding Lines at
at_line P [] n x h e = absurd (none-ne-some x e)
at_line P (y ∷ xs) zero x h e = let q : y ≡ x = cc in rw (← q) h.0
at_line P (y ∷ xs) (suc n) x h e = at_line (λ m. P (suc m)) xs n x h.1 e

app_operator : {n n' : ℕ} {o o' : Op ℕ} {rs rs' : List ℕ} → term (App n o) rs ≡ term (App n' o') rs' → o ≡ o'
app_operator e = cc

module _ (f : TermFile) where
  -- what a reader gives needs arguments, unless its place in the table is 26
  abbrev Needs : ℕ → Reader (Op ℕ) → Type 0
  Needs n r = Yields (λ o. needs_arguments (named_op f o) ≡ not (eqb n 26)) r

  operators_need : (funs : ℕ) → Lines Needs (operators funs)
  unfolding Lines operators plain named_op needs_arguments
  operators_need funs =
      yields_pure _ refl & yields_pure _ refl & yields_pure _ refl & yields_pure _ refl & yields_pure _ refl
      & yields_pure _ refl & yields_pure _ refl & yields_pure _ refl & yields_pure _ refl & yields_pure _ refl
      & yields_pure _ refl & yields_pure _ refl & yields_pure _ refl & yields_pure _ refl & yields_pure _ refl
      & yields_pure _ refl & yields_pure _ refl & yields_pure _ refl & yields_pure _ refl & yields_pure _ refl & yields_pure _ refl
      & yields_after _ (λ o. yields_pure _ refl)
      & yields_pure _ refl & yields_pure _ refl & yields_pure _ refl & yields_pure _ refl
      & yields_after _ (λ a. yields_pure _ refl)
      & yields_pure _ refl & yields_pure _ refl & yields_pure _ refl
      & yields_after _ (λ p. yields_pure _ refl)
      & yields_after _ (λ g. yields_pure _ refl)
      & yields_after _ (λ n. yields_pure _ refl)
      & tt

  -- the byte after the result type says it
  pub code_needs : (mark body : Bytes) {n : ℕ} {op : Op ℕ} {rs : List ℕ} → entry_of mark body ≡ some (term (App n op) rs) → needs_arguments (named_op f op) ≡ not (eqb (get_or body 4 0) 26)
  unfolding mark_of term_bytes Computes.base marks operator
  code_needs mark body {n} {op} {rs} e =
      let h = read_by mark body {r = _} e refl in
      let b = bind_inverse (ref loose.types) _ body h in
      let c = bind_inverse (operator loose.funs) _ b.mid b.after in
      let d = bind_inverse (list (ref loose.terms)) _ c.mid c.after in
      let p = pure_inverse (term (App b.value c.value) d.value) d.mid d.after in
      let is : c.value ≡ op = app_operator p.0 in
      let t = coded_inverse (operators loose.funs) b.mid c.first in
      let left = (ref_inverse loose.types body b.first).left in
      let code : get_or body 4 0 ≡ t.code = sym (get_or-drop 4 body 0 0) ∙ ap (λ (s : Bytes). get_or s 0 0) (left ∙ t.is) in
      let y = (at_line Needs (operators loose.funs) t.code t.reader (operators_need loose.funs) t.has).go t.mid c.mid c.value t.reads in
      sym (ap (λ (o : Op ℕ). needs_arguments (named_op f o)) is) ∙ y ∙ ap (λ (m : ℕ). not (eqb m 26)) (sym code)

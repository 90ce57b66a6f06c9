-- A step from the record that was read and the step over it.
-- Assumes nothing.
use mathlib.Core.Path.{◌≡◌, sym, ◌∙◌, subst}
use Prim.Native.Nat.{ℕ}
use native.Mathlib.Omega.{arith}
use lib.ListN.{drop}
use Rattle.std.specs.Prelude.{Result, Ok, Err}
use Rattle.script_spec.specs.Fields.{Entry}
use Rattle.script_spec.specs.File.{TermFile, earlier}
use Rattle.index.specs.declared.Records.{Records}
use Rattle.index.specs.declared.RecordsMut.{RecordsMut}
use Rattle.refusal.specs.declared.Refusal.{Refusal}
use Rattle.read_record.specs.Marks.{MarkedAs}
use Rattle.read_record.specs.Records.{Said, IsRecord}
use Rattle.read_record.specs.declared.Record.{Record}
use Rattle.check_enter.proofs.Rewritten.{keeps_same, unchanged}
use Rattle.check_file.specs.Reading.{ReadsNext}
use Rattle.check_file.specs.Stepping.{Before, ReadUpTo, HasMark, EnterTells, StepsOver, Steps}
use Rattle.check_file.proofs.Reading.{next_bad}
use Rattle.check_file.proofs.Over.{mark_as_read}

-- ---- the step over a record of a kind

-- what a step over a record of one kind is to a record of another name of that kind
pub over_as : {Is Is' : Entry → Type 0} {v w : RecordsMut} {at : ℕ} {r : Result (Unit {0}) Refusal} → ((x : Entry) → Is' x → Is x) → StepsOver Is v w at r → StepsOver Is' v w at r
over_as same S = record { kept = S.kept; go = λ f B to x R b. S.go f B to x R (same x b) }

-- ---- the step

module _ {v : RecordsMut} {c : Records} (viewed : (c.file.now ≡ v.file.now) × (c.work.now ≡ v.work.now) × (c.sizes ≡ v.sizes)) {at : ℕ} {r : Result Record Refusal} (N : ReadsNext c at r) where
  said : {s : Result Record Refusal} → r ≡ s → (f : TermFile) → Before f v at → Said (earlier f) v.file.now at s
  said e f B =
      let read = rw (viewed.0, viewed.1, viewed.2) at N.go in
      subst (λ (r : Result Record Refusal). Said (earlier f) v.file.now at r) e (read f B.counted.indexed.index B.counted.sizes_are).is

  pub step_bad : {e : Refusal} → r ≡ Err e → Steps v v at (Err e)
  unfolding Said
  step_bad e = record { kept = keeps_same v; go = λ f B. record { next = next_bad f (drop at v.file.now) (said e f B); unchanged = unchanged v } }

  module _ {w : RecordsMut} {x : Record} {s : Result (Unit {0}) Refusal} (is : r ≡ Ok x) (S : StepsOver (HasMark x.kind) v w at s) where
    tells : (f : TermFile) → Before f v at → EnterTells f v w at x.end s
    unfolding Said MarkedAs
    tells f B =
        let I : IsRecord (earlier f) v.file.now at x.kind x.start x.end = said is f B in
        let R : ReadUpTo v.file.now f at x.end I.read.0 = record { ty = I.read.1; read = I.is; further = omega (arith, I.starts, I.ends); within = I.within } in
        S.go f B x.end I.read.0 R (sym I.marked.is ∙ mark_as_read B R)

    pub step_entered : s ≡ Ok tt → Steps v w at (Ok x.end)
    step_entered e = record { kept = S.kept; go = λ f B. subst (λ (s : Result (Unit {0}) Refusal). EnterTells f v w at x.end s) e (tells f B) }

    pub step_refused : {e : Refusal} → s ≡ Err e → Steps v w at (Err e)
    step_refused e = record { kept = S.kept; go = λ f B. subst (λ (s : Result (Unit {0}) Refusal). EnterTells f v w at x.end s) e (tells f B) }

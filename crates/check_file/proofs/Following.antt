-- The next record read with the offsets of the types is that read after the records of the index.
-- Assumes nothing.
use mathlib.Core.Path.{◌≡◌, subst}
use Prim.Native.Nat.{ℕ}
use mathlib.Core.List.{List}
use Rattle.script_spec.specs.Fields.{Earlier}
use Rattle.script_spec.specs.File.{earlier}
use Rattle.index.specs.Cells.{type_offsets}
use Rattle.index.specs.declared.Records.{Records}
use Rattle.read_record.specs.Bodies.{earlier_with}
use Rattle.read_record.specs.Records.{NextRecord}
use Rattle.read_record.specs.declared.Record.{Record}
use Rattle.refusal.specs.declared.Refusal.{Refusal}
use Rattle.std.specs.Prelude.{Result}
use Rattle.check_file.specs.Reading.{ReadsNext}
use Rattle.check_file.proofs.Entities.{after_earlier}

module _ (c : Records) (at : ℕ) {r : Result Record Refusal} where
  pub reads_next : {offsets : List ℕ} → offsets ≡ type_offsets c.work.now c.sizes.types → NextRecord (earlier_with c.sizes.types c.sizes.funs c.sizes.terms c.file.now offsets) c.file.now at r → ReadsNext c at r
  reads_next {offsets} is N =
      record {
        go = λ f I S.
            let same : earlier_with c.sizes.types c.sizes.funs c.sizes.terms c.file.now offsets ≡ earlier f = rw (is, S.types_are, S.funs_are, S.terms_are) (after_earlier I) in
            subst (λ (x : Earlier). NextRecord x c.file.now at r) same N;
      }

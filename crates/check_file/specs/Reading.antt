-- What reading the next record promises.
-- Assumes nothing.
use Rattle.std.specs.Prelude.{ℕ, Result}
use Rattle.script_spec.specs.File.{TermFile, earlier}
use Rattle.index.specs.Meaning.{Rows, SizesOf}
use Rattle.index.specs.declared.Records.{Records}
use Rattle.read_record.specs.Records.{NextRecord}
use Rattle.read_record.specs.declared.Record.{Record}
use Rattle.refusal.specs.declared.Refusal.{Refusal}

-- r is the record at a place of the file, read after the records that the index has
pub record ReadsNext (c : Records) (at : ℕ) (r : Result Record Refusal) : Type 0 where
  pub go : (f : TermFile) → Rows c.file.now f c.work.now c.sizes.rows → SizesOf f c.sizes → NextRecord (earlier f) c.file.now at r

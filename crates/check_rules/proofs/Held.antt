-- Records in working memory after one step and another: only the memory is another.
-- Assumes nothing.
use mathlib.Core.Path.{refl, ◌∙◌}
use mathlib.Core.List.{List}
use Prim.Native.Nat.{ℕ}
use Rattle.index.specs.Held.{Becomes}
use Rattle.index.specs.declared.RecordsMut.{RecordsMut}

pub becomes_same : {v : RecordsMut} → Becomes v v v.work.now
becomes_same = record { file_is = refl; sizes_are = refl; lent = refl; memory = refl }

pub becomes_then : {v w u : RecordsMut} {a b : List ℕ} → Becomes v w a → Becomes w u b → Becomes v u b
becomes_then h k = record { file_is = k.file_is ∙ h.file_is; sizes_are = k.sizes_are ∙ h.sizes_are; lent = k.lent ∙ h.lent; memory = k.memory }

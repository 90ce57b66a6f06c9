-- A loop of writes: what is written so far, and what is still to be written of the whole.
-- Assumes nothing.
use mathlib.Core.Path.{◌≡◌, refl, sym, ◌∙◌}
use mathlib.Core.Bool.{Bool, true}
use mathlib.Core.List.{[], ◌++◌, append-nil, append_assoc}
use lib.Dec.{ltb}
use Rattle.script_spec.specs.Base.{Bytes}
use Rattle.write_bytes.specs.declared.writer.Writer.{Writer}
use Rattle.write_bytes.specs.Writing.{ceiling}
use Rattle.write_bytes.specs.Writers.{Writes}
use Rattle.write_bytes.proofs.Laws.{◌then◌, says, nothing, stops_past}

-- writes took a writer from v to w, and `todo` is what is left of the whole
pub record Along (v w : Writer) (todo whole : Bytes) : Type 0 where
  pub done : Bytes
  pub wrote : Writes v w done
  pub rest : done ++ todo ≡ whole

pub along_start : {v : Writer} {whole : Bytes} → Along v v whole whole
along_start = record { done = []; wrote = nothing; rest = refl }

pub along_step : {u v w : Writer} {s todo next whole : Bytes} → Along u v todo whole → todo ≡ s ++ next → Writes v w s → Along u w next whole
along_step {s = s} {next = next} l e f = record {
  done = l.done ++ s;
  wrote = l.wrote then f;
  rest = append_assoc l.done s next ∙ (rw (← e) l.rest);
}

pub along_end : {v w : Writer} {todo whole : Bytes} → Along v w todo whole → todo ≡ [] → Writes v w whole
along_end l e = says (sym (append-nil l.done) ∙ (rw (← e) l.rest)) l.wrote

-- a loop that stops where it finds its place past the limit
pub along_past : {v w : Writer} {b : Bool} {todo whole : Bytes} → Along v w todo whole → b ≡ ltb (ceiling w.limit) w.at → b ≡ true → Writes v w whole
along_past l e h = says l.rest (l.wrote then stops_past e h)

-- What is printed lies in its buffer, and the answer to the start that was read of a file is the answer to the file.
use Rattle.std.proofs.Common.{◌≡◌, refl, sym, ap, ◌∙◌, subst, ℕ, ◌<◌, ◌≤◌, Bool, true, false, ◌++◌, leb, length, arith}
use Rattle.std.proofs.lemmas.Bool.{lt-leb, leb-true, leb-false}
use Rattle.std.proofs.Math.ListN.{length-append}
use mathlib.Core.List.{append-nil}
use Rattle.std.specs.Prelude.{None, Some, IfSome, OnOk, Ok, Err}
use Rattle.std.specs.Io.KnownBytes.{Appends, Consumes, IsAtEnd}
use Rattle.std.specs.declared.option.Option.{Option}
use Rattle.std.specs.declared.result.Result.{Result}
use Rattle.script_spec.specs.Base.{Bytes, accepted, refused}
use Rattle.script_spec.specs.Command.{fitting}
use Rattle.script_spec.specs.Walk.{printed, termscript}
use Rattle.write_bytes.specs.Writing.{length_of}
use Rattle.encoder.specs.Printing.{written, Shows}

-- ---- what is printed lies in its buffer

written_within : (s : Bytes) (room : ℕ) → written (length_of (fitting s room)) ≤ room
unfolding fitting length_of written
written_within s room = go (leb (length s) room) refl
  where
    go : (b : Bool) → leb (length s) room ≡ b → written (length_of (elim b [ true ↦ accepted s | false ↦ refused 20 0 0 ])) ≤ room
    go true e = leb-true _ _ e
    go false e = omega arith

pub shown_within : {x s y : Bytes} {r : ℕ} → Shows x s y r → r ≤ length x
shown_within {x} {s} h = rw h.size (written_within s (length x))

-- ---- the answer to a start

termscript_long : (file : Bytes) → 8192 < length file → termscript file ≡ printed (refused 1 0 0)
unfolding termscript
termscript_long file h = rw (lt-leb (length file) 8192 h) refl

-- a start of 8,193 bytes is answered as the file is: both are too long
termscript_start : (bs rest : Bytes) → 8192 < length bs → termscript bs ≡ termscript (bs ++ rest)
termscript_start bs rest h = termscript_long bs h ∙ sym (termscript_long (bs ++ rest) (simp length-append (omega (arith, h))))

-- what is written for the start that was read is what is written for the file
pub answered : (old new out out' : Option Bytes) (bs : Bytes) → (length bs < 8193 → IsAtEnd new) → Consumes old new bs → Appends out out' (termscript bs) → IfSome old (λ file. Appends out out' (termscript file))
answered None new out out' bs end read wrote = tt
answered (Some xs) None out out' bs end read wrote = absurd read
answered (Some xs) (Some ys) out out' bs end read wrote = go (leb (length bs) 8192) refl
  where
    go : (b : Bool) → leb (length bs) 8192 ≡ b → Appends out out' (termscript xs)
    go true e = subst (λ s. Appends out out' (termscript s)) (sym (read ∙ ap (λ l. bs ++ l) (end (omega (arith, leb-true _ _ e))) ∙ append-nil bs)) wrote
    go false e = subst (Appends out out') (termscript_start bs ys (leb-false _ _ e) ∙ ap termscript (sym read)) wrote

-- what follows from a fact at Ok
pub on_ok : {T E P Q : Type 0} (r : Result T E) → (P → Q) → OnOk r P → OnOk r Q
on_ok (Ok x) f p = f p
on_ok (Err e) f p = tt

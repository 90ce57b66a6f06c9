-- Laws of writes by a writer: nothing past the limit, one write after another, and the end of a run.
-- Assumes nothing.
use mathlib.Core.Path.{◌≡◌, refl, sym, ap, ◌∙◌, subst}
use mathlib.Core.List.{[], ◌∷◌, ◌++◌, append-nil, append_assoc}
use Prim.Native.Nat.{ℕ, zero, suc, ◌+◌, ◌≤◌, ◌<◌, min}
use mathlib.Core.Bool.{Bool, true, false}
use lib.Dec.{leb, ltb}
use native.Mathlib.Numerals.{unary_clauses}
use native.Mathlib.Nat.{not-suc-le-zero}
use native.Mathlib.Omega.{arith}
use borrow.Author.Tests.{ltb-true, leb-true, leb-false, le-leb, lt-leb}
use lib.ListN.{length, take, drop, length-append}
use lib.Seq.{take_at, length-take-le}
use Rattle.script_spec.specs.Base.{Bytes, accepted, refused}
use Rattle.script_spec.specs.Command.{fitting, left}
use Rattle.std.specs.Prelude.{Result}
use Rattle.refusal.specs.declared.Refusal.{Refusal}
use Rattle.write_bytes.specs.declared.writer.Writer.{Writer}
use Rattle.write_bytes.specs.Writing.{laid, longest, ceiling, Wrote, Leaves, answer, ending, cleared, length_of}
use Rattle.write_bytes.specs.Writers.{Writes, Finishes}

-- ---- bytes laid over a buffer

pub length_laid : (n : ℕ) (o s : Bytes) → length (laid n o s) ≡ length o
unfolding laid
length_laid zero o s = refl
length_laid (suc n) [] s = refl
length_laid (suc n) (x ∷ o) [] = refl
length_laid (suc n) (x ∷ o) (b ∷ s) = ap suc (length_laid n o s)

pub laid_nil : (n : ℕ) (o : Bytes) → laid n o [] ≡ o
unfolding laid
laid_nil zero o = refl
laid_nil (suc n) [] = refl
laid_nil (suc n) (x ∷ o) = refl

-- nothing goes past the limit, or past the end of the buffer
pub laid_full : (n : ℕ) (o a s : Bytes) → min (length o) n ≤ length a → laid n o a ≡ laid n o (a ++ s)
unfolding laid
laid_full zero o a s h = refl
laid_full (suc n) [] a s h = refl
laid_full (suc n) (x ∷ o) [] s h = absurd (omega arith)
laid_full (suc n) (x ∷ o) (b ∷ a) s h = ap (λ (l : Bytes). b ∷ l) (laid_full n o a s (omega arith))

past_stays : (la ls at m : ℕ) → m < at → min at (m + 1) ≡ min la (m + 1) → min at (m + 1) ≡ min (la + ls) (m + 1)
past_stays la ls at m h e = omega arith

pub past_length : (la lo at m : ℕ) → min at (m + 1) ≡ min la (m + 1) → m < at → min lo m ≤ la
past_length la lo at m e h = omega arith

-- ---- one write after another

-- past the limit nothing is written
pub nothing_past : {v : Writer} {s : Bytes} → ceiling v.limit < v.at → Writes v v s
nothing_past {v} {s} h = record {
  same = refl;
  limit_is = refl;
  size = refl;
  go = λ o a w. record {
    holds = w.holds ∙ laid_full (ceiling v.limit) o a s (past_length (length a) (length o) v.at (ceiling v.limit) w.place h);
    place = simp length-append (past_stays (length a) (length s) v.at (ceiling v.limit) h w.place);
  };
}

-- and a writer may stop where it finds its place past the limit
pub stops_past : {v : Writer} {b : Bool} {s : Bytes} → b ≡ ltb (ceiling v.limit) v.at → b ≡ true → Writes v v s
stops_past {v} e h = nothing_past (ltb-true (ceiling v.limit) v.at (sym e ∙ h))

-- one write after another
infixr 5 ◌then◌
pub ◌then◌ : {u v w : Writer} {s t : Bytes} → Writes u v s → Writes v w t → Writes u w (s ++ t)
◌then◌ {u} {v} {w} {s} {t} f g =
    let on : (o a : Bytes) → Wrote u.limit o v.out.now v.at a → Wrote u.limit o w.out.now w.at (a ++ t) =
    subst (λ (limit : ℕ). (o a : Bytes) → Wrote limit o v.out.now v.at a → Wrote limit o w.out.now w.at (a ++ t)) f.limit_is g.go in
    record {
      same = g.same ∙ f.same;
      limit_is = g.limit_is ∙ f.limit_is;
      size = g.size ∙ f.size;
      go = λ o a h. rw (append_assoc a s t) at (on o (a ++ s) (f.go o a h));
    }

-- the same write, of bytes that are equal
pub says : {v w : Writer} {s t : Bytes} → s ≡ t → Writes v w s → Writes v w t
says {v} {w} e f = subst (λ (u : Bytes). Writes v w u) e f

-- no write at all
pub nothing : {v : Writer} → Writes v v []
nothing = record { same = refl; limit_is = refl; size = refl; go = λ o a w. rw append-nil w }

-- ---- a run of writes

-- a run from the start of a buffer
pub from_start : {v w : Writer} {s : Bytes} → v.at ≡ 0 → Writes v w s → Wrote v.limit v.out.now w.out.now w.at s
from_start {v} h f = f.go v.out.now [] (record { holds = sym (laid_nil (ceiling v.limit) v.out.now); place = omega arith })

-- bytes that fit stand at the start, and what the buffer held stands after them
laid_fits : (n : ℕ) (o s : Bytes) → length s ≤ length o → length s ≤ n → laid n o s ≡ s ++ drop (length s) o
unfolding laid
laid_fits n o [] h k = laid_nil n o
laid_fits n [] (b ∷ s) h k = absurd (not-suc-le-zero h)
laid_fits zero (x ∷ o) (b ∷ s) h k = absurd (not-suc-le-zero k)
laid_fits (suc n) (x ∷ o) (b ∷ s) h k = ap (λ (l : Bytes). b ∷ l) (laid_fits n o s (omega arith) (omega arith))

-- a place within the limit is the number of bytes, and bytes that fit stand before what the buffer held
pub wrote_within : {limit at : ℕ} {o x s : Bytes} → Wrote limit o x at s → at ≤ ceiling limit → at ≡ length s
wrote_within w h = omega (arith, w.place)

pub wrote_fits : {limit at : ℕ} {o x s : Bytes} → Wrote limit o x at s → length s ≤ length o → length s ≤ ceiling limit → x ≡ s ++ drop (length s) o
wrote_fits {limit} {o = o} {s = s} w h k = w.holds ∙ laid_fits (ceiling limit) o s h k

-- a place past the limit tells of more bytes than the limit
pub wrote_past : {limit at : ℕ} {o x s : Bytes} → Wrote limit o x at s → ceiling limit < at → ceiling limit < length s
wrote_past w h = omega (arith, w.place)

-- the answers by the two cases
ending_within : (x : Bytes) (at : ℕ) → at ≤ length x → ending x at ≡ accepted (take at x)
unfolding ending
ending_within x at h = rw (le-leb at (length x) h, ending)

ending_past : (x : Bytes) (at : ℕ) → length x < at → ending x at ≡ refused 20 0 0
unfolding ending
ending_past x at h = rw (lt-leb at (length x) h, ending)

pub fitting_within : (s : Bytes) (room : ℕ) → length s ≤ room → fitting s room ≡ accepted s
unfolding fitting
fitting_within s room h = rw (le-leb (length s) room h, fitting)

pub fitting_past : (s : Bytes) (room : ℕ) → room < length s → fitting s room ≡ refused 20 0 0
unfolding fitting
fitting_past s room h = rw (lt-leb (length s) room h, fitting)

-- the answer at the end of a run
ending_wrote : (o x s : Bytes) (at : ℕ) → length o ≤ longest → Wrote (length o) o x at s → length x ≡ length o
    → (b : Bool) → leb at (length x) ≡ b → ending x at ≡ fitting s (length o)
ending_wrote o x s at h w size true e =
    let fits : at ≤ length x = leb-true at (length x) e in
    let end : at ≡ length s = wrote_within w (omega arith) in
    let start : take at x ≡ s = rw (end, wrote_fits w (omega arith) (omega arith)) (take_at s _ (length s) refl) in
    ending_within x at fits ∙ ap accepted start ∙ sym (fitting_within s (length o) (omega arith))
ending_wrote o x s at h w size false e =
    let past : length x < at = leb-false at (length x) e in
    let long : ceiling (length o) < length s = wrote_past w (omega arith) in
    ending_past x at past ∙ sym (fitting_past s (length o) (omega arith))

-- a run that began at the start of a buffer, with its length for the limit, is ended
pub finished : {u v w : Writer} {s : Bytes} {r : Result ℕ Refusal} → u.limit ≡ length u.out.now → u.at ≡ 0 → Writes u v s → Finishes v w r
    → Leaves u.out.now w.out.now (answer r) (fitting s (length u.out.now))
finished {u} {v} {w} {s} {r} hl h f e =
    let wrote : Wrote (length u.out.now) u.out.now v.out.now v.at s = rw hl at (from_start h f) in
    let same : ending v.out.now v.at ≡ fitting s (length u.out.now) = ending_wrote u.out.now v.out.now s v.at (rw f.size at e.small) wrote f.size (leb v.at (length v.out.now)) refl in
    record { says = rw same at e.leaves.says; holds = rw (same, f.size) at e.leaves.holds }

-- the end of a run that fits, and of one that does not
pub leaves_length : (x y : Bytes) (at : ℕ) → at ≤ length x → y ≡ cleared x at → Leaves x y (accepted at) (ending x at)
unfolding cleared length_of left
leaves_length x y at h e =
    let size : length (take at x) ≡ at = length-take-le at x h in
    rw (ending_within x at h) (record { says = ap accepted (sym size); holds = rw size e })

-- zeros alone after a refusal
pub leaves_refused : (x y : Bytes) (n : ℕ) → y ≡ cleared x 0 → Leaves x y (refused n 0 0) (refused n 0 0)
unfolding cleared length_of left
leaves_refused x y n e = record { says = refl; holds = simp unary_clauses at e }

pub leaves_no_room : (x y : Bytes) (at : ℕ) → length x < at → y ≡ cleared x 0 → Leaves x y (refused 20 0 0) (ending x at)
leaves_no_room x y at h e = rw (ending_past x at h) (leaves_refused x y 20 e)

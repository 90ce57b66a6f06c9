-- The exported functions' promises, from those of the functions that they call.
-- Assumes nothing.
use mathlib.Core.Path.{◌≡◌, refl, sym, ap, ◌∙◌, subst}
use Prim.Native.Nat.{ℕ, ◌<◌}
use native.Mathlib.Omega.{arith}
use mathlib.Core.Bool.{Bool, true, false, not}
use mathlib.Core.List.{List}
use lib.Dec.{T, T_not, leb}
use lib.ListN.{length, take}
use lib.Seq.{take_at}
use Rattle.script_spec.specs.Base.{Bytes, Answer, accepted, refused, between, all}
use Rattle.script_spec.specs.Utf8.{is_utf8}
use Rattle.script_spec.specs.File.{TermFile, checked}
use Rattle.script_spec.specs.Command.{Command, line, given, fitting, command_written, left}
use Rattle.script_spec.specs.Walk.{encoded}
use Rattle.script_spec.proofs.Demand.{encoded_faithful}
use Rattle.std.specs.Prelude.{Result}
use Rattle.refusal.specs.declared.Refusal.{Refusal}
use Rattle.refusal.specs.declared.Refused.{Refused}
use Rattle.write_bytes.specs.Writing.{answer, length_of}
use Rattle.smtlib_script.specs.Alone.{WritesAlone}
use Rattle.check_file.specs.Promise.{checked_as, without_records, Checks}
use Rattle.encoder.specs.Printing.{written}
use Rattle.encoder.specs.Promise.{encoded_as, Encodes}
use Rattle.sakyelbo.specs.Answers.{number_of, where_of, Says, SaysSize}
use Rattle.sakyelbo.specs.declared.Where.{Where}
use Rattle.sakyelbo.specs.Promise.{ChecksFile, EncodesFile, WritesCommand}
use Rattle.sakyelbo.proofs.Numbers.{check_number, encode_number, Numbered, checked_numbered, encoded_numbered, command_among}

-- a length is said by itself, with the number 0
pub says_length : {a : Answer ℕ} {n : ℕ} → a ≡ accepted n → SaysSize a n 0
unfolding number_of written
says_length {n = n} e = rw e (record { number = refl; size = refl })

-- a refusal is said by its number, with the size 0
pub says_refusal : {a : Answer ℕ} {n p q r : ℕ} → a ≡ refused n p q → r ≡ n → SaysSize a 0 r
unfolding number_of written
says_refusal e h = rw e (record { number = h; size = refl })

-- an answer without its records, or with a length for its bytes, says the same
without_number : (a : Answer TermFile) → number_of (without_records a) ≡ number_of a
unfolding without_records number_of
without_number (accepted f) = refl
without_number (refused n p q) = refl

without_where : (a : Answer TermFile) → where_of (without_records a) ≡ where_of a
unfolding without_records where_of
without_where (accepted f) = refl
without_where (refused n p q) = refl

length_where : (a : Answer Bytes) → where_of (length_of a) ≡ where_of a
unfolding length_of where_of
length_where (accepted s) = refl
length_where (refused n p q) = refl

-- the refusals of a command have no place and no position
command_nowhere : (c : Command) (room : ℕ) → where_of (command_written c room) ≡ record { place = 0; position = 0 }
unfolding command_written fitting where_of
command_nowhere c room = go (all is_utf8 (given c)) (leb (length (line c)) room)
  where
    go : (b d : Bool) → where_of (elim b as (λ y. Answer Bytes) [ true ↦ elim d as (λ y. Answer Bytes) [ true ↦ accepted (line c) | false ↦ refused 20 0 0 ] | false ↦ refused 6 0 0 ]) ≡ record { place = 0; position = 0 }
    go true true = refl
    go true false = refl
    go false d = refl

-- ---- the number 0

-- the number 0 is that of acceptance
number_zero : {A : Type 0} {test : ℕ → Bool} (a : Answer A) → Numbered test a → T (not (test 0)) → number_of a ≡ 0 → (x : A) × (a ≡ accepted x)
unfolding number_of
number_zero (accepted x) h z e = (x, refl)
number_zero {test = test} (refused n p q) h z e = absurd (T_not (test 0) z (subst (λ (k : ℕ). T (test k)) e (h.number n p q refl)))

-- what is no refusal stands at the start of its buffer
starts : (w : Answer Bytes) (room : ℕ) {y : Bytes} {n r : ℕ} → SaysSize (length_of w) n r → y ≡ left w room → ((m p q : ℕ) → w ≡ refused m p q → ⊥) → w ≡ accepted (take n y)
unfolding length_of written left
starts (accepted s) room S h never = ap accepted (sym (rw (S.size, h) (take_at s _ (length s) refl)))
starts (refused m p q) room S h never = absurd (never m p q refl)

module _ (w : Answer Bytes) (room : ℕ) {y : Bytes} {n r : ℕ} (S : SaysSize (length_of w) n r) (h : y ≡ left w room) where
  -- the number 0 is that of a text
  starts_zero : Numbered encode_number w → r ≡ 0 → w ≡ accepted (take n y)
  unfolding length_of number_of encode_number between
  starts_zero N z = starts w room S h (λ m p q e. let k : m ≡ 0 = sym (S.number ∙ ap (λ (a : Answer Bytes). number_of (length_of a)) e) ∙ z in rw k at (N.number m p q e))

  -- a size above 0 is that of a text
  starts_sized : 0 < n → w ≡ accepted (take n y)
  unfolding length_of written
  starts_sized k = starts w room S h (λ m p q e. let z : n ≡ 0 = S.size ∙ ap (λ (a : Answer Bytes). written (length_of a)) e in omega arith)

-- ---- promises

-- check's promise
pub checks_file : {file : Bytes} {work work' : List ℕ} {c : Result (Unit {0}) Refused} {at : Where} {r : ℕ} → Checks file work work' c → Says (checked_as c) at r → ChecksFile file work work' at r
unfolding check_number between
checks_file {file} {work} {r = r} k s =
    let a = checked file (length work) in
    let is : r ≡ number_of a = s.number ∙ ap number_of k.answer ∙ without_number a in
    record {
      says = record { number = is; at_is = s.at_is ∙ ap where_of k.answer ∙ without_where a };
      accepts = λ z. number_zero a (checked_numbered file (length work)) tt (sym is ∙ z);
      cleared = k.cleared;
    }

-- the promise of a call that writes a command
pub writes_command : {c : Command} {x y : Bytes} {w : Result ℕ Refusal} {n r : ℕ} → WritesAlone c x y w → SaysSize (answer w) n r → WritesCommand c x y n r
writes_command {c} {x} {n = n} {r = r} k s =
    let says : SaysSize (length_of (command_written c (length x))) n r = subst (λ (a : Answer ℕ). SaysSize a n r) k.leaves.says s in
    record {
      says = says;
      nowhere = command_nowhere c (length x);
      accepts = starts_zero (command_written c (length x)) (length x) says k.leaves.holds (command_among c (length x));
      holds = k.leaves.holds;
    }

-- encode's promise
pub encodes_file : {file : Bytes} {work : List ℕ} {x : Bytes} {work' : List ℕ} {y : Bytes} {e : Result ℕ Refused} {n : ℕ} {at : Where} {r : ℕ} → Encodes file work x work' y e → SaysSize (encoded_as e) n r → at ≡ where_of (encoded_as e)
    → EncodesFile file work x work' y n at r
encodes_file {file} {work} {x} {y = y} {n = n} {r = r} k s h =
    let a = encoded file (length work) (length x) in
    let says : SaysSize (length_of a) n r = subst (λ (a : Answer ℕ). SaysSize a n r) k.answer s in
    record {
      says = says;
      at_is = h ∙ ap where_of k.answer ∙ length_where a;
      accepts = starts_zero a (length x) says k.script_is (encoded_numbered file (length work) (length x));
      script_is = k.script_is;
      cleared = k.cleared;
      faithful = λ f c p. encoded_faithful file (length work) (length x) f (take n y) c (starts_sized a (length x) says k.script_is p);
    }

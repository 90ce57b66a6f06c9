-- What is printed: a refusal's line is short, and encode's answer is what `termscript` writes.
-- Assumes nothing.
use mathlib.Core.Path.{◌≡◌, refl, sym, ap, ◌∙◌}
use Prim.Native.Nat.{ℕ, zero, suc, ◌+◌, ◌/◌, ◌%◌, ◌^◌, ◌<◌, ◌≤◌}
use native.Mathlib.Nat.{div-lt_iff_lt-mul, pow-suc}
use native.Mathlib.Omega.{arith}
use mathlib.Core.Bool.{Bool, true, false}
use mathlib.Core.Logic.{◌⊎◌, inl, inr}
use mathlib.Core.List.{List, [], ◌∷◌}
use lib.Dec.{ltb}
use lib.ListN.{length, take, replicate, length-append}
use lib.Seq.{take_at}
use borrow.Author.Tests.{ltb-false, le-leb, lt-leb}
use Rattle.script_spec.specs.Base.{Bytes, bytes, Answer, accepted, refused}
use Rattle.script_spec.specs.Text.{digit, digits, decimal}
use Rattle.script_spec.specs.Command.{◌⊹◌, fitting, left}
use Rattle.script_spec.specs.Walk.{encoded, has_position, position_words, printed, termscript}
use Rattle.script_spec.proofs.Laws.{never}
use Rattle.std.specs.Prelude.{Result, Ok, Err}
use Rattle.std.specs.Result.{result_unwrap_or}
use Rattle.refusal.specs.Numbers.{number}
use Rattle.refusal.specs.Numbers as numbers
use Rattle.refusal.specs.declared.Refusal.{Refusal}
use Rattle.refusal.specs.declared.Refusal.TheVariants.{FileTooLong, MemoryTooSmall, CutShort, UnknownMark, Misfit, NotUtf8, OutOfRange, NoSuchRecord, NotAscending, NothingGiven, SecondEnum, TypeNotListed, TooMany, NotMember, HighId, NoAttribute, NotRecord, TypeNotDeclared, NoArgument, NoRoom, WrongType, HighString, HighPattern}
use Rattle.refusal.specs.declared.Refused.{Refused}
use Rattle.write_bytes.specs.Writing.{answer, Leaves, length_of}
use Rattle.write_bytes.specs.Writers.{Writes, Finishes}
use Rattle.write_bytes.specs.declared.writer.Writer.{Writer}
use Rattle.write_bytes.proofs.Laws.{fitting_within, finished}
use Rattle.encoder.specs.Promise.{encoded_as, Encodes}
use Rattle.encoder.specs.Printing.{answered, written, Shows, PrintsRefusal, Prints}

-- ---- the length of a numeral

-- a number below 10 to the power k has at most k digits
digits_length : (f n : ℕ) (s : Bytes) (k : ℕ) → n < 10 ^ suc k → length (digits f 10 n s) ≤ length s + suc k
unfolding digits
digits_length zero n s k h = omega arith
digits_length (suc f) n s k h = go (λ j l. digits_length f (n / 10) (digit (n % 10) ∷ s) j l) (ltb n 10) refl k h
  where
    go : ((j : ℕ) → n / 10 < 10 ^ suc j → length (digits f 10 (n / 10) (digit (n % 10) ∷ s)) ≤ length (digit (n % 10) ∷ s) + suc j)
        → (b : Bool) → ltb n 10 ≡ b → (k : ℕ) → n < 10 ^ suc k
        → length {A = ℕ} (elim b as (λ z. Bytes) [ true ↦ digit n ∷ s | false ↦ digits f 10 (n / 10) (digit (n % 10) ∷ s) ]) ≤ length s + suc k
    go more true e k h = omega arith
    go more false e zero h = absurd (omega (arith, ltb-false n 10 e))
    go more false e (suc k) h = omega (arith, more k ((div-lt_iff_lt-mul {k = 10} {x = n} {y = 10 ^ suc k} (omega arith)).1 (rw (pow-suc 10 (suc k)) at h)))

decimal_length : (n : ℕ) → n < 2 ^ 64 → length (decimal n) ≤ 20
unfolding decimal
decimal_length n h = digits_length n n [] 19 (omega arith)

position_length : (n q : ℕ) → q < 2 ^ 64 → length (position_words n q) ≤ 24
unfolding position_words bytes
position_length n q h = go (has_position n)
  where
    go : (b : Bool) → length {A = ℕ} (elim b as (λ z. Bytes) [ true ↦ bytes " at " ⊹ decimal q | false ↦ [] ]) ≤ 24
    go true = simp length-append (omega (arith, decimal_length q h))
    go false = omega arith

refusal_length : (n p q : ℕ) → n < 2 ^ 64 → p < 2 ^ 64 → q < 2 ^ 64 → length (printed (refused n p q)) ≤ 81
unfolding printed bytes
refusal_length n p q h k l = simp length-append (omega (arith, decimal_length n h, decimal_length p k, position_length n q l))

-- a refusal's number has two digits
number_short : (r : Refusal) → number r < 100
unfolding number
number_short FileTooLong = omega arith
number_short MemoryTooSmall = omega arith
number_short CutShort = omega arith
number_short UnknownMark = omega arith
number_short Misfit = omega arith
number_short NotUtf8 = omega arith
number_short OutOfRange = omega arith
number_short NoSuchRecord = omega arith
number_short NotAscending = omega arith
number_short NothingGiven = omega arith
number_short SecondEnum = omega arith
number_short TypeNotListed = omega arith
number_short TooMany = omega arith
number_short NotMember = omega arith
number_short HighId = omega arith
number_short NoAttribute = omega arith
number_short NotRecord = omega arith
number_short TypeNotDeclared = omega arith
number_short NoArgument = omega arith
number_short NoRoom = omega arith
number_short WrongType = omega arith
number_short HighString = omega arith
number_short HighPattern = omega arith

-- the refusals of a code point have a position, and no others
pub has_one : (r : Refusal) → (r ≡ HighId) ⊎ ((r ≡ HighString) ⊎ (r ≡ HighPattern)) → true ≡ has_position (number r)
unfolding number has_position
has_one r (inl h) = rw h refl
has_one r (inr (inl h)) = rw h refl
has_one r (inr (inr h)) = rw h refl

pub has_none : (r : Refusal) → (r ≡ HighId → ⊥) → (r ≡ HighString → ⊥) → (r ≡ HighPattern → ⊥) → false ≡ has_position (number r)
unfolding number has_position
has_none FileTooLong a b c = refl
has_none MemoryTooSmall a b c = refl
has_none CutShort a b c = refl
has_none UnknownMark a b c = refl
has_none Misfit a b c = refl
has_none NotUtf8 a b c = refl
has_none OutOfRange a b c = refl
has_none NoSuchRecord a b c = refl
has_none NotAscending a b c = refl
has_none NothingGiven a b c = refl
has_none SecondEnum a b c = refl
has_none TypeNotListed a b c = refl
has_none TooMany a b c = refl
has_none NotMember a b c = refl
has_none HighId a b c = absurd (a refl)
has_none NoAttribute a b c = refl
has_none NotRecord a b c = refl
has_none TypeNotDeclared a b c = refl
has_none NoArgument a b c = refl
has_none NoRoom a b c = refl
has_none WrongType a b c = refl
has_none HighString a b c = absurd (b refl)
has_none HighPattern a b c = absurd (c refl)

-- ---- a refusal's line

-- how many bytes of a line are written
line_length : (e : Result ℕ Refusal) → result_unwrap_or e 0 ≡ written (answer e)
unfolding written answer
line_length (Ok m) = refl
line_length (Err q) = refl

-- a line that was written from the start of a buffer, and ended
pub refusal_printed : (k : Refusal) {x z : Bytes} {p q : ℕ} {u v w : Writer} {e : Result ℕ Refusal} → p < 2 ^ 64 → q < 2 ^ 64 → u.out.now ≡ x → u.limit ≡ length x → u.at ≡ 0
    → Writes u v (printed (refused (number k) p q)) → Finishes v w e → z ≡ w.out.now → PrintsRefusal x (number k) p q z e
unfolding written length_of left
refusal_printed k {x} {z} {p} {q} {e = e} hp hq hx hl ha A F hz =
    let n = number k in
    let h : n < 2 ^ 64 = omega (arith, number_short k) in
    let L : Leaves x z (answer e) (fitting (printed (refused n p q)) (length x)) = rw hz (rw hx at (finished (rw hx hl) ha A F)) in
    record {
      leaves = L;
      is = λ room.
          let fits : fitting (printed (refused n p q)) (length x) ≡ accepted (printed (refused n p q)) = fitting_within (printed (refused n p q)) (length x) (omega (arith, refusal_length n p q h hp hq)) in
          rw (line_length e ∙ ap written L.says ∙ ap (λ (a : Answer Bytes). written (length_of a)) fits, L.holds ∙ ap (λ (a : Answer Bytes). left a (length x)) fits)
          (take_at (printed (refused n p q)) _ (length (printed (refused n p q))) refl);
    }

-- such a line is shown
shown : {x y : Bytes} {n p q : ℕ} {e : Result ℕ Refusal} → PrintsRefusal x n p q y e → Shows x (printed (refused n p q)) y (result_unwrap_or e 0)
shown {e = e} R = record { holds = R.leaves.holds; size = line_length e ∙ ap written R.leaves.says }

-- ---- the answer

answered_long : (file : Bytes) (work room : ℕ) → 8192 < length file → answered file work room ≡ refused 1 0 0
unfolding answered
answered_long file work room h = rw (lt-leb (length file) 8192 h, answered)

answered_short : (file : Bytes) (work room : ℕ) → length file ≤ 8192 → answered file work room ≡ encoded file work room
unfolding answered
answered_short file work room h = rw (le-leb (length file) 8192 h, answered)

termscript_answered : (file : Bytes) → termscript file ≡ printed (answered file 16384 65536)
unfolding termscript answered
termscript_answered file = refl

-- what is shown of an answer that is known
prints_as : (file : Bytes) (work : List ℕ) (x : Bytes) {work' : List ℕ} {y : Bytes} {r : ℕ} (w : Answer Bytes) → answered file (length work) (length x) ≡ w
    → Shows x (printed w) y r → (length x ≡ 65536 → take r y ≡ printed w) → work' ≡ replicate (length work) 0 → Prints file work x work' y r
prints_as file work x {work'} {y} {r} w e S t c =
    record {
      shows = rw e S;
      is = λ a b. t b ∙ ap printed (sym e ∙ (rw (a, b))) ∙ sym (termscript_answered file);
      cleared = c;
    }

module _ (file : Bytes) (work : List ℕ) (x : Bytes) {work' : List ℕ} where
  pub prints_long : {y : Bytes} {e : Result ℕ Refusal} {r : ℕ} → 8192 < length file → work' ≡ replicate (length work) 0 → PrintsRefusal x 1 0 0 y e → r ≡ result_unwrap_or e 0 → Prints file work x work' y r
  prints_long h c R q = rw q (prints_as file work x (refused 1 0 0) (answered_long file (length work) (length x) h) (shown R) (λ b. R.is (omega arith)) c)

  module _ {y : Bytes} {v : Result ℕ Refused} (h : length file ≤ 8192) (same : length y ≡ length x) (E : Encodes file work x work' y v) where
    -- a script
    script_given : (w : Answer Bytes) {n : ℕ} → accepted n ≡ length_of w → y ≡ left w (length x) → Shows x (printed w) y n × (take n y ≡ printed w)
    unfolding length_of left printed written
    script_given (accepted s) {n} e q =
        let n-is : n ≡ length s = cc in
        let room : length s ≤ length x = omega (arith, simp length-append at (ap length q)) in
        let fits : fitting s (length x) ≡ accepted s = fitting_within s (length x) room in (
          record { holds = q ∙ sym (ap (λ (a : Answer Bytes). left a (length x)) fits); size = n-is ∙ sym (ap (λ (a : Answer Bytes). written (length_of a)) fits) },
          rw (n-is, q) (take_at s _ (length s) refl),
        )
    script_given (refused m p k) e q = never cc

    pub prints_script : {n : ℕ} → v ≡ Ok n → Prints file work x work' y n
    unfolding numbers.answered
    prints_script {n} e =
        let w = encoded file (length work) (length x) in
        let g = script_given w (ap encoded_as (sym e) ∙ E.answer) E.script_is in
        prints_as file work x w (answered_short file (length work) (length x) h) g.0 (λ b. g.1) E.cleared

    -- a refusal
    refusal_given : (w : Answer Bytes) {n p q : ℕ} → refused n p q ≡ length_of w → w ≡ refused n p q
    unfolding length_of
    refusal_given (accepted s) e = never cc
    refusal_given (refused m p q) e = cc

    pub prints_refused : {e : Refused} {l : Result ℕ Refusal} {r : ℕ} {z : Bytes} → v ≡ Err e → PrintsRefusal y (number e.refusal) e.place e.position z l → r ≡ result_unwrap_or l 0 → Prints file work x work' z r
    unfolding numbers.answered
    prints_refused {e} {z = z} h' R q =
        let g = refusal_given (encoded file (length work) (length x)) {n = number e.refusal} {p = e.place} {q = e.position} (ap encoded_as (sym h') ∙ E.answer) in
        let S = shown R in
        rw q (prints_as file work x (refused (number e.refusal) e.place e.position) (answered_short file (length work) (length x) h ∙ g)
        (record { holds = rw same at S.holds; size = rw same at S.size }) (λ b. R.is (omega arith)) E.cleared)
